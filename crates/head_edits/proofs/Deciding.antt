-- From the doors to the outcome of an edit: what refuses it is what the machine says no to first.
use Rattle.std.proofs.Common.{◌≡◌, ℕ, Bool, true, false, cond, ◌⊎◌, List, [], ◌∷◌, ◌++◌, length, OnErr, Some, None, Ok, Err, Option, Result, sym, refl, ◌∙◌, subst, inl, arith}
use Rattle.plain.specs.Lists.{first_no}
use Rattle.plain.specs.Machine.{Machine, Call, asked, accepted}
use Rattle.plain.specs.declared.faults.TextFault.{TextFault}
use Rattle.measures.specs.declared.mark_totals.MarkRow.{MarkRow}
use Rattle.measures.specs.declared.mark_totals.MarkTotals.{MarkTotals}
use Rattle.stores.specs.Stores.{Contents}
use Rattle.slots.specs.Ghost.{rows}
use Rattle.slots.specs.declared.records.Unsound.{Unsound}
use Rattle.slots.specs.declared.records.Record.{Record}
use Rattle.slots.proofs.Shapes.{ok_err, ok_same}
use Rattle.pieces.specs.Asked.{result_of}
use Rattle.pieces.specs.Edited.{brought, Accepted, Unchanged, Outcome, Edits}
use Rattle.pieces.specs.Sound.{TextValue, Sound, Mode, ClipIs}
use Rattle.pieces.specs.declared.rows.PieceRow.{PieceRow}
use Rattle.pieces.specs.declared.head.Head.{Head}
use Rattle.edits.specs.Doors.{DoorTold}
use Rattle.edits.proofs.Supplies.{few_most}
use Rattle.head_edits.specs.Performing.{Makes, Performs}
use Rattle.head_edits.proofs.Standing.{spelled_by}

-- questions that were asked before others
pub first_more : {F : Type 0} (qs zs : List (Bool × F)) {f : F} → first_no qs ≡ Some f → first_no (qs ++ zs) ≡ Some f
first_more {F} [] zs e = absurd (let z : ◌≡◌ {A = ℕ} 0 1 = cc in omega arith)
first_more {F} (q ∷ qs) zs {f} e = go q.0 (first_more qs zs) e
  where
    go : (b : Bool) → (first_no qs ≡ Some f → first_no (qs ++ zs) ≡ Some f) → cond b (first_no qs) (Some q.1) ≡ Some f → cond b (first_no (qs ++ zs)) (Some q.1) ≡ Some f
    go true ih e = ih e
    go false ih e = e

pub first_rest : {F : Type 0} (qs zs : List (Bool × F)) → first_no qs ≡ None → first_no (qs ++ zs) ≡ first_no zs
first_rest {F} [] zs e = refl
first_rest {F} (q ∷ qs) zs e = go q.0 (first_rest qs zs) e
  where
    go : (b : Bool) → (first_no qs ≡ None → first_no (qs ++ zs) ≡ first_no zs) → cond b (first_no qs) (Some q.1) ≡ None → cond b (first_no (qs ++ zs)) (Some q.1) ≡ first_no zs
    go true ih e = ih e
    go false ih e = absurd (let z : ◌≡◌ {A = ℕ} 0 1 = cc in omega arith)

pub refused_by : {X : Type 0} (o : Option TextFault) (x : X) {r : Result X TextFault} {e : TextFault} → r ≡ result_of o x → r ≡ Err e → o ≡ Some e
refused_by {X} None x is bad = absurd (ok_err is bad)
refused_by {X} (Some f) x {r} {e} is bad = let same : ◌≡◌ {A = Result X TextFault} (Err f) (Err e) = sym is ∙ bad in cc

pub let_in : {X : Type 0} (o : Option TextFault) (x : X) {y : X} {r : Result X TextFault} → r ≡ result_of o x → r ≡ Ok y → (o ≡ None) × (y ≡ x)
let_in None x is ok = (refl, ok_same ok is)
let_in (Some f) x is ok = absurd (ok_err ok is)

module _ {A X : Type 0} {am : List ℕ → A} {B : List ℕ} {rs : List (Record PieceRow (TextValue A))} {ms : List (Record MarkRow MarkTotals)} {h : Head} (K : Sound am B rs ms h) where
  -- what a door tells on sound memory
  pub door_tells : {door : List PieceRow → ℕ → Result X TextFault} {r : Result X TextFault} → DoorTold am rs h.text h.pieces door r → r ≡ door (rows K.t) (length (rows K.k))
  door_tells D = D.tells B K.t K.text.tree K.text.fit K.good (few_most (length (rows K.t)) (length rs) (omega (arith, K.text.few)) K.text.most)
      (length (rows K.k)) K.pieces (omega (arith, K.pieces, K.text.few)) K.text.most

-- the head that was made, if one was, is kept
abbrev pub Kept : Result Head Unsound → Head → Result (Unit {0}) TextFault → Type 0
Kept q h' r = (x : Head) → q ≡ Ok x → (r ≡ Ok tt) × (h' ≡ x)

pub kept : {q : Result Head Unsound} {h : Head} → q ≡ Ok h → Kept q h (Ok tt)
kept got x is = (refl, ok_same got is)

pub not_kept : {q : Result Head Unsound} {e : Unsound} {h : Head} {r : Result (Unit {0}) TextFault} → q ≡ Err e → Kept q h r
not_kept bad x is = absurd (ok_err is bad)

module _ {A S : Type 0} {am : List ℕ → A} {contents : S → Contents} {c : Call} {mode mode' : Mode} {s s' : S} {rs rs' : List (Record PieceRow (TextValue A))} {ms ms' : List (Record MarkRow MarkTotals)} {h h' : Head} {r : Result (Unit {0}) TextFault} where
  -- refused: nothing was touched
  pub edit_refused : ((K : Sound am (contents s).bytes rs ms h) → ClipIs mode h.clip → (f : TextFault) × (first_no (asked (spelled_by mode (contents s).capacity K) c) ≡ Some f) × (r ≡ Err f))
      → Unchanged am contents s s' rs rs' ms ms' h h' → Edits am contents c mode mode' s s' rs rs' ms ms' h h' r
  edit_refused by same = record {
    outcome = λ m K.
        let w = by K.sound K.clipped in
        subst (λ (m : Machine). Outcome am contents (first_no (asked m c)) s s' rs rs' ms ms' h h' mode' (accepted am m c).0 r) (sym K.machine) (subst (λ (o : Option TextFault). Outcome am contents o s s' rs rs' ms ms' h h' mode' (accepted am (spelled_by mode (contents s).capacity K.sound) c).0 r) (sym w.1) (w.2, same));
    store = inl same.same_bytes;
    same_capacity = same.same_capacity;
  }

  -- accepted: what was made is kept
  pub edit_kept : {q : Result Head Unsound}
      → ((K : Sound am (contents s).bytes rs ms h) → ClipIs mode h.clip → (first_no (asked (spelled_by mode (contents s).capacity K) c) ≡ None) × Makes am contents s s' rs rs' ms ms' mode' (accepted am (spelled_by mode (contents s).capacity K) c).0 q)
      → Kept q h' r → ((contents s').bytes ≡ (contents s).bytes) ⊎ ((contents s').bytes ≡ (contents s).bytes ++ brought c) → (contents s').capacity ≡ (contents s).capacity → Edits am contents c mode mode' s s' rs rs' ms ms' h h' r
  edit_kept by k store capacity_is = record {
    outcome = λ m K.
        let w = by K.sound K.clipped in
        let is : (r ≡ Ok tt) × (h' ≡ w.1.h') = k w.1.h' w.1.ok in
        let done : Accepted am contents s s' rs rs' ms ms' h' mode' (accepted am (spelled_by mode (contents s).capacity K.sound) c).0 =
        subst (λ (x : Head). Accepted am contents s s' rs rs' ms ms' x mode' (accepted am (spelled_by mode (contents s).capacity K.sound) c).0) (sym is.1) w.1.done in
        subst (λ (m : Machine). Outcome am contents (first_no (asked m c)) s s' rs rs' ms ms' h h' mode' (accepted am m c).0 r) (sym K.machine) (subst (λ (o : Option TextFault). Outcome am contents o s s' rs rs' ms ms' h h' mode' (accepted am (spelled_by mode (contents s).capacity K.sound) c).0 r) (sym w.0) (is.0, done));
    store = store;
    same_capacity = capacity_is;
  }

  -- let in by the door, and performed
  pub edit_made : (Given : Machine → Type 0) {q : Result Head Unsound}
      → ((K : Sound am (contents s).bytes rs ms h) → ClipIs mode h.clip → (first_no (asked (spelled_by mode (contents s).capacity K) c) ≡ None) × Given (accepted am (spelled_by mode (contents s).capacity K) c).0)
      → Performs am contents c mode mode' Given s s' rs rs' ms ms' h q → Kept q h' r → Edits am contents c mode mode' s s' rs rs' ms ms' h h' r
  edit_made Given by P k = edit_kept
      (λ K i. ((by K i).0, P.makes (spelled_by mode (contents s).capacity K) (record { sound = K; clipped = i; machine = refl }) (by K i).0 (by K i).1))
      k (inl P.same_bytes) P.same_capacity

module _ {A S : Type 0} {am : List ℕ → A} {contents : S → Contents} {c : Call} {mode mode' : Mode} {Given : Machine → Type 0} {s s' : S} {rs rs' : List (Record PieceRow (TextValue A))} {ms ms' : List (Record MarkRow MarkTotals)} {h : Head} {r : Result Head Unsound} where
  -- what is made of sound memory
  pub performs_by : ((K : Sound am (contents s).bytes rs ms h) → ClipIs mode h.clip → first_no (asked (spelled_by mode (contents s).capacity K) c) ≡ None → Given (accepted am (spelled_by mode (contents s).capacity K) c).0
      → Makes am contents s s' rs rs' ms ms' mode' (accepted am (spelled_by mode (contents s).capacity K) c).0 r)
      → (contents s').bytes ≡ (contents s).bytes → (contents s').capacity ≡ (contents s).capacity → Performs am contents c mode mode' Given s s' rs rs' ms ms' h r
  performs_by by same-b same-c = record {
    makes = λ m K passes given. subst (λ (m : Machine). Makes am contents s s' rs rs' ms ms' mode' (accepted am m c).0 r) (sym K.machine)
        (by K.sound K.clipped (subst (λ (m : Machine). first_no (asked m c) ≡ None) K.machine passes) (subst (λ (m : Machine). Given (accepted am m c).0) K.machine given));
    same_bytes = same-b;
    same_capacity = same-c;
  }

-- said of every answer, and so of a refusal
pub stays_so : {T E P : Type 0} (r : Result T E) → P → OnErr r P
stays_so (Ok x) p = tt
stays_so (Err e) p = p

-- refused at the door
pub edit_shut : {A S : Type 0} {am : List ℕ → A} {contents : S → Contents} {c : Call} {mode mode' : Mode} {s : S} {rs : List (Record PieceRow (TextValue A))} {ms : List (Record MarkRow MarkTotals)} {h : Head} {r : Result (Unit {0}) TextFault} {e : TextFault} → r ≡ Err e
    → ((K : Sound am (contents s).bytes rs ms h) → ClipIs mode h.clip → first_no (asked (spelled_by mode (contents s).capacity K) c) ≡ Some e) → Edits am contents c mode mode' s s rs rs ms ms h h r
edit_shut {e = e} is by = edit_refused (λ K i. (e, by K i, is)) (record { head = refl; slots = refl; marks = refl; same_bytes = refl; same_capacity = refl; same_reads = refl })

-- no sound memory comes here
pub edit_barred : {A S : Type 0} {am : List ℕ → A} {contents : S → Contents} {c : Call} {mode mode' : Mode} {s : S} {rs : List (Record PieceRow (TextValue A))} {ms : List (Record MarkRow MarkTotals)} {h : Head} {r : Result (Unit {0}) TextFault}
    → (Sound am (contents s).bytes rs ms h → ⊥) → Edits am contents c mode mode' s s rs rs ms ms h h r
edit_barred bar = edit_refused (λ K i. absurd (bar K)) (record { head = refl; slots = refl; marks = refl; same_bytes = refl; same_capacity = refl; same_reads = refl })

-- From what a reading of the text answers to what a question promises.
use Rattle.std.proofs.Common.{◌≡◌, ℕ, ◌≤◌, Bool, true, false, List, [], ◌∷◌, length, Some, None, Ok, Err, Option, Result, sym, refl, ap, ◌∙◌, arith}
use Rattle.plain.specs.Lists.{first_no}
use Rattle.plain.specs.Machine.{Machine, Call, text, asked}
use Rattle.plain.specs.declared.faults.TextFault.{TextFault}
use Rattle.plain.specs.declared.faults.TextFault.TheVariants.{Offset}
use Rattle.measures.specs.declared.mark_totals.MarkRow.{MarkRow}
use Rattle.measures.specs.declared.mark_totals.MarkTotals.{MarkTotals}
use Rattle.stores.specs.Stores.{Contents}
use Rattle.slots.specs.Post.{TreeValued}
use Rattle.slots.specs.declared.records.Record.{Record}
use Rattle.slots.specs.declared.records.Tree.{Tree}
use Rattle.slots.specs.declared.records.Unsound.{Unsound}
use Rattle.slots.proofs.Shapes.{ok_err, ok_same}
use Rattle.pieces.specs.Rows.{bytes_of}
use Rattle.pieces.specs.Sound.{TextValue, text_means, Mode, Spells}
use Rattle.pieces.specs.Asked.{result_of, most_reads, Told, ToldBy}
use Rattle.pieces.specs.declared.rows.PieceRow.{PieceRow}
use Rattle.pieces.specs.declared.head.Head.{Head}
use Rattle.edits.specs.Doors.{SizeTold}
use Rattle.asking.specs.Texts.{TextAt, Answered}
use Rattle.asking.proofs.TextPlaces.{text_at, text_size}

-- what the layer below gives is told, if it gives anything
abbrev pub Hears : {X : Type 0} → Result X Unsound → Result X TextFault → Type 0
Hears {X} a r = (x : X) → a ≡ Ok x → r ≡ Ok x

pub hears : {X : Type 0} {a : Result X Unsound} {x : X} → a ≡ Ok x → Hears a (Ok x)
hears got y is = ap Ok (ok_same got is)

pub hears_none : {X : Type 0} {a : Result X Unsound} {e : Unsound} {r : Result X TextFault} → a ≡ Err e → Hears a r
hears_none bad y is = absurd (ok_err is bad)

-- the value in the root
module _ {A : Type 0} {am : List ℕ → A} {rs : List (Record PieceRow (TextValue A))} {tr : Tree} {rv : Result (TextValue A) Unsound}
    (V : TreeValued (λ _. 1) (text_means am) rs tr rv) where
  pub root_value : {B T : List ℕ} → TextAt am B rs tr T → rv ≡ Ok (text_means am T)
  root_value {B} X = V.values (bytes_of B) X.t 0 X.tree X.fit ∙ ap (λ (l : List ℕ). Ok (text_means am l)) X.spells

-- a question that asks one thing, of the text's size
abbrev pub Asks : Call → (ℕ → Bool) → Type 0
Asks c test = (m : Machine) → asked m c ≡ (test (length (text m)), Offset) ∷ []

module _ (c : Call) (test : ℕ → Bool) (asks : Asks c test) (m : Machine) where
  refused : test (length (text m)) ≡ false → first_no (asked m c) ≡ Some Offset
  refused e = ap first_no (asks m) ∙ ap (λ (b : Bool). first_no ((b, Offset) ∷ [])) e

  accepted : test (length (text m)) ≡ true → first_no (asked m c) ≡ None
  accepted e = ap first_no (asks m) ∙ ap (λ (b : Bool). first_no ((b, Offset) ∷ [])) e

-- the size that was told
module _ {A : Type 0} {am : List ℕ → A} {rs : List (Record PieceRow (TextValue A))} {tr : Tree} {z : Result ℕ Unsound}
    (Z : SizeTold am rs tr z) where
  told_size : {B T : List ℕ} → TextAt am B rs tr T → z ≡ Ok (length T)
  told_size {B} X = Z.tells B X.t X.tree X.fit X.good ∙ ap Ok (text_size X)

  no_fault : {B T : List ℕ} {e : Unsound} → TextAt am B rs tr T → z ≡ Err e → ⊥
  no_fault X bad = ok_err (told_size X) bad

  sized : {B T : List ℕ} {n : ℕ} → TextAt am B rs tr T → z ≡ Ok n → n ≡ length T
  sized X got = ok_same got (told_size X)

-- questions that read no byte
module _ {A X : Type 0} {am : List ℕ → A} {B : List ℕ} {rs : List (Record PieceRow (TextValue A))} {ms : List (Record MarkRow MarkTotals)} {h : Head} {c : Call} {answer : Machine → X}
    {z : Result ℕ Unsound} (Z : SizeTold am rs h.text z) where
  pub unsized : {e : Unsound} {r : Result X TextFault} → z ≡ Err e → Told am B rs ms h c answer r
  unsized bad = record { tells = λ mode k m P. absurd (no_fault Z (text_at P) bad) }

  module _ {n : ℕ} (got : z ≡ Ok n) (test : ℕ → Bool) (asks : Asks c test) where
    pub refusal : test n ≡ false → Told am B rs ms h c answer (Err Offset)
    refusal nay = record {
      tells = λ mode k m P. ap (λ (o : Option TextFault). result_of o (answer m)) (sym (refused c test asks m (ap test (sym (sized Z (text_at P) got)) ∙ nay)));
    }

    pub told : {a : Result X Unsound} {r : Result X TextFault} → test n ≡ true → ((mode : Mode) (k : ℕ) (m : Machine) → Spells am mode B k rs ms h m → a ≡ Ok (answer m)) → Hears a r
        → Told am B rs ms h c answer r
    told yea tells ra = record {
      tells = λ mode k m P.
          ra _ (tells mode k m P) ∙ ap (λ (o : Option TextFault). result_of o (answer m)) (sym (accepted c test asks m (ap test (sym (sized Z (text_at P) got)) ∙ yea)));
    }

-- questions that read
module _ {A S X : Type 0} {am : List ℕ → A} {contents : S → Contents} {rs : List (Record PieceRow (TextValue A))} {ms : List (Record MarkRow MarkTotals)} {h : Head} {c : Call} {answer : Machine → X} {s : S} where
  module _ {z : Result ℕ Unsound} (Z : SizeTold am rs h.text z) where
    pub unsized_by : {e : Unsound} {r : Result X TextFault} → z ≡ Err e → ToldBy am contents rs ms h c answer s s r
    unsized_by bad = record {
      tells = λ mode m P. absurd (no_fault Z (text_at P) bad);
      few_reads = λ mode m P. omega arith;
      same_bytes = refl;
      same_capacity = refl;
    }

    module _ {n : ℕ} (got : z ≡ Ok n) (test : ℕ → Bool) (asks : Asks c test) where
      pub refusal_by : test n ≡ false → ToldBy am contents rs ms h c answer s s (Err Offset)
      refusal_by nay = record {
        tells = λ mode m P. ap (λ (o : Option TextFault). result_of o (answer m)) (sym (refused c test asks m (ap test (sym (sized Z (text_at P) got)) ∙ nay)));
        few_reads = λ mode m P. omega arith;
        same_bytes = refl;
        same_capacity = refl;
      }

      pub told_by : {s' : S} {most : ℕ} {Allows : List ℕ → Type 0} {reply : List ℕ → X} {a : Result X Unsound} {r : Result X TextFault} → test n ≡ true
          → ((T : List ℕ) → n ≡ length T → Allows T) → ((m : Machine) → reply (text m) ≡ answer m) → most ≤ 1024
          → Answered contents most am rs h.text Allows reply s s' a → Hears a r → ToldBy am contents rs ms h c answer s s' r
      told_by yea allows same few R ra = record {
        tells = λ mode m P.
            let X = text_at P in
            ra _ (R.tells (text m) X (allows (text m) (sized Z X got))) ∙ ap Ok (same m)
            ∙ ap (λ (o : Option TextFault). result_of o (answer m)) (sym (accepted c test asks m (ap test (sym (sized Z X got)) ∙ yea)));
        few_reads = λ mode m P.
            let all : most_reads (first_no (asked m c)) ≡ 1024 = ap most_reads (accepted c test asks m (ap test (sym (sized Z (text_at P) got)) ∙ yea)) in
            omega (arith, R.reading.few);
        same_bytes = R.reading.same_bytes;
        same_capacity = R.reading.same_capacity;
      }

  -- a question that is never refused
  pub told_always : {s' : S} {most : ℕ} {reply : List ℕ → X} {a : Result X Unsound} {r : Result X TextFault} → ((m : Machine) → asked m c ≡ [])
      → ((m : Machine) → reply (text m) ≡ answer m) → most ≤ 1024 → Answered contents most am rs h.text (λ _. Unit {0}) reply s s' a → Hears a r
      → ToldBy am contents rs ms h c answer s s' r
  told_always free same few R ra = record {
    tells = λ mode m P.
        ra _ (R.tells (text m) (text_at P) tt) ∙ ap Ok (same m) ∙ ap (λ (l : List (Bool × TextFault)). result_of (first_no l) (answer m)) (sym (free m));
    few_reads = λ mode m P.
        let all : most_reads (first_no (asked m c)) ≡ 1024 = ap (λ (l : List (Bool × TextFault)). most_reads (first_no l)) (free m) in omega (arith, R.reading.few);
    same_bytes = R.reading.same_bytes;
    same_capacity = R.reading.same_capacity;
  }

-- What a question on a view tells, as what a call of a list gives.
use Rattle.std.proofs.Common.{◌≡◌, ℕ, List, IsErrAnd, Some, None, Ok, Err, Option, Result, sym, refl, ap, ◌∙◌, subst, arith, Bor}
use Rattle.plain.specs.Lists.{first_no}
use Rattle.plain.specs.Machine.{Machine, Call, asked, accepted}
use Rattle.plain.specs.declared.answers.Answer.{Answer}
use Rattle.plain.specs.declared.calls.Call as calls
use Rattle.plain.specs.declared.faults.TextFault.{TextFault}
use Rattle.measures.specs.declared.mark_totals.MarkRow.{MarkRow}
use Rattle.measures.specs.declared.mark_totals.MarkTotals.{MarkTotals}
use Rattle.stores.specs.Stores.{Contents}
use Rattle.slots.specs.declared.records.Record.{Record}
use Rattle.pieces.specs.Sound.{TextValue}
use Rattle.pieces.specs.Asked.{Told, ToldBy, result_of}
use Rattle.pieces.specs.declared.rows.PieceRow.{PieceRow}
use Rattle.pieces.specs.declared.head.Head.{Head}
use Rattle.calls.specs.Calls.{plain_call}

-- what was told, by another name
abbrev pub named : {T U : Type 0} → (T → U) → Result T TextFault → Result U TextFault
named f (Ok x) = Ok (f x)
named f (Err e) = Err e

named_result : {T U : Type 0} (f : T → U) (o : Option TextFault) (x : T) → named f (result_of o x) ≡ result_of o (f x)
named_result f None x = refl
named_result f (Some e) x = refl

-- a fault that is passed on stays the same
pub passed_on : {T U : Type 0} (f : T → U) (r : Result U TextFault) (e : TextFault) → IsErrAnd r (λ x. x ≡ e) → r ≡ named f (Err e)
passed_on f (Ok x) e h = absurd h
passed_on f (Err x) e h = ap Err h

module _ {A S : Type 0} {am : List ℕ → A} {contents : S → Contents} {rs : List (Record PieceRow (TextValue A))} {ms : List (Record MarkRow MarkTotals)} {h : Head} {s : S} where
  -- a question that reads no byte
  pub unread : {T : Type 0} {c : Call} {answer : Machine → T} {r : Result T TextFault} → Told am (contents s).bytes rs ms h c answer r → ToldBy am contents rs ms h c answer s s r
  unread {c = c} t = record {
    tells = λ mode m sp. t.tells mode (contents s).capacity m sp;
    few_reads = λ mode m sp. omega arith;
    same_bytes = refl;
    same_capacity = refl;
  }

module _ {A S : Type 0} {am : List ℕ → A} {contents : S → Contents} {rs : List (Record PieceRow (TextValue A))} {ms : List (Record MarkRow MarkTotals)} {h : Head} {s s' : S} where
  told_as : {T U : Type 0} {c : Call} {answer : Machine → T} {r : Result T TextFault} (f : T → U) → ToldBy am contents rs ms h c answer s s' r → ToldBy am contents rs ms h c (λ m. f (answer m)) s s' (named f r)
  told_as {c = c} {answer = answer} f t = record {
    tells = λ mode m sp. ap (named f) (t.tells mode m sp) ∙ named_result f (first_no (asked m c)) (answer m);
    few_reads = t.few_reads;
    same_bytes = t.same_bytes;
    same_capacity = t.same_capacity;
  }

  -- the call of the list is k, whose answer is named f
  pub answers : {T : Type 0} {call k : calls.Call (Bor (List ℕ))} (answer : Machine → T) (f : T → Answer A) {r : Result T TextFault} {r' : Result (Answer A) TextFault}
      → call ≡ k → ((m : Machine) → f (answer m) ≡ (accepted am m (plain_call k)).1) → r' ≡ named f r
      → ToldBy am contents rs ms h (plain_call k) answer s s' r → ToldBy am contents rs ms h (plain_call call) (λ m. (accepted am m (plain_call call)).1) s s' r'
  answers {call = call} {k = k} answer f {r} {r'} is plain e t =
      subst (λ q. ToldBy am contents rs ms h (plain_call q) (λ m. (accepted am m (plain_call q)).1) s s' r') (sym is)
      (subst (λ q. ToldBy am contents rs ms h (plain_call k) (λ m. (accepted am m (plain_call k)).1) s s' q) (sym e)
      (record {
        tells = λ mode m sp. (told_as f t).tells mode m sp ∙ ap (result_of (first_no (asked m (plain_call k)))) (plain m);
        few_reads = t.few_reads;
        same_bytes = t.same_bytes;
        same_capacity = t.same_capacity;
      }))

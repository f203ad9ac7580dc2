-- Every call keeps a machine proper, and a refused one leaves it as it was.
use Rattle.std.proofs.Common.{◌≡◌, ℕ, ◌+◌, ◌-◌, ◌<◌, ◌≤◌, List, [], ◌∷◌, ◌++◌, length, take, drop, Some, None, Ok, Err, Option, sym, refl, ap, ◌∙◌, subst, arith, length-append, length-drop, length-take}
use Rattle.std.proofs.lemmas.Bool.{leb-true, ltb-true, and_parts}
use Rattle.plain.specs.Pieces.{piece, spell, before, after}
use Rattle.plain.specs.Marks.{grown, shrunk}
use Rattle.plain.specs.Machine.{
  Machine,
  Call,
  Outcome,
  text,
  size,
  clipped,
  limit,
  spare,
  insert,
  delete,
  cut,
  paste,
  discard,
  mark,
  asked,
  refusal,
  accepted,
  step,
  run,
}
use Rattle.plain.specs.Laws.{AllGood, Ordered, Proper}
use Rattle.plain.specs.declared.answers.Answer.{Answer}
use Rattle.plain.specs.declared.answers.Mark.{Mark}
use Rattle.plain.specs.declared.calls.Call.TheVariants as call
use Rattle.plain.specs.declared.faults.CallFault.{CallFault}
use Rattle.plain.proofs.Spelling.{
  good_append,
  good_before,
  good_after,
  good_more,
  text_insert,
  text_delete,
  text_paste,
}
use Rattle.plain.proofs.Marking.{
  length_grown,
  length_shrunk,
  length_marked,
  ordered_grown,
  ordered_shrunk,
  ordered_marked,
}
use Rattle.plain.proofs.Asking.{Passed, accepts}

-- n bytes in the place of those from a to b
put_length : (t s : List ℕ) (a b : ℕ) → a ≤ b → b ≤ length t
    → length (take a t ++ (s ++ drop b t)) ≡ length t - (b - a) + length s
put_length t s a b h k = simp (length-append, length-take, length-drop) (omega arith)

ordered_to : (n n' : ℕ) (h : List Mark) → n ≡ n' → Ordered 0 n h → Ordered 0 n' h
ordered_to n n' h e o = subst (λ (k : ℕ). Ordered 0 k h) e o

proper_insert : (p : ℕ) (s : List ℕ) (m : Machine) → Proper m → Passed (asked m (call.Insert p s)) → Proper (insert p s m)
proper_insert p s m i y =
    let B : List ℕ = m.bytes in
    let least : 1 ≤ length s = leb-true 1 (length s) (and_parts _ _ y.0).0 in
    let most : length s ≤ 256 = leb-true (length s) 256 (and_parts _ _ y.0).1 in
    let there : p ≤ size m = leb-true _ _ y.1.0 in
    let fits : length s ≤ spare m = leb-true _ _ y.1.1.1.0 in
    let more : AllGood (B ++ s) m.pieces = good_more B s m.pieces i.pieces in
    let long : size (insert p s m) ≡ size m + length s =
    ap length (text_insert p s m i) ∙ put_length (text m) s p p (omega arith) there ∙ omega arith in
    record {
      pieces = good_append (B ++ s) (before p m.pieces) (piece (length B) (length s) ∷ after p m.pieces)
          (good_before (B ++ s) m.pieces p more)
          ((least, most, omega (arith, length-append B s)), good_after (B ++ s) m.pieces p more);
      clip = good_more B s (clipped m) i.clip;
      store = omega (arith, length-append B s, i.store);
      few = leb-true _ _ y.1.1.0;
      few_marks = omega (arith, length_grown p (length s) m.marks, i.few_marks);
      marks = ordered_to (size m + length s) (size (insert p s m)) (grown p (length s) m.marks) (sym long)
          (ordered_grown p (length s) (size m) m.marks i.marks);
    }

-- what delete and cut share: the pieces that stay, and the marks
module _ (a b : ℕ) (m : Machine) (i : Proper m) (lt : a < b) (le : b ≤ size m) where
  stay : AllGood m.bytes (before a m.pieces ++ after b m.pieces)
  stay = good_append m.bytes (before a m.pieces) (after b m.pieces)
      (good_before m.bytes m.pieces a i.pieces) (good_after m.bytes m.pieces b i.pieces)

  rest : Ordered 0 (size (delete a b m)) (shrunk a b m.marks)
  rest =
      let long : size (delete a b m) ≡ size m - (b - a) =
      ap length (text_delete a b m i) ∙ put_length (text m) [] a b (omega arith) le ∙ omega arith in
      ordered_to (size m - (b - a)) (size (delete a b m)) (shrunk a b m.marks) (sym long)
      (ordered_shrunk a b (size m) m.marks (omega arith) le i.marks)

  fewer : length (shrunk a b m.marks) ≤ limit m.mark_slots
  fewer = omega (arith, length_shrunk a b m.marks, i.few_marks)

proper_delete : (a b : ℕ) (m : Machine) → Proper m → Passed (asked m (call.Delete a b)) → Proper (delete a b m)
proper_delete a b m i y =
    let lt : a < b = ltb-true _ _ (and_parts _ _ y.0).0 in
    let le : b ≤ size m = leb-true _ _ (and_parts _ _ y.0).1 in
    record {
      pieces = stay a b m i lt le;
      clip = i.clip;
      store = i.store;
      few = leb-true _ _ y.1.0;
      few_marks = fewer a b m i lt le;
      marks = rest a b m i lt le;
    }

proper_cut : (a b : ℕ) (m : Machine) → Proper m → Passed (asked m (call.Cut a b)) → Proper (cut a b m)
proper_cut a b m i y =
    let lt : a < b = ltb-true _ _ (and_parts _ _ y.0).0 in
    let le : b ≤ size m = leb-true _ _ (and_parts _ _ y.0).1 in
    record {
      pieces = stay a b m i lt le;
      clip = good_after m.bytes (before b m.pieces) a (good_before m.bytes m.pieces b i.pieces);
      store = i.store;
      few = leb-true _ _ y.1.0;
      few_marks = fewer a b m i lt le;
      marks = rest a b m i lt le;
    }

proper_paste : (p : ℕ) (m : Machine) → Proper m → Passed (asked m (call.Paste p)) → Proper (paste p m)
proper_paste p m i y =
    let B : List ℕ = m.bytes in
    let s : List ℕ = spell B (clipped m) in
    let there : p ≤ size m = leb-true _ _ y.0 in
    let long : size (paste p m) ≡ size m + length s =
    ap length (text_paste p m i) ∙ put_length (text m) s p p (omega arith) there ∙ omega arith in
    record {
      pieces = good_append B (before p m.pieces) (clipped m ++ after p m.pieces)
          (good_before B m.pieces p i.pieces)
          (good_append B (clipped m) (after p m.pieces) i.clip (good_after B m.pieces p i.pieces));
      clip = tt;
      store = i.store;
      few = leb-true _ _ y.1.0;
      few_marks = omega (arith, length_grown p (length s) m.marks, i.few_marks);
      marks = ordered_to (size m + length s) (size (paste p m)) (grown p (length s) m.marks) (sym long)
          (ordered_grown p (length s) (size m) m.marks i.marks);
    }

proper_discard : (m : Machine) → Proper m → Proper (discard m)
proper_discard m i = record {
  pieces = i.pieces;
  clip = tt;
  store = i.store;
  few = omega (arith, i.few);
  few_marks = i.few_marks;
  marks = i.marks;
}

proper_mark : (q l : ℕ) (m : Machine) → Proper m → Passed (asked m (call.Mark q l)) → Proper (mark q l m)
proper_mark q l m i y =
    let there : q ≤ size m = leb-true _ _ y.0 in
    let lt : length m.marks < limit m.mark_slots = ltb-true _ _ y.1.0 in
    record {
      pieces = i.pieces;
      clip = i.clip;
      store = i.store;
      few = i.few;
      few_marks = omega (arith, length_marked q l m.marks);
      marks = ordered_marked q l 0 (size m) m.marks (omega arith) there i.marks;
    }

proper_accepted : {V : Type 0} (M : List ℕ → V) (m : Machine) (c : Call) → Proper m → Passed (asked m c) → Proper (accepted M m c).0
proper_accepted M m (call.Insert p s) i y = proper_insert p s m i y
proper_accepted M m (call.Delete a b) i y = proper_delete a b m i y
proper_accepted M m (call.Cut a b) i y = proper_cut a b m i y
proper_accepted M m (call.Paste p) i y = proper_paste p m i y
proper_accepted M m call.Discard i y = proper_discard m i
proper_accepted M m (call.Mark q l) i y = proper_mark q l m i y
proper_accepted M m (call.LineOf p) i y = i
proper_accepted M m (call.StartOf k) i y = i
proper_accepted M m (call.TokenAt p) i y = i
proper_accepted M m (call.TokenNumber k) i y = i
proper_accepted M m (call.BracketAt p) i y = i
proper_accepted M m (call.MarkFrom q) i y = i
proper_accepted M m (call.Range a b) i y = i
proper_accepted M m call.Whole i y = i
proper_accepted M m (call.Audit n) i y = i

pub proper_step : {V : Type 0} (M : List ℕ → V) (m : Machine) (c : Call) → Proper m → Proper (step M m c).0
proper_step {V} M m c i = go (refusal m c) refl
  where
    go : (o : Option CallFault) → refusal m c ≡ o
        → Proper (elim o as (λ _. Machine × Outcome V) [ None ↦ ((accepted M m c).0, Ok (accepted M m c).1) | Some f ↦ (m, Err f) ]).0
    go None e = proper_accepted M m c i (accepts m c e)
    go (Some f) e = i

pub proper_run : {V : Type 0} (M : List ℕ → V) (cs : List Call) (m : Machine) → Proper m → Proper (run M m cs).0
proper_run M [] m i = i
proper_run M (c ∷ cs) m i = proper_run M cs (step M m c).0 (proper_step M m c i)

clash : {V : Type 0} (a b : Machine) (x : Answer V) (f : CallFault) → ◌≡◌ {A = Machine × Outcome V} (a, Ok x) (b, Err f) → ⊥
clash {V} a b x f e =
    let q : ◌≡◌ {A = Outcome V} (Ok x) (Err f) = ap (λ (y : Machine × Outcome V). y.1) e in
    let z : ◌≡◌ {A = ℕ} 0 1 = cc in omega arith

pub unchanged : {V : Type 0} (M : List ℕ → V) (c : Call) (m m' : Machine) (f : CallFault) → step M m c ≡ (m', Err f) → m' ≡ m
unchanged {V} M c m m' f e = go (refusal m c) e
  where
    go : (o : Option CallFault)
        → elim o as (λ _. Machine × Outcome V) [ None ↦ ((accepted M m c).0, Ok (accepted M m c).1) | Some g ↦ (m, Err g) ] ≡ (m', Err f)
        → m' ≡ m
    go None e = absurd (clash (accepted M m c).0 m' (accepted M m c).1 f e)
    go (Some g) e = sym (ap (λ (x : Machine × Outcome V). x.0) e)

-- The chain of a fresh slice, and writes of one slot. Assumes nothing.
use Rattle.std.proofs.Common.{is_err, sym, refl, ap, ◌∙◌, subst, ⊎_elim, arith}
use Rattle.std.proofs.lemmas.List.{drop-set-lt}
use Rattle.std.specs.Prelude.{◌≡◌, true, List, ℕ, zero, suc, ◌+◌, ◌≤◌, ◌<◌, length, set, drop}
use Rattle.std.specs.declared.option.Option.TheVariants.{None, Some}
use Rattle.std.specs.declared.result.Result.{Result}
use Rattle.std.specs.declared.result.Result.TheVariants.{Ok, Err}
use Rattle.slots.specs.Words.{Unsound, Link, Record, Free, Leaf}
use Rattle.slots.specs.Ghost.{same, occ_list, head_of, At, Chain}
use Rattle.slots.specs.Post.{counting, watched, LaidOut, Taken, Wrote, Given, LeafPut}
use Rattle.slots.proofs.Frames.{same_self, same_cases, put, frame_chain}
use Rattle.slots.proofs.Shapes.{ok_err, ok_same, err_only}

-- a number below does not stand among those that follow
pub counting_low : (i n k : ℕ) → k < i → occ_list (counting i n) k ≡ 0
counting_low i zero k lt = refl
counting_low i (suc n) k lt = ⊎_elim (λ e. absurd (omega arith)) (λ z. omega (arith, z.0, counting_low (i + 1) n k (omega arith))) (same_cases i k)

pub counting_once : (i n k : ℕ) → occ_list (counting i n) k ≤ 1
counting_once i zero k = omega arith
counting_once i (suc n) k = ⊎_elim (λ e. omega (arith, counting_low (i + 1) n k (omega arith), subst (λ q. same i q ≡ 1) (sym e) (same_self i))) (λ z. omega (arith, z.0, counting_once (i + 1) n k)) (same_cases i k)

module _ {R V : Type 0} where
  -- the slots from i to w are chained, the later ones as they were
  pub record Laying (rs₀ rs : List (Record R V)) (f : Link) (i w : ℕ) : Type 0 where
    pub n : ℕ
    pub till : i + n ≡ w
    pub first : f ≡ head_of (counting i n)
    pub chain : Chain rs (counting i n)
    pub len : length rs ≡ length rs₀
    pub later : drop w rs ≡ drop w rs₀

  pub laying_none : (rs : List (Record R V)) (i : ℕ) {w : ℕ} → i ≡ w → Laying rs rs None i w
  laying_none rs i e = record { n = 0; till = omega arith; first = refl; chain = tt; len = refl; later = refl }

  pub laying_more : {rs₀ rs : List (Record R V)} {f : Link} {w : ℕ} (i : ℕ) → i < length rs → Laying rs₀ rs f (i + 1) w → Laying rs₀ (set rs i (Free f)) (Some i) i w
  laying_more {rs₀} {rs} {f} {w} i lt L =
      let p = put {rs = rs} lt refl in
      record {
        n = suc L.n;
        till = omega (arith, L.till);
        first = refl;
        chain = (
          subst (λ q. At (set rs i (Free f)) i (Free q)) L.first p.at,
          frame_chain p.off (counting (i + 1) L.n) (λ k. ⊎_elim (λ e. omega (arith, counting_low (i + 1) L.n k (omega arith), subst (λ q. same i q ≡ 1) (sym e) (same_self i))) (λ z. omega (arith, z.0, counting_once (i + 1) L.n k)) (same_cases i k)) L.chain,
        );
        len = p.off.len ∙ L.len;
        later = drop-set-lt w rs i (Free f) (omega (arith, L.till)) ∙ L.later;
      }

  pub laid_out : {rs₀ rs : List (Record R V)} {f : Link} {i w : ℕ} → w ≡ watched (length rs₀) → i ≤ 0 → Laying rs₀ rs f i w → LaidOut rs₀ rs f
  laid_out {rs₀} {rs} {f} {i} {w} ew le L =
      let z : i ≡ 0 = omega arith in
      let nw : L.n ≡ watched (length rs₀) = omega (arith, L.till, ew) in
      let counted : counting i L.n ≡ counting 0 (watched (length rs₀)) = ap (λ q. counting q L.n) z ∙ ap (λ q. counting 0 q) nw in
      record {
        first = L.first ∙ ap head_of counted;
        chain = subst (λ q. Chain rs q) counted L.chain;
        len = L.len;
        later = subst (λ q. drop q rs ≡ drop q rs₀) ew L.later;
      }

  pub given : {rs rs' : List (Record R V)} {f : Link} {i : ℕ} {w : Result (Unit {0}) Unsound} → Wrote rs rs' i (Free f) w → w ≡ Ok tt → Given rs rs' f (Some i) i (Ok tt)
  given wr ok = record { gives = λ lt. (refl, refl, (wr.writes lt).1); refuses = λ ge. absurd (ok_err ok (wr.refuses ge).0) }

  pub not_given : {rs rs' : List (Record R V)} {f : Link} {i : ℕ} {w r : Result (Unit {0}) Unsound} {e : Unsound} → Wrote rs rs' i (Free f) w → w ≡ Err e → is_err r ≡ true → Given rs rs' f f i r
  not_given {r = r} wr bad err = record { gives = λ lt. absurd (ok_err (wr.writes lt).0 bad); refuses = λ ge. (err_only r err, refl, (wr.refuses ge).1) }

  module _ {rs : List (Record R V)} {f f' : Link} {row : R} {v : V} {p : Result ℕ Unsound} (took : Taken rs f f' p) where
    pub leaf_put : {rs' : List (Record R V)} {i : ℕ} {w : Result (Unit {0}) Unsound} → p ≡ Ok i → Wrote rs rs' i (Leaf row v) w → LeafPut rs rs' f f' row v (Ok i)
    leaf_put {rs'} {i} got wr = record {
      puts = λ n ns ef chain.
          let t = took.takes n ns ef chain in
          let n-is : i ≡ n = ok_same got t.0 in
          (ap Ok n-is, t.1, (wr.writes (omega (arith, chain.0.within, n-is))).1 ∙ ap (λ q. set rs q (Leaf row v)) n-is);
      refuses = λ ef. absurd (ok_err got (took.refuses ef).0);
    }

    pub leaf_no_write : {rs' : List (Record R V)} {i : ℕ} {w : Result (Unit {0}) Unsound} {e : Unsound} {r : Result ℕ Unsound} → p ≡ Ok i → Wrote rs rs' i (Leaf row v) w → w ≡ Err e → LeafPut rs rs' f f' row v r
    leaf_no_write {rs'} {i} got wr bad = record {
      puts = λ n ns ef chain.
          let n-is : i ≡ n = ok_same got (took.takes n ns ef chain).0 in
          absurd (ok_err (wr.writes (omega (arith, chain.0.within, n-is))).0 bad);
      refuses = λ ef. absurd (ok_err got (took.refuses ef).0);
    }

    pub leaf_no_slot : {e : Unsound} {r : Result ℕ Unsound} → p ≡ Err e → is_err r ≡ true → LeafPut rs rs f f' row v r
    leaf_no_slot {r = r} bad err = record {
      puts = λ n ns ef chain. absurd (ok_err (took.takes n ns ef chain).0 bad);
      refuses = λ ef. (err_only r err, (took.refuses ef).1, refl);
    }

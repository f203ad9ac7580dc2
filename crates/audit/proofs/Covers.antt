-- What was visited is all there is. Assumes nothing.
use Rattle.std.proofs.Common.{cond, is_err, Decides, sym, refl, ap, ◌∙◌, subst, ⊎_elim, arith, le-ltb}
use lib.ListN.{length-replicate}
use borrow.Rule.Slice.PartMut.{post_of, Post-is}
use Rattle.std.specs.List.{HoldsAt, AllByRecursion}
use Rattle.std.proofs.lemmas.List.{get_or_past, get_or-replicate, get_or_default, length-take-le}
use Rattle.std.proofs.lemmas.Bool.{cases_lt, cases_eq, both_ways}
use Rattle.measures.specs.Law.{heaviest}
use Rattle.slots.specs.Ghost.{named, occ_list}
use Rattle.slots.specs.Values.{mean, wt}
use Rattle.slots.specs.Theorems.{occ_trees}
use Rattle.slots.proofs.Counts.{named_one}
use Rattle.slots.proofs.Same.{chain_same}
use Rattle.slots.proofs.Shapes.{err_only}
use Rattle.std.specs.Prelude.{◌≡◌, Bool, true, false, List, [], ◌++◌, ℕ, ◌+◌, ◌-◌, ◌≤◌, ◌<◌, length, take, drop, replicate}
use Rattle.std.specs.declared.result.Result.{Result}
use Rattle.std.specs.declared.result.Result.TheVariants.{Ok, Err}
use Rattle.audit.specs.Words.{Unsound, Link, Tree, Record}
use Rattle.audit.specs.Checks.{Rules}
use Rattle.audit.specs.Visits.{mark, moment, ChainVisited, ChainFound, AreTrees, trees_at, Found, Cases, Visited}
use Rattle.audit.specs.Post.{Zeroed, Checked, SoundTo, Audited}
use Rattle.audit.specs.Surveys.{Verdict, Surveyed, SurveyedFresh}
use Rattle.audit.specs.declared.AuditFault.{AuditFault}
use Rattle.audit.specs.declared.AuditFault.TheVariants.{ShortScratch}
use Rattle.audit.specs.declared.AuditFault.TheVariants as fault
use Rattle.audit.specs.declared.budget.Budget.{Budget}
use Rattle.audit.proofs.Marks.{unmarked_most}
use Rattle.audit.proofs.Checking.{stays_same}
use Rattle.audit.proofs.Roots.{sole_trees, low_trees}

pub named_none : (n i : ℕ) → n ≤ i → named n i ≡ 0
unfolding named
named_none n i h = ap (λ b. cond b 1 0) (le-ltb i n h)

-- of fresh marks each slot has none, and there is none past the end
fresh_mark : (n j : ℕ) → mark (replicate n 0) j + named n j ≡ 1
fresh_mark n j =
    ⊎_elim
    (λ (lt : j < n). let zero_is : mark (replicate n 0) j ≡ 0 = get_or-replicate n j 0 1 lt in omega (arith, named_one n j lt))
    (λ (ge : n ≤ j).
    let long : n ≡ length (replicate {A = ℕ} n 0) = sym (length-replicate n 0) in
    let past : mark (replicate n 0) j ≡ 1 = get_or_past (replicate n 0) j 1 (omega arith) in
    omega (arith, named_none n j ge))
    (cases_lt j n)

at_start : (n : ℕ) (s : List ℕ) → s ≡ replicate n 0 → (j : ℕ) → mark s j + named n j ≡ 1
at_start n s zero j = ap (λ z. mark z j + named n j) zero ∙ fresh_mark n j

module _ {R I V S : Type 0} {w : Rules R I V S} {rs : List (Record R V)} {roots : List Tree} {s s₁ : List ℕ} {b b₁ : Budget} {l l₁ : S} {q : Result (Unit {0}) Unsound}
    (light : b.weight ≡ heaviest) (vr : Visited w (trees_at rs roots) (moment s b l) (moment s₁ b₁ l₁) q) where
  checked_rows : Checked w l l₁ (length s) vr.checked
  checked_rows = record { ran = vr.ran; stays = vr.stays; at_most = omega (arith, vr.at_most, unmarked_most s) }

  cases : Cases w (trees_at rs roots) (moment s b l) (moment s₁ b₁ l₁) vr.checked q
  cases = vr.says (omega arith)

  pub found : {u : Unit {0}} → q ≡ Ok u → Found w (trees_at rs roots) (moment s b l) (moment s₁ b₁ l₁) vr.checked
  found ok = subst (λ z. Cases w (trees_at rs roots) (moment s b l) (moment s₁ b₁ l₁) vr.checked z) ok cases

module _ {R I V S : Type 0} {w : Rules R I V S} {rs : List (Record R V)} {roots : List Tree} {free : Link} {limit : ℕ} {s s₁ : List ℕ} {b b₁ : Budget} {l l₁ : S} {q : Result (Unit {0}) Unsound}
    (few : b.elements ≤ 65535) (light : b.weight ≡ heaviest) (all : b.elements ≡ limit) (vr : Visited w (trees_at rs roots) (moment s b l) (moment s₁ b₁ l₁) q) where
  are_trees : (so : SoundTo w l rs roots free limit) → AreTrees rs roots (mean w.means (w.items l)) so.trees
  are_trees so = record { roots_are = so.roots_are; fits = so.fits; low = low_trees rs (mean w.means (w.items l)) so.trees so.fits (omega (arith, so.few)) }

  pub roots_unsound : {e : Unsound} (r : Result ℕ Unsound) → q ≡ Err e → is_err r ≡ true → Surveyed w l rs roots free limit l₁ s r
  roots_unsound r bad err = record {
    checked = vr.checked;
    done = checked_rows light vr;
    says = λ zero.
        subst (λ z. Verdict w l rs roots free limit vr.checked z) (sym (err_only r err)) (λ so.
        subst (λ z. Cases w (trees_at rs roots) (moment s b l) (moment s₁ b₁ l₁) vr.checked z) bad (cases light vr) so.trees (are_trees so) so.good_rows (omega (arith, so.few)) (omega (arith, so.light))
        (λ j. omega (arith, so.once j, at_start (length rs) s zero j)));
  }

  module _ {u : Unit {0}} {s₂ : List ℕ} {p : Result (Unit {0}) Unsound} (ok : q ≡ Ok u) (vc : ChainVisited rs free s₁ s₂ p) where
    occ_same : (so : SoundTo w l rs roots free limit) (j : ℕ) → occ_trees so.trees j ≡ occ_trees (found light vr ok).it j
    occ_same so j = ap (λ t. occ_trees t j) (sole_trees rs roots (mean w.means (w.items l)) so.trees (found light vr ok).it (are_trees so) (found light vr ok).is)

    pub chain_unsound : {e : Unsound} (r : Result ℕ Unsound) → p ≡ Err e → is_err r ≡ true → Surveyed w l rs roots free limit l₁ s r
    chain_unsound r bad err = record {
      checked = vr.checked;
      done = checked_rows light vr;
      says = λ zero.
          subst (λ z. Verdict w l rs roots free limit vr.checked z) (sym (err_only r err)) (λ so.
          (subst (λ z. ChainVisited rs free s₁ s₂ z) bad vc).says so.chain so.first so.chained (λ j. omega (arith, (found light vr ok).marks j, occ_same so j, so.once j, at_start (length rs) s zero j)));
    }

    module _ {v : Unit {0}} {t : Bool} (good-chain : p ≡ Ok v) (unmarked-slot : Decides t ((k : ℕ) × (k < length s₂) × HoldsAt (λ y. y ≡ 0) s₂ k)) where
      chain : ChainFound rs free s₁ s₂
      chain = (subst (λ z. ChainVisited rs free s₁ s₂ z) good-chain vc).says

      pub slot_lost : {e : Unsound} → t ≡ true → Surveyed w l rs roots free limit l₁ s (Err e)
      slot_lost yes-it = record {
        checked = vr.checked;
        done = checked_rows light vr;
        says = λ zero so.
            let lost = unmarked-slot.0 yes-it in
            let k = lost.0 in
            let occ-chain : occ_list so.chain k ≡ occ_list chain.it k = ap (λ fs. occ_list fs k) (chain_same rs so.chain chain.it (so.first ∙ sym chain.first) so.chained chain.chained) in
            omega (arith, lost.2 1, chain.marks k, (found light vr ok).marks k, occ_same so k, occ-chain, so.once k, at_start (length rs) s zero k);
      }

      pub all_sound : {n : ℕ} → t ≡ false → length s₂ ≡ length s → n ≡ limit - b₁.elements → Surveyed w l rs roots free limit l₁ s (Ok n)
      all_sound {n} no-lost long count = record {
        checked = vr.checked;
        done = checked_rows light vr;
        says = λ zero. record {
          sound = record {
            trees = a.it;
            chain = chain.it;
            roots_are = a.is.roots_are;
            first = chain.first;
            fits = a.is.fits;
            chained = chain.chained;
            good_rows = subst (λ xs. AllByRecursion (w.good l) xs) a.each a.good_rows;
            few = omega (arith, a.elements, ap length a.each);
            light = omega (arith, a.weight, ap (wt w.weigh (w.items l)) a.each);
            once = λ i. once zero i;
          };
          each = a.each;
          count = omega (arith, a.elements);
        };
      }
        where
          a : Found w (trees_at rs roots) (moment s b l) (moment s₁ b₁ l₁) vr.checked
          a = found light vr ok

          not_zero : (i : ℕ) → i < length s₂ → mark s₂ i ≡ 0 → ⊥
          not_zero i lt z = both_ways t no-lost (unmarked-slot.1 (i, lt, λ d. get_or_default s₂ i d 1 lt ∙ z))

          once : s ≡ replicate (length rs) 0 → (i : ℕ) → occ_trees a.it i + occ_list chain.it i ≡ named (length rs) i
          once zero i =
              let most = chain.once i (a.once i (omega (arith, at_start (length rs) s zero i))) in
              let size : length s₂ ≡ length rs = long ∙ ap length zero ∙ length-replicate (length rs) 0 in
              ⊎_elim
              (λ (lt : i < length rs).
              ⊎_elim (λ (z : mark s₂ i ≡ 0). absurd (not_zero i (omega arith) z)) (λ nz.
              let one-is : named (length rs) i ≡ 1 = named_one (length rs) i lt in
              let some : 1 ≤ mark s₂ i = ⊎_elim (λ (z : mark s₂ i < 1). absurd (nz (omega arith))) (λ h. h) (cases_lt (mark s₂ i) 1) in
              omega (arith, chain.marks i, a.marks i, at_start (length rs) s zero i)) (cases_eq (mark s₂ i) 0))
              (λ (ge : length rs ≤ i). omega (arith, named_none (length rs) i ge, chain.marks i, a.marks i, at_start (length rs) s zero i))
              (cases_lt i (length rs))

-- the source is lent back as the visits left it
pub lent_back : {R I V S : Type 0} {w : Rules R I V S} {rs : List (Record R V)} {roots : List Tree} {free : Link} {limit : ℕ} {s : List ℕ} {l l₁ l₂ : S} {r : Result ℕ Unsound}
    → Surveyed w l rs roots free limit l₁ s r → l₁ ≡ l₂ → Surveyed w l rs roots free limit l₂ s r
lent_back {w = w} {rs} {roots} {free} {limit} {s} {l} {r = r} su is = subst (λ z. Surveyed w l rs roots free limit z s r) is su

-- the same by marks that are zeroed before and after
pub surveyed_fresh : {R I V S : Type 0} {w : Rules R I V S} {rs : List (Record R V)} {roots : List Tree} {free : Link} {limit : ℕ} {s s₁ s₃ : List ℕ} {l l₁ : S} {r : Result ℕ Unsound} (s₂ : List ℕ)
    → s₁ ≡ replicate (length s) 0 → Surveyed w l rs roots free limit l₁ s₁ r → length s₂ ≡ length s₁ → s₃ ≡ replicate (length s₂) 0 → SurveyedFresh w l rs roots free limit l₁ s s₃ r
surveyed_fresh {w = w} {s = s} {s₁} {s₃} {l} {l₁} s₂ before su long after =
    let size : length s₁ ≡ length s = ap length before ∙ length-replicate (length s) 0 in
    record {
      checked = su.checked;
      done = subst (λ n. Checked w l l₁ n su.checked) size su.done;
      says = λ same_length. su.says (before ∙ ap (λ n. replicate n 0) same_length);
      zeroed = after ∙ ap (λ n. replicate n 0) (long ∙ size);
    }

-- the audit by the front of a scratch
module _ {R I V S : Type 0} {w : Rules R I V S} {rs : List (Record R V)} {roots : List Tree} {free : Link} {limit : ℕ} {l : S} where
  pub too_short : {s : List ℕ} → length s < length rs → Audited w l rs roots free limit l s s (Err ShortScratch)
  too_short lt = record { checked = []; done = record { ran = refl; stays = stays_same; at_most = omega arith }; outcome = (lt, refl, refl) }

  module _ {l₁ : S} (s : List ℕ) {s₂ : List ℕ} {n : ℕ} {q : Result ℕ Unsound} (is : n ≡ length rs) (within : n ≤ length s) (su : SurveyedFresh w l rs roots free limit l₁ (take (n - 0) s) s₂ q) where
    front : length (take (n - 0) s) ≡ length rs
    front = length-take-le (n - 0) s (omega arith) ∙ omega arith

    checked_front : Checked w l l₁ (length rs) su.checked
    checked_front = subst (λ k. Checked w l l₁ k su.checked) front su.done

    put_back : Zeroed (length rs) s (s₂ ++ post_of 0 (n - 0) s)
    put_back =
        let front_is : s₂ ≡ replicate (length rs) 0 = su.zeroed ∙ ap (λ k. replicate k 0) front in
        let rest_is : post_of 0 (n - 0) s ≡ drop (length rs) s = Post-is 0 n s (omega arith) ∙ ap (λ k. drop k s) is in
        record { enough = omega arith; zeros = ap (λ z. z ++ post_of 0 (n - 0) s) front_is ∙ ap (λ z. replicate (length rs) 0 ++ z) rest_is }

    pub audit_passed : {k : ℕ} → q ≡ Ok k → Audited w l rs roots free limit l₁ s (s₂ ++ post_of 0 (n - 0) s) (Ok k)
    audit_passed ok = record { checked = su.checked; done = checked_front; outcome = (put_back, subst (λ z. Verdict w l rs roots free limit su.checked z) ok (su.says front)) }

    failed : {e : Unsound} → q ≡ Err e → Audited w l rs roots free limit l₁ s (s₂ ++ post_of 0 (n - 0) s) (Err fault.Unsound)
    failed bad = record { checked = su.checked; done = checked_front; outcome = (put_back, subst (λ z. Verdict w l rs roots free limit su.checked z) bad (su.says front)) }

    pub audit_failed : {e : Unsound} {r : Result ℕ AuditFault} → q ≡ Err e → r ≡ Err fault.Unsound → Audited w l rs roots free limit l₁ s (s₂ ++ post_of 0 (n - 0) s) r
    audit_failed bad is = subst (λ z. Audited w l rs roots free limit l₁ s (s₂ ++ post_of 0 (n - 0) s) z) (sym is) (failed bad)

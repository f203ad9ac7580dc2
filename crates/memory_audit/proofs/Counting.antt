-- The trees of a slice and their number. Assumes nothing.
use Rattle.std.proofs.Common.{◌≡◌, ℕ, ◌<◌, ◌≤◌, List, [], length, Ok, Err, Result, sym, refl, ap, ◌∙◌, subst, arith}
use Rattle.plain.specs.Machine.{limit, watched}
use Rattle.slots.specs.Values.{mean}
use Rattle.slots.specs.declared.records.Unsound.{Unsound}
use Rattle.slots.specs.Words.{Link}
use Rattle.slots.specs.declared.records.Tree.{Tree}
use Rattle.slots.specs.declared.records.Record.{Record}
use Rattle.audit.specs.Checks.{Rules}
use Rattle.audit.specs.Sound.{rows_trees}
use Rattle.audit.specs.Visits.{AreTrees}
use Rattle.audit.specs.Post.{SoundTo, Outcome, Audited}
use Rattle.audit.specs.declared.AuditFault.{AuditFault}
use Rattle.audit.specs.declared.AuditFault.TheVariants as fault
use Rattle.audit.proofs.Roots.{sole_trees, low_trees}
use Rattle.memory_audit.specs.Inspected.{Inspected}

-- no slice that may be lent has room for more
pub limit_small : (n : ℕ) → n ≤ 8316 → limit n ≤ 4094
limit_small n h = omega arith

module _ {R I V S : Type 0} (w : Rules R I V S) (s : S) (rs : List (Record R V)) (roots : List Tree) {free : Link} {n : ℕ} (few : n ≤ 65535) where
  are_trees : (so : SoundTo w s rs roots free n) → AreTrees rs roots (mean w.means (w.items s)) so.trees
  are_trees so = record { roots_are = so.roots_are; fits = so.fits; low = low_trees rs (mean w.means (w.items s)) so.trees so.fits (omega (arith, so.few)) }

  -- slots are sound in one way only
  pub same_trees : (p q : SoundTo w s rs roots free n) → p.trees ≡ q.trees
  same_trees p q = sole_trees rs roots (mean w.means (w.items s)) p.trees q.trees (are_trees p) (are_trees q)

module _ {R I V S : Type 0} {w : Rules R I V S} {s : S} {rs : List (Record R V)} {roots : List Tree} {free : Link} {count : ℕ} {scratch : List ℕ} {e : Unsound} where
  pub few_slots : length rs < 130 → Inspected w s rs roots free count s scratch (Err e)
  few_slots h = record { checked = []; ran = refl; says = λ _ c. omega (arith, c.least) }

  pub many_slots : 8316 < length rs → Inspected w s rs roots free count s scratch (Err e)
  many_slots h = record { checked = []; ran = refl; says = λ _ c. omega (arith, c.most) }

module _ {R I V S : Type 0} {w : Rules R I V S} {s s' : S} {rs : List (Record R V)} {roots : List Tree} {free : Link} {n : ℕ} {scratch scratch' : List ℕ} {q : Result ℕ AuditFault}
    (least : 130 ≤ length rs) (most : length rs ≤ 8316) (n-is : n ≡ limit (watched (length rs))) (A : Audited w s rs roots free n s' scratch scratch' q) where
  -- the limit is that of all slots, since all are watched
  limit_is : n ≡ limit (length rs)
  limit_is = n-is ∙ ap limit (let m : watched (length rs) ≡ length rs = omega arith in m)

  audited : Audited w s rs roots free (limit (length rs)) s' scratch scratch' q
  audited = subst (λ m. Audited w s rs roots free m s' scratch scratch' q) limit_is A

  outcome : {z : Result ℕ AuditFault} → q ≡ z → Outcome w s rs roots free (limit (length rs)) scratch scratch' audited.checked z
  outcome is = subst (λ z. Outcome w s rs roots free (limit (length rs)) scratch scratch' audited.checked z) is audited.outcome

  pub all_counted : {count k : ℕ} {u : Unit {0}} → q ≡ Ok k → k ≡ count → Inspected w s rs roots free count s' scratch (Ok u)
  all_counted ok as_many =
      let p = (outcome ok).1 in
      record { checked = audited.checked; ran = audited.done.ran; says = λ _. (record { sound = p.sound; least = least; most = most; all = sym as_many ∙ p.count ∙ ap length p.each }, p.each) }

  pub other_count : {count k : ℕ} {e : Unsound} → q ≡ Ok k → (k ≡ count → ⊥) → Inspected w s rs roots free count s' scratch (Err e)
  other_count ok not-as-many =
      let p = (outcome ok).1 in
      record {
        checked = audited.checked;
        ran = audited.done.ran;
        says = λ _ c.
            let trees-are = same_trees w s rs roots (omega (arith, limit_small (length rs) most)) p.sound c.sound in
            not-as-many (p.count ∙ ap length p.each ∙ ap (λ ts. length (rows_trees ts)) trees-are ∙ sym c.all);
      }

  pub no_trees : {count : ℕ} {f : AuditFault} {e : Unsound} → q ≡ Err f → Inspected w s rs roots free count s' scratch (Err e)
  no_trees {count} {f} {e} bad = go f bad
    where
      go : (f : AuditFault) → q ≡ Err f → Inspected w s rs roots free count s' scratch (Err e)
      go fault.ShortScratch is = record { checked = audited.checked; ran = audited.done.ran; says = λ long c. let short = (outcome is).0 in omega arith }
      go fault.Unsound is = record { checked = audited.checked; ran = audited.done.ran; says = λ long c. (outcome is).1 c.sound }

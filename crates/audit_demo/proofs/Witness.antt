-- Memory that is sound, and memory that is not. Assumes nothing.
use Rattle.std.specs.declared.option.Option.TheVariants.{None, Some}
use Rattle.std.proofs.Common.{◌≡◌, ℕ, zero, suc, ◌+◌, ◌<◌, ◌≤◌, List, [], ◌∷◌, length, Ok, Err, Result, sym, refl, ap, ◌∙◌, subst, ⊎_elim, arith, lit<, lit≤}
use Rattle.std.proofs.lemmas.Bool.{cases_lt}
use Rattle.measures.specs.MarkTotals.{totals_of_marks}
use Rattle.measures.specs.declared.mark_totals.MarkRow.{MarkRow}
use Rattle.measures.specs.declared.mark_totals.MarkTotals.{MarkTotals}
use Rattle.slots.specs.Ghost.{leaf, a1, nil, one, deep, same, occ_list, head_of, Chain}
use Rattle.slots.specs.Values.{mean}
use Rattle.slots.proofs.Frames.{same_cases, same_self}
use Rattle.slots.proofs.Same.{at_same}
use Rattle.slots.proofs.Counts.{named_one}
use Rattle.slots.specs.declared.records.Digit.TheVariants.{One}
use Rattle.slots.specs.declared.records.Tree.{Tree}
use Rattle.slots.specs.declared.records.Tree.TheVariants.{Empty, Single, Deep}
use Rattle.slots.specs.declared.records.Record.{Record}
use Rattle.slots.specs.declared.records.Record.TheVariants.{Free, Leaf, Level}
use Rattle.audit.specs.Checks.{Rules, rules}
use Rattle.audit.specs.Visits.{AreTrees}
use Rattle.audit.specs.Sound.{rows_trees}
use Rattle.audit.specs.Post.{SoundTo, Outcome, Audited}
use Rattle.audit.specs.declared.AuditFault.{AuditFault}
use Rattle.audit.specs.declared.AuditFault.TheVariants.{ShortScratch, Unsound}
use Rattle.audit.proofs.Roots.{sole_trees, low_trees}
use Rattle.audit.proofs.Covers.{named_none}

abbrev w : Rules MarkRow MarkRow MarkTotals (Unit {0})
w = rules (λ m. m.gap + 1) totals_of_marks (λ _ m. m ∷ []) (λ _ _. Unit {0}) (λ s _ s'. s' ≡ s)

abbrev mark : ℕ → MarkRow
mark gap = record { gap = gap; label = 0 }

abbrev worth : ℕ → ℕ → MarkTotals
worth gaps count = record { gaps = gaps; count = count }

abbrev slots : List (Record MarkRow MarkTotals)
slots = Leaf (mark 7) (worth 7 1) ∷ Leaf (mark 8) (worth 8 1) ∷ Level (One 0) Empty (One 1) (worth 15 2) ∷ Leaf (mark 9) (worth 9 1) ∷ Free None ∷ []

abbrev roots : List Tree
roots = Deep 2 ∷ Single 3 ∷ []

abbrev nines : List ℕ
nines = 9 ∷ 9 ∷ 9 ∷ 9 ∷ 9 ∷ 9 ∷ 9 ∷ []

abbrev named_here : ℕ → ℕ
named_here i = ((same 2 i + (same 0 i + (0 + same 1 i))) + (same 3 i + 0)) + (same 4 i + 0)

below : (i : ℕ) → i < 5 → named_here i ≡ 1
unfolding same
below zero lt = refl
below (suc zero) lt = refl
below (suc (suc zero)) lt = refl
below (suc (suc (suc zero))) lt = refl
below (suc (suc (suc (suc zero)))) lt = refl
below (suc (suc (suc (suc (suc i))))) lt = absurd (omega arith)

away : (i k : ℕ) → (k ≡ i → ⊥) → same i k ≡ 0
away i k ne = ⊎_elim (λ e. absurd (ne e)) (λ n. n.0) (same_cases i k)

past : (i : ℕ) → 5 ≤ i → named_here i ≡ 0
past i ge = omega (arith, away 0 i (λ e. omega arith), away 1 i (λ e. omega arith), away 2 i (λ e. omega arith), away 3 i (λ e. omega arith), away 4 i (λ e. omega arith))

sound : SoundTo w tt slots roots (Some 4) 3
sound = record {
  trees = deep 2 (worth 15 2) (a1 (leaf 0 (mark 7) (worth 7 1))) nil (a1 (leaf 1 (mark 8) (worth 8 1))) ∷ one (leaf 3 (mark 9) (worth 9 1)) ∷ [];
  chain = 4 ∷ [];
  roots_are = refl;
  first = refl;
  fits = ((record { within = lit< tt; is = refl }, refl, (record { within = lit< tt; is = refl }, refl), tt, (record { within = lit< tt; is = refl }, refl)), ((record { within = lit< tt; is = refl }, refl), tt));
  chained = (record { within = lit< tt; is = refl }, tt);
  good_rows = (tt, (tt, (tt, tt)));
  few = lit≤ tt;
  light = lit≤ tt;
  once = λ i. ⊎_elim (λ lt. below i lt ∙ sym (named_one 5 i lt)) (λ ge. past i ge ∙ sym (named_none 5 i ge)) (cases_lt i 5);
}

are_trees : (so : SoundTo w tt slots roots (Some 4) 3) → AreTrees slots roots (mean totals_of_marks (λ (m : MarkRow). m ∷ [])) so.trees
are_trees so = record { roots_are = so.roots_are; fits = so.fits; low = low_trees slots (mean totals_of_marks (λ (m : MarkRow). m ∷ [])) so.trees so.fits (omega (arith, so.few)) }

pub goes_well : {s' : Unit {0}} {scratch' : List ℕ} {r : Result ℕ AuditFault} (f : AuditFault) → Audited w tt slots roots (Some 4) 3 s' nines scratch' r → r ≡ Err f → ⊥
goes_well {scratch' = scratch'} ShortScratch A bad = let short = (subst (λ z. Outcome w tt slots roots (Some 4) 3 nines scratch' A.checked z) bad A.outcome).0 in omega arith
goes_well {scratch' = scratch'} Unsound A bad = (subst (λ z. Outcome w tt slots roots (Some 4) 3 nines scratch' A.checked z) bad A.outcome).1 sound

pub counts_three : {s' : Unit {0}} {scratch' : List ℕ} {r : Result ℕ AuditFault} {n : ℕ} → Audited w tt slots roots (Some 4) 3 s' nines scratch' r → r ≡ Ok n → n ≡ 3
unfolding sound
counts_three {scratch' = scratch'} A ok =
    let passed = (subst (λ z. Outcome w tt slots roots (Some 4) 3 nines scratch' A.checked z) ok A.outcome).1 in
    let trees-are = sole_trees slots roots (mean totals_of_marks (λ (m : MarkRow). m ∷ [])) passed.sound.trees sound.trees (are_trees passed.sound) (are_trees sound) in
    passed.count ∙ ap length passed.each ∙ ap (λ ts. length (rows_trees ts)) trees-are

abbrev ring : List (Record MarkRow MarkTotals)
ring = Free (Some 0) ∷ []

no_ring : (fs : List ℕ) → head_of fs ≡ Some 0 → Chain ring fs → occ_list fs 0 ≤ 1 → ⊥
no_ring [] e ch o = let z : ◌≡◌ {A = ℕ} 0 1 = cc in omega arith
no_ring (i ∷ []) e ch o =
    let i0 : i ≡ 0 = cc in
    let h : ◌≡◌ {A = Record MarkRow MarkTotals} (Free None) (Free (Some 0)) = at_same {rs = ring} i0 ch.0 (record { within = lit< tt; is = refl }) in
    let z : ◌≡◌ {A = ℕ} 0 1 = cc in omega arith
no_ring (i ∷ (j ∷ fs)) e ch o =
    let i0 : i ≡ 0 = cc in
    let h : ◌≡◌ {A = Record MarkRow MarkTotals} (Free (Some j)) (Free (Some 0)) = at_same {rs = ring} i0 ch.0 (record { within = lit< tt; is = refl }) in
    let j0 : j ≡ 0 = cc in
    omega (arith, ap (λ q. same q 0) i0, ap (λ q. same q 0) j0, same_self 0)

pub not_sound : {s' : Unit {0}} {scratch' : List ℕ} {r : Result ℕ AuditFault} {n : ℕ} → Audited w tt ring [] (Some 0) 3 s' (9 ∷ []) scratch' r → r ≡ Ok n → ⊥
not_sound {scratch' = scratch'} A ok =
    let so = (subst (λ z. Outcome w tt ring [] (Some 0) 3 (9 ∷ []) scratch' A.checked z) ok A.outcome).1.sound in
    no_ring so.chain so.first so.chained (omega (arith, so.once 0, named_one 1 0 (lit< tt)))

pub not_short : {s' : Unit {0}} {scratch' : List ℕ} {r : Result ℕ AuditFault} → Audited w tt ring [] (Some 0) 3 s' (9 ∷ []) scratch' r → r ≡ Err ShortScratch → ⊥
not_short {scratch' = scratch'} A bad = let short = (subst (λ z. Outcome w tt ring [] (Some 0) 3 (9 ∷ []) scratch' A.checked z) bad A.outcome).0 in omega arith

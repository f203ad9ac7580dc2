-- From an empty store to a text with a clip, by the contracts of the calls.
use Rattle.std.proofs.Common.{◌≡◌, ℕ, ◌-◌, ◌≤◌, Bool, cond, List, [], ◌∷◌, length, Some, None, Ok, Err, Option, Result, refl, ap, subst, arith}
use Rattle.std.proofs.lemmas.Bool.{le-leb}
use Rattle.plain.specs.Lists.{first_no}
use Rattle.plain.specs.Machine.{Machine, insert, mark, full, fresh, open_asked, asked}
use Rattle.plain.specs.declared.calls.Call.TheVariants.{Insert, Cut, Mark}
use Rattle.plain.specs.declared.faults.TextFault.{TextFault}
use Rattle.plain.specs.declared.faults.TextFault.TheVariants as fault
use Rattle.measures.specs.declared.mark_totals.MarkRow.{MarkRow}
use Rattle.measures.specs.declared.mark_totals.MarkTotals.{MarkTotals}
use Rattle.stores.specs.Stores.{Contents}
use Rattle.slots.specs.declared.records.Record.{Record}
use Rattle.slots.proofs.Shapes.{ok_err, ok_same}
use Rattle.pieces.specs.Edited.{Edits, Outcome}
use Rattle.pieces.specs.Sound.{TextValue, whole, held, Spells}
use Rattle.pieces.specs.declared.rows.PieceRow.{PieceRow}
use Rattle.pieces.specs.declared.head.Head.{Head}
use Rattle.opening.specs.Opened as opened
use Rattle.text_laws.specs.Laws.{parted, Holds}

abbrev two : List ℕ
two = 97 ∷ 98 ∷ []

three : {X Y Z W : Type 0} (f : X → Y → Z → W) {a b : X} {c d : Y} {e g : Z} → a ≡ b → c ≡ d → e ≡ g → f a c e ≡ f b d g
three f p q r = cc

-- the empty store has room for the two bytes
insert_in : (c : ℕ) → 2 ≤ c → first_no (asked (fresh [] c 132 130) (Insert 0 two)) ≡ None
insert_in c h = ap (λ (b : Bool). cond b None (Some (fault.Store (full (fresh [] c 132 130))))) (le-leb 2 (c - 0) (omega arith))

module _ {A S : Type 0} {am : List ℕ → A} {contents : S → Contents} {s s₁ : S} {rs rs₁ : List (Record PieceRow (TextValue A))} {ms ms₁ : List (Record MarkRow MarkTotals)} {ro : Result Head TextFault}
    (O : opened.Opens am contents s s₁ rs rs₁ ms ms₁ ro) where
  -- the empty text
  opens : length rs ≡ 132 → length ms ≡ 130 → (contents s).bytes ≡ [] → (h : Head) × (ro ≡ Ok h) × Spells am whole (contents s₁).bytes (contents s₁).capacity rs₁ ms₁ h (fresh [] (contents s).capacity 132 130)
  opens u v e =
      let q : first_no (open_asked (contents s).bytes (length rs) (length ms)) ≡ None = three (λ (B : List ℕ) (i j : ℕ). first_no (open_asked B i j)) e u v in
      let w = subst (λ (o : Option TextFault). opened.Outcome am contents o s s₁ rs rs₁ ms ms₁ ro) q O.outcome (omega arith) (omega arith) in
      (w.0, w.1, subst (λ (m : Machine). Spells am whole (contents s₁).bytes (contents s₁).capacity rs₁ ms₁ w.0 m) (three (λ (B : List ℕ) (i j : ℕ). fresh B (contents s).capacity i j) e u v) w.2.spells)

  pub not_opened : {e : TextFault} {r : Result Head TextFault} → ro ≡ Err e → Holds am contents s s₁ rs rs₁ ms ms₁ r
  not_opened bad = record { spells = λ u v e room. absurd (ok_err (opens u v e).1 bad) }

  module _ {h : Head} {h₁ : Head} {s₂ : S} {rs₂ : List (Record PieceRow (TextValue A))} {ms₂ : List (Record MarkRow MarkTotals)} {ri : Result (Unit {0}) TextFault} (got : ro ≡ Ok h)
      (I : Edits am contents (Insert 0 two) whole whole s₁ s₂ rs₁ rs₂ ms₁ ms₂ h h₁ ri) where
    inserts : length rs ≡ 132 → length ms ≡ 130 → (contents s).bytes ≡ [] → 2 ≤ (contents s).capacity → (ri ≡ Ok tt) × Spells am whole (contents s₂).bytes (contents s₂).capacity rs₂ ms₂ h₁ (insert 0 two (fresh [] (contents s).capacity 132 130))
    inserts u v e room =
        let o = opens u v e in
        let K : Spells am whole (contents s₁).bytes (contents s₁).capacity rs₁ ms₁ h (fresh [] (contents s).capacity 132 130) = subst (λ (x : Head). Spells am whole (contents s₁).bytes (contents s₁).capacity rs₁ ms₁ x (fresh [] (contents s).capacity 132 130)) (ok_same o.1 got) o.2 in
        let w = subst (λ (q : Option TextFault). Outcome am contents q s₁ s₂ rs₁ rs₂ ms₁ ms₂ h h₁ whole (insert 0 two (fresh [] (contents s).capacity 132 130)) ri) (insert_in (contents s).capacity room) (I.outcome (fresh [] (contents s).capacity 132 130) K) in
        (w.0, w.1.spells)

    pub not_inserted : {e : TextFault} {r : Result Head TextFault} → ri ≡ Err e → Holds am contents s s₂ rs rs₂ ms ms₂ r
    not_inserted bad = record { spells = λ u v e room. absurd (ok_err (inserts u v e room).0 bad) }

    module _ {ms₃ : List (Record MarkRow MarkTotals)} {h₂ : Head} {rm : Result (Unit {0}) TextFault}
        (M : (s : Contents) → Edits am (λ (t : Contents). t) (Mark 1 7) whole whole s s rs₂ rs₂ ms₂ ms₃ h₁ h₂ rm) where
      marks : length rs ≡ 132 → length ms ≡ 130 → (contents s).bytes ≡ [] → 2 ≤ (contents s).capacity → (rm ≡ Ok tt) × Spells am whole (contents s₂).bytes (contents s₂).capacity rs₂ ms₃ h₂ (mark 1 7 (insert 0 two (fresh [] (contents s).capacity 132 130)))
      marks u v e room =
          let w = (M (contents s₂)).outcome (insert 0 two (fresh [] (contents s).capacity 132 130)) (inserts u v e room).1 in
          (w.0, w.1.spells)

      pub not_marked : {e : TextFault} {r : Result Head TextFault} → rm ≡ Err e → Holds am contents s s₂ rs rs₂ ms ms₃ r
      not_marked bad = record { spells = λ u v e room. absurd (ok_err (marks u v e room).0 bad) }

      module _ {s₃ : S} {rs₃ : List (Record PieceRow (TextValue A))} {ms₄ : List (Record MarkRow MarkTotals)} {h₃ : Head} {rc : Result (Unit {0}) TextFault}
          (C : Edits am contents (Cut 1 2) whole held s₂ s₃ rs₂ rs₃ ms₃ ms₄ h₂ h₃ rc) where
        cuts : length rs ≡ 132 → length ms ≡ 130 → (contents s).bytes ≡ [] → 2 ≤ (contents s).capacity → (rc ≡ Ok tt) × Spells am held (contents s₃).bytes (contents s₃).capacity rs₃ ms₄ h₃ (parted (contents s).capacity)
        cuts u v e room =
            let w = C.outcome (mark 1 7 (insert 0 two (fresh [] (contents s).capacity 132 130))) (marks u v e room).1 in
            (w.0, w.1.spells)

        pub not_cut : {e : TextFault} {r : Result Head TextFault} → rc ≡ Err e → Holds am contents s s₃ rs rs₃ ms ms₄ r
        not_cut bad = record { spells = λ u v e room. absurd (ok_err (cuts u v e room).0 bad) }

        pub all_done : Holds am contents s s₃ rs rs₃ ms ms₄ (Ok h₃)
        all_done = record { spells = λ u v e room. (h₃, refl, (cuts u v e room).1) }

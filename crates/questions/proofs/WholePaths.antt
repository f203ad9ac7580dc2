-- The paths of the question on the whole.
use Rattle.std.proofs.Common.{◌≡◌, ℕ, ◌≤◌, List, length, Ok, Err, Result, ap}
use Rattle.plain.specs.Machine.{text}
use Rattle.plain.specs.Questions.{summary}
use Rattle.plain.specs.declared.answers.Summary.{Summary}
use Rattle.plain.specs.declared.calls.Call.TheVariants.{Whole}
use Rattle.plain.specs.declared.faults.TextFault.{TextFault}
use Rattle.measures.specs.Law.{heaviest}
use Rattle.measures.specs.Totals.{totals}
use Rattle.measures.specs.declared.mark_totals.MarkRow.{MarkRow}
use Rattle.measures.specs.declared.mark_totals.MarkTotals.{MarkTotals}
use Rattle.lexer.specs.Reading.{reading}
use Rattle.slots.specs.Post.{TreeValued}
use Rattle.slots.specs.declared.records.Record.{Record}
use Rattle.slots.specs.declared.records.Unsound.{Unsound}
use Rattle.slots.proofs.Shapes.{ok_err, ok_same}
use Rattle.pieces.specs.Sound.{TextValue, text_means}
use Rattle.pieces.specs.Asked.{Told}
use Rattle.pieces.specs.declared.rows.PieceRow.{PieceRow}
use Rattle.pieces.specs.declared.head.Head.{Head}
use Rattle.asking.proofs.TextPlaces.{text_at, light_text}
use Rattle.asking.proofs.Tellings.{root_value}

module _ {A : Type 0} {am : List ℕ → A} {rs : List (Record PieceRow (TextValue A))} {h : Head} {rv : Result (TextValue A) Unsound}
    (V : TreeValued (λ _. 1) (text_means am) rs h.text rv) where
  pub whole_broken : {e : Unsound} {r : Result Summary TextFault} → rv ≡ Err e → (B : List ℕ) (ms : List (Record MarkRow MarkTotals)) → Told am B rs ms h Whole (λ m. summary (text m)) r
  whole_broken bad B ms = record { tells = λ mode k m P. absurd (ok_err (root_value V (text_at P)) bad) }

  pub whole_told : {v : TextValue A} {y : Summary} → rv ≡ Ok v → ((bs : List ℕ) → length bs ≤ heaviest → v.left.left ≡ totals bs → v.left.right ≡ reading bs → y ≡ summary bs)
      → (B : List ℕ) (ms : List (Record MarkRow MarkTotals)) → Told am B rs ms h Whole (λ m. summary (text m)) (Ok y)
  whole_told {v} got law B ms = record {
    tells = λ mode k m P.
        let v-is : v ≡ text_means am (text m) = ok_same got (root_value V (text_at P)) in
        ap Ok (law (text m) (light_text (text_at P)) (ap (λ (q : TextValue A). q.left.left) v-is) (ap (λ (q : TextValue A). q.left.right) v-is));
  }

-- The end of a list: a clip that is left is discarded.
use Rattle.std.proofs.Common.{◌≡◌, ℕ, List, [], Ok, sym, refl, ap, ◌∙◌, subst}
use Rattle.plain.specs.Machine.{discard}
use Rattle.plain.specs.declared.calls.Call.TheVariants as call
use Rattle.measures.specs.declared.mark_totals.MarkRow.{MarkRow}
use Rattle.measures.specs.declared.mark_totals.MarkTotals.{MarkTotals}
use Rattle.stores.specs.Stores.{Contents}
use Rattle.slots.specs.declared.records.Record.{Record}
use Rattle.pieces.specs.Sound.{TextValue, whole, held, Spells}
use Rattle.pieces.specs.declared.rows.PieceRow.{PieceRow}
use Rattle.text.specs.Texts.{watched_of, EditsText}
use Rattle.text.specs.declared.Whole.{Whole}
use Rattle.text.specs.declared.Held.{Held}
use Rattle.calls.specs.Steps.{Settles}
use Rattle.calls.specs.declared.texts.Text.{Text}
use Rattle.calls.specs.declared.texts.Text.TheVariants as text

module _ {A : Type 0} (am : List ℕ → A) where
  pub whole_settles : (t : Text) (w : Whole) (rs : List (Record PieceRow (TextValue A))) → t ≡ text.Whole w → Settles am t rs w rs
  whole_settles t w rs is = subst (λ q. Settles am q rs w rs) (sym is) (record {
    ends = λ B c ms m sp.
        let same : discard m ≡ m = ap discard sp.machine ∙ sym sp.machine in
        subst (λ q. Spells am whole B c (watched_of rs) (watched_of ms) w.head q) (sym same) sp;
    later = refl;
  })

  pub held_settles : (t : Text) (h : Held) (w : Whole) (rs rs' : List (Record PieceRow (TextValue A))) → t ≡ text.Held h
      → ((ms : List (Record MarkRow MarkTotals)) (s : Contents) → EditsText am (λ (t : Contents). t) call.Discard held whole s s rs rs' ms ms h.head w.head (Ok tt))
      → Settles am t rs w rs'
  held_settles t h w rs rs' is E = subst (λ q. Settles am q rs w rs') (sym is) (record {
    ends = λ B c ms m sp. ((E ms (record { bytes = B; capacity = c; reads = 0 })).edits.outcome m sp).1.spells;
    later = (E [] (record { bytes = []; capacity = 0; reads = 0 })).later.slots;
  })

-- Trees at one root are one tree, so their rows are the same.
use Rattle.std.proofs.Common.{◌≡◌, List, length, sym, ap, ◌∙◌}
use Rattle.measures.specs.declared.mark_totals.MarkRow.{MarkRow}
use Rattle.measures.specs.declared.mark_totals.MarkTotals.{MarkTotals}
use Rattle.slots.specs.Ghost.{rows}
use Rattle.slots.proofs.Same.{unique}
use Rattle.pieces.specs.Sound.{TextValue, text_mean, mark_mean, machine_of}
use Rattle.pieces.specs.declared.rows.PieceRow.{PieceRow}
use Rattle.text_laws.specs.Laws.{OneText}

three : {X Y Z W : Type 0} (f : X → Y → Z → W) {a b : X} {c d : Y} {e g : Z} → a ≡ b → c ≡ d → e ≡ g → f a c e ≡ f b d g
three f p q r = cc

pub one_text_lem : (A : Type 0) → OneText A
one_text_lem A = record {
  same = λ am mode B c rs ms h m m' K L.
      let t : K.sound.t ≡ L.sound.t = (unique PieceRow (TextValue A)).tree (text_mean am B) rs 0 K.sound.t L.sound.t (K.sound.text.tree ∙ sym L.sound.text.tree) K.sound.text.fit L.sound.text.fit in
      let k : K.sound.k ≡ L.sound.k = (unique PieceRow (TextValue A)).tree (text_mean am B) rs 0 K.sound.k L.sound.k (K.sound.text.clip ∙ sym L.sound.text.clip) K.sound.text.fit_clip L.sound.text.fit_clip in
      let u : K.sound.u ≡ L.sound.u = (unique MarkRow MarkTotals).tree mark_mean ms 0 K.sound.u L.sound.u (K.sound.marks.tree ∙ sym L.sound.marks.tree) K.sound.marks.fit L.sound.marks.fit in
      K.machine
      ∙ three (λ (x : List PieceRow) (y : List PieceRow) (z : List MarkRow). machine_of mode B c (length rs) (length ms) x y z) (ap rows t) (ap rows k) (ap rows u)
      ∙ sym L.machine;
}

use Rattle.std.proofs.Common.{◌≡◌, ℕ, Bool, true, false, cond, refl, ap, arith}
use mir.Val.{bool_byte}
use Rattle.std.proofs.lemmas.Bool.Decides.{nat_tests}
use Rattle.lexer.specs.Numbers.{other_number}
use Rattle.lexer.specs.RowJoins.{and_byte}
use Rattle.lexer.proofs.tokens.TokenRow.and_byte.Goals as goal
use Rattle.lexer.proofs.tokens.TokenRow.and_byte.Goals.{in-Open, in-Close, in-Close-2, in_default}

bit : (b : Bool) → bool_byte b ≡ cond b 1 0
bit true = refl
bit false = refl

pub returns : goal.returns
returns c s bs light e =
    let n = c.step-next.result.state in
    and_byte c.args.self.now c.args.byte s bs _ _ _ _ _ light e
    c.step-next.ensures.state c.step-next.ensures.begins
    (λ fits. omega (arith, bit c.step-next.result.begins))
    (elim c.match-next.branch [
      | in-Open w ↦ λ fits. let is = ap (λ (p : ℕ × ℕ). p.0) w.strays-is in grind (arith, nat_tests)
      | in-Close w ↦ λ fits. let is = ap (λ (p : ℕ × ℕ). p.0) w.strays-is in grind (arith, nat_tests)
      | in-Close-2 w ↦ λ fits. let is = ap (λ (p : ℕ × ℕ). p.0) w.strays-is in grind (arith, nat_tests)
      | in_default w ↦ λ fits.
          let is = ap (λ (p : ℕ × ℕ). p.0) w.strays-is in
          let other = other_number n w.in_default.not-Open w.in_default.not-Close in rw (other.1) (omega (arith, is))
    ])
    (elim c.match-next.branch [
      | in-Open w ↦ λ fits. let is = ap (λ (p : ℕ × ℕ). p.1) w.strays-is in grind (arith, nat_tests)
      | in-Close w ↦ λ fits. let is = ap (λ (p : ℕ × ℕ). p.1) w.strays-is in grind (arith, nat_tests)
      | in-Close-2 w ↦ λ fits. let is = ap (λ (p : ℕ × ℕ). p.1) w.strays-is in grind (arith, nat_tests)
      | in_default w ↦ λ fits.
          let is = ap (λ (p : ℕ × ℕ). p.1) w.strays-is in
          let other = other_number n w.in_default.not-Open w.in_default.not-Close in rw (other.1, other.0) is
    ])

use Rattle.std.proofs.Common.{ℕ, Bool, ap, ◌∙◌}
use Rattle.plain.specs.Tokens.{step}
use Rattle.lexer.specs.Numbers.{number_of}
use Rattle.lexer.specs.States.{step_at}
use Rattle.lexer_table.proofs.step_from.Goals as goal

pub returns : goal.returns
returns c =
    let taken = ap (λ s. step (number_of s) c.args.byte) c.step.ensures.1 ∙ step_at c.args.number c.args.byte in
    record {
      state = c.step.ensures.2 ∙ ap (λ (p : ℕ × Bool). p.0) taken;
      begins = c.step.ensures.3 ∙ ap (λ (p : ℕ × Bool). p.1) taken;
    }

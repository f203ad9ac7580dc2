use Rattle.std.proofs.Common.{ap, arith}
use Rattle.script.proofs.Steps.{bytes_weigh}
use Rattle.script.proofs.early.OpenedText.summary.Goals as goal

pub returns : goal.returns
returns c =
    let s = c.args.self.now in
    let e = c.measured-value.ensures (omega (arith, s.small, bytes_weigh s.text.now)) in
    c.sum_up.ensures.law s.text.now (omega (arith, s.small)) (ap (λ v. v.left) e) (ap (λ v. v.right) e)

use Rattle.std.proofs.Common.{refl, ◌∙◌}
use Rattle.opening.proofs.FilledTrees.{filling_none, filling_more, filling_stop, filling_all}
use Rattle.opening.proofs.filling.fill.Goals as goal

pub loop-block-init : goal.loop-block-init
loop-block-init g c = (filling_none (g.S.Store.lawful.stops c.args.store.now), refl)

pub loop-block-preserved : goal.loop-block-preserved
loop-block-preserved g c = (filling_more c.len-length.ensures c.div_ceil-block-end.ensures c.loop-block.invariant.0 c.loop-block-test.true c.min.ensures c.push_piece.ensures.pushed c.in_ok-text.was, c.push_piece.ensures.same ∙ c.loop-block.invariant.1)

pub returns-in_err-text-clause-filled : goal.returns-in_err-text-clause-filled
returns-in_err-text-clause-filled g c = filling_stop c.len-length.ensures c.div_ceil-block-end.ensures c.loop-block.invariant.0 c.loop-block-test.true c.min.ensures c.push_piece.ensures.pushed c.in_err-text.was

pub returns-clause-filled : goal.returns-clause-filled
returns-clause-filled g c = filling_all c.len-length.ensures c.div_ceil-block-end.ensures c.loop-block.invariant.0 c.loop-block-test.false

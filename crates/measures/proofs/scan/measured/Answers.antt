use Rattle.std.proofs.Common.{ap, ◌∙◌}
use Rattle.std.proofs.lemmas.List.{take_all}
use Rattle.measures.specs.Weights.{means_more}
use Rattle.measures.proofs.scan.measured.Goals as goal

pub loop-item-preserved : goal.loop-item-preserved
loop-item-preserved g c light =
    means_more g.M.Item.Weigh.weight g.M.Measure.means c.args.items.now c.loop-item.item-index c.item-item.result c.loop-item.all _
    c.loop-item-test.true c.item-item.is light (c.loop-item.invariant light) c.add.ensures

pub returns : goal.returns
returns g c light = c.loop-item.invariant light ∙ ap g.M.Measure.means (take_all c.loop-item.item-index c.args.items.now c.loop-item-test.false)

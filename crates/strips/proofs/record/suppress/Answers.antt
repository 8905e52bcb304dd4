use Rattle.strips.specs.Fibre.{numbers}
use Rattle.layout.specs.Contents.{listed, suppressed_content}
use Rattle.strips.proofs.Forming.{both_fit, taken, taken_is, formed}
use Rattle.strips.proofs.record.suppress.Goals as goal

pub unwrap-requires : goal.unwrap-requires
unwrap-requires g c =
    let modes = c.common_modes-modes in
    taken c.new.result _ _ c.new.ensures (both_fit modes.result.left modes.result.right modes.ensures.left_fits modes.ensures.right_fits)

pub returns : goal.returns
returns g c =
    formed c.args.settings.now (numbers c.args.samples.now) c.flat_values-flats.result.values c.flat_values-flats.ensures
    (g.R.Rule.meaning c.args.rule.now) c.args.fibre.index c.common_modes-modes.result c.reduce-reduced.result.values c.reduce-reduced.result.reached
    (listed c.find_clusters-runs.result) (suppressed_content c.unwrap.result) c.common_modes-modes.ensures.left c.common_modes-modes.ensures.right
    c.reduce-reduced.ensures.values c.reduce-reduced.ensures.reached c.find_clusters-runs.ensures (taken_is _ c.unwrap.result _ _ c.new.ensures c.unwrap.ensures)

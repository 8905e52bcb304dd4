use Rattle.std.proofs.Common.{◌≡◌, length, ◌∙◌, rules, tests}
use Rattle.std.proofs.lemmas.Iterator.{YieldsList-from_slice, YieldsList-from_zip}
use Rattle.std.proofs.lemmas.Iterator.Search.{all_from_yields_List}
use Rattle.clusters.specs.declared.pattern.Mark.{Mark}
use Rattle.clusters.specs.declared.reached.Reached.{Reached}
use Rattle.clusters.specs.Patterns.{fits}
use Rattle.clusters.proofs.Windows.{row_zipped}
use Rattle.clusters.proofs.window.fits.Goals as goal

pub returns : goal.returns
returns c =
    let row = c.args.row.now in
    let strips = c.args.window.now in
    let long : length row ≡ length strips = search rules in
    all_from_yields_List (λ (p : Mark × Reached). fits p.0 p.1) c.all.new.self _ _ c.all.ensures.ran
    (YieldsList-from_zip (YieldsList-from_slice row cc) (YieldsList-from_slice strips cc))
    (λ x b q k. search (rules, tests))
    ∙ row_zipped row strips long

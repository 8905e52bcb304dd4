use Rattle.std.proofs.Common.{[], ◌∷◌, ◌++◌, sym, ap, ◌∙◌}
use Rattle.layout.specs.Places.{spaced}
use Rattle.layout.specs.PlacesLemmas.{spaced_more, spaced_unplaced}
use Rattle.layout.proofs.runs.Runs.has_room_for.Goals as goal

pub returns-in-Some : goal.returns-in-Some
returns-in-Some c =
    let same = c.as_slice.ensures in
    let item = c.in-Some.ensures.item in
    c.lies_behind.ensures
    ∙ sym (spaced_more c.as_slice.result.now c.in-Some.last.now c.args.run item.3.0 (sym item.1) (ap spaced same ∙ c.args.self.now.in_order) (sym c.if-lies_in_chip.ensures))
    ∙ ap (λ rs. spaced (rs ++ c.args.run ∷ [])) same

pub returns-else-lies_in_chip : goal.returns-else-lies_in_chip
returns-else-lies_in_chip c = c.if-lies_in_chip.false ∙ sym (spaced_unplaced c.args.self.now.list.items c.args.run (sym c.if-lies_in_chip.ensures))

use Rattle.std.proofs.Common.{◌<◌, sym, ap, ◌∙◌, arith}
use Rattle.layout.specs.Places.{spaced}
use Rattle.layout.specs.Limits.{on_fibre}
use Rattle.layout.specs.PlacesLemmas.{room_for_more, on_fibre_push}
use Rattle.layout.proofs.runs.Runs.push.Goals as goal

-- fewer than 86 runs stand before one more
pub push-requires : goal.push-requires
push-requires c =
    let byte : c.args.run.address < 256 = omega (arith, c.well_formed) in
    (omega arith, room_for_more c.args.self.now.list.items c.args.run c.args.self.now.on_strips byte (sym c.if-not-has_room_for.ensures))

pub invariant_of-self : goal.invariant_of-self
invariant_of-self c =
    let byte : c.args.run.address < 256 = omega (arith, c.well_formed) in
    record {
      in_order = ap spaced c.push.ensures.items ∙ sym c.if-not-has_room_for.ensures;
      on_strips = ap on_fibre c.push.ensures.items ∙ on_fibre_push c.args.self.now.list.items c.args.run c.args.self.now.on_strips byte;
    }

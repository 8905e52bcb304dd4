-- The table is the list of what the rule gives at each of its 256 places, which antt computes.
use Rattle.std.proofs.Common.{arith}
use Rattle.std.proofs.lemmas.List.FromFn.{get_or-map-range_with_len}
use Rattle.strips.specs.Order.{strip_at}
use Rattle.strips.proofs.order.strip_of_place.Goals as goal

pub returns : goal.returns
returns c = get_or-map-range_with_len strip_at 0 256 c.from.result c.args.place 0 (omega arith) (omega arith)

use Rattle.std.proofs.Common.{◌≡◌, ◌<◌, ◌∙◌, arith}
use Rattle.std.proofs.lemmas.Iterator.Adapters.{YieldsList-from_rev_slice}
use Rattle.std.proofs.lemmas.Iterator.Consumers.{YieldsList-turn, YieldsList-end}
use Rattle.std.proofs.lemmas.List.{length-reverse}
use Rattle.synch.specs.Packed.{packed}
use Rattle.synch.specs.Status.{status_word}
use Rattle.synch.proofs.Halves.{half_room, half_lt}
use Rattle.synch.proofs.Packed.{so_far_all}
use Rattle.synch.proofs.status.pack.Goals as goal
use Rattle.synch.proofs.status.pack.Goals.{In-Some, In-None}

-- five fibres have been before this one at most
room : (c : In-Some) → c.loop-fibre.word < 1073741824
room c =
    let t = YieldsList-turn (YieldsList-from_rev_slice c.args.fibres.now cc) c.loop-fibre.yielded _ c.loop-fibre.yielded_by _ _ c.in-Some.fibre c.in-Some.is c.next.ensures.steps in
    half_room c.args.header c.loop-fibre.yielded c.loop-fibre.word
    (omega (arith, t.0, length-reverse c.args.fibres.now, c.requires)) c.loop-fibre.invariant

pub overflow_mul-word : goal.overflow_mul-word
overflow_mul-word c = omega (arith, room c)

pub overflow_add-word : goal.overflow_add-word
overflow_add-word c = omega (arith, room (goal.at.overflow_add-word c).In-Some)

all : (c : In-None) → c.loop-fibre.word ≡ packed 64 (status_word c.args.header) c.args.fibres.now
all c =
    let t = YieldsList-end (YieldsList-from_rev_slice c.args.fibres.now cc) c.loop-fibre.yielded _ c.loop-fibre.yielded_by _ _ c.in-None.is c.next.ensures.steps in
    c.loop-fibre.invariant ∙ so_far_all 64 (status_word c.args.header) c.args.fibres.now c.loop-fibre.yielded t.0

pub returns-clause-bound : goal.returns-clause-bound
returns-clause-bound c = half_lt c.args.header c.args.fibres.now c.loop-fibre.word c.requires (all c)

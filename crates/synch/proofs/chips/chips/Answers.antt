use Rattle.std.proofs.Common.{◌≡◌, ◌<◌, ap, ◌∙◌, arith}
use lib.Count.{ones}
use Rattle.std.proofs.lemmas.Iterator.Adapters.{YieldsList-from_rev_slice}
use Rattle.std.proofs.lemmas.Iterator.Consumers.{YieldsList-turn, YieldsList-end}
use Rattle.std.proofs.lemmas.List.{length-reverse}
use Rattle.synch.specs.Vote.{chip_word, chip_bits}
use Rattle.synch.proofs.Counts.{chip_bits_lt, word_room, ones_count}
use Rattle.synch.proofs.Packed.{so_far_all}
use Rattle.synch.proofs.chips.chips.Goals as goal
use Rattle.synch.proofs.chips.chips.Goals.{In-Some, In-None}

-- eleven fibres have been before this one at most
room : (c : In-Some) → c.loop-fibre.word < 4194304
room c =
    let t = YieldsList-turn (YieldsList-from_rev_slice c.args.fibres.now cc) c.loop-fibre.yielded _ c.loop-fibre.yielded_by _ _ c.in-Some.fibre c.in-Some.is c.next.ensures.steps in
    word_room c.args.question c.loop-fibre.yielded c.loop-fibre.word
    (omega (arith, t.0, length-reverse c.args.fibres.now, c.told-fibres)) c.loop-fibre.invariant

pub overflow_mul-word : goal.overflow_mul-word
overflow_mul-word c = omega (arith, room c)

pub overflow_add-word : goal.overflow_add-word
overflow_add-word c = omega (arith, room (goal.at.overflow_add-word c).In-Some, chip_bits_lt)

all : (c : In-None) → c.loop-fibre.word ≡ chip_word c.args.question c.args.fibres.now
all c =
    let t = YieldsList-end (YieldsList-from_rev_slice c.args.fibres.now cc) c.loop-fibre.yielded _ c.loop-fibre.yielded_by _ _ c.in-None.is c.next.ensures.steps in
    c.loop-fibre.invariant ∙ so_far_all 4 (chip_bits c.args.question) c.args.fibres.now c.loop-fibre.yielded t.0

pub returns-clause-counted : goal.returns-clause-counted
returns-clause-counted c = ap ones (all c) ∙ ones_count c.args.question c.args.fibres.now

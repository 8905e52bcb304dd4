use Rattle.std.proofs.Common.{refl}
use Rattle.synch.proofs.Halves.{both_halves}
use Rattle.synch.proofs.status.status_words.Goals as goal

pub returns : goal.returns
returns c =
    both_halves c.args.header c.args.fibres.now _ _ c.pack.result c.pack-2.result c.told-fibres refl refl
    c.pack.ensures.value c.pack-2.ensures.value

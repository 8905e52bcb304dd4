use Rattle.std.proofs.Common.{arith}
use Rattle.stores.proofs.Words.{joined_here, joined_there}
use Rattle.stores.proofs.word.with_byte.Goals as goal

pub returns : goal.returns
returns c =
    record {
      here = rw c.from.ensures (joined_here c.args.word c.args.k c.args.byte c.requires (omega arith));
      there = λ j l ne. rw c.from.ensures (joined_there c.args.word c.args.k c.args.byte j c.requires (omega arith) l ne);
    }

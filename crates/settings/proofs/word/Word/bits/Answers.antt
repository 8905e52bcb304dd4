use Rattle.settings.proofs.Masks.{masked}
use Rattle.settings.proofs.word.Word.bits.Goals as goal
use Rattle.std.proofs.Common.{◌+◌, ◌-◌, ◌/◌, ◌^◌, arith}

pub returns : goal.returns
returns c = masked (c.args.self.0 / 2 ^ c.args.low) (c.args.high + 1 - c.args.low) (omega arith)

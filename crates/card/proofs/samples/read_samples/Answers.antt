use Rattle.std.proofs.Common.{refl, arith}
use Rattle.card.proofs.Fibres.{some_too_large}
use Rattle.card.proofs.Columns.{read_more, read_all}
use Rattle.card.proofs.samples.read_samples.Goals as goal

pub returns-in-None-clause-large : goal.returns-in-None-clause-large
returns-in-None-clause-large c =
    record {
      fibre = c.loop-f.f;
      lowest = some_too_large c.args.samples.now c.loop-f.f (omega arith) c.in-None.ensures c.loop-f.invariant.fit;
      says = refl;
    }

pub loop-f-preserved : goal.loop-f-preserved
loop-f-preserved c =
    read_more c.args.samples.now c.loop-f.read c.loop-f.f c.in-Some.sample (omega arith) c.loop-f.invariant c.in-Some.ensures

pub returns-clause-read : goal.returns-clause-read
returns-clause-read c = read_all c.args.samples.now c.loop-f.read c.loop-f.f (omega arith) (omega arith) c.loop-f.invariant

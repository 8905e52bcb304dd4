use Rattle.std.proofs.Common.{◌≤◌, length, drop, map, ap, arith, rules}
use Rattle.std.proofs.lemmas.List.{take_rest}
use Rattle.reader.proofs.PartLaws.{CutAt, one_record, one_fewer, both_whole}
use Rattle.reader.proofs.record.splitting.RecordsIterator.next.Goals as goal
use Rattle.reader.proofs.record.splitting.RecordsIterator.next.Goals.{After-split_at}

-- the record at the front, and what lies behind it
cut : (c : goal.After-split_at) → CutAt c.args.self.now.left.now c.split_at.result.0.now c.split_at.result.1.now c.saturating_sub-size.result
cut c =
    let xs = c.args.self.now.left.now in
    let fits : c.saturating_sub-size.result ≤ length (drop 3 xs) = rw take_rest at c.if-rest-size.false in
    record {
      header = search rules;
      size = omega (arith, c.saturating_sub-size.ensures, c.from.ensures, c.number_in.ensures);
      fits = fits;
      front = rw take_rest at c.split_at.ensures.front;
      back = rw take_rest at c.split_at.ensures.back;
    }

pub invariant_of-self : goal.invariant_of-self
invariant_of-self c =
    let at = (goal.at.invariant_of-self c).After-split_at in
    record { whole = (both_whole at.args.self.now.kind _ _ _ _ (cut at) at.args.self.now.whole).1 }

pub invariant_of-result : goal.invariant_of-result
invariant_of-result c =
    let at = (goal.at.invariant_of-result c).After-split_at in
    record { whole = (both_whole at.args.self.now.kind _ _ _ _ (cut at) at.args.self.now.whole).0 }

pub returns-clause-steps : goal.returns-clause-steps
returns-clause-steps c =
    let at = (goal.at.returns-clause-steps c).After-split_at in
    ap (map (λ x. (at.args.self.now.kind, x))) (one_record at.args.self.now.kind _ _ _ _ (cut at))

pub returns-clause-goes : goal.returns-clause-goes
returns-clause-goes c =
    let at = (goal.at.returns-clause-goes c).After-split_at in
    record { on = λ _. (tt, tt, one_fewer at.args.self.now.kind _ _ _ _ (cut at)); keeps = tt; rests = λ _. tt }

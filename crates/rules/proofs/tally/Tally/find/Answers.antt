use Rattle.std.proofs.Common.{◌≡◌, length, take, sum, ap, ◌∙◌, arith, rules}
use Rattle.std.proofs.lemmas.List.{get_or-take}
use Rattle.std.proofs.lemmas.List.Sums.{sum_by_more}
use Rattle.rules.proofs.Bins.{tallies_find, tallies_below}
use Rattle.rules.proofs.tally.Tally.find.Goals as goal

pub returns-then-position-upto-clause-found : goal.returns-then-position-upto-clause-found
returns-then-position-upto-clause-found c =
    let counts = c.args.self.now.counts in
    let bin = c.loop-bin.bin in
    let all : length counts ≡ 32 = search rules in
    let more = sum_by_more (λ n. n) counts bin 0 (omega arith) in
    λ ks t. tallies_find counts ks c.args.position bin (omega arith) t (omega arith) (omega (arith, more, get_or-take 31 counts bin 0))

pub returns-then-position-upto-clause-before : goal.returns-then-position-upto-clause-before
returns-then-position-upto-clause-before c = λ ks t. c.loop-bin.invariant.adds ∙ tallies_below c.args.self.now.counts ks c.loop-bin.bin (omega arith) t

pub loop-bin-preserved : goal.loop-bin-preserved
loop-bin-preserved c =
    let counts = c.args.self.now.counts in
    let all : length counts ≡ 32 = search rules in
    let more = sum_by_more (λ n. n) counts c.loop-bin.bin 0 (omega arith) in
    record { adds = omega (arith, more, get_or-take 31 counts c.loop-bin.bin 0); fewer = omega arith; fits = omega arith }

pub returns-clause-found : goal.returns-clause-found
returns-clause-found c =
    let counts = c.args.self.now.counts in
    let last : c.loop-bin.bin ≡ 31 = omega arith in
    let whole = c.loop-bin.invariant.adds ∙ ap (λ n. sum (take n counts)) last in
    λ ks t. tallies_find counts ks c.args.position 31 (omega arith) t (omega (arith, whole)) (omega arith)

pub returns-clause-before : goal.returns-clause-before
returns-clause-before c =
    let last : c.loop-bin.bin ≡ 31 = omega arith in
    λ ks t. c.loop-bin.invariant.adds ∙ ap (λ n. sum (take n c.args.self.now.counts)) last ∙ tallies_below c.args.self.now.counts ks 31 (omega arith) t

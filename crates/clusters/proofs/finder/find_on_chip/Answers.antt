use Rattle.std.proofs.Common.{◌+◌, [], ◌++◌, sym, ap, ◌∙◌, arith, rules}
use Rattle.std.specs.Iterator.Adapters.{enumerate_source, enumerate_count}
use Rattle.std.specs.Slice.Iter.{windows_rest, windows_size}
use Rattle.std.specs.Slice.ArrayWindows.{array_windows_parts}
use Rattle.layout.specs.Places.{spaced}
use Rattle.layout.specs.Contents.{listed}
use Rattle.clusters.specs.Clusters.{ended, chip_runs}
use Rattle.clusters.proofs.Windows.{turned, turned_last}
use Rattle.clusters.proofs.Following.{left, spaced_front, all_longer, all_ended, all_none}
use Rattle.clusters.proofs.finder.find_on_chip.Goals as goal

-- a strip that belongs lengthens the open run
pub loop-n-preserved-then-belongs : goal.loop-n-preserved-then-belongs
loop-n-preserved-then-belongs c =
    let chip = c.args.chip.now in
    let first = c.args.first in
    let n = enumerate_count c.loop-n.n-iterator in
    let s = c.loop-n.strips in
    let old = array_windows_parts (enumerate_source c.loop-n.n-iterator) in
    let new = array_windows_parts (enumerate_source c.next.new.self) in
    let (slid, at, on, _) = c.in-Some.ensures.steps in
    let (within, free, rest) = turned chip (windows_rest old) (windows_rest new) _ n (windows_size old) _ c.requires.chip c.loop-n.invariant.of_five c.loop-n.invariant.rest slid.1.0 slid.1.1 slid.1.2 (sym c.if-belongs.true ∙ c.belongs.ensures) in
    let all = all_longer (listed c.loop-n.runs) (listed c.args.runs.now ++ chip_runs first chip) chip first n s (omega arith) free c.loop-n.invariant.all in
    record {
      can = search rules;
      finite = search rules;
      of_five = slid.0 ∙ c.loop-n.invariant.of_five;
      rest = rw on rest;
      on_chip = omega arith;
      few = omega arith;
      all = rw on all;
    }

-- a strip that does not belong: the open run ends before what is left
pub end_run-requires-clause-in_place : goal.end_run-requires-clause-in_place
end_run-requires-clause-in_place c =
    let chip = c.args.chip.now in
    let first = c.args.first in
    let n = enumerate_count c.loop-n.n-iterator in
    let found = listed c.loop-n.runs in
    let old = array_windows_parts (enumerate_source c.loop-n.n-iterator) in
    let new = array_windows_parts (enumerate_source c.next.new.self) in
    let (slid, at, on, _) = c.in-Some.ensures.steps in
    let (within, free, rest) = turned chip (windows_rest old) (windows_rest new) _ n (windows_size old) _ c.requires.chip c.loop-n.invariant.of_five c.loop-n.invariant.rest slid.1.0 slid.1.1 slid.1.2 (sym c.if-belongs.false ∙ c.belongs.ensures) in
    let all = all_ended found (listed c.args.runs.now ++ chip_runs first chip) chip first n c.loop-n.strips (omega arith) free c.loop-n.invariant.all in
    rw at (spaced_front (found ++ ended (first + n) c.loop-n.strips []) (left chip first (n + 1) 0) (ap spaced all ∙ c.requires.in_place))

pub loop-n-preserved : goal.loop-n-preserved
loop-n-preserved c =
    let chip = c.args.chip.now in
    let first = c.args.first in
    let n = enumerate_count c.loop-n.n-iterator in
    let old = array_windows_parts (enumerate_source c.loop-n.n-iterator) in
    let new = array_windows_parts (enumerate_source c.next.new.self) in
    let (slid, at, on, _) = c.in-Some.ensures.steps in
    let (within, free, rest) = turned chip (windows_rest old) (windows_rest new) _ n (windows_size old) _ c.requires.chip c.loop-n.invariant.of_five c.loop-n.invariant.rest slid.1.0 slid.1.1 slid.1.2 (sym c.if-belongs.false ∙ c.belongs.ensures) in
    let all = all_ended (listed c.loop-n.runs) (listed c.args.runs.now ++ chip_runs first chip) chip first n c.loop-n.strips (omega arith) free c.loop-n.invariant.all in
    record {
      can = search rules;
      finite = search rules;
      of_five = slid.0 ∙ c.loop-n.invariant.of_five;
      rest = rw on rest;
      on_chip = omega arith;
      few = omega arith;
      all = rw (on, c.end_run.ensures, at) all;
    }

-- the chip's end ends the open run
pub end_run-requires-2-clause-in_place : goal.end_run-requires-2-clause-in_place
end_run-requires-2-clause-in_place c =
    let chip = c.args.chip.now in
    let n = enumerate_count c.loop-n.n-iterator in
    let left = array_windows_parts (enumerate_source c.loop-n.n-iterator) in
    let end = turned_last chip (windows_rest left) n (windows_size left) c.requires.chip c.loop-n.invariant.of_five c.loop-n.invariant.rest c.in-None.ensures.steps.0.1.0 c.loop-n.invariant.on_chip in
    let all = all_none (listed c.loop-n.runs) (listed c.args.runs.now ++ chip_runs c.args.first chip) chip c.args.first n 128 c.loop-n.strips c.requires.chip end c.loop-n.invariant.all in
    ap spaced all ∙ c.requires.in_place

pub returns : goal.returns
returns c =
    let chip = c.args.chip.now in
    let n = enumerate_count c.loop-n.n-iterator in
    let left = array_windows_parts (enumerate_source c.loop-n.n-iterator) in
    let end = turned_last chip (windows_rest left) n (windows_size left) c.requires.chip c.loop-n.invariant.of_five c.loop-n.invariant.rest c.in-None.ensures.steps.0.1.0 c.loop-n.invariant.on_chip in
    c.end_run-2.ensures
    ∙ all_none (listed c.loop-n.runs) (listed c.args.runs.now ++ chip_runs c.args.first chip) chip c.args.first n 128 c.loop-n.strips c.requires.chip end c.loop-n.invariant.all

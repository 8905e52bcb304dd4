use Rattle.std.proofs.Common.{◌≡◌, ◌+◌, ◌^◌, ◌<◌, length, sym, ap, ◌∙◌, arith}
use Rattle.layout.specs.PlacesLemmas.{taken, taken_is_sum}
use Rattle.layout.specs.Contents.{listed}
use Rattle.layout.specs.ContentsLemmas.{clusters_taken, runs_taken, runs_few}
use Rattle.layout.proofs.suppressed.Suppressed.length.Goals as goal

pub run_bytes-requires : goal.run_bytes-requires
run_bytes-requires c = omega (arith, ap length c.as_slice.ensures, runs_few c.args.self.now)

all_taken : (c : goal.After-run_bytes) → c.run_bytes.result ≡ taken (listed c.args.self.now.runs)
all_taken c = c.run_bytes.ensures ∙ sym (taken_is_sum c.as_slice.result.now) ∙ ap taken c.as_slice.ensures

pub overflow_add-result : goal.overflow_add-result
overflow_add-result c =
    let sum' : 4 + c.run_bytes.result < 2 ^ 64 = omega (arith, all_taken c, runs_taken c.args.self.now) in
    record { fits = sum' }

pub returns : goal.returns
returns c = omega (arith, all_taken c, clusters_taken c.args.self.now)

use Rattle.std.proofs.Common.{◌≡◌, ℕ, ◌<◌, get_or, sym, ap, ◌∙◌, arith, length-set}
use Rattle.std.proofs.lemmas.List.FromFn.{fill_by_all}
use Rattle.terms.specs.Terms.{part}
use Rattle.clusters.specs.declared.reached.Reached.{Reached}
use Rattle.clusters.specs.Patterns.{nothing}
use Rattle.strips.specs.Values.{reduced}
use Rattle.strips.specs.Fibre.{side_of, counts, reached_by, all_reached}
use Rattle.strips.proofs.Forming.{fill_more, value_is, reached_is, reached_of}
use Rattle.strips.proofs.reduced.reduce.Goals as goal

pub loop-strip-preserved : goal.loop-strip-preserved
loop-strip-preserved c =
    let s : ℕ = c.loop-strip.strip in
    let value : ℕ → ℕ = λ k. reduced (counts c.args.settings.now k) (part c.args.modes (side_of k)) (get_or c.args.flats.now.values k 0) in
    let here : c.reduced_value-value.result ≡ value s =
    value_is c.args.settings.now c.args.modes c.args.flats.now.values s c.counts-counts.result c.side_of.result c.of.result.now
    c.reduced_value-value.result c.counts-counts.ensures c.side_of.ensures c.of.ensures c.reduced_value-value.ensures
    in
    let both : ◌≡◌ {A = Reached} (record { thresh1 = c.reaches.result; thresh2 = c.reaches-in-loop-strip.result }) (reached_by c.args.settings.now (value s) s) =
    reached_is c.args.settings.now s c.counts-counts.result c.reduced_value-value.result (value s) c.reaches.result
    c.reaches-in-loop-strip.result c.counts-counts.ensures here c.reaches.ensures c.reaches-in-loop-strip.ensures
    in
    let inside : s < 256 = omega arith in (
      simp length-set c.loop-strip.invariant.0,
      simp length-set c.loop-strip.invariant.1,
      fill_more value c.loop-strip.values s 0 c.reduced_value-value.result here (omega (arith, c.loop-strip.invariant.0)) c.loop-strip.invariant.2,
      fill_more (λ k. reached_by c.args.settings.now (value k) k) c.loop-strip.reached s nothing
          (record { thresh1 = c.reaches.result; thresh2 = c.reaches-in-loop-strip.result }) both (omega (arith, c.loop-strip.invariant.1)) c.loop-strip.invariant.3,
    )

pub returns : goal.returns
returns c =
    let fibre = c.args.settings.now in
    let value : ℕ → ℕ = λ k. reduced (counts fibre k) (part c.args.modes (side_of k)) (get_or c.args.flats.now.values k 0) in
    let values = fill_by_all value c.loop-strip.values 256 0 c.loop-strip.invariant.0 (λ k h. c.loop-strip.invariant.2 k (omega arith)) in
    record {
      values = values;
      reached =
          fill_by_all (λ k. reached_by fibre (value k) k) c.loop-strip.reached 256 nothing c.loop-strip.invariant.1
          (λ k h. c.loop-strip.invariant.3 k (omega arith))
          ∙ sym (reached_of fibre value)
          ∙ ap (all_reached fibre) (sym values);
    }

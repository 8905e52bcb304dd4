use Rattle.std.proofs.Common.{◌≡◌, Some, sym, ap, ◌∙◌}
use Rattle.std.specs.Option.{option_map}
use Rattle.std.proofs.lemmas.Iterator.Consumers.{YieldsList-from_first, nth_from_yields_List}
use Rattle.terms.specs.declared.refusal.Refusal.TheVariants.{NotZeroSuppressed}
use Rattle.reader.specs.Asked.{clusters_of}
use Rattle.reader.specs.Parts.{content_of, cluster_value, clusters_left}
use Rattle.reader.specs.Questions.{ok_map}
use Rattle.reader.proofs.ItemLaws.{ok_or_some, cluster_there}
use Rattle.reader.proofs.record.Record.cluster.Goals as goal

pub returns : goal.returns
returns c =
    let left = clusters_left c.in_ok-clusters.clusters in
    let content = content_of c.args.self.now in
    let is = ok_or_some c.clusters.result NotZeroSuppressed c.in_ok-clusters.clusters c.in_ok-clusters.ensures.value in
    let some : Some left ≡ clusters_of content = sym (ap (option_map clusters_left) is) ∙ c.clusters.ensures in
    let nth = nth_from_yields_List c.nth.result c.nth.new.self c.args.index c.nth.ensures.ran (YieldsList-from_first cluster_value clusters_left left cc) in
    ap (ok_map cluster_value) c.ok_or-2.ensures.value ∙ cluster_there content left c.nth.result c.args.index some nth

use Rattle.std.proofs.Common.{refl}
use Rattle.std.proofs.lemmas.Result.{err_from_is_err_and}
use Rattle.reader.proofs.WordLaws.{suppressed_asked}
use Rattle.reader.proofs.content.read_suppressed.Goals as goal

pub returns-in_err-read_words : goal.returns-in_err-read_words
returns-in_err-read_words c =
    let p = err_from_is_err_and c.from_residual.result c.from_residual.ensures.1 in
    rw (p.1, p.2) (suppressed_asked c.args.content.at c.args.content.bytes.now _ _ c.requires c.in_err-read_words.ensures refl)

pub returns-in_err-read_clusters : goal.returns-in_err-read_clusters
returns-in_err-read_clusters c =
    let p = err_from_is_err_and c.from_residual-in_err-read_clusters.result c.from_residual-in_err-read_clusters.ensures.1 in
    let behind = c.behind.ensures in
    rw (p.1, p.2) (suppressed_asked c.args.content.at c.args.content.bytes.now _ _ c.requires c.in_ok-read_words.ensures (rw (behind.at, behind.bytes) at c.in_err-read_clusters.ensures))

pub returns : goal.returns
returns c =
    let behind = c.behind.ensures in
    suppressed_asked c.args.content.at c.args.content.bytes.now _ _ c.requires c.in_ok-read_words.ensures (rw (behind.at, behind.bytes) at c.in_ok-read_clusters.ensures)

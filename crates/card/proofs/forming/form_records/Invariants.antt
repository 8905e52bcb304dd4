use Rattle.std.proofs.Common.{◌≡◌, [], length}
use Rattle.card.proofs.Fibres.{Upto}
use Rattle.card.proofs.Formed.{formed_by}
use Rattle.card.proofs.forming.form_records.Given as goal

abbrev pub invariant-loop-f : goal.invariant-loop-f
invariant-loop-f g l =
    (length l.records ≡ 12) × Upto (formed_by (g.R.Rule.meaning l.rule) l.settings l.rows) [] l.initial.records l.f l.records

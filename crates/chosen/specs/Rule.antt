-- The meaning of a rule that is chosen as a program runs.
-- Assumes nothing.
use Rattle.rules.specs.Rules.{Meaning, rank, mean, fixed}
use Rattle.chosen.specs.declared.rule.ChosenRule.{ChosenRule}
use Rattle.chosen.specs.declared.rule.ChosenRule.TheVariants.{Rank, Mean, Fixed}

-- that of the rule chosen
abbrev pub chosen : ChosenRule → Meaning
chosen Rank = rank
chosen Mean = mean
chosen (Fixed f) = fixed f.numbers

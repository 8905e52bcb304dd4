use Rattle.std.proofs.Common.{min, get_or}
use Rattle.rules.proofs.Shifting.{still_lacks}
use Rattle.rules.proofs.laws.fixed_lacks_the_law.Goals as goal

pub returns : goal.returns
returns c = (λ numbers. still_lacks (λ chip setting. min (get_or numbers chip 0) 1023), still_lacks)

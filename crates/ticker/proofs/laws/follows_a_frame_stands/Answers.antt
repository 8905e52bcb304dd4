use Rattle.ticker.proofs.Follows.{follows_a_frame}
use Rattle.ticker.proofs.Hears.{hears_a_frame}
use Rattle.ticker.proofs.laws.follows_a_frame_stands.Goals as goal

pub returns : goal.returns
returns c = record { follows = follows_a_frame; hears = hears_a_frame }

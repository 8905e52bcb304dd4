use Rattle.synch.proofs.Voters.{agreed_header, only_voters_count}
use Rattle.synch.proofs.laws.majority_header_stands.Goals as goal

pub returns : goal.returns
returns c = record { agreed = agreed_header; voters = only_voters_count }

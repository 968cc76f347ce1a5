use Rattle.reading.proofs.Parities.{parity_sums}
use Rattle.reading.proofs.parity_sums.Goals as goal

pub returns : goal.returns
returns c = parity_sums

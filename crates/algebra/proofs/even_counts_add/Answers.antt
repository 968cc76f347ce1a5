use Rattle.algebra.proofs.Parity.{odd_counts, even_counts}
use Rattle.algebra.proofs.even_counts_add.Goals as goal

pub returns : goal.returns
returns g c = record { parity = odd_counts _; sums = even_counts _ }

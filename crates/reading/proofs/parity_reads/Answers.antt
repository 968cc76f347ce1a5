use Rattle.reading.proofs.Parities.{parity_reads}
use Rattle.reading.proofs.parity_reads.Goals as goal

pub returns : goal.returns
returns c = parity_reads

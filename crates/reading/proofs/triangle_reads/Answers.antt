use Rattle.reading.proofs.Example.{triangle_reads}
use Rattle.reading.proofs.triangle_reads.Goals as goal

pub returns : goal.returns
returns c = triangle_reads

use Rattle.region.proofs.Linings.{check_reads}
use Rattle.region.proofs.lines.check_reads.Goals as goal

pub returns : goal.returns
returns c = check_reads

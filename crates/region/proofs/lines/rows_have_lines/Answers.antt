use Rattle.region.proofs.Linings.{rows_have_lines}
use Rattle.region.proofs.lines.rows_have_lines.Goals as goal

pub returns : goal.returns
returns c = rows_have_lines

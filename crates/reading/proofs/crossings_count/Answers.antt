use Rattle.reading.proofs.Crossings.{crossings_count}
use Rattle.reading.proofs.crossings_count.Goals as goal

pub returns : goal.returns
returns c = crossings_count

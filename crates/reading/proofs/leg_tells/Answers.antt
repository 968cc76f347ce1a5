use Rattle.reading.proofs.Parities.{leg_tells}
use Rattle.reading.proofs.leg_tells.Goals as goal

pub returns : goal.returns
returns c = leg_tells

use Rattle.faces.proofs.Parity.{below_tells}
use Rattle.faces.proofs.below_tells.Goals as goal

pub returns : goal.returns
returns c = below_tells

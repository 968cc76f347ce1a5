use Rattle.faces.proofs.Corners.{left_never_missing}
use Rattle.faces.proofs.left_never_missing.Goals as goal

pub returns : goal.returns
returns c = left_never_missing

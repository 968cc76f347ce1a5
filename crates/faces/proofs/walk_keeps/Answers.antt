use Rattle.faces.proofs.Walks.{walk_keeps}
use Rattle.faces.proofs.walk_keeps.Goals as goal

pub returns : goal.returns
returns c = walk_keeps

use Rattle.faces.proofs.Example.{apart_stays_apart}
use Rattle.faces.proofs.apart_stays_apart.Goals as goal

pub returns : goal.returns
returns c = apart_stays_apart

use Rattle.region.proofs.Verdicts.{accepts}
use Rattle.region.proofs.checking.check_accepts.Goals as goal

pub returns : goal.returns
returns c = accepts

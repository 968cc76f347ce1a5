use Rattle.encoding.proofs.Back.{back}
use Rattle.encoding.proofs.Only.{only}
use Rattle.encoding.proofs.inverse.reading_inverts_writing.Goals as goal

pub returns : goal.returns
returns c = record { back = back; only = only }

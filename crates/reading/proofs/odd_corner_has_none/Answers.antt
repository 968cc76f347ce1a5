use Rattle.reading.proofs.Unclosed.{odd_corner_has_none}
use Rattle.reading.proofs.odd_corner_has_none.Goals as goal

pub returns : goal.returns
returns c = odd_corner_has_none

use Rattle.std.proofs.Common.{◌∙◌, rules}
use Rattle.storage.proofs.Shift.{moved_opposite}
use Rattle.storage.proofs.shifted.Offset.moved_back.Goals as goal

pub returns : goal.returns
returns c = c.moved.ensures ∙ moved_opposite c.args.self.dx c.args.self.dy _ _ c.args.row (search rules) (search rules) c.opposite.ensures.x c.opposite.ensures.y

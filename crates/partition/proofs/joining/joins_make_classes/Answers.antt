-- The theorem on joins.
use Rattle.partition.proofs.Classes.{classes}
use Rattle.partition.proofs.joining.joins_make_classes.Goals as goal

pub returns : goal.returns
returns c = classes

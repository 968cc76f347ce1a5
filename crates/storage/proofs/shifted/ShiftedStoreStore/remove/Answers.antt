use Rattle.storage.specs.Shift.{moved}
use Rattle.storage.proofs.Shift.{remove_moved}
use Rattle.storage.proofs.shifted.ShiftedStoreStore.remove.Goals as goal

pub returns-clause-changed : goal.returns-clause-changed
returns-clause-changed g c = remove_moved (moved c.args.self.now.offset.dx c.args.self.now.offset.dy) _ _ c.args.i _ c.remove.ensures.changed

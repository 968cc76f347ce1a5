use Rattle.std.proofs.Common.{ap, ◌∙◌, rules}
use Rattle.storage.specs.Layout.{Fits32}
use Rattle.storage.specs.Shift.{moved}
use Rattle.storage.proofs.Shift.{insert_moved, there_and_back}
use Rattle.storage.proofs.shifted.ShiftedStoreStore.insert.Goals as goal

pub returns-clause-changed : goal.returns-clause-changed
returns-clause-changed g c =
    let o = c.args.self.now.offset in
    let fits : Fits32 c.args.row = record { cx = search rules; cy = search rules; fx = search rules; fy = search rules } in
    let back = ap (moved o.dx o.dy) c.moved_back.ensures ∙ there_and_back o.dx o.dy c.args.row fits in
    insert_moved (moved o.dx o.dy) _ _ _ c.args.i c.args.row c.moved_back.result _ back c.insert.ensures.changed

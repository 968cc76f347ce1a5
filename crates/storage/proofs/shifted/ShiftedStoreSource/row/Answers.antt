use Rattle.std.proofs.Common.{Ok, ap, ◌∙◌}
use Rattle.std.proofs.lemmas.Result.{err_from_is_err_and}
use Rattle.storage.specs.Shift.{moved}
use Rattle.storage.proofs.Shift.{row_at_ok, row_at_err}
use Rattle.storage.proofs.shifted.ShiftedStoreSource.row.Goals as goal

pub returns-in_err-row : goal.returns-in_err-row
returns-in_err-row g c =
    let p = err_from_is_err_and c.from_residual.result c.from_residual.ensures.1 in
    rw (p.1, p.2) (row_at_err (moved c.args.self.now.offset.dx c.args.self.now.offset.dy) _ c.args.i _ c.in_err-row.ensures)

pub returns : goal.returns
returns g c = ap Ok c.moved.ensures ∙ row_at_ok (moved c.args.self.now.offset.dx c.args.self.now.offset.dy) _ c.args.i _ c.in_ok-row.ensures

use Rattle.archive.proofs.PlanPlaces.{row_read}
use Rattle.archive.proofs.views.PlanViewSource.row.Goals as goal

pub returns : goal.returns
returns c = row_read c.args.self.now.bytes.now c.args.i _ _ c.row_at.ensures c.ok_or.ensures.value

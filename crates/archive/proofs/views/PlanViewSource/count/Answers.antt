use Rattle.std.proofs.Common.{sym}
use Rattle.storage.proofs.RowBytes.{length_rows_of}
use Rattle.archive.proofs.views.PlanViewSource.count.Goals as goal

pub returns : goal.returns
returns c = sym (length_rows_of c.args.self.now.bytes.now)

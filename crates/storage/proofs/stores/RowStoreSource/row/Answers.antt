use Rattle.std.proofs.Common.{sym, arith}
use Rattle.storage.specs.Entries.{entries}
use Rattle.storage.proofs.RowLists.{row_at_out}
use Rattle.storage.proofs.Blocks.{length_entries}
use Rattle.storage.proofs.Placed.{row_read}
use Rattle.storage.proofs.stores.RowStoreSource.row.Goals as goal

pub returns-then-i-len : goal.returns-then-i-len
returns-then-i-len g c =
    let s = c.args.self.now.kept in
    sym (row_at_out _ c.args.i (omega (arith, g.met.E.Entry.layout.count (entries s) s.count (length_entries s))))

pub returns : goal.returns
returns g c =
    let s = c.args.self.now.kept in
    row_read g.row.N g.E.Entry.rows_of g.E.Entry.entries_of g.met.E.Entry.layout (entries s) s.count (length_entries s) c.args.i c.row.result (omega arith) c.row.ensures

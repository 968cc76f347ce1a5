use Rattle.std.proofs.Common.{arith}
use Rattle.storage.specs.Entries.{entries}
use Rattle.storage.proofs.RowLists.{remove_stands}
use Rattle.storage.proofs.Blocks.{length_entries}
use Rattle.storage.proofs.Placed.{row_removed}
use Rattle.storage.proofs.stores.RowStoreStore.remove.Goals as goal

pub returns-clause-changed : goal.returns-clause-changed
returns-clause-changed g c =
    let s = c.args.self.now.kept in
    let laws = g.met.E.Entry.layout in
    let count = laws.count (entries s) s.count (length_entries s) in
    let stands = row_removed g.row.N g.E.Entry.rows_of g.E.Entry.entries_of laws (entries s) s.count (length_entries s) c.args.i (entries c.remove.new.self) (omega arith) c.remove.ensures.entries in
    remove_stands _ _ c.args.i (omega arith) stands

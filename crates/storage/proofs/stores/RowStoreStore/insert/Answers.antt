use Rattle.std.proofs.Common.{arith, rules}
use Rattle.storage.specs.Entries.{entries}
use Rattle.storage.specs.Layout.{Fits32}
use Rattle.storage.proofs.RowLists.{insert_stands}
use Rattle.storage.proofs.Blocks.{length_entries}
use Rattle.storage.proofs.Placed.{row_inserted}
use Rattle.storage.proofs.stores.RowStoreStore.insert.Goals as goal

pub returns-clause-changed : goal.returns-clause-changed
returns-clause-changed g c =
    let s = c.args.self.now.kept in
    let laws = g.met.E.Entry.layout in
    let count = laws.count (entries s) s.count (length_entries s) in
    let fits : Fits32 c.args.row = record { cx = search rules; cy = search rules; fx = search rules; fy = search rules } in
    let stands = row_inserted g.row.N g.E.Entry.rows_of g.E.Entry.entries_of laws (entries s) s.count (length_entries s) c.args.i (entries c.insert.new.self) c.args.row fits (omega arith) c.insert.ensures.entries in
    insert_stands _ _ _ c.args.i c.args.row (omega arith) (omega arith) stands

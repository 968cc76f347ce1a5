use Rattle.std.proofs.Common.{refl}
use Rattle.storage.proofs.Blocks.{block_put}
use Rattle.storage.proofs.kept.Kept.insert.Goals as goal

pub returns-clause-entries : goal.returns-clause-entries
returns-clause-entries g c =
    let s = c.args.self.now in
    (block_put g.row.N s.items.now s.limit s.count c.args.i s.within s.fits _ c.open_gap.new.items c.write.new.entries (g.met.E.Entry.layout.width c.args.row) c.requires.0 c.requires.1 c.open_gap.ensures c.write.ensures).entries

pub returns-clause-memory : goal.returns-clause-memory
returns-clause-memory g c =
    let s = c.args.self.now in
    record {
      limit = refl;
      whole = (block_put g.row.N s.items.now s.limit s.count c.args.i s.within s.fits _ c.open_gap.new.items c.write.new.entries (g.met.E.Entry.layout.width c.args.row) c.requires.0 c.requires.1 c.open_gap.ensures c.write.ensures).whole;
      lender = refl;
    }

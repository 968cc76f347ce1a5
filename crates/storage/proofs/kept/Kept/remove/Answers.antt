use Rattle.std.proofs.Common.{refl}
use Rattle.storage.proofs.Blocks.{block_taken}
use Rattle.storage.proofs.kept.Kept.remove.Goals as goal

pub returns-clause-entries : goal.returns-clause-entries
returns-clause-entries g c =
    let s = c.args.self.now in
    (block_taken g.row.N s.items.now s.limit s.count c.args.i s.within s.fits c.close_gap.new.items c.requires c.close_gap.ensures).entries

pub returns-clause-memory : goal.returns-clause-memory
returns-clause-memory g c =
    let s = c.args.self.now in
    record {
      limit = refl;
      whole = (block_taken g.row.N s.items.now s.limit s.count c.args.i s.within s.fits c.close_gap.new.items c.requires c.close_gap.ensures).whole;
      lender = refl;
    }

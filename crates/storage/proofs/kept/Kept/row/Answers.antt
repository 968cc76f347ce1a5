use Rattle.std.proofs.Common.{ap, sym, ◌∙◌}
use Rattle.storage.proofs.Blocks.{block_read}
use Rattle.storage.proofs.kept.Kept.row.Goals as goal

pub returns : goal.returns
returns g c =
    let s = c.args.self.now in
    ap g.E.Entry.rows_of (sym (block_read g.row.N s.items.now s.limit s.count c.args.i s.within s.fits c.requires)) ∙ c.read.ensures

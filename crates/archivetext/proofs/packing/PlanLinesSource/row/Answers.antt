use Rattle.std.proofs.Common.{ap, ◌∙◌}
use Rattle.std.specs.Option.{ok_or}
use Rattle.storage.specs.Rows.{row_at, no_such_place}
use Rattle.archivetext.proofs.Misses.{row_kept, kept_within}
use Rattle.archivetext.proofs.packing.PlanLinesSource.row.Goals as goal

pub returns : goal.returns
returns c =
    let is = c.get.ensures.lookup in
    c.ok_or.ensures.value ∙ ap (λ o. ok_or o no_such_place) c.copied.ensures ∙ row_kept c.deref.result.now c.args.i c.get.result is.1 (kept_within _ c.args.i c.get.result _ is.3) ∙ ap (λ rows. row_at rows c.args.i) c.deref.ensures.value

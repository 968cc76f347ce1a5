use Rattle.std.proofs.Common.{cond, Some, None, sym, ap, ◌∙◌}
use Rattle.std.specs.declared.cmp.Ordering.TheVariants.{Equal}
use Rattle.plane.specs.RowLaws.{equal_rows}
use Rattle.plane.proofs.order.compare_unfit.Goals as goal

pub returns-then-eq : goal.returns-then-eq
returns-then-eq c =
    sym (ap (λ s. cond s (Some Equal) None) (sym (equal_rows c.args.g.now c.args.h.now) ∙ sym c.eq.ensures ∙ c.if-eq.true))

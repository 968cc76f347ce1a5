use Rattle.std.proofs.Common.{pos, ap, ◌∙◌, rules}
use Rattle.std.specs.Ordering.{int_cmp}
use Rattle.plane.proofs.Bounds.{fit_ends}
use Rattle.plane.proofs.Steps.{back}
use Rattle.plane.proofs.order.FitHalfsegment.compare_turns.Goals as goal

pub returns : goal.returns
returns c =
    let g = fit_ends c.args.self.row c.args.self.is_fit in
    let h = fit_ends c.args.other.row c.args.other.is_fit in
    c.cmp.ensures ∙ ap (int_cmp (pos 0)) (back _ _ (search rules) (c.orientation-turn.ensures.exact g.1 h.1 g.0))

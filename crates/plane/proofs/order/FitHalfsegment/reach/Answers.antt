use Rattle.std.proofs.Common.{w64, to_z, of_z, rules}
use Rattle.plane.proofs.Steps.{back}
use Rattle.plane.proofs.Bounds.{difference_is, Reached, reached}
use Rattle.plane.proofs.order.FitHalfsegment.reach.Goals as goal

parts : (c : goal.After-difference-up) → Reached c.args.self.row (to_z w64 (of_z w64 c.difference-across.result)) (to_z w64 (of_z w64 c.difference-up.result))
parts c =
    let h = c.args.self.row in
    reached h c.args.self.is_fit _ _
    (back _ _ (search rules) (difference_is c.difference-across.result h.far.x h.dominating.x (search rules) (search rules) c.difference-across.ensures))
    (back _ _ (search rules) (difference_is c.difference-up.result h.far.y h.dominating.y (search rules) (search rules) c.difference-up.ensures))

pub overflow_mul-result : goal.overflow_mul-result
overflow_mul-result c = (parts c).x_fits

pub overflow_mul-result-2 : goal.overflow_mul-result-2
overflow_mul-result-2 c = (parts c).y_fits

pub overflow_add-result : goal.overflow_add-result
overflow_add-result c = (parts c).sum_fits

pub returns : goal.returns
returns c = (parts c).sum

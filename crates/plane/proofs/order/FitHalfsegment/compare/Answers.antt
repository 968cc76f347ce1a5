use Rattle.std.proofs.Common.{pos, rules, tests}
use Rattle.std.specs.Ordering.{bool_cmp, int_cmp}
use Rattle.plane.specs.Points.{orientation}
use Rattle.plane.specs.Rows.{left, reach}
use Rattle.plane.proofs.Comparing.{steps_compare, next_step}
use Rattle.plane.proofs.order.FitHalfsegment.compare.Goals as goal

pub returns : goal.returns
returns c =
    let g = c.args.self.row in
    let h = c.args.other.row in
    let sides = next_step c.cmp.result c.then_with.result (bool_cmp (left g) (left h)) c.then_with.ensures (λ q. search (rules, tests)) in
    let turns = next_step c.then_with.result c.then_with-2.result (int_cmp (pos 0) (orientation g.far h.far g.dominating)) c.then_with-2.ensures (λ q. search (rules, tests)) in
    let lengths = next_step c.then_with-2.result c.then_with-3.result (int_cmp (reach g) (reach h)) c.then_with-3.ensures (λ q. search (rules, tests)) in
    let said = steps_compare g h c.args.self.is_fit c.args.other.is_fit in
    cc

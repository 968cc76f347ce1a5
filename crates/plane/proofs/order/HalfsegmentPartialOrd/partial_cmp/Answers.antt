use Rattle.std.proofs.Common.{◌∙◌}
use Rattle.std.proofs.lemmas.Bool.{and_left}
use Rattle.plane.specs.Rows.{fit}
use Rattle.plane.proofs.Comparing.{unfit}
use Rattle.plane.proofs.order.HalfsegmentPartialOrd.partial_cmp.Goals as goal

pub returns-in_default : goal.returns-in_default
returns-in_default c =
    let g = c.args.self.now in
    let h = c.args.other.now in
    c.compare_unfit.ensures ∙ unfit g h (and_left (fit g) (fit h) c.in_default.ensures)

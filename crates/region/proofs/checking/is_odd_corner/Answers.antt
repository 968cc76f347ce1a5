use Rattle.std.proofs.Common.{false, ◌∙◌, rules, tests}
use Rattle.std.specs.List.{between}
use Rattle.std.proofs.lemmas.Iterator.Consumers.{YieldsList-from_first, fold_from_yields_List}
use Rattle.algebra.specs.Parity.{differ}
use Rattle.algebra.proofs.Parity.{odd_counts}
use Rattle.plane.specs.declared.halfsegment.Halfsegment.{Halfsegment}
use Rattle.plane.specs.Points.{same_point}
use Rattle.region.proofs.Passes.{turned_odd}
use Rattle.region.proofs.checking.is_odd_corner.Goals as goal

pub returns : goal.returns
returns g c =
    let rows = g.S.Source.rows c.args.s.now in
    fold_from_yields_List _ (λ b h. differ b (same_point h.dominating c.args.v)) false c.fold.result c.fold.ensures.ran
    (YieldsList-from_first (λ x. x) (λ s. between s.places.start s.places.end (g.S.Source.rows s.source.now)) rows c.of.ensures.rows)
    (λ a x b q k. search (rules, tests))
    ∙ turned_odd (λ h. same_point h.dominating c.args.v) false rows
    ∙ odd_counts Halfsegment (λ h. same_point h.dominating c.args.v) rows

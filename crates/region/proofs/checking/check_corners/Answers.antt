use Rattle.std.proofs.Common.{rules, tests}
use Rattle.std.specs.List.{between}
use Rattle.std.proofs.lemmas.Iterator.Consumers.{YieldsList-from_first}
use Rattle.std.proofs.lemmas.Iterator.Search.{find_from_yields_List}
use Rattle.algebra.specs.Parity.{odd}
use Rattle.region.specs.declared.refusals.CheckRefusal.TheVariants.{Unclosed}
use Rattle.region.specs.Plans.{degree}
use Rattle.region.proofs.Passes.{find_is}
use Rattle.region.proofs.checking.check_corners.Goals as goal

pub returns : goal.returns
returns g c =
    let rows = g.S.Source.rows c.args.s.now in
    find_is rows (λ h. odd (degree rows h.dominating)) (λ h. Unclosed h.dominating) c.find.result c.map_or.result
    (find_from_yields_List (λ h. odd (degree rows h.dominating)) c.find.new.self _ c.find.result c.find.ensures.ran
    (YieldsList-from_first (λ x. x) (λ s. between s.places.start s.places.end (g.S.Source.rows s.source.now)) rows c.of.ensures.rows)
    (λ x b q k. search (rules, tests)))
    (search rules)

use Rattle.std.proofs.Common.{drop, not, ◌&&◌, refl, rules, tests}
use Rattle.std.specs.List.{between}
use Rattle.std.proofs.lemmas.Iterator.{YieldsList-from_zip}
use Rattle.std.proofs.lemmas.Iterator.Consumers.{YieldsList-from_first, YieldsList-at}
use Rattle.std.proofs.lemmas.Iterator.Search.{position_from_yields_List}
use Rattle.plane.specs.Rows.{comes_before, fit}
use Rattle.plane.specs.RowLaws.{row_before}
use Rattle.region.proofs.Passes.{order_is}
use Rattle.region.proofs.checking.check_order.Goals as goal

pub returns : goal.returns
returns g c =
    let rows = g.S.Source.rows c.args.s.now in
    order_is rows c.requires (λ p. not (fit p.0 && (fit p.1 && comes_before p.0 p.1))) (λ p. refl) c.position.result c.map_or.result
    (position_from_yields_List (λ p. not (fit p.0 && (fit p.1 && comes_before p.0 p.1))) c.position.new.self _ _ c.position.ensures.ran
    (YieldsList-from_zip
    (YieldsList-at c.zip-neighbours.ensures.first (YieldsList-from_first (λ x. x) (λ s. between s.places.start s.places.end (g.S.Source.rows s.source.now)) rows c.from_place.ensures.rows))
    (YieldsList-at c.zip-neighbours.ensures.second (YieldsList-from_first (λ x. x) (λ s. between s.places.start s.places.end (g.S.Source.rows s.source.now)) (drop 1 rows) c.from_place-2.ensures.rows)))
    (λ x b q k. search (rules, tests, row_before)))
    (search rules)

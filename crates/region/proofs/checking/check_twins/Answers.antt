use Rattle.std.proofs.Common.{not, refl, ap, ◌∙◌, rules, tests}
use Rattle.std.specs.List.{between}
use Rattle.std.proofs.lemmas.Iterator.Consumers.{YieldsList-from_first}
use Rattle.std.proofs.lemmas.Iterator.Search.{position_from_yields_List}
use Rattle.plane.specs.Rows.{twin}
use Rattle.region.specs.declared.refusals.CheckRefusal.TheVariants.{NoTwin}
use Rattle.region.specs.Check.{no_row, refused_at, stands, twinless}
use Rattle.region.proofs.Passes.{position_is, refused_is}
use Rattle.region.proofs.checking.check_twins.Goals as goal

pub returns : goal.returns
returns g c =
    let rows = g.S.Source.rows c.args.s.now in
    refused_is c.position.result NoTwin c.map_or.result (search rules)
    ∙ ap (λ o. refused_at o NoTwin)
    (position_from_yields_List (λ h. not (stands rows (twin h))) c.position.new.self _ _ c.position.ensures.ran
    (YieldsList-from_first (λ x. x) (λ s. between s.places.start s.places.end (g.S.Source.rows s.source.now)) _ c.of.ensures.rows)
    (λ x b q k. search (rules, tests))
    ∙ position_is (λ h. not (stands rows (twin h))) rows no_row (twinless rows) (λ k l. refl))

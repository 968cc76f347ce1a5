use Rattle.std.proofs.Common.{◌∙◌, rules, tests}
use Rattle.std.specs.List.{between}
use Rattle.std.proofs.lemmas.Iterator.Consumers.{YieldsList-from_first}
use Rattle.std.proofs.lemmas.Iterator.Search.{any_from_yields_List}
use Rattle.plane.specs.Rows.{same_row}
use Rattle.plane.specs.RowLaws.{equal_rows}
use Rattle.region.proofs.Passes.{any_is}
use Rattle.region.proofs.checking.has_row.Goals as goal

pub returns : goal.returns
returns g c =
    any_from_yields_List (λ r. same_row r c.args.h) c.any.new.self _ _ c.any.ensures.ran
    (YieldsList-from_first (λ x. x) (λ s. between s.places.start s.places.end (g.S.Source.rows s.source.now)) _ c.of.ensures.rows)
    (λ x b q k. search (rules, tests, equal_rows))
    ∙ any_is (λ r. same_row r c.args.h) (g.S.Source.rows c.args.s.now)

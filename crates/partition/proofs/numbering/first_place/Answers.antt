-- The search for a code finds its first place, or the end.
use Rattle.std.proofs.Common.{◌∙◌, rules, tests}
use Rattle.std.proofs.lemmas.Iterator.{YieldsList-from_slice}
use Rattle.std.proofs.lemmas.Iterator.Search.{position_from_yields_List}
use Rattle.partition.proofs.Places.{has_code, place_found}
use Rattle.partition.proofs.numbering.first_place.Goals as goal

pub returns : goal.returns
returns g c =
    let xs = c.args.labels.now in
    let code = g.T.Coded.code in
    c.unwrap_or.ensures ∙ place_found code c.args.c xs c.position.result (position_from_yields_List (has_code code c.args.c xs) _ _ _ c.position.ensures.ran (YieldsList-from_slice xs cc) (λ x b q k. search (rules, tests)))

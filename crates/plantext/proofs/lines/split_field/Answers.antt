use Rattle.std.proofs.Common.{◌≡◌, Some, None, cond, eqb, ltb, length, rules, tests, sym, ◌∙◌}
use Rattle.std.proofs.lemmas.Iterator.{YieldsList-from_slice}
use Rattle.std.proofs.lemmas.Iterator.Search.{position_from_yields_List}
use Rattle.plantext.proofs.Fields.{first_space, cut_none, cut_some}
use Rattle.plantext.proofs.lines.split_field.Goals as goal
use Rattle.plantext.proofs.lines.split_field.Goals.{After-position}

found : (c : After-position) → c.position.result ≡ cond (ltb (first_space c.args.line.now) (length c.args.line.now)) (Some (first_space c.args.line.now)) None
found c =
    position_from_yields_List (λ b. eqb b 32) _ _ c.position.result c.position.ensures.ran (YieldsList-from_slice c.args.line.now c.iter.ensures.rest) (λ x b q k. search (rules, tests))

pub returns-in_default : goal.returns-in_default
returns-in_default c =
    let p = goal.at.returns-in_default c in
    cut_none c.args.line.now (sym c.in_default.is ∙ found p.After-position)

pub returns : goal.returns
returns c =
    let p = goal.at.returns c in
    cut_some c.args.line.now c.in-Some.len (sym c.in-Some.is ∙ found p.After-position)

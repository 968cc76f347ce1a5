-- The first line feed, or none.
use Rattle.std.proofs.Common.{◌≡◌, Some, None, cond, eqb, ltb, length, arith, rules, tests}
use Rattle.std.specs.List.{position_or_len}
use Rattle.std.proofs.lemmas.Iterator.{YieldsList-from_slice}
use Rattle.std.proofs.lemmas.Iterator.Search.{position_from_yields_List}
use Rattle.archivetext.proofs.Steps.{cut_none, cut_some}
use Rattle.archivetext.proofs.splitting.Lines.first.Goals as goal
use Rattle.archivetext.proofs.splitting.Lines.first.Goals.{After-position}

found : (c : After-position) → c.position.result ≡ cond (ltb (position_or_len (λ b. eqb b 10) c.args.self.rest.now) (length c.args.self.rest.now)) (Some (position_or_len (λ b. eqb b 10) c.args.self.rest.now)) None
found c =
    position_from_yields_List (λ b. eqb b 10) _ _ c.position.result c.position.ensures.ran (YieldsList-from_slice c.args.self.rest.now c.iter.ensures.rest) (λ x b q k. search (rules, tests))

pub returns-in_err-len : goal.returns-in_err-len
returns-in_err-len c =
    let p = goal.at.returns-in_err-len c in
    let none = cut_none c.args.self.rest.now c.position.result (found p.After-position) c.in_err-len.was in
    rw c.from_residual.ensures none

pub returns : goal.returns
returns c =
    let p = goal.at.returns c in
    let some = cut_some c.args.self.rest.now c.split_at.result.0.now c.split_at.result.1.now c.position.result c.in_ok-len.len (found p.After-position) c.in_ok-len.was c.split_at.ensures.front c.split_at.ensures.back in
    (some.0, omega arith, some.1)

use Rattle.std.proofs.Common.{ap, length, arith, rules}
use Rattle.storage.proofs.RowLists.{row_first, no_first}
use Rattle.storage.proofs.rows.RowsIterator.next.Goals as goal

pub returns-in_default-clause-steps : goal.returns-in_default-clause-steps
returns-in_default-clause-steps g c =
    let places = c.args.self.now.places in
    no_first (g.S.Source.rows c.args.self.now.source.now) places.start places.end c.in_ok-place.place c.next.new.self.start c.next.new.self.end _ c.in_ok-place.ensures.steps c.in_default.ensures

pub returns-clause-steps : goal.returns-clause-steps
returns-clause-steps g c =
    let places = c.args.self.now.places in
    row_first (g.S.Source.rows c.args.self.now.source.now) places.start places.end c.in_ok-place.place c.next.new.self.start c.next.new.self.end _ c.in_ok-place.ensures.steps c.in-Ok.ensures

pub returns-clause-goes : goal.returns-clause-goes
returns-clause-goes g c =
    let fewer = ap length (returns-clause-steps g c) in
    record { on = λ _. (search rules, search rules, omega (arith, fewer)); keeps = search rules; rests = search rules }

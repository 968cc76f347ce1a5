use Rattle.std.proofs.Common.{◌≡◌, [], ◌∷◌, List, length, Ok, refl, arith}
use Rattle.std.proofs.lemmas.Result.{err_from_is_err_and}
use Rattle.plane.specs.declared.halfsegment.Halfsegment.{Halfsegment}
use Rattle.region.specs.Verdict.{Verdict}
use Rattle.region.proofs.Verdicts.{each_fits, order_rises, twins_there, by_each, by_order, by_twins, by_meetings, by_corners}
use Rattle.region.proofs.checking.check.Goals as goal

-- where there are no rows, no pass finds anything
no_rows : (rows : List Halfsegment) → length rows ≡ 0 → Verdict rows (Ok tt)
no_rows [] e = (by_corners [] (Ok tt) refl refl refl refl refl).1
no_rows (h ∷ rows) e = absurd (omega (arith, e))

pub returns-then-count-eq0-clause-verdict : goal.returns-then-count-eq0-clause-verdict
returns-then-count-eq0-clause-verdict g c = no_rows (g.S.Source.rows c.args.s.now) (omega (arith, c.count.ensures, c.if-count-eq0.true))

pub returns-in_err-check_each : goal.returns-in_err-check_each
returns-in_err-check_each g c =
    let p = err_from_is_err_and c.from_residual.result c.from_residual.ensures.1 in
    let a = by_each (g.S.Source.rows c.args.s.now) _ c.in_err-check_each.ensures in
    rw (p.1, p.2) record { answer = a.0; verdict = a.1 }

pub check_order-requires : goal.check_order-requires
check_order-requires g c = each_fits (g.S.Source.rows c.args.s.now) c.in_ok-check_each.ensures

pub returns-in_err-check_order : goal.returns-in_err-check_order
returns-in_err-check_order g c =
    let p = err_from_is_err_and c.from_residual-in_err-check_order.result c.from_residual-in_err-check_order.ensures.1 in
    let a = by_order (g.S.Source.rows c.args.s.now) _ c.in_ok-check_each.ensures c.in_err-check_order.ensures in
    rw (p.1, p.2) record { answer = a.0; verdict = a.1 }

pub returns-in_err-check_twins : goal.returns-in_err-check_twins
returns-in_err-check_twins g c =
    let p = err_from_is_err_and c.from_residual-in_err-check_twins.result c.from_residual-in_err-check_twins.ensures.1 in
    let a = by_twins (g.S.Source.rows c.args.s.now) _ c.in_ok-check_each.ensures c.in_ok-check_order.ensures c.in_err-check_twins.ensures in
    rw (p.1, p.2) record { answer = a.0; verdict = a.1 }

pub check_meetings-requires : goal.check_meetings-requires
check_meetings-requires g c =
    let rows = g.S.Source.rows c.args.s.now in
    let fits = each_fits rows c.in_ok-check_each.ensures in
    let rising = order_rises rows fits c.in_ok-check_order.ensures in
    record { fits = fits; rising = rising; twins = twins_there rows fits rising c.in_ok-check_twins.ensures }

pub returns-in_err-check_meetings : goal.returns-in_err-check_meetings
returns-in_err-check_meetings g c =
    let p = err_from_is_err_and c.from_residual-in_err-check_meetings.result c.from_residual-in_err-check_meetings.ensures.1 in
    let a = by_meetings (g.S.Source.rows c.args.s.now) _ c.in_ok-check_each.ensures c.in_ok-check_order.ensures c.in_ok-check_twins.ensures c.in_err-check_meetings.ensures in
    rw (p.1, p.2) record { answer = a.0; verdict = a.1 }

pub returns : goal.returns
returns g c =
    let a = by_corners (g.S.Source.rows c.args.s.now) c.check_corners.result c.in_ok-check_each.ensures c.in_ok-check_order.ensures c.in_ok-check_twins.ensures c.in_ok-check_meetings.ensures c.check_corners.ensures in
    record { answer = a.0; verdict = a.1 }

use Rattle.std.proofs.Common.{◌≡◌, Err, drop, sym, ap, ◌∙◌, rules}
use Rattle.std.proofs.lemmas.Result.{err_from_is_err_and}
use Rattle.region.specs.Check.{placed}
use Rattle.region.proofs.Passes.{front, placed_is, each_more, each_found, each_none}
use Rattle.region.proofs.checking.check_each.Goals as goal

pub loop-i-preserved : goal.loop-i-preserved
loop-i-preserved g c =
    let s = c.in-Some.ensures.steps in
    let here = front (g.S.Source.rows c.args.s.now) c.loop-i.i-iterator.count c.in-Some.h _ (sym c.loop-i.invariant.0 ∙ s.0) in
    let at : c.map_err.result ≡ placed c.in-Some.i c.test_row.result = placed_is c.in-Some.i c.test_row.result c.map_err.result (search rules) in (
      sym here.rest ∙ ap (λ n. drop n (g.S.Source.rows c.args.s.now)) (sym s.2),
      λ k l. each_more (g.S.Source.rows c.args.s.now) c.loop-i.i-iterator.count c.in-Some.h _ here (sym c.in_ok-map_err.was ∙ at ∙ (λ i. placed (s.1 i) (c.test_row.ensures i))) c.loop-i.invariant.1 k (rw s.2 at l),
    )

pub returns-in_err-map_err : goal.returns-in_err-map_err
returns-in_err-map_err g c =
    let s = c.in-Some.ensures.steps in
    let here = front (g.S.Source.rows c.args.s.now) c.loop-i.i-iterator.count c.in-Some.h _ (sym c.loop-i.invariant.0 ∙ s.0) in
    let p = err_from_is_err_and c.from_residual.result c.from_residual.ensures.1 in
    let at : c.map_err.result ≡ placed c.in-Some.i c.test_row.result = placed_is c.in-Some.i c.test_row.result c.map_err.result (search rules) in
    p.1 ∙ each_found (g.S.Source.rows c.args.s.now) c.loop-i.i-iterator.count c.in-Some.h _ p.0 here (ap Err p.2 ∙ sym c.in_err-map_err.was ∙ at ∙ (λ i. placed (s.1 i) (c.test_row.ensures i))) c.loop-i.invariant.1

pub returns : goal.returns
returns g c = each_none (g.S.Source.rows c.args.s.now) c.loop-i.i-iterator.count (sym c.loop-i.invariant.0 ∙ c.in-None.ensures.steps.0.0) c.loop-i.invariant.1

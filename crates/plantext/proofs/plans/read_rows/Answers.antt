-- Each line leaves a row, or ends the reading.
use Rattle.std.proofs.Common.{ℕ, ◌+◌, ◌≤◌, List, length, Err, rules, sym, ap, ◌∙◌, subst, arith, Bor}
use Rattle.std.specs.Iterator.{YieldsFirstBy}
use Rattle.std.specs.Iterator.Adapters.{enumerate_steps}
use Rattle.std.specs.List.{enumerate_from}
use Rattle.std.proofs.lemmas.Iterator.{YieldsList}
use Rattle.std.proofs.lemmas.Iterator.Consumers.{YieldsList-at, YieldsList-from_first, YieldsList-from_enumerate, YieldsList-turn, YieldsList-end}
use Rattle.std.proofs.lemmas.List.{length_push}
use Rattle.std.proofs.lemmas.List.FromFn.{length-enumerate_from}
use Rattle.plantext.specs.declared.plans.Lines.{Lines}
use Rattle.plantext.specs.declared.plans.LineFault.TheVariants.{NoRoom}
use Rattle.plantext.specs.Plans.{lines_of}
use Rattle.plantext.proofs.Filling.{Filling, turned, ends_read, ends_bad, ends_full, goes_on, fault_is, no_row, some_row, refused, inserted}
use Rattle.plantext.proofs.plans.read_rows.Given as given
use Rattle.plantext.proofs.plans.read_rows.Goals as goal
use Rattle.plantext.proofs.plans.read_rows.Goals.{After-into_iter-before-iterator, In-Some}

numbered_lines : (g : given.Over) (c : After-into_iter-before-iterator g) → YieldsList (enumerate_steps (YieldsFirstBy (λ (x : Bor (List ℕ)). x.now) (λ (s : Lines). lines_of s.rest.now))) (λ (p : ℕ × Bor (List ℕ)). (p.0, p.1.now)) c.into_iter-before-iterator.result (enumerate_from 0 (lines_of c.args.text.now))
numbered_lines g c =
    YieldsList-at c.into_iter-before-iterator.ensures.into_iter_gives (YieldsList-from_enumerate (YieldsList-at c.enumerate-before-items.ensures.source (YieldsList-from_first (λ x. x.now) (λ s. lines_of s.rest.now) (lines_of c.args.text.now) (ap lines_of c.of.ensures))) c.enumerate-before-items.ensures.count)

pub returns-in_err-row : goal.returns-in_err-row
returns-in_err-row g c =
    let p = goal.at.returns-in_err-row g c in
    let t = turned (lines_of c.args.text.now) (length c.loop-before.yielded) c.in-Some.before c.in-Some.line.now (YieldsList-turn (numbered_lines g p.After-into_iter-before-iterator) c.loop-before.yielded c.loop-before.before-iterator c.loop-before.yielded_by c.next.result c.next.new.self (c.in-Some.before, c.in-Some.line) c.in-Some.is c.next.ensures.steps) in
    let n = no_row _ _ _ c.in_err-row.ensures.value in
    let e = ends_bad (g.S.Store.room c.args.store.now) (g.S.Source.rows c.args.store.now) c.args.text.now (g.S.Store.room c.loop-before.store) (g.S.Source.rows c.loop-before.store) (length c.loop-before.yielded) c.loop-before.invariant c.in-Some.before c.in-Some.line.now t (n.0 ∙ c.parse_row.ensures) in
    record {
      answer = fault_is c.from_residual.result _ c.from_residual.ensures.1 ∙ ap Err n.1 ∙ e.0;
      rows = e.1;
      same = c.loop-before.invariant.same;
    }

pub returns-in_err-map_err : goal.returns-in_err-map_err
returns-in_err-map_err g c =
    let p = goal.at.returns-in_err-map_err g c in
    let t = turned (lines_of c.args.text.now) (length c.loop-before.yielded) c.in-Some.before c.in-Some.line.now (YieldsList-turn (numbered_lines g p.After-into_iter-before-iterator) c.loop-before.yielded c.loop-before.before-iterator c.loop-before.yielded_by c.next.result c.next.new.self (c.in-Some.before, c.in-Some.line) c.in-Some.is c.next.ensures.steps) in
    let f = refused c.insert.result _ c.in_err-map_err.field-0.0 (NoRoom (c.in-Some.before + 1)) c.in_err-map_err.ensures.cases (λ e p. search rules) in
    let e = ends_full (g.S.Store.room c.args.store.now) (g.S.Source.rows c.args.store.now) c.args.text.now (g.S.Store.room c.loop-before.store) (g.S.Source.rows c.loop-before.store) (length c.loop-before.yielded) c.loop-before.invariant c.in-Some.before c.in-Some.line.now t c.in_ok-row.row (some_row _ _ _ c.in_ok-row.ensures.value ∙ c.parse_row.ensures) c.count-end.result (g.S.Source.rows c.insert.new.self) c.insert.result c.insert.ensures.changed c.count-end.ensures f.refusal f.is in
    record {
      answer = fault_is c.from_residual-in_err-map_err.result _ c.from_residual-in_err-map_err.ensures.1 ∙ ap Err f.same ∙ e.0;
      rows = e.1;
      same = c.insert.ensures.same ∙ c.loop-before.invariant.same;
    }

pub loop-before-preserved : goal.loop-before-preserved
loop-before-preserved g c =
    let p = goal.at.loop-before-preserved g c in
    let t = turned (lines_of c.args.text.now) (length c.loop-before.yielded) c.in-Some.before c.in-Some.line.now (YieldsList-turn (numbered_lines g p.After-into_iter-before-iterator) c.loop-before.yielded c.loop-before.before-iterator c.loop-before.yielded_by c.next.result c.next.new.self (c.in-Some.before, c.in-Some.line) c.in-Some.is c.next.ensures.steps) in
    let next = goes_on (g.S.Store.room c.args.store.now) (g.S.Source.rows c.args.store.now) c.args.text.now (g.S.Store.room c.loop-before.store) (g.S.Source.rows c.loop-before.store) (length c.loop-before.yielded) c.loop-before.invariant c.in-Some.before c.in-Some.line.now t c.in_ok-row.row (some_row _ _ _ c.in_ok-row.ensures.value ∙ c.parse_row.ensures) c.count-end.result (g.S.Source.rows c.insert.new.self) c.insert.result c.insert.ensures.changed c.count-end.ensures (g.S.Store.room c.insert.new.self) (inserted c.insert.result c.in_ok-map_err.ensures.variant) c.insert.ensures.same in
    subst (Filling (g.S.Store.room c.args.store.now) (g.S.Source.rows c.args.store.now) c.args.text.now (g.S.Store.room c.insert.new.self) (g.S.Source.rows c.insert.new.self)) (sym (length_push c.loop-before.yielded (c.in-Some.before, c.in-Some.line))) next

pub returns : goal.returns
returns g c =
    let p = goal.at.returns g c in
    let all = YieldsList-end (numbered_lines g p.After-into_iter-before-iterator) c.loop-before.yielded c.loop-before.before-iterator c.loop-before.yielded_by c.next.result c.next.new.self c.in-None.is c.next.ensures.steps in
    let read : length (lines_of c.args.text.now) ≤ length c.loop-before.yielded = omega (arith, all.1, length-enumerate_from 0 (lines_of c.args.text.now)) in
    let e = ends_read (g.S.Store.room c.args.store.now) (g.S.Source.rows c.args.store.now) c.args.text.now (g.S.Store.room c.loop-before.store) (g.S.Source.rows c.loop-before.store) (length c.loop-before.yielded) c.loop-before.invariant read in
    record { answer = e.0; rows = e.1; same = c.loop-before.invariant.same }

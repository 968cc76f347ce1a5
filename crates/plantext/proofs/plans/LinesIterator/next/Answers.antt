-- The next line: what stands before the first line feed, or all that is left.
use Rattle.std.proofs.Common.{◌≡◌, ◌<◌, ◌∷◌, cond, eqb, [], length, rules, tests, refl, sym, ap, ◌∙◌, arith}
use Rattle.std.proofs.lemmas.Bool.Decides.{nat_tests}
use Rattle.std.proofs.lemmas.Fn.{always_returns_same}
use Rattle.plantext.specs.Plans.{lines_of}
use Rattle.plantext.proofs.Parts.{line_taken, last_part, shorter}
use Rattle.plantext.proofs.plans.LinesIterator.next.Goals as goal
use Rattle.plantext.proofs.plans.LinesIterator.next.Goals.{In_ok-line, After-unwrap_or-self}

some : (c : In_ok-line) → 0 < length c.splitn-parts.result.parts.rest.now
some c =
    let whole = c.splitn-parts.ensures.rest in
    let empty = c.if-is_empty.ensures in
    grind (arith, nat_tests)

later : (c : After-unwrap_or-self) → c.unwrap_or-self.result.now ≡ cond c.next.new.self.parts.done [] c.next.new.self.parts.rest.now
later c =
    let left = c.next.new.self.parts in
    ap (λ b. b.now) c.unwrap_or-self.ensures ∙ last_part c.next-2.result _ left.rest.now left.done _ _ _ _ refl (omega (arith, c.in_ok-line.ensures.steps.0, c.splitn-parts.ensures.count)) c.next-2.ensures.steps.1

pub returns-clause-steps : goal.returns-clause-steps
returns-clause-steps c =
    let p = goal.at.returns-clause-steps c in
    let text = c.splitn-parts.result.parts.rest.now in
    let left = c.next.new.self.parts in
    let line = c.in_ok-line.line.now in
    let step = c.in_ok-line.ensures.steps in
    let first = step.1.4 (omega (arith, c.splitn-parts.ensures.count)) (λ b. eqb b 10) (always_returns_same _ (λ a r. r ≡ eqb a.0.now 10) _ (λ a r q k. search (rules, tests))) in
    ap lines_of (sym c.splitn-parts.ensures.rest) ∙ line_taken text line left.rest.now left.done (some p.In_ok-line) step.1.2 first.1 ∙ ap (λ l. line ∷ lines_of l) (sym (later p.After-unwrap_or-self))

pub returns-clause-goes : goal.returns-clause-goes
returns-clause-goes c =
    let p = goal.at.returns-clause-goes c in
    let left = c.next.new.self.parts in
    let whole = c.splitn-parts.ensures.rest in
    let less = shorter c.splitn-parts.result.parts.rest.now c.in_ok-line.line.now left.rest.now left.done (some p.In_ok-line) c.in_ok-line.ensures.steps.1.2 in
    let fewer : length c.unwrap_or-self.result.now < length c.args.self.now.rest.now = omega (arith, less, ap length (later p.After-unwrap_or-self), ap length whole) in
    record { on = λ _. (tt, tt, fewer); keeps = tt; rests = λ _. tt }

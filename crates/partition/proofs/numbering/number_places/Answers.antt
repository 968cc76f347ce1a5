-- Numbered-before codes that are first places: a new one counts, an old one is copied.
use Rattle.std.proofs.Common.{ℕ, ◌+◌, ◌<◌, length, get_or, set, sym, ap, ◌∙◌, subst, arith, rules}
use Rattle.partition.proofs.Turns.{NumberedBefore, code_le, turn_new, turn_old}
use Rattle.partition.proofs.numbering.number_places.Given as given
use Rattle.partition.proofs.numbering.number_places.Goals as goal
use Rattle.partition.proofs.numbering.number_places.Goals.{then-first-i, else-first-i}

-- the code is a place of the list
below : (g : given.Over) (c : goal.Else-first-i g) → c.code-first.result < length c.loop-i.labels
below g c =
    let le = code_le g.T.Coded.code g.T.Coded.recode c.args.labels.now c.loop-i.labels c.loop-i.i c.loop-i.count c.index-labels-i.result c.loop-i-test.true c.requires c.loop-i.invariant c.index-labels-i.is in
    omega arith

pub offset_bounds-labels-first : goal.offset_bounds-labels-first
offset_bounds-labels-first g c = let l = below g c in search rules

pub bounds-labels-first : goal.bounds-labels-first
bounds-labels-first g c = below g c

pub loop-i-preserved : goal.loop-i-preserved
loop-i-preserved g c =
    let xs = c.args.labels.now in
    let ys = c.loop-i.labels in
    let i = c.loop-i.i in
    let n = c.loop-i.count in
    let code = g.T.Coded.code in
    let recode = g.T.Coded.recode in
    let x = c.index-labels-i.result in
    let e = c.code-first.ensures in
    let v = c.with_code.result in
    let at_count : ℕ → Type 0 = λ m. NumberedBefore code recode xs (set ys i v) (i + 1) m in
    elim c.if-first-i.branch [
      | then-first-i w ↦
          subst at_count (sym w.count-is) (turn_new code recode xs ys i n x c.loop-i-test.true c.requires c.loop-i.invariant c.index-labels-i.is v (sym e ∙ w.if-first-i.true) (c.with_code.ensures ∙ ap (recode x) w.number-is))
      | else-first-i w ↦
          let y = w.index-labels-first.result in
          subst at_count (sym w.count-is) (turn_old code recode xs ys i n x c.loop-i-test.true c.requires c.loop-i.invariant c.index-labels-i.is g.met.T.Coded.reads v y (λ q. w.if-first-i.false (e ∙ q)) (w.index-labels-first.is ∙ ap (λ k. get_or ys k y) e) (c.with_code.ensures ∙ ap (recode x) (w.number-is ∙ w.code-number.ensures ∙ ap code (sym w.index-labels-first.is))))
    ]

-- Relabelling: a record is written where its code is `from`, and else left as it is.
use Rattle.std.proofs.Common.{◌≡◌, set, sym, ap, ◌∙◌}
use Rattle.std.proofs.lemmas.List.Edits.{map_over_more}
use Rattle.partition.specs.Codes.{recoded}
use Rattle.partition.proofs.Classes.{recoded_at, recoded_off}
use Rattle.partition.proofs.Records.{all_done, codes_of}
use Rattle.partition.proofs.joining.relabel.Goals as goal
use Rattle.partition.proofs.joining.relabel.Goals.{then-code-from, else-code-from}

pub loop-label-preserved : goal.loop-label-preserved
loop-label-preserved g c =
    let a = c.args in
    let code = g.T.Coded.code in
    let recode = g.T.Coded.recode in
    let x = c.label-item.result in
    let f = recoded a.from a.to in
    let h = λ (y : g.row.T.Denot). recode y (f (code y)) in
    let place = c.loop-label.label-index in
    let is : c.code.result ≡ code x = c.code.ensures ∙ ap code (sym c.label-item.is) in
    let more = map_over_more h a.labels.now c.loop-label.labels place x c.loop-label-test.true c.loop-label.invariant c.label-item.is in
    elim c.if-code-from.branch [
      | then-code-from w ↦
          let e : f (code x) ≡ a.to = recoded_at a.from a.to (code x) (sym is ∙ w.if-code-from.true) in
          w.labels-is ∙ ap (set c.loop-label.labels place) (w.with_code.ensures ∙ ap (λ y. recode y a.to) (sym c.label-item.is) ∙ ap (recode x) (sym e)) ∙ more
      | else-code-from w ↦
          let e : f (code x) ≡ code x = recoded_off a.from a.to (code x) (λ q. w.if-code-from.false (is ∙ q)) in
          w.labels-is ∙ ap (set c.loop-label.labels place) (sym c.label-item.is ∙ sym (ap (recode x) e ∙ g.met.T.Coded.kept x)) ∙ more
    ]

pub returns-clause-codes : goal.returns-clause-codes
returns-clause-codes g c =
    let xs = c.args.labels.now in
    let code = g.T.Coded.code in
    let recode = g.T.Coded.recode in
    let f = recoded c.args.from c.args.to in
    codes_of code recode g.met.T.Coded.reads f xs c.loop-label.labels (c.loop-label.invariant ∙ all_done (λ (y : g.row.T.Denot). recode y (f (code y))) xs c.loop-label.label-index c.loop-label-test.false)

use Rattle.std.proofs.Common.{◌+◌, ◌*◌, ◌∙◌, arith, rules}
use Rattle.archive.specs.Writing.{patched}
use Rattle.archive.proofs.Adding.{none_yet, row_more, rows_all}
use Rattle.archive.proofs.writing.put_rows.Goals as goal

pub loop-i-init : goal.loop-i-init
loop-i-init g c = none_yet c.args.bytes.now c.args.at _ _ _ (omega arith) (search rules) (search rules)

pub loop-i-preserved : goal.loop-i-preserved
loop-i-preserved g c =
    let s = c.in-Some.ensures.steps in
    rw s.2 (row_more c.args.bytes.now c.args.at (g.S.Source.rows c.args.source.now) c.requires c.loop-i.i-iterator.count c.in-Some.row _ c.loop-i.bytes c.put.new.bytes (rw s.0 at c.loop-i.invariant) (c.put.ensures ∙ (λ k. patched c.loop-i.bytes (c.args.at + 16 * s.1 k) (c.row_bytes.ensures k))))

pub returns : goal.returns
returns g c =
    let s = c.in-None.ensures.steps in
    rows_all c.args.bytes.now c.args.at (g.S.Source.rows c.args.source.now) c.requires c.loop-i.i-iterator.count c.loop-i.bytes (rw s.0.0 at c.loop-i.invariant)

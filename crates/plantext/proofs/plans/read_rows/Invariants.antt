use Rattle.std.proofs.Common.{length}
use Rattle.plantext.proofs.Filling.{Filling}
use Rattle.plantext.proofs.plans.read_rows.Given as goal

abbrev pub invariant-loop-before : goal.invariant-loop-before
invariant-loop-before g l =
    Filling (g.S.Store.room l.initial.store) (g.S.Source.rows l.initial.store) l.text (g.S.Store.room l.store) (g.S.Source.rows l.store) (length l.yielded)

-- Joining: the code at the first place becomes the code at the second.
use Rattle.std.proofs.Common.{◌∙◌}
use Rattle.partition.proofs.Joins.{joined_inside}
use Rattle.partition.proofs.joining.join.Goals as goal

pub returns-in-Some-Some-clause-labels : goal.returns-in-Some-Some-clause-labels
returns-in-Some-Some-clause-labels g c =
    let at_i = c.in-Some-Some.ensures.lookup in
    let at_j = c.in-Some-Some.ensures'.lookup in
    c.relabel.ensures.labels ∙ joined_inside g.T.Coded.code g.T.Coded.recode c.args.labels.now c.args.i c.args.j c.in-Some-Some.x.now c.in-Some-Some.y.now c.code-from.result c.code-to.result at_i.3.0 at_j.3.0 at_i.1 at_j.1 c.code-from.ensures c.code-to.ensures

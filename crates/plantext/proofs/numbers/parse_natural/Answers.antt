use Rattle.std.proofs.Common.{arith}
use Rattle.plantext.proofs.Naturals.{too_large}
use Rattle.plantext.proofs.numbers.parse_natural.Goals as goal

pub returns-then-value-most : goal.returns-then-value-most
returns-then-value-most c =
    let e = c.from.ensures in
    too_large _ _ _ _ c.loop-byte.invariant c.loop-byte-test.true (omega (arith, e, c.if-value-most.true))

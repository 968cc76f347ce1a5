use Rattle.std.proofs.Common.{◌≡◌, Bool, true, false, cond, refl, ◌∙◌}
use Rattle.plane.specs.declared.point.Point.{Point}
use Rattle.plane.specs.declared.segment.Segment.{Segment}
use Rattle.plane.proofs.Steps.{point_first}
use Rattle.plane.proofs.segment.Segment.joining.Goals as goal

-- both ends by one test
ends : (t : Bool) (p q : Point) → ◌≡◌ {A = Segment} (record { low = cond t q p; high = cond t p q }) (cond t (record { low = q; high = p }) (record { low = p; high = q }))
ends true p q = refl
ends false p q = refl

pub returns : goal.returns
returns c =
    let p = c.args.p in
    let q = c.args.q in
    (λ i. record { low = c.min.ensures i; high = c.max.ensures i })
    ∙ (λ i. record { low = cond (point_first q p i) q p; high = cond (point_first q p i) p q })
    ∙ ends _ p q

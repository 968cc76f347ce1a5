use Rattle.std.proofs.Common.{◌-ℤ◌, ◌*ℤ◌, ◌∙◌, w64, rules}
use Rattle.std.specs.Int.{int_wrap}
use Rattle.plane.proofs.Bounds.{difference_is, twisted, orientation_exact}
use Rattle.plane.proofs.point.orientation.Goals as goal

pub returns : goal.returns
returns c =
    let a = c.args.a in
    let b = c.args.b in
    let d = c.args.c in
    let w₁ = difference_is c.difference.result a.x d.x (search rules) (search rules) c.difference.ensures in
    let w₂ = difference_is c.difference-2.result b.y d.y (search rules) (search rules) c.difference-2.ensures in
    let w₃ = difference_is c.difference-3.result b.x d.x (search rules) (search rules) c.difference-3.ensures in
    let w₄ = difference_is c.difference-4.result a.y d.y (search rules) (search rules) c.difference-4.ensures in
    let e = twisted c.difference.result c.difference-2.result c.difference-3.result c.difference-4.result (search rules) (search rules) (search rules) (search rules) ∙ (λ i. int_wrap w64 (w₁ i *ℤ w₂ i -ℤ w₃ i *ℤ w₄ i)) in
    record { exact = λ p q r. e ∙ orientation_exact a b d p q r; wraps = e }

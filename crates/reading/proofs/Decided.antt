-- It is decided whether lines have a reading: `one_or_none`, and `closed_reads`.
use Rattle.std.proofs.Common.{◌≡◌, Bool, true, false, ◌⊎◌, List, sym, ap, ◌∙◌, inl, inr}
use Rattle.algebra.specs.Members.{◌∈◌, any}
use Rattle.algebra.specs.Parity.{odd}
use Rattle.algebra.proofs.Members.{Case, holds, fails, case, none_in, any_passes}
use Rattle.algebra.proofs.Parity.{times_none}
use Rattle.plane.specs.declared.point.Point.{Point}
use Rattle.plane.specs.declared.segment.Segment.{Segment}
use Rattle.plane.specs.Points.{same_point}
use Rattle.plane.specs.PointLaws.{same_point_is}
use Rattle.reading.specs.Reading.{HasReading, OneReading}
use Rattle.reading.specs.Counting.{ends, degree_at, ClosedLines, parity}
use Rattle.reading.specs.Theorems.{ClosedReads, OneOrNone}
use Rattle.reading.proofs.Parities.{parity_reads}
use Rattle.reading.proofs.Agree.{readings_agree}
use Rattle.reading.proofs.Unclosed.{odd_corner_has_none}

-- no line ends at a point that is not among the ends
closed_by : (ls : List Segment) → ((v : Point) → v ∈ ends ls → odd (degree_at ls v) ≡ false) → ClosedLines ls
closed_by ls h v = go (case (any at_v (ends ls)))
  where
    at_v : Point → Bool
    at_v w = same_point w v

    go : Case (any at_v (ends ls)) → odd (degree_at ls v) ≡ false
    go (holds e) = let w = any_passes at_v (ends ls) e in ap (λ z. odd (degree_at ls z)) (sym (same_point_is w.one v w.passes)) ∙ h w.one w.member
    go (fails e) = ap odd (times_none at_v (ends ls) (none_in at_v (ends ls) e))

pub one_or_none : OneOrNone
one_or_none ls o = go (case (any odd_at (ends ls)))
  where
    odd_at : Point → Bool
    odd_at v = odd (degree_at ls v)

    go : Case (any odd_at (ends ls)) → (ClosedLines ls × OneReading ls) ⊎ ((v : Point) × (odd (degree_at ls v) ≡ true) × ¬ HasReading ls)
    go (holds e) = let v = any_passes odd_at (ends ls) e in inr (v.one, v.passes, odd_corner_has_none ls o v.one v.passes)
    go (fails e) =
        let c = closed_by ls (none_in odd_at (ends ls) e) in
        let r = parity_reads ls o c in
        inl (c, record { says = parity ls; is = r; only = λ f g s off. readings_agree ls o f (parity ls) g r s off })

pub closed_reads : ClosedReads
closed_reads ls o = (λ c. (parity ls, parity_reads ls o c), λ r v. go r v (case (odd (degree_at ls v))))
  where
    go : HasReading ls → (v : Point) → Case (odd (degree_at ls v)) → odd (degree_at ls v) ≡ false
    go r v (holds e) = absurd (odd_corner_has_none ls o v e r)
    go r v (fails e) = e

use Rattle.plane.specs.PointLaws.{equal_points}
use Rattle.plane.proofs.Steps.{point_before}
use Rattle.plane.proofs.point.points_are_ordered.Goals as goal

pub returns : goal.returns
returns c = record { equal = equal_points; less = point_before }

use Rattle.algebra.proofs.Ring.{ring, ring_from}
use Rattle.algebra.proofs.normal_forms_decide.Goals as goal

pub returns : goal.returns
returns c = record { identity = ring; consequence = ring_from }

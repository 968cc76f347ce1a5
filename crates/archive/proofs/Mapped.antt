-- A fault that `map_err` added to: `mapped`.
use Rattle.std.proofs.Common.{◌≡◌, Ok, Err, Result}
use Rattle.std.specs.Result.{MatchResult}
use Rattle.encoding.specs.Read.{map_fault}

pub mapped : {A E F : Type 0} (more : E → F) (r : Result A E) (w : Result A F) → MatchResult r (λ x. w ≡ Ok x) (λ e. w ≡ Err (more e)) → w ≡ map_fault more r
mapped more (Ok a) w h = h
mapped more (Err e) w h = h

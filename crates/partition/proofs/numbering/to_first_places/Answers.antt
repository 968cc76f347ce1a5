-- Codes become first places: what is searched stands before the places that are done.
use Rattle.std.proofs.Common.{◌≡◌, suc, ◌-◌, map, length, ap, ◌∙◌, arith}
use Rattle.partition.specs.Numbers.{place_of}
use Rattle.partition.proofs.Records.{none_done, first_more}
use Rattle.partition.proofs.numbering.to_first_places.Goals as goal

pub loop-i-init : goal.loop-i-init
loop-i-init g c =
    let xs = c.args.labels.now in
    let code = g.T.Coded.code in
    none_done (λ (x : g.row.T.Denot). g.T.Coded.recode x (place_of (map code xs) (code x))) xs (length xs) (omega arith)

pub loop-i-preserved : goal.loop-i-preserved
loop-i-preserved g c =
    let code = g.T.Coded.code in
    let ys = c.loop-i.labels in
    let i = c.loop-i.i - 1 in
    let step : suc i ≡ c.loop-i.i = omega arith in
    first_more code g.T.Coded.recode c.args.labels.now ys i c.first_place-first.result c.index-labels-i.result c.with_code.result (omega arith) (omega arith) (rw step c.loop-i.invariant) c.index-labels-i.is (c.first_place-first.ensures ∙ ap (place_of (map code ys)) c.code.ensures) c.with_code.ensures

pub returns : goal.returns
returns g c = let z : c.loop-i.i ≡ 0 = omega arith in c.loop-i.invariant ∙ rw z

use Rattle.std.specs.List.{between}
use Rattle.archive.proofs.Adding.{WrittenTo}
use Rattle.archive.proofs.writing.put_rows.Given as goal

abbrev pub invariant-loop-i : goal.invariant-loop-i
invariant-loop-i g l =
    let left = l.i-iterator.iter in
    WrittenTo l.initial.bytes l.at (g.S.Source.rows l.source) (between left.places.start left.places.end (g.S.Source.rows left.source.now)) l.i-iterator.count l.bytes

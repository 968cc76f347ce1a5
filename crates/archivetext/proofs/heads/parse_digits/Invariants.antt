use Rattle.std.proofs.Common.{◌≡◌, ◌<◌, ◌^◌, take, drop}
use Rattle.std.specs.Str.{all_ascii_digits}
use Rattle.plantext.specs.Text.{value}
use Rattle.archivetext.proofs.heads.parse_digits.Given as goal

abbrev pub invariant-loop-byte : goal.invariant-loop-byte
invariant-loop-byte l =
    (l.number ≡ value (take l.byte-index l.text)) × (l.number < 10 ^ l.byte-index) × (all_ascii_digits l.text ≡ all_ascii_digits (drop l.byte-index l.text))

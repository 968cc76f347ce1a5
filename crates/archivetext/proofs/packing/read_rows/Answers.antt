-- Each line is a row, or ends the plan, or is at fault.
use Rattle.std.proofs.Common.{◌≡◌, ◌<◌, [], ◌∷◌, ◌++◌, length, Err, sym, ap, ◌∙◌, arith, length-append}
use Rattle.archivetext.specs.Pack.{rows_on}
use Rattle.archivetext.specs.Packing.{left, number}
use Rattle.archivetext.proofs.Steps.{some_pieces, titled, untitled, rows_title, rows_bad, rows_many, rows_row}
use Rattle.archivetext.proofs.Chain.{rows_refused}
use Rattle.archivetext.proofs.packing.read_rows.Goals as goal

pub returns-then-is_some : goal.returns-then-is_some
returns-then-is_some c =
    let s = c.loop-line.lines in
    let t = c.in-Some.behind in
    let next = titled c.in-Some.line.now c.parse_title.result c.parse_title.ensures (sym c.is_some.ensures ∙ c.if-is_some.true) in
    let i = c.loop-line.invariant in
    let cut = c.in-Some.ensures in
    (i.0, i.1, λ start title done. i.2 start title done ∙ rows_title c.in-Some.line.now (left s) (left t) cut.0 (some_pieces t.rest.now) start title (number s) c.loop-line.rows.items done next.0 next.1)

pub returns-in_default-parse_row : goal.returns-in_default-parse_row
returns-in_default-parse_row c =
    let s = c.loop-line.lines in
    let t = c.in-Some.behind in
    let i = c.loop-line.invariant in
    let cut = c.in-Some.ensures in
    let none = untitled c.in-Some.line.now c.parse_title.result c.parse_title.ensures (sym c.is_some.ensures ∙ c.if-is_some.false) in
    let no_row = sym c.parse_row.ensures ∙ c.in_default-parse_row.is in
    rows_refused c.args.lines c.fault.result c.into.result c.into.ensures (λ start title done. i.2 start title done ∙ rows_bad c.in-Some.line.now (left s) (left t) cut.0 (some_pieces t.rest.now) start title (number s) c.loop-line.rows.items done none no_row ∙ ap Err (sym c.fault.ensures))

pub returns-then-len-ge-MOST_ROWS : goal.returns-then-len-ge-MOST_ROWS
returns-then-len-ge-MOST_ROWS c =
    let s = c.loop-line.lines in
    let t = c.in-Some.behind in
    let i = c.loop-line.invariant in
    let cut = c.in-Some.ensures in
    let none = untitled c.in-Some.line.now c.parse_title.result c.parse_title.ensures (sym c.is_some.ensures ∙ c.if-is_some.false) in
    let row = sym c.parse_row.ensures ∙ c.in-Some-parse_row.is in
    rows_refused c.args.lines c.fault-then-len-ge-MOST_ROWS.result c.into-then-len-ge-MOST_ROWS.result c.into-then-len-ge-MOST_ROWS.ensures (λ start title done. i.2 start title done ∙ rows_many c.in-Some.line.now (left s) (left t) cut.0 (some_pieces t.rest.now) start title (number s) c.loop-line.rows.items done c.in-Some-parse_row.row none row (omega (arith, c.len.ensures, c.loop-line.rows.ok.0)) ∙ ap Err (sym c.fault-then-len-ge-MOST_ROWS.ensures))

pub loop-line-preserved : goal.loop-line-preserved
loop-line-preserved c =
    let s = c.loop-line.lines in
    let t = c.in-Some.behind in
    let i = c.loop-line.invariant in
    let cut = c.in-Some.ensures in
    let none = untitled c.in-Some.line.now c.parse_title.result c.parse_title.ensures (sym c.is_some.ensures ∙ c.if-is_some.false) in
    let row = sym c.parse_row.ensures ∙ c.in-Some-parse_row.is in
    let few : length c.loop-line.rows.items < 4000 = omega (arith, c.len.ensures, c.loop-line.rows.ok.0) in
    let pushed : c.push.new.self.items ≡ c.loop-line.rows.items ++ (c.in-Some-parse_row.row ∷ []) = c.in_ok-push.ensures.items in
    (omega (arith, ap length pushed, length-append c.loop-line.rows.items (c.in-Some-parse_row.row ∷ [])), omega (arith, i.1, cut.2), λ start title done. i.2 start title done ∙ rows_row c.in-Some.line.now (left s) (left t) cut.0 (some_pieces t.rest.now) start title (number s) c.loop-line.rows.items done c.in-Some-parse_row.row none row few ∙ (λ j. rows_on start title (sym cut.1 j) (sym pushed j) done (left t)))

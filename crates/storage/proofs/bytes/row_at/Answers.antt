use Rattle.std.proofs.Common.{arith}
use Rattle.storage.proofs.RowBytes.{row_in_chunk}
use Rattle.storage.proofs.bytes.row_at.Goals as goal

pub returns : goal.returns
returns c =
    let lookup = c.in_ok-row.ensures.lookup in
    let front = c.as_chunks.ensures.front in
    let read = rw front at lookup.1 in
    row_in_chunk c.args.bytes.now c.in_ok-row.row.now c.args.i c.row_from.result (omega arith) read c.row_from.ensures

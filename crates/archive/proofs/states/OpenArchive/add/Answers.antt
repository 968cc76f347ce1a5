use Rattle.std.proofs.Common.{◌≡◌, ◌+◌, ◌*◌, ◌∷◌, length, sym, ap, ◌∙◌, arith}
use Rattle.encoding.specs.Format.{two_bytes}
use Rattle.archive.specs.Writing.{patched, plan_size}
use Rattle.archive.proofs.Adding.{admitted, add_bytes}
use Rattle.archive.proofs.Chains.{added}
use Rattle.archive.proofs.states.OpenArchive.add.Goals as goal

pub returns-clause-bytes : goal.returns-clause-bytes
returns-clause-bytes g c =
    let title = c.args.title.now in
    let rows = g.S.Source.rows c.args.source.now in
    let adm = admitted c.args.self (length c.args.bytes.now) title rows (sym c.in_default.ensures) in
    let count : c.count-rows.result ≡ length rows = c.count-rows.ensures in
    let plan_head : 3 + length title + 3 + 16 * c.count-rows.result ≡ 6 + length title + 16 * length rows = omega arith in
    add_bytes title rows c.args.bytes.now c.put_head.new.bytes c.put_head-2.new.bytes c.put.new.bytes c.put_head-3.new.bytes c.put_rows.new.bytes c.args.self.len _ _ _ _
    (record { title_place = omega arith; text_place = omega arith; rows_place = omega arith; list_place = omega arith }) adm.fits
    (c.put_head.ensures ∙ ap (λ n. patched c.args.bytes.now c.args.self.len (32 ∷ two_bytes n)) plan_head)
    c.put_head-2.ensures c.put.ensures
    (c.put_head-3.ensures ∙ ap (λ n. patched c.put.new.bytes (c.args.self.len + 3 + 3 + length title) (34 ∷ two_bytes (16 * n))) count)
    c.put_rows.ensures

pub returns-clause-keeps : goal.returns-clause-keeps
returns-clause-keeps g c =
    let title = c.args.title.now in
    let rows = g.S.Source.rows c.args.source.now in
    let adm = admitted c.args.self (length c.args.bytes.now) title rows (sym c.in_default.ensures) in
    let count : c.count-rows.result ≡ length rows = c.count-rows.ensures in
    let size : c.args.self.len + 3 + 3 + length title + 3 + 16 * c.count-rows.result ≡ c.args.self.len + plan_size title rows = omega arith in
    added c.args.self (length c.args.bytes.now) title rows adm c.args.bytes.now c.put_rows.new.bytes _ (ap (λ n. record { len = n; plans = c.args.self.plans + 1 }) size) (returns-clause-bytes g c)

use Rattle.std.proofs.Common.{◌≡◌, sym, ◌∙◌, length, rules, tests, arith}
use Rattle.std.specs.List.{between}
use Rattle.std.proofs.lemmas.Iterator.{YieldsList-from_zip}
use Rattle.std.proofs.lemmas.Iterator.Consumers.{YieldsList-from_first, YieldsList-at}
use Rattle.std.proofs.lemmas.Iterator.Search.{all_from_yields_List}
use Rattle.plane.specs.Rows.{same_row}
use Rattle.plane.specs.RowLaws.{equal_rows}
use Rattle.std.proofs.lemmas.Slice.{between_to_end}
use Rattle.storage.proofs.Comparing.{in_pairs, pairs_decide}
use Rattle.storage.proofs.equality.same.Goals as goal

pub returns-then-n-count : goal.returns-then-n-count
returns-then-n-count g c =
    let xs = g.S.Source.rows c.args.a.now in
    let ys = g.T.Source.rows c.args.b.now in
    let m : c.count-n.result ≡ length ys = search (rules, tests) in
    let told : c.all.result ≡ in_pairs xs ys =
    all_from_yields_List (λ p. same_row p.0 p.1) c.all.new.self _ _ c.all.ensures.ran
    (YieldsList-from_zip
    (YieldsList-at c.zip.ensures.first (YieldsList-from_first (λ x. x) (λ s. between s.places.start s.places.end (g.S.Source.rows s.source.now)) xs (c.at.ensures ∙ between_to_end xs 0 _ (omega (arith, c.count-n.ensures)))))
    (YieldsList-at c.zip.ensures.second (YieldsList-from_first (λ x. x) (λ s. between s.places.start s.places.end (g.T.Source.rows s.source.now)) ys (c.at-then-n-count.ensures ∙ between_to_end ys 0 _ (omega (arith, m))))))
    (λ x b q k. search (rules, tests, equal_rows)) in
    let decides = pairs_decide xs ys (sym c.count-n.ensures ∙ m) in
    (λ e. decides.0 (sym told ∙ e), λ e. told ∙ decides.1 e)

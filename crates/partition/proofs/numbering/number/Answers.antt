-- Numbering: by first places first, then numbers for these.
use Rattle.std.proofs.Common.{◌≡◌, ℕ, List, map, sym, ap, ◌∙◌, subst}
use Rattle.partition.specs.Codes.{in_codes}
use Rattle.partition.specs.Numbers.{place_of, count_of, number_of, numbered, Numbered, OwnFirsts}
use Rattle.partition.proofs.Meaning.{numbers_codes}
use Rattle.partition.proofs.Numbers.{numbers_same, count_same, firsts_own}
use Rattle.partition.proofs.Records.{codes_of, twice}
use Rattle.partition.proofs.numbering.number.Goals as goal

pub number_places-requires : goal.number_places-requires
number_places-requires g c =
    let xs = c.args.labels.now in
    let cs = map g.T.Coded.code xs in
    subst OwnFirsts (sym (codes_of g.T.Coded.code g.T.Coded.recode g.met.T.Coded.reads (place_of cs) xs c.to_first_places.new.labels c.to_first_places.ensures)) (firsts_own cs)

pub returns : goal.returns
returns g c =
    let xs = c.args.labels.now in
    let zs = c.number_places.new.labels in
    let code = g.T.Coded.code in
    let recode = g.T.Coded.recode in
    let met = g.met.T.Coded in
    let cs = map code xs in
    let made = c.to_first_places.ensures in
    let first : map code c.to_first_places.new.labels ≡ map (place_of cs) cs = codes_of code recode met.reads (place_of cs) xs c.to_first_places.new.labels made in
    let done : zs ≡ in_codes code recode (number_of cs) xs = c.number_places.ensures.labels ∙ (λ i. in_codes code recode (number_of (first i)) (made i)) ∙ twice code recode met.reads met.again (place_of cs) (number_of (map (place_of cs) cs)) (number_of cs) xs (numbers_same cs) in
    let codes_are : map code zs ≡ numbered cs = codes_of code recode met.reads (number_of cs) xs zs done in
    let count_is : c.number_places.result ≡ count_of cs = c.number_places.ensures.count ∙ ap count_of first ∙ count_same cs in
    record {
      labels = done;
      codes = codes_are;
      count = count_is;
      meaning = let P : List ℕ → ℕ → Type 0 = λ ns n. Numbered cs ns n in subst (λ n. P (map code zs) n) (sym count_is) (subst (λ ns. P ns (count_of cs)) (sym codes_are) (numbers_codes cs));
    }

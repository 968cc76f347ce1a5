-- What a kept list reads and leaves: blocks of n entries, of which xs has room for `limit` and keeps `count`.
use Rattle.std.proofs.Common.{◌≡◌, ℕ, ◌+◌, ◌-◌, ◌*◌, ◌<◌, ◌≤◌, List, ◌++◌, length, take, drop, refl, sym, add-one, arith, rules}
use Rattle.std.proofs.Math.Nat.{mul-suc, mul-le-mul_left}
use borrow.Rule.Slice.PartMut.{put_mid}
use Rattle.std.specs.List.{between}
use Rattle.std.proofs.lemmas.List.{same_lists, places}
use Rattle.storage.specs.Gaps.{opened, closed}
use Rattle.storage.specs.declared.kept.Kept.{Kept}
use Rattle.storage.specs.Entries.{entries, over, size}

-- the first m entries of ys are `front`; past them ys is as xs was
pub record Done {X : Type 0} (xs ys : List X) (m : ℕ) (front : List X) : Type 0 where
  pub entries : take m ys ≡ front
  pub whole : ys ≡ over (take m ys) xs

-- an entry is put at the place p, or taken out there, of c that are kept
module _ {X : Type 0} (n : ℕ) (xs : List X) (c p : ℕ) where
  abbrev put_in : List X → List X
  put_in new = take p xs ++ (new ++ (between p c xs ++ drop (c + n) xs))

  fill_gap : (new : List X) → length new ≡ n → p ≤ c → c + n ≤ length xs → put_mid p (p + n - p) (opened xs c p n) new ≡ put_in new
  fill_gap new e le fits = same_lists _ _ (search (rules, places)) (λ k d l. grind (arith, places))

  put_front : (new : List X) → length new ≡ n → p ≤ c → c + n ≤ length xs → Done xs (put_in new) (c + n) (take p (take c xs) ++ (new ++ drop p (take c xs)))
  put_front new e le fits = record {
    entries = same_lists _ _ (search (rules, places)) (λ k d l. grind (arith, places));
    whole = same_lists _ _ (search (rules, places)) (λ k d l. grind (arith, places));
  }

  take_front : (m : ℕ) → p + n ≤ c → c ≤ length xs → m + n ≡ c → Done xs (closed xs c p n) m (take p (take c xs) ++ drop (p + n) (take c xs))
  take_front m le fits fewer = record {
    entries = same_lists _ _ (search (rules, places)) (λ k d l. grind (arith, places));
    whole = same_lists _ _ (search (rules, places)) (λ k d l. grind (arith, places));
  }

mul_more : (n k : ℕ) → n * (k + 1) ≡ n * k + n
mul_more n k = rw (add-one k, mul-suc) refl

mul_below : (n i k : ℕ) → i < k → n * i + n ≤ n * k
mul_below n i k lt =
    let le : n * (i + 1) ≤ n * k = mul-le-mul_left n (omega arith) in
    omega (arith, mul_more n i)

module _ {X : Type 0} (n : ℕ) (xs : List X) (limit count i : ℕ) (within : count ≤ limit) (fits : n * limit ≤ length xs) where
  all : n * count ≤ n * limit
  all = mul-le-mul_left n within

  pub block_read : i < count → take (n * i + n - n * i) (drop (n * i) xs) ≡ between (n * i) (n * i + n) (take (n * count) xs)
  block_read lt =
      let l = mul_below n i count lt in
      let a = all in
      same_lists _ _ (search (rules, places)) (λ k d h. grind (arith, places))

  -- ys is what `open_gap` left, and zs what was written into the gap
  pub block_put : (new ys zs : List X) → length new ≡ n → i ≤ count → count < limit → ys ≡ opened xs (n * count) (n * i) n → zs ≡ new → Done xs (put_mid (n * i) (n * i + n - n * i) ys zs) (n * (count + 1)) (take (n * i) (take (n * count) xs) ++ (new ++ drop (n * i) (take (n * count) xs)))
  block_put new ys zs len le lt e f =
      let at : n * i ≤ n * count = mul-le-mul_left n le in
      let room : n * count + n ≤ length xs = omega (arith, mul_below n count limit lt) in
      rw (e, f, mul_more, fill_gap n xs (n * count) (n * i) new len at room) (put_front n xs (n * count) (n * i) new len at room)

  -- ys is what `close_gap` left
  pub block_taken : (ys : List X) → i < count → ys ≡ closed xs (n * count) (n * i) n → Done xs ys (n * (count - 1)) (take (n * i) (take (n * count) xs) ++ drop (n * i + n) (take (n * count) xs))
  block_taken ys lt e =
      let fewer : n * (count - 1) + n ≡ n * count = let back : count - 1 + 1 ≡ count = omega arith in rw back at (sym (mul_more n (count - 1))) in
      rw e (take_front n xs (n * count) (n * i) (n * (count - 1)) (mul_below n i count lt) (omega (arith, all)) fewer)

pub length_entries : {X : Type 0} {n : ℕ} (s : Kept X n) → length (entries s) ≡ n * size s
length_entries {X} {n} s = let le : n * s.count ≤ length s.items.now = omega (arith, all n s.items.now s.limit s.count 0 s.within s.fits, s.fits) in search (rules, places)

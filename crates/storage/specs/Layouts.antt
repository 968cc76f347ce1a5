-- The two layouts: a row as an entry, and a row in sixteen bytes. They stand in specs/ because the impls of `Entry` cite them as their law.
use Rattle.std.specs.Prelude.{◌≡◌, ℕ, ◌+◌, ◌-◌, ◌*◌, ◌/◌, ◌%◌, ◌<◌, List, [], ◌∷◌, ◌++◌, length, ℤ, FitsSigned, refl}
use Rattle.std.specs.Int.{w32, cast_signed, cast_unsigned}
use Rattle.std.proofs.Common.{get_or, sym, ap, ◌∙◌, ⊎_elim, add-zero, add_assoc, arith, rules, length-append}
use native.Mathlib.Nat.{div-div-eq-div-mul, div-add-mod}
use mir.ValLaws.{of_z_fits}
use Rattle.std.proofs.lemmas.List.FromFn.{length-map-range_with_len, get_or-map-range_with_len}
use Rattle.std.proofs.lemmas.List.{same_lists, places, get_or_append_left, get_or-append_right}
use Rattle.std.proofs.lemmas.Bool.{cases_lt}
use Rattle.std.proofs.lemmas.Int.{to_z-of_z}
use Rattle.plane.specs.declared.halfsegment.Halfsegment.{Halfsegment}
use Rattle.storage.specs.Bytes.{word_at, row_at_byte, word_bytes, row_bytes, rows_of}
use Rattle.storage.specs.Layout.{Fits32, IsLayout}

pub record_layout : IsLayout 1 (λ (xs : List Halfsegment). xs) (λ r. r ∷ [])
record_layout = record {
  positive = omega arith;
  count = λ xs i e. omega arith;
  joins = λ xs ys i e. refl;
  width = λ r. refl;
  back = λ r f. refl;
}

pub length_rows_of : (bs : List ℕ) → length (rows_of bs) ≡ length bs / 16
length_rows_of bs = length-map-range_with_len (λ k. row_at_byte bs (16 * k)) 0 (length bs / 16)

pub get_or_rows_of : (bs : List ℕ) (i : ℕ) (d : Halfsegment) → i < length bs / 16 → get_or (rows_of bs) i d ≡ row_at_byte bs (16 * i)
get_or_rows_of bs i d h = get_or-map-range_with_len (λ k. row_at_byte bs (16 * k)) 0 (length bs / 16) i i d h (omega arith)

-- sixteen bytes are a row, wherever they lie
abbrev Same16 : List ℕ → ℕ → List ℕ → ℕ → Type 0
Same16 bs p cs q = (j : ℕ) → j < 16 → get_or bs (p + j) 0 ≡ get_or cs (q + j) 0

word_same : (bs cs : List ℕ) (p q : ℕ) → get_or bs p 0 ≡ get_or cs q 0 → get_or bs (p + 1) 0 ≡ get_or cs (q + 1) 0 → get_or bs (p + 2) 0 ≡ get_or cs (q + 2) 0 → get_or bs (p + 3) 0 ≡ get_or cs (q + 3) 0 → word_at bs p ≡ word_at cs q
word_same bs cs p q a b c d = λ i. cast_signed w32 (a i * 16777216 + b i * 65536 + c i * 256 + d i)

pub row_same : (bs cs : List ℕ) (p q : ℕ) → Same16 bs p cs q → row_at_byte bs p ≡ row_at_byte cs q
row_same bs cs p q h =
    let at : (a j : ℕ) → a + j < 16 → get_or bs (p + a + j) 0 ≡ get_or cs (q + a + j) 0 = λ a j l. rw (add_assoc p a j, add_assoc q a j) (h (a + j) l) in
    let at0 : get_or bs p 0 ≡ get_or cs q 0 = rw (add-zero p, add-zero q) at (h 0 (omega arith)) in
    λ i. record {
      dominating = record {
        x = word_same bs cs p q at0 (h 1 (omega arith)) (h 2 (omega arith)) (h 3 (omega arith)) i;
        y = word_same bs cs (p + 4) (q + 4) (h 4 (omega arith)) (at 4 1 (omega arith)) (at 4 2 (omega arith)) (at 4 3 (omega arith)) i;
      };
      far = record {
        x = word_same bs cs (p + 8) (q + 8) (h 8 (omega arith)) (at 8 1 (omega arith)) (at 8 2 (omega arith)) (at 8 3 (omega arith)) i;
        y = word_same bs cs (p + 12) (q + 12) (h 12 (omega arith)) (at 12 1 (omega arith)) (at 12 2 (omega arith)) (at 12 3 (omega arith)) i;
      };
    }

-- `omega` joins the digits once the quotients are variables
combine : (n a b c x y z t : ℕ) → 256 * a + x ≡ n → 256 * b + y ≡ a → 256 * c + z ≡ b → t ≡ c → t * 16777216 + z * 65536 + y * 256 + x ≡ n
combine n a b c x y z t p q r s = omega arith

digits : (n : ℕ) → n < 4294967296 → n / 16777216 % 256 * 16777216 + n / 65536 % 256 * 65536 + n / 256 % 256 * 256 + n % 256 ≡ n
digits n h =
    combine n (n / 256) (n / 65536) (n / 16777216) (n % 256) (n / 256 % 256) (n / 65536 % 256) (n / 16777216 % 256)
    (div-add-mod n 256)
    (ap (λ m. 256 * m + n / 256 % 256) (sym (div-div-eq-div-mul n 256 256)) ∙ div-add-mod (n / 256) 256)
    (ap (λ m. 256 * m + n / 65536 % 256) (sym (div-div-eq-div-mul n 65536 256)) ∙ div-add-mod (n / 65536) 256)
    (omega arith)

word_back : (z : ℤ) → FitsSigned w32 z → word_at (word_bytes z) 0 ≡ z
word_back z f = ap (cast_signed w32) (digits (cast_unsigned w32 z) (of_z_fits w32 z f).fits) ∙ to_z-of_z w32 z f

pub row_back : (r : Halfsegment) → Fits32 r → row_at_byte (row_bytes r) 0 ≡ r
row_back r f = λ i. record {
  dominating = record { x = word_back r.dominating.x f.cx i; y = word_back r.dominating.y f.cy i };
  far = record { x = word_back r.far.x f.fx i; y = word_back r.far.y f.fy i };
}

byte_joins : (xs ys : List ℕ) (i : ℕ) → length xs ≡ 16 * i → rows_of (xs ++ ys) ≡ rows_of xs ++ rows_of ys
byte_joins xs ys i e =
    let n = length_rows_of xs in
    let m = length_rows_of ys in
    let t = length-append xs ys in
    same_lists _ _ (omega (arith, length_rows_of (xs ++ ys), length-append (rows_of xs) (rows_of ys))) (λ k d h.
    let in_both : k < length (xs ++ ys) / 16 = omega (arith, length_rows_of (xs ++ ys)) in
    get_or_rows_of (xs ++ ys) k d in_both ∙
    ⊎_elim
    (λ below. row_same (xs ++ ys) xs (16 * k) (16 * k) (λ j l. search (rules, places)) ∙ sym (get_or_append_left (rows_of xs) (rows_of ys) d k (omega arith) ∙ get_or_rows_of xs k d (omega arith)))
    (λ above. row_same (xs ++ ys) ys (16 * k) (16 * (k - i)) (λ j l. grind (arith, places)) ∙ sym (get_or-append_right (rows_of xs) (rows_of ys) i k d (omega arith) above ∙ get_or_rows_of ys (k - i) d (omega arith)))
    (cases_lt k i))

pub byte_layout : IsLayout 16 rows_of row_bytes
byte_layout = record {
  positive = omega arith;
  count = λ xs i e. omega (arith, length_rows_of xs);
  joins = byte_joins;
  width = λ r. refl;
  back = λ r f. ap (λ x. x ∷ []) (row_back r f);
}

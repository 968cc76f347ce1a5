-- Texts that are split at a byte, as the calls of `next` say it: a part comes off the front, and for a text with lines the next line, `line_taken`.
use Rattle.std.proofs.Common.{◌≡◌, ℕ, ◌+◌, ◌<◌, Bool, true, false, cond, eqb, MatchBool, MatchOption, ◌⊎◌, List, [], ◌∷◌, ◌++◌, length, get_or, Some, None, Option, sym, refl, ap, ◌∙◌, subst, inl, inr, arith, Bor}
use Rattle.std.specs.Option.{unwrap_or}
use Rattle.std.specs.List.{All, IsFirstMatchOrLen, count_by}
use Rattle.std.proofs.lemmas.Grind.{common_steps}
use Rattle.std.proofs.lemmas.List.Splits.{slice_split_none, slice_split_at, length-slice_split}
use Rattle.std.proofs.lemmas.List.{length-append}
use Rattle.plantext.specs.Text.{pieces}
use Rattle.plantext.specs.Plans.{no_last, lines_of}

-- x comes off the front of xs, and the rest is left, or nothing is
split_part : (c : ℕ) (xs x rest : List ℕ) (done : Bool) → MatchBool done (xs ≡ x) ((y : ℕ) × (xs ≡ x ++ (y ∷ rest))) → IsFirstMatchOrLen (λ b. eqb b c) xs (length x) → pieces c xs ≡ x ∷ cond done [] (pieces c rest)
split_part c xs x rest true e h =
    ap (pieces c) e ∙ slice_split_none (λ b. eqb b c) x (λ k d l. subst (λ (ys : List ℕ). eqb (get_or ys k d) c ≡ false) e (h.0 k d (omega arith) l))
split_part c xs x rest false e h =
    let front : All (λ b. eqb b c ≡ false) x = λ k d l. let a = h.0 k d (omega arith) l in let b = e.1 in grind (arith, common_steps) in
    let hit : eqb e.0 c ≡ true = let b = e.1 in let a = h.1 (grind (arith, common_steps)) e.0 in grind (arith, common_steps) in
    ap (pieces c) e.1 ∙ slice_split_at (λ b. eqb b c) x e.0 rest front hit

-- a text has a first piece
more_pieces : (l : List ℕ) (bs : List ℕ) → no_last (l ∷ pieces 10 bs) ≡ l ∷ no_last (pieces 10 bs)
more_pieces l bs = by l (pieces 10 bs) (length-slice_split (λ b. eqb b 10) bs)
  where
    by : (l : List ℕ) (ps : List (List ℕ)) → length ps ≡ count_by (λ b. eqb b 10) bs + 1 → no_last (l ∷ ps) ≡ l ∷ no_last ps
    by l [] e = absurd (omega arith)
    by [] (p ∷ ps) e = refl
    by (b ∷ bs) (p ∷ ps) e = refl

only_piece : (l : List ℕ) → 0 < length l → no_last (l ∷ []) ≡ l ∷ []
only_piece [] s = absurd (omega arith)
only_piece (b ∷ bs) s = refl

pub line_taken : (text line rest : List ℕ) (done : Bool) → 0 < length text → MatchBool done (text ≡ line) ((y : ℕ) × (text ≡ line ++ (y ∷ rest))) → IsFirstMatchOrLen (λ b. eqb b 10) text (length line) → lines_of text ≡ line ∷ lines_of (cond done [] rest)
line_taken text line rest true some cut at =
    ap no_last (split_part 10 text line rest true cut at) ∙ only_piece line (subst (λ (bs : List ℕ). 0 < length bs) cut some)
line_taken text line rest false some cut at =
    ap no_last (split_part 10 text line rest false cut at) ∙ more_pieces line rest

pub shorter : (text line rest : List ℕ) (done : Bool) → 0 < length text → MatchBool done (text ≡ line) ((y : ℕ) × (text ≡ line ++ (y ∷ rest))) → length (cond done [] rest) < length text
shorter text line rest true some cut = some
shorter text line rest false some cut =
    omega (arith, ap length cut.1, length-append line (cut.0 ∷ rest))

-- what the last part of two is, `parts.next().unwrap_or(&[])`
pub last_part : (r : Option (Bor (List ℕ))) (none : Bor (List ℕ)) (rest : List ℕ) (done done' : Bool) (count : ℕ) (P : Bor (List ℕ) → Type 0) (Q : Bor (List ℕ) → Type 0) → none.now ≡ [] → count ≡ 1 → MatchOption r ((count ≡ 0) ⊎ (done ≡ true)) (λ x. (0 < count) × (count ≡ 1 → done' ≡ true) × MatchBool done' (rest ≡ x.now) (P x) × (done ≡ false) × Q x) → (unwrap_or r none).now ≡ cond done [] rest
last_part None none rest done done' count P Q e one (inl h) = absurd (omega arith)
last_part None none rest done done' count P Q e one (inr h) = rw h e
last_part (Some x) none rest done done' count P Q e one m =
    let last = subst (λ b. MatchBool b (rest ≡ x.now) (P x)) (m.1 one) m.2 in
    rw m.3 (sym last)

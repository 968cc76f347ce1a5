-- Fields that were accepted: what the reading tested, and the bytes that it was read from.
use Rattle.std.proofs.Common.{◌≡◌, ℕ, ◌+◌, ◌*◌, ◌<◌, ◌≤◌, Bool, true, false, cond, eqb, leb, List, [], ◌∷◌, ◌++◌, length, take, drop, Ok, Err, Result, sym, refl, ap, ◌∙◌, arith}
use Rattle.std.proofs.ByRecursion.{All-take, All-drop}
use Rattle.std.proofs.lemmas.List.{drop-drop, length-take-le, take-append-drop}
use Rattle.std.proofs.lemmas.Bool.{leb-true, eqb-true}
use Rattle.encoding.specs.declared.faults.FieldFault.{FieldFault}
use Rattle.encoding.specs.declared.faults.FieldFault.TheVariants.{NoFit, Malformed}
use Rattle.encoding.specs.Format.{field, two_bytes}
use Rattle.encoding.specs.Read.{tag_of, size_of, content_of, beyond, framed, and_then, map_fault}
use Rattle.encoding.specs.Inverse.{Bytes}
use Rattle.encoding.proofs.DigitsBack.{two_bytes_back}

-- a fault is no answer
pub err_ok : {A E : Type 0} {P : Type 0} (f : E) (a : A) → ◌≡◌ {A = Result A E} (Err f) (Ok a) → P
err_ok f a e = let z : ◌≡◌ {A = ℕ} 0 1 = cc in absurd (omega arith)

pub ok_same : {A E : Type 0} (a b : A) → ◌≡◌ {A = Result A E} (Ok a) (Ok b) → a ≡ b
ok_same a b e = cc

-- an answer after a test: the test passed
pub cond_ok : {A E : Type 0} (t : Bool) (r : Result A E) (f : E) (a : A) → cond t r (Err f) ≡ Ok a → (t ≡ true) × (r ≡ Ok a)
cond_ok true r f a e = (refl, e)
cond_ok false r f a e = err_ok f a e

-- and an answer after a test for a fault: the test failed
pub cond_err : {A E : Type 0} (t : Bool) (f : E) (r : Result A E) (a : A) → cond t (Err f) r ≡ Ok a → (t ≡ false) × (r ≡ Ok a)
cond_err true f r a e = err_ok f a e
cond_err false f r a e = (refl, e)

pub and_then_ok : {A B E : Type 0} (r : Result A E) (next : A → Result B E) (b : B) → and_then r next ≡ Ok b → (a : A) × (r ≡ Ok a) × (next a ≡ Ok b)
and_then_ok (Ok a) next b e = (a, refl, e)
and_then_ok (Err f) next b e = err_ok f b e

pub map_fault_ok : {A E F : Type 0} (more : E → F) (r : Result A E) (a : A) → map_fault more r ≡ Ok a → r ≡ Ok a
map_fault_ok more (Ok b) a e = cc
map_fault_ok more (Err f) a e = err_ok _ a e

-- a list of no bytes is empty
pub empty_is : (bs : List ℕ) → eqb (length bs) 0 ≡ true → bs ≡ []
empty_is [] e = refl
empty_is (b ∷ bs) e = absurd (omega (arith, eqb-true (length (b ∷ bs)) 0 e))

-- the parts of a field that fits
unframed : (due : List ℕ) → Bytes due → 3 + size_of due ≤ length due → due ≡ field (tag_of due) (content_of due) ++ beyond due
unframed [] small le = absurd (omega arith)
unframed (t ∷ []) small le = absurd (omega arith)
unframed (t ∷ h ∷ []) small le = absurd (omega arith)
unframed (t ∷ h ∷ l ∷ rest) small le =
    let n = h * 256 + l in
    let past : drop n rest ≡ beyond (t ∷ h ∷ l ∷ rest) = drop-drop n 3 (t ∷ h ∷ l ∷ rest) in
    let two : two_bytes (length (take n rest)) ≡ h ∷ l ∷ [] = ap two_bytes (length-take-le n rest (omega arith)) ∙ two_bytes_back h l small.1.1.0 in
    sym (ap (λ b. (t ∷ (b ++ take n rest)) ++ beyond (t ∷ h ∷ l ∷ rest)) two ∙ ap (λ r. t ∷ h ∷ l ∷ (take n rest ++ r)) (sym past) ∙ ap (λ r. t ∷ h ∷ l ∷ r) (take-append-drop n rest))

-- a field that was accepted: its tag may come, and the bytes are the field and what lies beyond it
pub record Unframed (may_come : ℕ → Bool) (due : List ℕ) : Type 0 where
  pub comes : may_come (tag_of due) ≡ true
  pub is : due ≡ field (tag_of due) (content_of due) ++ beyond due
  pub content : Bytes (content_of due)
  pub beyond : Bytes (beyond due)

pub framed_ok : (may_come : ℕ → Bool) (due : List ℕ) → Bytes due → framed may_come due ≡ Ok tt → Unframed may_come due
framed_ok may_come due small e =
    let a = cond_err (eqb (length due) 0) NoFit _ tt e in
    let b = cond_ok (may_come (tag_of due)) _ Malformed tt a.1 in
    let c = cond_ok (leb (3 + size_of due) (length due)) _ NoFit tt b.1 in
    record {
      comes = b.0;
      is = unframed due small (leb-true (3 + size_of due) (length due) c.0);
      content = All-take (λ x. x < 256) (size_of due) (drop 3 due) (All-drop (λ x. x < 256) 3 due small);
      beyond = All-drop (λ x. x < 256) (3 + size_of due) due small;
    }

-- a field whose tag is known
pub tagged : (tag : ℕ) (due : List ℕ) → due ≡ field (tag_of due) (content_of due) ++ beyond due → eqb tag (tag_of due) ≡ true → due ≡ field tag (content_of due) ++ beyond due
tagged tag due is e = is ∙ ap (λ t. field t (content_of due) ++ beyond due) (sym (eqb-true tag (tag_of due) e))

-- and what its content was read as
pub record ReadAs {A : Type 0} (tag : ℕ) (due : List ℕ) (r : Result A FieldFault) (a : A) : Type 0 where
  pub is : due ≡ field tag (content_of due) ++ beyond due
  pub content : Bytes (content_of due)
  pub beyond : Bytes (beyond due)
  pub answer : r ≡ Ok a

pub read_as : {A : Type 0} (tag : ℕ) (due : List ℕ) (r : Result A FieldFault) (a : A) → Bytes due → and_then (framed (eqb tag) due) (λ _. r) ≡ Ok a → ReadAs tag due r a
read_as tag due r a small e =
    let s = and_then_ok (framed (eqb tag) due) (λ _. r) a e in
    let u = framed_ok (eqb tag) due small s.1 in
    record {
      is = tagged tag due u.is u.comes;
      content = u.content;
      beyond = u.beyond;
      answer = s.2;
    }

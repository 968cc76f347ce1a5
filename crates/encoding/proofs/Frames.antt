-- A field at the front of what is left to read: its tag, its size, its content and what lies beyond it.
use Rattle.std.proofs.Common.{◌≡◌, ℕ, ◌+◌, ◌*◌, ◌/◌, ◌%◌, Bool, true, false, cond, List, [], ◌++◌, length, Ok, Err, Result, sym, refl, ap, ◌∙◌, subst, arith}
use Rattle.std.proofs.lemmas.List.{append-nil, length-append, take_at, drop_at, drop-drop}
use Rattle.std.proofs.lemmas.Bool.{le-leb, ne_eqb}
use Rattle.encoding.specs.declared.faults.FieldFault.{FieldFault}
use Rattle.encoding.specs.declared.faults.FieldFault.TheVariants.{NoFit, Malformed}
use Rattle.encoding.specs.Format.{field}
use Rattle.encoding.specs.Read.{tag_of, size_of, content_of, beyond, framed}

-- two bytes, highest first, are the number that was written
pub two_bytes_back : (n : ℕ) → n / 256 * 256 + n % 256 ≡ n
two_bytes_back n = omega arith

-- what is left to read begins with such a field
pub record Begins (due : List ℕ) (tag : ℕ) (content rest : List ℕ) : Type 0 where
  pub tag_is : tag_of due ≡ tag
  pub size_is : size_of due ≡ length content
  pub content_is : content_of due ≡ content
  pub beyond_is : beyond due ≡ rest
  pub length_is : length due ≡ 3 + length content + length rest

pub length_field : (tag : ℕ) (content rest : List ℕ) → length (field tag content ++ rest) ≡ 3 + length content + length rest
length_field tag content rest = omega (arith, length-append content rest)

beyond_field : (tag : ℕ) (content rest : List ℕ) → beyond (field tag content ++ rest) ≡ rest
beyond_field tag content rest =
    sym (drop-drop (size_of due) 3 due) ∙ drop_at content rest (size_of due) (sym (two_bytes_back (length content)))
  where
    due : List ℕ
    due = field tag content ++ rest

begins_field : (tag : ℕ) (content rest : List ℕ) → Begins (field tag content ++ rest) tag content rest
begins_field tag content rest = record {
  tag_is = refl;
  size_is = two_bytes_back (length content);
  content_is = take_at content rest _ (sym (two_bytes_back (length content)));
  beyond_is = beyond_field tag content rest;
  length_is = length_field tag content rest;
}

pub begins : (due : List ℕ) (tag : ℕ) (content rest : List ℕ) → due ≡ field tag content ++ rest → Begins due tag content rest
begins due tag content rest e = subst (λ x. Begins x tag content rest) (sym e) (begins_field tag content rest)

-- a field with nothing behind it
pub begins_last : (tag : ℕ) (content : List ℕ) → Begins (field tag content) tag content []
begins_last tag content = begins (field tag content) tag content [] (sym (append-nil (field tag content)))

-- a field whose tag may come is framed
pub begins_framed : (due : List ℕ) (tag : ℕ) (content rest : List ℕ) → Begins due tag content rest → (may_come : ℕ → Bool) → may_come tag ≡ true → framed may_come due ≡ Ok tt
begins_framed due tag content rest b may_come e =
    by _ _ _ (ne_eqb (length due) 0 (omega arith)) (ap may_come b.tag_is ∙ e) (le-leb (3 + size_of due) (length due) (omega arith))
  where
    by : (p q r : Bool) → p ≡ false → q ≡ true → r ≡ true → ◌≡◌ {A = Result Unit FieldFault} (cond p (Err NoFit) (cond q (cond r (Ok tt) (Err NoFit)) (Err Malformed))) (Ok tt)
    by p q r x y z = rw (x, y, z)

-- The field at the front of what is left to read, by the places of the bytes: what stands against it, `wrong_tag` and `no_content`.
use Rattle.std.proofs.Common.{◌≡◌, ℕ, ◌+◌, ◌-◌, ◌*◌, ◌<◌, ◌≤◌, min, Bool, true, false, cond, eqb, leb, List, length, get_or, Ok, Err, Result, ap, ◌∙◌, arith, rules}
use Rattle.std.specs.List.{between}
use Rattle.std.proofs.lemmas.List.{places}
use Rattle.std.proofs.lemmas.Bool.{lt-leb, ne_eqb}
use Rattle.encoding.specs.declared.faults.FieldFault.{FieldFault}
use Rattle.encoding.specs.declared.faults.FieldFault.TheVariants.{NoFit, Malformed}
use Rattle.encoding.specs.Read.{tag_of, size_of, framed}

-- the three tests of `framed`, one after the other
abbrev tested : Bool → Bool → Bool → Result Unit FieldFault
tested none comes fits = cond none (Err NoFit) (cond comes (cond fits (Ok tt) (Err NoFit)) (Err Malformed))

module _ (bs : List ℕ) (at end : ℕ) (may_come : ℕ → Bool) where
  abbrev due : List ℕ
  due = between at end bs

  -- the end, where the bytes end before it
  abbrev last : ℕ
  last = min end (length bs)

  pub length_due : length due ≡ last - at
  length_due = search (rules, places)

  byte_due : (k : ℕ) → at + k < last → get_or due k 0 ≡ get_or bs (at + k) 0
  byte_due k h = search (rules, places)

  pub tag_due : at < last → tag_of due ≡ get_or bs at 0
  tag_due h = byte_due 0 (omega arith) ∙ ap (λ k. get_or bs k 0) (omega arith)

  pub size_due : 3 ≤ last - at → size_of due ≡ get_or bs (at + 1) 0 * 256 + get_or bs (at + 2) 0
  size_due h = λ i. byte_due 1 (omega arith) i * 256 + byte_due 2 (omega arith) i

  module _ (some : at < last) where
    some_byte : eqb (length due) 0 ≡ false
    some_byte = ne_eqb (length due) 0 (omega (arith, length_due))

    pub wrong_tag : may_come (get_or bs at 0) ≡ false → framed may_come due ≡ Err Malformed
    wrong_tag e = λ i. tested (some_byte i) ((ap may_come (tag_due some) ∙ e) i) (leb (3 + size_of due) (length due))

    module _ (comes : may_come (get_or bs at 0) ≡ true) where
      short : length due < 3 + size_of due → framed may_come due ≡ Err NoFit
      short h = λ i. tested (some_byte i) ((ap may_come (tag_due some) ∙ comes) i) (lt-leb (3 + size_of due) (length due) h i)

      pub no_content : 3 ≤ last - at → last - at - 3 < get_or bs (at + 1) 0 * 256 + get_or bs (at + 2) 0 → framed may_come due ≡ Err NoFit
      no_content head h = short (omega (arith, length_due, size_due head))

-- A field that is framed fits (`framed_fits`), and the content of a field that was read (`got`).
use Rattle.std.proofs.Common.{◌≡◌, ℕ, ◌+◌, ◌≤◌, min, Bool, cond, eqb, leb, List, length, take, drop, Ok, Err, Result, sym, ap, ◌∙◌, arith, Bor, rules}
use Rattle.std.specs.List.{between}
use Rattle.std.proofs.lemmas.List.{places, same_lists}
use Rattle.std.proofs.lemmas.Bool.{leb-true}
use Rattle.std.proofs.lemmas.List.Edits.{length-between}
use Rattle.encoding.specs.declared.faults.FieldFault.{FieldFault}
use Rattle.encoding.specs.declared.faults.FieldFault.TheVariants.{NoFit, Malformed}
use Rattle.encoding.specs.Read.{tag_of, size_of, content_of, framed}
use Rattle.encoding.proofs.Unframed.{cond_ok, cond_err}
use Rattle.archive.specs.declared.spans.Span.{Span}
use Rattle.archive.specs.declared.fields.Field.{Field}
use Rattle.archive.specs.Fields.{Part, part_of, field_tag, left}
use Rattle.archive.proofs.Framing.{length_due}

-- a field that is framed fits into what is left
pub framed_fits : (may_come : ℕ → Bool) (due : List ℕ) → framed may_come due ≡ Ok tt → 3 + size_of due ≤ length due
framed_fits may_come due e =
    let fits = leb (3 + size_of due) (length due) in
    let inner : Result Unit FieldFault = cond fits (Ok tt) (Err NoFit) in
    let a = cond_err (eqb (length due) 0) NoFit (cond (may_come (tag_of due)) inner (Err Malformed)) tt e in
    let b = cond_ok (may_come (tag_of due)) inner Malformed tt a.1 in
    leb-true (3 + size_of due) (length due) (cond_ok fits (Ok tt) NoFit tt b.1).0

-- the part of a part; m is 3, which would compute
part_of_part : (bs : List ℕ) (at end m n : ℕ) → m + n ≤ length (between at end bs) → between (at + m) (at + m + n) bs ≡ take n (drop m (between at end bs))
part_of_part bs at end m n h = same_lists _ _ (search (rules, places)) (λ k d l. grind (arith, places))

pub content_at : (bs : List ℕ) (at end n : ℕ) → 3 + n ≤ length (between at end bs) → between (at + 3) (at + 3 + n) bs ≡ take n (drop 3 (between at end bs))
content_at bs at end n h = part_of_part bs at end 3 n h

pub record Got (b : Bor (List ℕ)) (s : Span) (p : Bor (List ℕ)) : Type 0 where
  pub content : p.now ≡ content_of (left b.now s)
  pub size : length p.now ≡ size_of (left b.now s)
  pub part : Part b (s.at + 3) (length p.now) p
  pub within : s.at + (3 + size_of (left b.now s)) ≤ min s.end (length b.now)

pub got : (b : Bor (List ℕ)) (s : Span) (may_come : ℕ → Bool) (f : Field) (p : Bor (List ℕ)) → (framed may_come (left b.now s) ≡ Ok tt) × (field_tag f ≡ tag_of (left b.now s)) × Part b (s.at + 3) (size_of (left b.now s)) (part_of f) → part_of f ≡ p → Got b s p
got b s may_come f p h e =
    let fits = framed_fits may_come (left b.now s) h.0 in
    let part : Part b (s.at + 3) (size_of (left b.now s)) p = rw e at h.2 in
    let n : length p.now ≡ size_of (left b.now s) = ap length part.bytes ∙ length-between b.now (s.at + 3) (s.at + 3 + size_of (left b.now s)) part.fits ∙ omega arith in
    record {
      content = part.bytes ∙ content_at b.now s.at s.end (size_of (left b.now s)) fits;
      size = n;
      part = record { block = part.block; place = part.place; bytes = part.bytes ∙ ap (λ m. between (s.at + 3) (s.at + 3 + m) b.now) (sym n); fits = omega (arith, part.fits) };
      within = omega (arith, length_due b.now s.at s.end may_come);
    }

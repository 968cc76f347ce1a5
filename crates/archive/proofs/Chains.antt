-- What the bytes hold after a chain of begin, add and close: `added` and `finished`.
use Rattle.std.proofs.Common.{◌≡◌, ℕ, ◌+◌, ◌≤◌, List, [], ◌∷◌, ◌++◌, length, take, drop, sym, refl, ap, ◌∙◌, arith}
use Rattle.std.proofs.lemmas.List.{append_assoc, append-nil, length-append, length-take, take_at}
use Rattle.std.proofs.ByRecursion.{All-push}
use Rattle.plane.specs.declared.halfsegment.Halfsegment.{Halfsegment}
use Rattle.region.proofs.Verdicts.{accepts}
use Rattle.encoding.specs.Format.{Plan, Archive, SoundPlan, date_field, plan_field, plan_fields, last_field, encoded}
use Rattle.encoding.specs.Read.{read_of}
use Rattle.encoding.proofs.Back.{back}
use Rattle.archive.specs.declared.states.OpenArchive.{OpenArchive}
use Rattle.archive.specs.Writing.{patched, plan_size, Holds, Finished}
use Rattle.archive.proofs.Adding.{Admitted, length_plan_field}

-- the bytes up to the end of a write
pub take_patched : (bs new : List ℕ) (at n : ℕ) → at ≤ length bs → n ≡ at + length new → take n (patched bs at new) ≡ take at bs ++ new
take_patched bs new at n within e =
    ap (take n) (sym (append_assoc (take at bs) new (drop (at + length new) bs))) ∙ take_at (take at bs ++ new) (drop (at + length new) bs) n (omega (arith, length-append (take at bs) new, length-take at bs))

-- what an open archive holds lies within the bytes
within : (a : Archive) (o : OpenArchive) (bs : List ℕ) → Holds a o bs → o.len ≤ length bs
within a o bs h = omega (arith, ap length h.bytes, length-take o.len bs, h.size)

fields_push : (ps : List Plan) (p : Plan) → plan_fields (ps ++ (p ∷ [])) ≡ plan_fields ps ++ plan_field p
fields_push [] p = append-nil (plan_field p)
fields_push (q ∷ ps) p = ap (λ bs. plan_field q ++ bs) (fields_push ps p) ∙ sym (append_assoc (plan_field q) (plan_fields ps) (plan_field p))

module _ (o : OpenArchive) (room : ℕ) (title : List ℕ) (rows : List Halfsegment) (adm : Admitted o room title rows) where
  abbrev plan : Plan
  plan = record { title = title; rows = rows }

  sound_plan : SoundPlan plan
  sound_plan =
      let ok = (accepts rows).0 adm.checked in
      record { title = adm.title_is; well_formed = ok.0; closed = ok.1; few = adm.few }

  pub added : (bs cs : List ℕ) (p : OpenArchive) → p ≡ record { len = o.len + plan_size title rows; plans = o.plans + 1 } → cs ≡ patched bs o.len (plan_field plan) → (a : Archive) → Holds a o bs → Holds record { date = a.date; plans = a.plans ++ (plan ∷ []) } p cs
  added bs cs p is e a h =
      let n = length_plan_field title rows in
      let fields : date_field a.date ++ plan_fields (a.plans ++ (plan ∷ [])) ≡ (date_field a.date ++ plan_fields a.plans) ++ plan_field plan = ap (λ bs. date_field a.date ++ bs) (fields_push a.plans plan) ∙ sym (append_assoc (date_field a.date) (plan_fields a.plans) (plan_field plan)) in
      let m = length-append a.plans (plan ∷ []) in
      record {
        bytes = (λ i. take (is i).len (e i)) ∙ take_patched bs (plan_field plan) o.len (o.len + plan_size title rows) (within a o bs h) (omega arith) ∙ ap (λ l. l ++ plan_field plan) h.bytes ∙ sym fields;
        size = ap (λ q. q.len) is ∙ omega (arith, ap length fields, length-append (date_field a.date ++ plan_fields a.plans) (plan_field plan), h.size);
        count = ap (λ q. q.plans) is ∙ omega (arith, h.count);
        sound = record {
          date = h.sound.date;
          plans = All-push SoundPlan a.plans plan h.sound.plans sound_plan;
          count = omega (arith, adm.numbered, h.count);
        };
      }

closed_bytes : (o : OpenArchive) (bs cs : List ℕ) → cs ≡ patched bs o.len (last_field o.plans) → (a : Archive) → Holds a o bs → take (o.len + 5) cs ≡ encoded a
closed_bytes o bs cs e a h =
    ap (take (o.len + 5)) e ∙ take_patched bs (last_field o.plans) o.len (o.len + 5) (within a o bs h) refl ∙ (λ i. h.bytes i ++ last_field (h.count i)) ∙ append_assoc (date_field a.date) (plan_fields a.plans) (last_field (length a.plans))

pub finished : (o : OpenArchive) (bs cs : List ℕ) → cs ≡ patched bs o.len (last_field o.plans) → (a : Archive) → Holds a o bs → Finished a record { len = o.len + 5 } cs
finished o bs cs e a h =
    let whole = closed_bytes o bs cs e a h in
    record { bytes = whole; sound = h.sound; reads = ap read_of whole ∙ back a h.sound }

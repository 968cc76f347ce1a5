-- For `read_rows`: what each line leaves in the store.
use Rattle.std.proofs.Common.{◌≡◌, ℕ, suc, ◌+◌, ◌<◌, ◌≤◌, true, false, cond, ltb, List, [], ◌∷◌, ◌++◌, length, get_or, take, drop, is_ok, Some, None, Ok, Err, Option, Result, sym, refl, ap, ◌∙◌, subst, add-one, zero-add, arith}
use Rattle.std.specs.List.{enumerate_from}
use Rattle.std.specs.Option.{ok_or}
use Rattle.std.specs.Result.{IsErrAnd, MatchResult}
use Rattle.std.proofs.lemmas.List.{take_all, drop_all, length-append, at_drop_more, at_drop_all, get_or_default}
use Rattle.std.proofs.lemmas.List.FromFn.{length-enumerate_from, get_or-enumerate_from}
use Rattle.std.proofs.lemmas.Bool.Decides.{nat_tests}
use Rattle.plane.specs.declared.halfsegment.Halfsegment.{Halfsegment}
use Rattle.storage.specs.declared.interface.InsertRefusal.{InsertRefusal}
use Rattle.storage.specs.Rows.{Inserted}
use Rattle.plantext.specs.declared.plans.LineFault.{LineFault}
use Rattle.plantext.specs.declared.plans.LineFault.TheVariants.{NotARow, NoRoom}
use Rattle.plantext.specs.Text.{row_of_line}
use Rattle.plantext.specs.Plans.{lines_of, fill_answer, fill_rows}

-- so far: what is to be answered and to stand at the end follows from what stands now and the lines from `done` on
pub record Filling (room : ℕ) (start : List Halfsegment) (text : List ℕ) (now_room : ℕ) (rows : List Halfsegment) (done : ℕ) : Type 0 where
  pub same : now_room ≡ room
  pub answer : fill_answer room (length start) 0 (lines_of text) ≡ fill_answer room (length rows) done (drop done (lines_of text))
  pub stands : fill_rows room start (lines_of text) ≡ fill_rows room rows (drop done (lines_of text))

-- the item (number, line) is the next of the lines ls, after `done`
pub record Turn (ls : List (List ℕ)) (done number : ℕ) (line : List ℕ) : Type 0 where
  pub here : done < length ls
  pub number_is : number ≡ done
  pub line_is : get_or ls done [] ≡ line

pub turned : (ls : List (List ℕ)) (done number : ℕ) (line : List ℕ) → (done < length (enumerate_from 0 ls)) × ((number, line) ≡ get_or (enumerate_from 0 ls) done (number, line)) → Turn ls done number line
turned ls done number line h =
    let here : done < length ls = omega (arith, h.0, length-enumerate_from 0 ls) in
    let at = h.1 ∙ get_or-enumerate_from 0 ls done (number, line) here in
    record {
      here = here;
      number_is = ap (λ (p : ℕ × List ℕ). p.0) at ∙ zero-add done;
      line_is = get_or_default ls done [] line here ∙ sym (ap (λ (p : ℕ × List ℕ). p.1) at);
    }

module _ (room : ℕ) (rows : List Halfsegment) (done : ℕ) (line : List ℕ) (ls : List (List ℕ)) where
  bad_answer : row_of_line line ≡ None → fill_answer room (length rows) done (line ∷ ls) ≡ Err (NotARow (suc done))
  bad_answer e = ap (λ o. elim o [ None ↦ Err (NotARow (suc done)) | Some h ↦ cond (ltb (length rows) room) (fill_answer room (suc (length rows)) (suc done) ls) (Err (NoRoom (suc done))) ]) e

  bad_rows : row_of_line line ≡ None → fill_rows room rows (line ∷ ls) ≡ rows
  bad_rows e = ap (λ o. elim o [ None ↦ rows | Some h ↦ cond (ltb (length rows) room) (fill_rows room (rows ++ h ∷ []) ls) rows ]) e

  good_answer : (row : Halfsegment) → row_of_line line ≡ Some row → fill_answer room (length rows) done (line ∷ ls) ≡ cond (ltb (length rows) room) (fill_answer room (suc (length rows)) (suc done) ls) (Err (NoRoom (suc done)))
  good_answer row e = ap (λ o. elim o [ None ↦ Err (NotARow (suc done)) | Some h ↦ cond (ltb (length rows) room) (fill_answer room (suc (length rows)) (suc done) ls) (Err (NoRoom (suc done))) ]) e

  good_rows : (row : Halfsegment) → row_of_line line ≡ Some row → fill_rows room rows (line ∷ ls) ≡ cond (ltb (length rows) room) (fill_rows room (rows ++ row ∷ []) ls) rows
  good_rows row e = ap (λ o. elim o [ None ↦ rows | Some h ↦ cond (ltb (length rows) room) (fill_rows room (rows ++ h ∷ []) ls) rows ]) e

-- a row that is inserted at the end, or finds no room
added : (room i : ℕ) (xs ys : List Halfsegment) (row : Halfsegment) → Inserted xs room i row (Ok tt) ys → i ≡ length xs → (ltb (length xs) room ≡ true) × (ys ≡ xs ++ row ∷ [])
added room i xs ys row p e = (
  grind (arith, nat_tests, p.answer),
  p.stands ∙ (λ j. take (e j) xs ++ row ∷ drop (e j) xs) ∙ (λ j. take_all (length xs) xs (omega arith) j ++ row ∷ drop_all (length xs) xs (omega arith) j),
)

full : (room i : ℕ) (xs ys : List Halfsegment) (row : Halfsegment) (f : InsertRefusal) → Inserted xs room i row (Err f) ys → i ≡ length xs → (ltb (length xs) room ≡ false) × (ys ≡ xs)
full room i xs ys row f p e = (grind (arith, nat_tests, p.answer), p.stands)

-- the ways out of a turn of the loop, and into the next
module _ (room : ℕ) (start : List Halfsegment) (text : List ℕ) (now_room : ℕ) (rows : List Halfsegment) (done : ℕ) (filling : Filling room start text now_room rows done) where
  abbrev Ends : Result Unit LineFault → List Halfsegment → Type 0
  Ends r ys = (r ≡ fill_answer room (length start) 0 (lines_of text)) × (ys ≡ fill_rows room start (lines_of text))

  pub ends_read : length (lines_of text) ≤ done → Ends (Ok tt) rows
  ends_read l = (
    sym (filling.answer ∙ at_drop_all (fill_answer room (length rows) done) (lines_of text) done l),
    sym (filling.stands ∙ at_drop_all (fill_rows room rows) (lines_of text) done l),
  )

  module _ (number : ℕ) (line : List ℕ) (turn : Turn (lines_of text) done number line) where
    abbrev others : List (List ℕ)
    others = drop (done + 1) (lines_of text)

    answer_now : fill_answer room (length start) 0 (lines_of text) ≡ fill_answer room (length rows) done (line ∷ others)
    answer_now = filling.answer ∙ at_drop_more (fill_answer room (length rows) done) (lines_of text) done [] turn.here ∙ ap (λ l. fill_answer room (length rows) done (l ∷ others)) turn.line_is

    rows_now : fill_rows room start (lines_of text) ≡ fill_rows room rows (line ∷ others)
    rows_now = filling.stands ∙ at_drop_more (fill_rows room rows) (lines_of text) done [] turn.here ∙ ap (λ l. fill_rows room rows (l ∷ others)) turn.line_is

    one_more : number + 1 ≡ suc done
    one_more = ap (λ n. n + 1) turn.number_is ∙ add-one done

    pub ends_bad : None ≡ row_of_line line → Ends (Err (NotARow (number + 1))) rows
    ends_bad e = (
      ap (λ k. Err (NotARow k)) one_more ∙ sym (answer_now ∙ bad_answer room rows done line others (sym e)),
      sym (rows_now ∙ bad_rows room rows done line others (sym e)),
    )

    module _ (row : Halfsegment) (reads : Some row ≡ row_of_line line) (i : ℕ) (ys : List Halfsegment) (r : Result Unit InsertRefusal) (put : Inserted rows now_room i row r ys) (at_end : i ≡ length rows) where
      in_room : (r' : Result Unit InsertRefusal) → r ≡ r' → Inserted rows room i row r' ys
      in_room r' e = subst (λ q. Inserted rows room i row q ys) e (subst (λ k. Inserted rows k i row r ys) filling.same put)

      pub ends_full : (f : InsertRefusal) → r ≡ Err f → Ends (Err (NoRoom (number + 1))) ys
      ends_full f e =
          let n = full room i rows ys row f (in_room (Err f) e) at_end in (
            ap (λ k. Err (NoRoom k)) one_more ∙ sym (answer_now ∙ good_answer room rows done line others row (sym reads) ∙ ap (λ t. cond t (fill_answer room (suc (length rows)) (suc done) others) (Err (NoRoom (suc done)))) n.0),
            n.1 ∙ sym (rows_now ∙ good_rows room rows done line others row (sym reads) ∙ ap (λ t. cond t (fill_rows room (rows ++ row ∷ []) others) rows) n.0),
          )

      pub goes_on : (next_room : ℕ) → r ≡ Ok tt → next_room ≡ now_room → Filling room start text next_room ys (done + 1)
      goes_on next_room e same =
          let n = added room i rows ys row (in_room (Ok tt) e) at_end in
          let len : suc (length rows) ≡ length ys = sym (ap length n.1 ∙ simp length-append (omega arith)) in
          record {
            same = same ∙ filling.same;
            answer = answer_now ∙ good_answer room rows done line others row (sym reads) ∙ ap (λ t. cond t (fill_answer room (suc (length rows)) (suc done) others) (Err (NoRoom (suc done)))) n.0 ∙ ap (λ k. fill_answer room k (suc done) others) len ∙ ap (λ k. fill_answer room (length ys) k others) (sym (add-one done));
            stands = rows_now ∙ good_rows room rows done line others row (sym reads) ∙ ap (λ t. cond t (fill_rows room (rows ++ row ∷ []) others) rows) n.0 ∙ ap (λ l. fill_rows room l others) (sym n.1);
          }

-- what the calls that a `?` follows say
pub fault_is : (r : Result Unit LineFault) (f : LineFault) → IsErrAnd r (λ e. e ≡ f) → r ≡ Err f
fault_is (Ok x) f h = absurd h
fault_is (Err e) f h = ap Err h

pub no_row : (o : Option Halfsegment) (e f : LineFault) → ◌≡◌ {A = Result Halfsegment LineFault} (Err f) (ok_or o e) → (None ≡ o) × (f ≡ e)
no_row None e f h = (refl, cc)
no_row (Some x) e f h = absurd (cc)

pub some_row : (o : Option Halfsegment) (e : LineFault) (row : Halfsegment) → ◌≡◌ {A = Result Halfsegment LineFault} (Ok row) (ok_or o e) → Some row ≡ o
some_row None e row h = absurd (cc)
some_row (Some x) e row h = cc

pub record Refused (r : Result Unit InsertRefusal) (f told : LineFault) : Type 0 where
  pub refusal : InsertRefusal
  pub is : r ≡ Err refusal
  pub same : f ≡ told

pub refused : (r : Result Unit InsertRefusal) (Q : InsertRefusal → Type 0) (f told : LineFault) → MatchResult r (λ x. ◌≡◌ {A = Result Unit LineFault} (Err f) (Ok x)) Q → ((e : InsertRefusal) → Q e → f ≡ told) → Refused r f told
refused (Ok x) Q f told h tells = absurd (cc)
refused (Err e) Q f told h tells = record { refusal = e; is = refl; same = tells e h }

pub inserted : (r : Result Unit InsertRefusal) → true ≡ is_ok r → r ≡ Ok tt
inserted (Ok _) h = refl
inserted (Err e) h = absurd (cc)

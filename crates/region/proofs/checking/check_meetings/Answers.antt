use Rattle.std.proofs.Common.{◌≡◌, ◌+◌, Err, true, false, drop, sym, ap, ◌∙◌, ⊎_elim, arith, rules}
use Rattle.std.proofs.lemmas.Bool.{cases_lt}
use Rattle.algebra.proofs.Members.{apart}
use Rattle.plane.specs.Rows.{left, segment_of}
use Rattle.plane.specs.Meeting.{improper}
use Rattle.region.specs.declared.refusals.CheckRefusal.TheVariants.{Improper}
use Rattle.region.specs.Check.{row}
use Rattle.region.proofs.Passes.{front, past}
use Rattle.region.proofs.Meetings.{ClearOfLater, met, clear_rest, clear_more, all_more, further, meetings_none, meetings_found}
use Rattle.region.proofs.checking.check_meetings.Goals as goal
use Rattle.region.proofs.checking.check_meetings.Goals.{else-is_left-via-then-is_left+else-meet_improperly, else-is_left-via-else-is_left}

pub search-preserved-in-None-g : goal.search-preserved-in-None-g
search-preserved-in-None-g g c =
    let rows = g.S.Source.rows c.args.s.now in
    let s = c.in-Some.ensures.steps in
    let here = front rows c.search.i-iterator.count c.in-Some.h _ (sym c.search.invariant.0 ∙ s.0) in
    let at : c.segment-l.result ≡ segment_of (row rows c.search.i-iterator.count) = c.segment-l.ensures ∙ ap segment_of (sym here.is) in
    let inner = c.loop-g.invariant in
    let end = past rows inner.0 (sym inner.2 ∙ c.in-None-g.ensures.steps.0) in (
      sym here.rest ∙ ap (λ n. drop n rows) (sym s.2),
      inner.3,
      λ k l. all_more (ClearOfLater rows) c.search.i-iterator.count c.search.invariant.2 (λ j lo hi e. ap (λ m. improper m (segment_of (row rows j))) (sym at) ∙ inner.4 j (omega (arith, s.1)) (omega arith) e) k (rw s.2 at l),
    )

pub returns-in-None : goal.returns-in-None
returns-in-None g c =
    let rows = g.S.Source.rows c.args.s.now in
    c.search.invariant.1 ∙ meetings_none rows c.requires.fits c.requires.twins c.search.i-iterator.count (past rows c.search.i-iterator.count (sym c.search.invariant.0 ∙ c.in-None.ensures.steps.0.0)) c.search.invariant.2

pub search-preserved : goal.search-preserved
search-preserved g c =
    let rows = g.S.Source.rows c.args.s.now in
    let s = c.in-Some.ensures.steps in
    let i = c.search.i-iterator.count in
    let inner = c.loop-g.invariant in
    let here = front rows i c.in-Some.h _ (sym c.search.invariant.0 ∙ s.0) in
    let later = front rows inner.0 c.in-Some-g.g _ (sym inner.2 ∙ c.in-Some-g.ensures.steps) in
    let at : c.segment-l.result ≡ segment_of (row rows i) = c.segment-l.ensures ∙ ap segment_of (sym here.is) in (
      sym here.rest ∙ ap (λ n. drop n rows) (sym s.2),
      inner.3,
      λ k l. all_more (ClearOfLater rows) i c.search.invariant.2
          (λ j lo hi. ⊎_elim (λ below e. ap (λ m. improper m (segment_of (row rows j))) (sym at) ∙ inner.4 j (omega (arith, s.1)) below e)
          (λ beyond. clear_rest rows c.requires.fits c.requires.twins i inner.0 c.in-Some.h c.in-Some-g.g c.segment-l.result here.within c.requires.rising here.is later.is c.segment-l.ensures (further c.segment-l.result.high.x c.in-Some-g.g.dominating.x (search rules) (search rules) c.if-g-l.true) j beyond hi)
          (cases_lt j inner.0))
          k (rw s.2 at l),
    )

pub loop-g-preserved : goal.loop-g-preserved
loop-g-preserved g c =
    let rows = g.S.Source.rows c.args.s.now in
    let s = c.in-Some.ensures.steps in
    let i = c.search.i-iterator.count in
    let inner = c.loop-g.invariant in
    let here = front rows i c.in-Some.h _ (sym c.search.invariant.0 ∙ s.0) in
    let later = front rows inner.0 c.in-Some-g.g _ (sym inner.2 ∙ c.in-Some-g.ensures.steps) in
    let at : c.segment-l.result ≡ segment_of (row rows i) = c.segment-l.ensures ∙ ap segment_of (sym here.is) in (
      inner.0 + 1,
      omega arith,
      sym later.rest,
      inner.3,
      clear_more (λ j. left (row rows j) ≡ true → improper c.segment-l.result (segment_of (row rows j)) ≡ false) c.in-Some.i inner.0 inner.4
          (elim c.else-is_left.branch [
            | else-is_left-via-then-is_left+else-meet_improperly w ↦ λ _. ap (λ m. improper m (segment_of (row rows inner.0))) at ∙ met rows c.requires.fits c.requires.twins i inner.0 c.in-Some.h c.in-Some-g.g c.segment-l.result w.segment.result w.meet_improperly.result here.within later.within here.is later.is c.segment-l.ensures w.segment.ensures w.meet_improperly.ensures.signs ∙ w.if-meet_improperly.false
            | else-is_left-via-else-is_left w ↦ λ e. absurd (apart e (ap left later.is ∙ sym c.is_left.ensures ∙ w.if-is_left.false))
          ]),
    )

pub returns-then-meet_improperly : goal.returns-then-meet_improperly
returns-then-meet_improperly g c =
    let rows = g.S.Source.rows c.args.s.now in
    let s = c.in-Some.ensures.steps in
    let i = c.search.i-iterator.count in
    let inner = c.loop-g.invariant in
    let here = front rows i c.in-Some.h _ (sym c.search.invariant.0 ∙ s.0) in
    let later = front rows inner.0 c.in-Some-g.g _ (sym inner.2 ∙ c.in-Some-g.ensures.steps) in
    ap (λ n. Err (Improper n)) s.1
    ∙ meetings_found rows c.requires.fits c.requires.twins i inner.0 here.within later.within
    (met rows c.requires.fits c.requires.twins i inner.0 c.in-Some.h c.in-Some-g.g c.segment-l.result c.segment.result c.meet_improperly.result here.within later.within here.is later.is c.segment-l.ensures c.segment.ensures c.meet_improperly.ensures.signs ∙ c.if-meet_improperly.true)
    c.search.invariant.2

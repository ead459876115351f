-- A report tells just the marked pages of its span.
use Rattle.std.proofs.Common.{◌≡◌, ℕ, zero, suc, ◌+◌, ◌-◌, ◌*◌, ◌/◌, ◌%◌, ◌<◌, ◌≤◌, Bool, true, false, cond}
use Rattle.std.proofs.Common.{eqb, ltb, Some, None, Option, List, [], ◌∷◌, ◌++◌, refl, ap, sym, ◌∙◌, subst, arith}
use Rattle.std.proofs.Common.{Contains}
use Rattle.std.specs.Int.{bit_at}
use Rattle.std.specs.Prelude.{◌↔◌}
use Rattle.std.specs.List.{list_any, slice_get}
use Rattle.std.proofs.Math.Nat.{div-add-mod}
use Rattle.std.proofs.lemmas.Bool.{eqb-true, eq-eqb}
use Rattle.std.proofs.lemmas.Bool.Decides.{nat_tests}
use Rattle.iofd_steps.specs.Answers.{Answers}
use Rattle.iofd_words.specs.Bounds.{Bounds}
use Rattle.iofd_refusals.specs.Checks.{dirty_checks}
use Rattle.iofd_words.specs.Dirty.{has_mark, is_marked, is_tracked_as, reported_span, reported_words}
use Rattle.iofd_words.specs.DirtyWords.{dirty_word, dirty_words, is_page_of, is_reported, word_pages}
use Rattle.iofd_words.specs.FirstTrue.{first_true}
use Rattle.iofd_steps.specs.Look.{answers_in}
use Rattle.iofd_steps.specs.Run.{IsRun, world_of}
use Rattle.iofd_words.specs.Record.{Record}
use Rattle.iofd_words.specs.Settings.{Settings}
use Rattle.iofd_words.specs.View.{view}
use Rattle.iofd_words.specs.World.{World}
use Rattle.iofd_words.specs.declared.event.DirtyRequest.{DirtyRequest}
use Rattle.iofd_words.specs.declared.event.Event.TheVariants as event
use Rattle.iofd_words.specs.declared.numbers.FileNo.{FileNo}
use Rattle.iofd_words.specs.declared.numbers.ObjId.{ObjId}
use Rattle.iofd_words.specs.declared.query.Answer.TheVariants as answer
use Rattle.iofd_words.specs.declared.query.Query.TheVariants as query
use Rattle.iofd_words.specs.declared.refusal.Cause.{Cause}
use Rattle.iofd_words.specs.declared.reply.Reply.TheVariants as reply
use Rattle.iofd_rows.proofs.Bools.{and_true, both_true}
use Rattle.iofd_rows.proofs.Contained.{contained_in_one}
use Rattle.iofd_rows.proofs.Each.{IsIn, of_any}
use Rattle.iofd_runs.proofs.Accessed.{some_in}
use Rattle.iofd_runs.proofs.NotRefused.{DirtyPassed, dirty_passed}
use Rattle.iofd_promises.proofs.Rows.{contains, within}
use Rattle.iofd_promises.proofs.Steps.{answered_in}
use Rattle.iofd_promises.specs.Marks.{IsAskedFor, IsMarked, IsTold}
use Rattle.iofd_promises.proofs.dirty.Bits.{bit_is}
use Rattle.iofd_promises.proofs.dirty.Rows.{name_is, named}
use Rattle.iofd_promises.proofs.dirty.Spans.{asked_for, of_span}

-- ---- marks and their test

tested : (w : World) (file : FileNo) (hwpt : ObjId) (page : ℕ) → IsMarked w file hwpt page
    → is_marked w.tracked file hwpt page ≡ true
tested w file hwpt page is =
    of_any (has_mark file hwpt page) w.tracked is.row (within w.tracked is.row is.there)
    (both_true _ _ (named file hwpt is.row is.of_file is.of_table)
    (of_any (λ (marked : ℕ). eqb marked page) is.row.pages page (within is.row.pages page is.marked)
    (eq-eqb page page refl)))

marked_by_test : (w : World) (file : FileNo) (hwpt : ObjId) (page : ℕ) → is_marked w.tracked file hwpt page ≡ true
    → IsMarked w file hwpt page
marked_by_test w file hwpt page is =
    let (row, there, has) = some_in (has_mark file hwpt page) w.tracked is in
    let parts = and_true (is_tracked_as file hwpt row) (list_any (λ marked. eqb marked page) row.pages) has in
    let (mark, listed, same) = some_in (λ (marked : ℕ). eqb marked page) row.pages parts.1 in
    let (of_file, of_table) = name_is file hwpt row parts.0 in
    record {
      row = row;
      there = contains w.tracked row there;
      of_file = of_file;
      of_table = of_table;
      marked = contains row.pages page
          (subst (λ (p : ℕ). IsIn row.pages p) (eqb-true mark page same) listed);
    }

-- ---- words

module _ (marked : ℕ → Bool) (span : Bounds) where
  abbrev first : ℕ
  first = span.first / 4096

  -- bit k of a word is the test of the page k places behind
  word_bit : (page k : ℕ) → k < 64
      → bit_at (dirty_word marked span page) k ≡ cond (is_reported marked span (page + k)) 1 0
  unfolding word_pages
  word_bit page k below = bit_is (λ i. is_reported marked span (page + i)) 64 k below

  word_at : (word value : ℕ) → slice_get (dirty_words marked span) word ≡ Some value
      → value ≡ dirty_word marked span (first + 64 * word)
  word_at zero value is = cc
  word_at (suc zero) value is = cc
  word_at (suc (suc zero)) value is = cc
  word_at (suc (suc (suc zero))) value is = cc
  word_at (suc (suc (suc (suc word)))) value is = cc

  at_word : (word : ℕ) → word < 4
      → slice_get (dirty_words marked span) word ≡ Some (dirty_word marked span (first + 64 * word))
  at_word zero below = refl
  at_word (suc zero) below = refl
  at_word (suc (suc zero)) below = refl
  at_word (suc (suc (suc zero))) below = refl
  at_word (suc (suc (suc (suc word)))) below = absurd (omega (arith, below))

set_is : (b : Bool) → ◌≡◌ {A = ℕ} (cond b 1 0) 1 → b ≡ true
set_is true is = refl
set_is false is = cc

-- ---- places in a span of whole pages

place_page : (from page place : ℕ) → from % 4096 ≡ 0 → 4096 * page ≡ from + 4096 * place → from / 4096 + place ≡ page
place_page from page place whole is = let cut = div-add-mod from 4096 in omega (arith, cut, whole, is)

page_place : (from length page : ℕ) → from % 4096 ≡ 0 → length % 4096 ≡ 0 → from ≤ 4096 * page
    → 4096 * page < from + length → ltb 256 (length / 4096) ≡ false
    → (place : ℕ) × (4096 * page ≡ from + 4096 * place) × (from / 4096 + place ≡ page) × (place < 256)
page_place from length page whole even low high few =
    let most : length / 4096 ≤ 256 = search (few, arith, nat_tests) in
    let cut = div-add-mod from 4096 in
    let size = div-add-mod length 4096 in (
      page - from / 4096,
      omega (arith, cut, whole, low),
      omega (arith, cut, whole, low),
      omega (arith, cut, size, whole, even, low, high, most),
    )

-- ---- reports

module _ (w : World) (file : FileNo) (request : DirtyRequest)
    (none : first_true (dirty_checks (view w) file request) ≡ None) (page : ℕ) where
  passed : DirtyPassed (view w) file request
  passed = dirty_passed (view w) file request none

  parts : (eqb (request.length % 4096) 0 ≡ true) × (eqb (request.iova.0 % 4096) 0 ≡ true)
  parts = and_true (eqb (request.length % 4096) 0) (eqb (request.iova.0 % 4096) 0) passed.whole

  whole : request.iova.0 % 4096 ≡ 0
  whole = eqb-true (request.iova.0 % 4096) 0 parts.1

  even : request.length % 4096 ≡ 0
  even = eqb-true (request.length % 4096) 0 parts.0

  abbrev marked : ℕ → Bool
  marked = is_marked w.tracked file request.hwpt

  pub told_is_marked : IsTold (reported_words w.tracked file request) request page
      → IsMarked w file request.hwpt page × IsAskedFor request page
  told_is_marked told =
      let page_is = place_page request.iova.0 page (64 * told.word + told.bit) whole told.place in
      let word_is = word_at marked (reported_span request) told.word told.value told.there in
      let set = ap (λ n. bit_at n told.bit) (sym word_is) ∙ told.set in
      let at = word_bit marked (reported_span request) (request.iova.0 / 4096 + 64 * told.word) told.bit told.below in
      let place : request.iova.0 / 4096 + 64 * told.word + told.bit ≡ page = omega (arith, page_is) in
      let tests = subst (λ n. is_reported marked (reported_span request) n ≡ true) place (set_is _ (sym at ∙ set)) in
      let both = and_true (marked page) (is_page_of (reported_span request) page) tests in (
        marked_by_test w file request.hwpt page both.0,
        asked_for (view w) file request passed page both.1,
      )

  pub marked_is_told : IsMarked w file request.hwpt page → IsAskedFor request page
      → IsTold (reported_words w.tracked file request) request page
  unfolding page_place
  marked_is_told mark asked =
      let (place, start, page_is, few) = page_place request.iova.0 request.length page whole even asked.0 asked.1
      passed.few in
      let cut = div-add-mod place 64 in
      let word = place / 64 in
      let bit = place % 64 in
      let bit_below : bit < 64 = omega (arith, cut) in
      let word_below : word < 4 = omega (arith, cut, few) in
      let at : request.iova.0 / 4096 + 64 * word + bit ≡ page = omega (arith, cut, page_is) in
      let tests : is_reported marked (reported_span request) page ≡ true = both_true _ _
      (tested w file request.hwpt page mark) (of_span (view w) file request passed page asked) in
      record {
        word = word;
        bit = bit;
        place = omega (arith, cut, start);
        below = bit_below;
        value = dirty_word marked (reported_span request) (request.iova.0 / 4096 + 64 * word);
        there = at_word marked (reported_span request) word word_below;
        set = word_bit marked (reported_span request) (request.iova.0 / 4096 + 64 * word) bit bit_below
            ∙ ap (λ n. cond (is_reported marked (reported_span request) n) 1 0) at
            ∙ ap (λ b. cond b 1 0) tests;
      }

-- by the words of such a report
told_by : (w : World) (file : FileNo) (request : DirtyRequest) (words : List ℕ) (page : ℕ)
    → first_true (dirty_checks (view w) file request) ≡ None → reported_words w.tracked file request ≡ words
    → IsTold words request page ↔ (IsMarked w file request.hwpt page × IsAskedFor request page)
told_by w file request words page none is = (
  λ told. told_is_marked w file request none page
      (subst (λ (ws : List ℕ). IsTold ws request page) (sym is) told),
  λ both. subst (λ (ws : List ℕ). IsTold ws request page) is
      (marked_is_told w file request none page both.0 both.1),
)

pub told_by_clear : {A : Type 0} (settings : Settings) (before : List (Record A)) (r : Record A) (file : FileNo)
    (request : DirtyRequest) (words : List ℕ) (page : ℕ) → IsRun settings (before ++ r ∷ [])
    → r.event ≡ event.DirtyClear file request → r.reply ≡ reply.Dirty words
    → IsTold words request page
    ↔ (IsMarked (world_of settings before) file request.hwpt page × IsAskedFor request page)
unfolding Answers
told_by_clear settings before r file request words page run asked told =
    let (none, answers) = answered_in settings before r run (event.DirtyClear file request) (reply.Dirty words) refl
    asked told in
    told_by (world_of settings before) file request words page none (sym answers)

pub told_by_look : {A : Type 0} (w : World) (records : List (Record A)) (file : FileNo) (request : DirtyRequest)
    (words : List ℕ) (page : ℕ)
    → Contains (answers_in w records (query.Dirty file request)) (answer.Dirty words)
    → IsTold words request page ↔ (IsMarked w file request.hwpt page × IsAskedFor request page)
unfolding answers_in
told_by_look w records file request words page has =
    by_refusal (first_true (dirty_checks (view w) file request)) refl has
  where
    by_refusal : (o : Option Cause) → first_true (dirty_checks (view w) file request) ≡ o
        → Contains (elim o [
          | Some cause ↦ answer.Refused (record { cause = cause }) ∷ []
          | None ↦ answer.Dirty (reported_words w.tracked file request) ∷ []
        ]) (answer.Dirty words)
        → IsTold words request page ↔ (IsMarked w file request.hwpt page × IsAskedFor request page)
    by_refusal (Some cause) is has = let never = contained_in_one _ _ has in cc
    by_refusal None is has =
        let same = contained_in_one _ _ has in
        let words_same : reported_words w.tracked file request ≡ words = cc in
        told_by w file request words page is words_same

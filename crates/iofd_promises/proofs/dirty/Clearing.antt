-- A report that clears takes just its pages' marks away, and the same report after it tells none.
use Rattle.std.proofs.Common.{◌≡◌, ℕ, ◌+◌, ◌*◌, ◌/◌, ◌^◌, Bool, true, false, cond, ◌&&◌, ◌||◌, not, eqb, ltb, None}
use Rattle.std.proofs.Common.{List, [], ◌∷◌, map, refl, ap, sym, ◌∙◌, subst, ◌⊎◌, inl, inr, ◌++◌, Some, Option}
use Rattle.std.specs.Prelude.{◌↔◌}
use Rattle.std.specs.List.{filter, list_any, range_with_len, sum}
use Rattle.std.proofs.lemmas.Bool.{eqb-true}
use Rattle.iofd_steps.specs.After.{changed}
use Rattle.iofd_steps.specs.Answers.{Answers, AnswersDirty}
use Rattle.iofd_words.specs.Bounds.{Bounds}
use Rattle.iofd_refusals.specs.Checks.{dirty_checks, refusal}
use Rattle.iofd_words.specs.Dirty.{TrackedTable, has_mark, is_marked, is_tracked_as, reported_span, reported_words}
use Rattle.iofd_words.specs.Dirty.{tracks, without_marks}
use Rattle.iofd_words.specs.DirtyWords.{dirty_words, is_page_of, is_reported, word_pages}
use Rattle.iofd_words.specs.Files.{is_open}
use Rattle.iofd_words.specs.FirstTrue.{first_true}
use Rattle.iofd_steps.specs.Look.{answers_in}
use Rattle.iofd_words.specs.Objects.{is_hwpt_under}
use Rattle.iofd_words.specs.Pages.{is_above_sum, is_whole}
use Rattle.iofd_steps.specs.Run.{IsRun, world_of}
use Rattle.iofd_words.specs.Record.{Record}
use Rattle.iofd_words.specs.Settings.{Settings}
use Rattle.iofd_words.specs.Tables.{with_tables}
use Rattle.iofd_words.specs.View.{view}
use Rattle.iofd_words.specs.World.{World}
use Rattle.iofd_words.specs.declared.event.DirtyRequest.{DirtyRequest}
use Rattle.iofd_words.specs.declared.event.Event.{Event}
use Rattle.iofd_words.specs.declared.event.Event.TheVariants as event
use Rattle.iofd_words.specs.declared.numbers.FileNo.{FileNo}
use Rattle.iofd_words.specs.declared.numbers.ObjId.{ObjId}
use Rattle.iofd_words.specs.declared.query.Answer.TheVariants as answer
use Rattle.iofd_words.specs.declared.query.Query.TheVariants as query
use Rattle.iofd_words.specs.declared.refusal.Cause.{Cause}
use Rattle.iofd_words.specs.declared.refusal.Cause.TheVariants as cause
use Rattle.iofd_words.specs.declared.reply.Reply.{Reply}
use Rattle.iofd_words.specs.declared.reply.Reply.TheVariants as reply
use Rattle.iofd_rows.proofs.Bools.{and_true, clash, not_false, not_true}
use Rattle.iofd_rows.proofs.Each.{IsIn, in_filter, in_kept}
use Rattle.iofd_rows.proofs.ListTests.{false_else}
use Rattle.iofd_runs.proofs.Accessed.{some_in}
use Rattle.iofd_runs.proofs.NotRefused.{dirty_passed}
use Rattle.iofd_promises.proofs.Steps.{by_event, by_record}
use Rattle.iofd_promises.specs.Marks.{IsAskedFor, IsMarked}
use Rattle.iofd_promises.proofs.dirty.Records.{ByClear, ByTurn, ByWrite, ComesBy, Stays, unmarked}
use Rattle.iofd_promises.proofs.dirty.Rows.{HasRow, name_is, row_remarked, row_unmarked}
use Rattle.iofd_promises.proofs.dirty.Runs.{HasPage, mark_of_row, row_of_mark, step_comes}
use Rattle.iofd_promises.proofs.dirty.Spans.{asked_for, of_span}

-- ---- what is left of the marks

module _ (w new : World) (file : FileNo) (request : DirtyRequest)
    (none : first_true (dirty_checks (view w) file request) ≡ None)
    (is : new.tracked ≡ without_marks file request.hwpt (reported_span request) w.tracked)
    (own : FileNo) (hwpt : ObjId) (page : ℕ) where
  pub was_marked : IsMarked new own hwpt page
      → IsMarked w own hwpt page × (own ≡ file → hwpt ≡ request.hwpt → IsAskedFor request page → ⊥)
  was_marked mark =
      by_row (row_unmarked (unmarked request) file request.hwpt w.tracked own hwpt (HasPage page)
      (subst (λ (tables : List TrackedTable). HasRow tables own hwpt (HasPage page)) is
      (row_of_mark new own hwpt page mark)))
    where
      by_row : ((file ≡ own) × (request.hwpt ≡ hwpt)
          × HasRow w.tracked own hwpt (λ pages. IsIn (unmarked request pages) page))
          ⊎ ((file ≡ own → request.hwpt ≡ hwpt → ⊥) × HasRow w.tracked own hwpt (HasPage page))
          → IsMarked w own hwpt page × (own ≡ file → hwpt ≡ request.hwpt → IsAskedFor request page → ⊥)
      by_row (inl (files, tables, has)) =
          let (there, outside) = in_filter (λ p. not (is_page_of (reported_span request) p)) has.row.pages page
          has.pages in (
            mark_of_row w own hwpt page (record {
              row = has.row;
              there = has.there;
              of_file = has.of_file;
              of_table = has.of_table;
              pages = there;
            }),
            λ same_file same_table asked. clash _ (not_true _ outside)
                (of_span (view w) file request (dirty_passed (view w) file request none) page asked),
          )
      by_row (inr (other, has)) =
          (mark_of_row w own hwpt page has, λ same_file same_table asked. other (sym same_file) (sym same_table))

  pub stays_marked : IsMarked w own hwpt page → (own ≡ file → hwpt ≡ request.hwpt → IsAskedFor request page → ⊥)
      → IsMarked new own hwpt page
  stays_marked mark outside =
      mark_of_row new own hwpt page
      (subst (λ (tables : List TrackedTable). HasRow tables own hwpt (HasPage page)) (sym is)
      (row_remarked (unmarked request) file request.hwpt w.tracked own hwpt (HasPage page) (HasPage page)
      (λ files tables pages has.
      in_kept (λ p. not (is_page_of (reported_span request) p)) pages page has
      (not_false _ (false_else (is_page_of (reported_span request) page) (λ inside.
      outside (sym files) (sym tables)
      (asked_for (view w) file request (dirty_passed (view w) file request none) page inside)))))
      (λ other pages has. has) (row_of_mark w own hwpt page mark)))

-- ---- the words of a report of what was cleared

abbrev pub zeros : List ℕ
zeros = 0 ∷ 0 ∷ 0 ∷ 0 ∷ []

module _ (marked : ℕ → Bool) (span : Bounds) (none : (n : ℕ) → is_reported marked span n ≡ false) where
  sum_zero : (page : ℕ) (ks : List ℕ) → sum (map (λ k. cond (is_reported marked span (page + k)) (2 ^ k) 0) ks) ≡ 0
  sum_zero page [] = refl
  sum_zero page (k ∷ ks) =
      ap (λ (b : Bool). sum (cond b (2 ^ k) 0 ∷ map (λ i. cond (is_reported marked span (page + i)) (2 ^ i) 0) ks))
      (none (page + k)) ∙ sum_zero page ks

  words_zero : dirty_words marked span ≡ zeros
  words_zero =
      let first = span.first / 4096 in
      rw (
        sum_zero (first + 64 * 0) (range_with_len 0 word_pages),
        sum_zero (first + 64 * 1) (range_with_len 0 word_pages),
        sum_zero (first + 64 * 2) (range_with_len 0 word_pages),
        sum_zero (first + 64 * 3) (range_with_len 0 word_pages),
      )
      refl

-- no page of the span is marked
none_reported : (tables : List TrackedTable) (file : FileNo) (hwpt : ObjId) (span : Bounds) (n : ℕ)
    → is_reported (is_marked (without_marks file hwpt span tables) file hwpt) span n ≡ false
none_reported tables file hwpt span n =
    false_else _ (λ both.
    let parts = and_true (is_marked (without_marks file hwpt span tables) file hwpt n) (is_page_of span n) both in
    let (row, there, has) = some_in (has_mark file hwpt n) (without_marks file hwpt span tables) parts.0 in
    let row_parts = and_true (is_tracked_as file hwpt row) (list_any (λ marked. eqb marked n) row.pages) has in
    let (page, listed, same) = some_in (λ (marked : ℕ). eqb marked n) row.pages row_parts.1 in
    let (of_file, of_table) = name_is file hwpt row row_parts.0 in
    by_row (row_unmarked (λ pages. filter (λ p. not (is_page_of span p)) pages) file hwpt tables file hwpt
    (λ pages. IsIn pages n) (record {
      row = row;
      there = there;
      of_file = of_file;
      of_table = of_table;
      pages = subst (λ (p : ℕ). IsIn row.pages p) (eqb-true page n same) listed;
    })) parts.1)
  where
    by_row : ((file ≡ file) × (hwpt ≡ hwpt)
        × HasRow tables file hwpt (λ pages. IsIn (filter (λ p. not (is_page_of span p)) pages) n))
        ⊎ ((file ≡ file → hwpt ≡ hwpt → ⊥) × HasRow tables file hwpt (λ pages. IsIn pages n))
        → is_page_of span n ≡ true → ⊥
    by_row (inl (files, same, has)) inside =
        clash _ (not_true _ (in_filter (λ p. not (is_page_of span p)) has.row.pages n has.pages).1) inside
    by_row (inr (other, has)) inside = other refl refl

-- ---- nothing refuses the same report

module _ (g : List ℕ → List ℕ) (own : FileNo) (own_table : ObjId) (file : FileNo) (hwpt : ObjId) where
  tracks_same : (tables : List TrackedTable) → tracks (map (λ (t : TrackedTable).
      cond (is_tracked_as own own_table t) (record t { pages = g t.pages }) t) tables) file hwpt
      ≡ tracks tables file hwpt
  tracks_same [] = refl
  tracks_same (t ∷ tables) =
      ap (λ (b : Bool). b || tracks (map (λ (t : TrackedTable).
      cond (is_tracked_as own own_table t) (record t { pages = g t.pages }) t) tables) file hwpt)
      (by_name (is_tracked_as own own_table t)) ∙ ap (λ (b : Bool). is_tracked_as file hwpt t || b) (tracks_same tables)
    where
      by_name : (b : Bool) → is_tracked_as file hwpt (cond b (record t { pages = g t.pages }) t)
          ≡ is_tracked_as file hwpt t
      by_name true = refl
      by_name false = refl

pub record IsClean (w : World) (file : FileNo) (request : DirtyRequest) : Type 0 where
  pub none : first_true (dirty_checks (view w) file request) ≡ None
  pub words : reported_words w.tracked file request ≡ zeros

clean : (w : World) (file : FileNo) (request : DirtyRequest) → first_true (dirty_checks (view w) file request) ≡ None
    → IsClean (record w { tracked = without_marks file request.hwpt (reported_span request) w.tracked }) file request
unfolding dirty_checks
clean w file request none = record {
  none = ap (λ (b : Bool). first_true (
      (cause.Id, not (is_open w.settings w.closed file))
      ∷ (cause.Id, not (is_hwpt_under w.objects file request.hwpt))
      ∷ (cause.Sum, is_above_sum request.iova.0 request.length)
      ∷ (cause.Align, eqb request.length 0 || not (is_whole request.length && is_whole request.iova.0))
      ∷ (cause.Tracking, not b || ltb 256 (request.length / 4096))
      ∷ [])) (tracks_same (unmarked request) file request.hwpt file request.hwpt w.tracked) ∙ none;
  words = words_zero (is_marked (without_marks file request.hwpt (reported_span request) w.tracked) file request.hwpt)
      (reported_span request) (none_reported w.tracked file request.hwpt (reported_span request));
}

pub clean_after : {A : Type 0} (settings : Settings) (before : List (Record A)) (r : Record A) (file : FileNo)
    (request : DirtyRequest) (words : List ℕ) → IsRun settings (before ++ r ∷ [])
    → r.event ≡ event.DirtyClear file request → r.reply ≡ reply.Dirty words
    → IsClean (world_of settings (before ++ r ∷ [])) file request
unfolding changed with_tables dirty_checks
clean_after settings before r file request words run asked told =
    by_event settings before r run (λ new. IsClean new file request) (event.DirtyClear file request)
    (reply.Dirty words) refl asked told (λ none answers.
    let is = clean (world_of settings before) file request none in
    record { none = is.none; words = is.words })

-- it is answered by zeros
pub clean_answer : {A : Type 0} (w : World) (records : List (Record A)) (file : FileNo) (request : DirtyRequest)
    → IsClean w file request → answers_in w records (query.Dirty file request) ≡ answer.Dirty zeros ∷ []
unfolding answers_in
clean_answer w records file request is =
    ap (λ (o : Option Cause). elim o [
      | Some cause ↦ answer.Refused (record { cause = cause }) ∷ []
      | None ↦ answer.Dirty (reported_words w.tracked file request) ∷ []
    ]) is.none ∙ ap (λ (words : List ℕ). answer.Dirty words ∷ []) is.words

dirty_answer : (words : List ℕ) (answer : Reply) → AnswersDirty words answer → answer ≡ reply.Dirty words
dirty_answer words (reply.Dirty told) is = ap reply.Dirty is
dirty_answer words answer never = absurd never

pub clean_reply : {A : Type 0} (settings : Settings) (before : List (Record A)) (s : Record A) (file : FileNo)
    (request : DirtyRequest) → IsRun settings (before ++ s ∷ []) → IsClean (world_of settings before) file request
    → s.event ≡ event.DirtyClear file request → s.reply ≡ reply.Dirty zeros
unfolding Answers
clean_reply {A = A} settings before s file request run is asked =
    by_record settings before s run (λ new. s.reply ≡ reply.Dirty zeros)
    (λ cause refused told.
    let refused_of : refusal w (let x : Event A = event.DirtyClear file request in x) ≡ Some cause =
    rw asked at refused in
    let never = sym is.none ∙ refused_of in
    cc)
    (λ none answers moves.
    let answers_of : Answers w (let x : Event A = event.DirtyClear file request in x) s.reply = rw asked at answers in
    dirty_answer (reported_words w.tracked file request) s.reply answers_of ∙ ap reply.Dirty is.words)
  where
    w : World
    w = world_of settings before

-- ---- laws

pub clears_just : {A : Type 0} (settings : Settings) (before : List (Record A)) (r : Record A) (file : FileNo)
    (request : DirtyRequest) (words : List ℕ) (own : FileNo) (hwpt : ObjId) (page : ℕ)
    → IsRun settings (before ++ r ∷ []) → r.event ≡ event.DirtyClear file request → r.reply ≡ reply.Dirty words
    → IsMarked (world_of settings (before ++ r ∷ [])) own hwpt page ↔ (IsMarked (world_of settings before) own hwpt page
    × (own ≡ file → hwpt ≡ request.hwpt → IsAskedFor request page → ⊥))
unfolding changed with_tables
clears_just settings before r file request words own hwpt page run asked told =
    by_event settings before r run (λ new. IsMarked new own hwpt page ↔ (IsMarked (world_of settings before) own hwpt
    page × (own ≡ file → hwpt ≡ request.hwpt → IsAskedFor request page → ⊥))) (event.DirtyClear file request)
    (reply.Dirty words) refl asked told (λ none answers. (
      λ mark. was_marked (world_of settings before) _ file request none refl own hwpt page mark,
      λ both. stays_marked (world_of settings before) _ file request none refl own hwpt page both.0 both.1,
    ))

pub turned_clear : {A : Type 0} (settings : Settings) (before : List (Record A)) (r : Record A) (file : FileNo)
    (hwpt : ObjId) (on : Bool) (page : ℕ) → IsRun settings (before ++ r ∷ [])
    → r.event ≡ event.DirtyEnable file hwpt on → r.reply ≡ reply.Done
    → IsMarked (world_of settings (before ++ r ∷ [])) file hwpt page → ⊥
turned_clear settings before r file hwpt on page run asked done mark =
    by_origin (step_comes settings before r file hwpt (HasPage page) run
    (row_of_mark (world_of settings (before ++ r ∷ [])) file hwpt page mark))
  where
    by_origin : ComesBy (world_of settings before) r.event r.reply file hwpt (HasPage page) → ⊥
    by_origin (Stays has no_turn no_clear) = no_turn on asked done
    by_origin (ByTurn is told never) = never
    by_origin (ByWrite device iova bytes frame is passed a found of_file of_table has) =
        let other = sym asked ∙ is in cc
    by_origin (ByClear request words is told of_table has) = let other = sym asked ∙ is in cc

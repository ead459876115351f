-- A row stays over the records of a run, and comes by one of them.
use Rattle.std.proofs.Common.{◌≡◌, ℕ, not, Option, Some, None, List, [], ◌∷◌, ◌++◌, Contains, refl, ap}
use Rattle.std.proofs.Common.{sym, ◌∙◌, subst, length, append_assoc, append-nil, inl, inr}
use Rattle.iofd_steps.specs.After.{changed}
use Rattle.iofd_words.specs.Attachments.{attachment_of}
use Rattle.iofd_words.specs.Dirty.{marked_by, reported_span}
use Rattle.iofd_words.specs.DirtyWords.{is_page_of}
use Rattle.iofd_words.specs.Pages.{page_of}
use Rattle.iofd_refusals.specs.Checks.{refusal}
use Rattle.iofd_steps.specs.Run.{IsRun, world_of}
use Rattle.iofd_words.specs.Record.{Record}
use Rattle.iofd_words.specs.Settings.{Settings}
use Rattle.iofd_words.specs.Tables.{with_tables}
use Rattle.iofd_words.specs.View.{view}
use Rattle.iofd_words.specs.World.{World}
use Rattle.iofd_words.specs.declared.event.DirtyRequest.{DirtyRequest}
use Rattle.iofd_words.specs.declared.event.Event.{Event}
use Rattle.iofd_words.specs.declared.event.Event.TheVariants as event
use Rattle.iofd_words.specs.declared.numbers.DeviceNo.{DeviceNo}
use Rattle.iofd_words.specs.declared.numbers.FileNo.{FileNo}
use Rattle.iofd_words.specs.declared.numbers.ObjId.{ObjId}
use Rattle.iofd_words.specs.declared.reply.Reply.TheVariants as reply
use Rattle.iofd_words.specs.declared.rows.Attachment.{Attachment}
use Rattle.iofd_rows.proofs.Bools.{not_false}
use Rattle.iofd_rows.proofs.Each.{IsIn, in_kept}
use Rattle.iofd_rows.proofs.ListTests.{false_else}
use Rattle.iofd_rows.proofs.Moves.{found_once}
use Rattle.iofd_runs.proofs.NotRefused.{dirty_passed}
use Rattle.iofd_promises.proofs.Facts.{usable_of}
use Rattle.iofd_promises.proofs.Rows.{contains, within}
use Rattle.iofd_promises.proofs.Steps.{by_event, by_record, run_before}
use Rattle.iofd_promises.specs.Marks.{HasTable, IsMarked, IsTracked, IsWritten, Turns}
use Rattle.iofd_promises.proofs.dirty.Records.{ComesBy, Stays, comes_by, stays_by, unmarked}
use Rattle.iofd_promises.proofs.dirty.Rows.{HasRow, row_remarked}
use Rattle.iofd_promises.proofs.dirty.Spans.{asked_for, page_is}
use Rattle.iofd_promises.proofs.dirty.There.{Any}
use Rattle.iofd_promises.proofs.dirty.TrackedMoves.{tracked_moves}

-- ---- rows of the two kinds that are spoken of

abbrev pub HasPage : ℕ → List ℕ → Type 0
HasPage page pages = IsIn pages page

pub row_of_mark : (w : World) (file : FileNo) (hwpt : ObjId) (page : ℕ) → IsMarked w file hwpt page
    → HasRow w.tracked file hwpt (HasPage page)
row_of_mark w file hwpt page is = record {
  row = is.row;
  there = within w.tracked is.row is.there;
  of_file = is.of_file;
  of_table = is.of_table;
  pages = within is.row.pages page is.marked;
}

pub mark_of_row : (w : World) (file : FileNo) (hwpt : ObjId) (page : ℕ) → HasRow w.tracked file hwpt (HasPage page)
    → IsMarked w file hwpt page
mark_of_row w file hwpt page has = record {
  row = has.row;
  there = contains w.tracked has.row has.there;
  of_file = has.of_file;
  of_table = has.of_table;
  marked = contains has.row.pages page has.pages;
}

pub row_of_tracked : (w : World) (file : FileNo) (hwpt : ObjId) → IsTracked w file hwpt
    → HasRow w.tracked file hwpt Any
row_of_tracked w file hwpt is = record {
  row = is.row;
  there = within w.tracked is.row is.there;
  of_file = is.of_file;
  of_table = is.of_table;
  pages = tt;
}

pub tracked_of_row : (w : World) (file : FileNo) (hwpt : ObjId) (P : List ℕ → Type 0)
    → HasRow w.tracked file hwpt P → IsTracked w file hwpt
tracked_of_row w file hwpt P has = record {
  row = has.row;
  there = contains w.tracked has.row has.there;
  of_file = has.of_file;
  of_table = has.of_table;
}

-- ---- one record

module _ {A : Type 0} (settings : Settings) (before : List (Record A)) (c : Record A) (file : FileNo) (hwpt : ObjId)
    (P : List ℕ → Type 0) (run : IsRun settings (before ++ c ∷ [])) where
  abbrev w : World
  w = world_of settings before

  -- a row stays, where what is cleared isn't needed
  pub step_stays : (Turns c file hwpt → ⊥) → HasTable (world_of settings (before ++ c ∷ [])) file hwpt
      → ((page : ℕ) (pages : List ℕ) → P pages → P (page ∷ pages))
      → ((request : DirtyRequest) (words : List ℕ) → refusal w c.event ≡ None → c.event ≡ event.DirtyClear file request
      → c.reply ≡ reply.Dirty words → request.hwpt ≡ hwpt → (pages : List ℕ) → P pages → P (unmarked request pages))
      → HasRow w.tracked file hwpt P → HasRow (world_of settings (before ++ c ∷ [])).tracked file hwpt P
  unfolding with_tables
  step_stays no_turn table grows clears has =
      by_record settings before c run (λ new. HasTable new file hwpt → HasRow new.tracked file hwpt P)
      (λ cause is told table. has)
      (λ none answers moves table.
      let new = changed (length before) w c.event c.reply in
      stays_by w c.event c.reply new file hwpt P (tracked_moves (length before) w c.event c.reply)
      (usable_of settings before (run_before settings before _ run)).sound.own_ids
      (λ on is done. no_turn (record { on = on; asked = is; done = done }))
      table.table (within new.objects table.table table.there) table.of_file table.of_id grows
      (λ request words is told of_table pages p. clears request words none is told of_table pages p) has) table

  -- and comes
  pub step_comes : HasRow (world_of settings (before ++ c ∷ [])).tracked file hwpt P
      → ComesBy w c.event c.reply file hwpt P
  unfolding with_tables
  step_comes has =
      by_record settings before c run (λ new. HasRow new.tracked file hwpt P → ComesBy w c.event c.reply file hwpt P)
      (λ cause is told has. Stays has (λ on turns done. let never = sym told ∙ done in cc)
      (λ request words clears said of_table. let never = sym told ∙ said in cc))
      (λ none answers moves has. comes_by w c.event c.reply (changed (length before) w c.event c.reply) file hwpt P
      (tracked_moves (length before) w c.event c.reply) has) has

-- ---- the records from one on

in_middle : {X : Type 0} (xs ys : List X) (x : X) → IsIn (xs ++ x ∷ ys) x
in_middle [] ys x = inl refl
in_middle (y ∷ xs) ys x = inr (in_middle xs ys x)

module _ {A : Type 0} (settings : Settings) (before : List (Record A)) (r : Record A) (later : List (Record A))
    (run : IsRun settings (before ++ r ∷ later)) where
  run_to : (first : List (Record A)) (c : Record A) (rest : List (Record A)) → later ≡ first ++ c ∷ rest
      → IsRun settings ((before ++ r ∷ first) ++ c ∷ [])
  run_to first c rest is =
      let whole : before ++ r ∷ later ≡ ((before ++ r ∷ first) ++ c ∷ []) ++ rest =
      ap (λ (l : List (Record A)). before ++ r ∷ l) is ∙ sym (append_assoc before (r ∷ first) (c ∷ rest))
      ∙ sym (append_assoc (before ++ r ∷ first) (c ∷ []) rest) in
      run_before settings ((before ++ r ∷ first) ++ c ∷ []) rest (subst (IsRun settings) whole run)

  pub run_first : IsRun settings (before ++ r ∷ [])
  run_first = run_before settings (before ++ r ∷ []) later
      (subst (IsRun settings) (sym (append_assoc before (r ∷ []) later)) run)

  -- what holds after the first, and is kept by each, holds after the last
  over_later : (Q : List (Record A) → Type 0) → Q (before ++ r ∷ [])
      → ((first : List (Record A)) (c : Record A) (rest : List (Record A)) → later ≡ first ++ c ∷ rest
      → IsRun settings ((before ++ r ∷ first) ++ c ∷ []) → Q (before ++ r ∷ first)
      → Q ((before ++ r ∷ first) ++ c ∷ [])) → Q (before ++ r ∷ later)
  over_later Q here steps = by_rest [] later refl here
    where
      by_rest : (first rest : List (Record A)) → later ≡ first ++ rest → Q (before ++ r ∷ first)
          → Q (before ++ r ∷ later)
      by_rest first [] is q =
          subst (λ (l : List (Record A)). Q (before ++ r ∷ l)) (sym (is ∙ append-nil first)) q
      by_rest first (c ∷ rest) is q =
          by_rest (first ++ c ∷ []) rest (is ∙ sym (append_assoc first (c ∷ []) rest))
          (subst Q (append_assoc before (r ∷ first) (c ∷ [])) (steps first c rest is (run_to first c rest is) q))

  -- a row that nothing takes away
  pub stays_later : (file : FileNo) (hwpt : ObjId) (P : List ℕ → Type 0)
      → ((c : Record A) → Contains later c → Turns c file hwpt → ⊥)
      → ((first rest : List (Record A)) → later ≡ first ++ rest
      → HasTable (world_of settings (before ++ r ∷ first)) file hwpt)
      → ((page : ℕ) (pages : List ℕ) → P pages → P (page ∷ pages))
      → ((w : World) (c : Record A) → Contains later c → (request : DirtyRequest) (words : List ℕ)
      → refusal w c.event ≡ None → c.event ≡ event.DirtyClear file request → c.reply ≡ reply.Dirty words
      → request.hwpt ≡ hwpt → (pages : List ℕ) → P pages → P (unmarked request pages))
      → HasRow (world_of settings (before ++ r ∷ [])).tracked file hwpt P
      → HasRow (world_of settings (before ++ r ∷ later)).tracked file hwpt P
  stays_later file hwpt P no_turn stands grows clears here =
      over_later (λ records. HasRow (world_of settings records).tracked file hwpt P) here
      (λ first c rest is run_c has.
      let listed : Contains later c = contains later c
      (subst (λ (l : List (Record A)). IsIn l c) (sym is) (in_middle first rest c)) in
      step_stays settings (before ++ r ∷ first) c file hwpt P run_c (no_turn c listed)
      (subst (λ (l : List (Record A)). HasTable (world_of settings l) file hwpt)
      (sym (append_assoc before (r ∷ first) (c ∷ [])))
      (stands (first ++ c ∷ []) rest (is ∙ sym (append_assoc first (c ∷ []) rest))))
      grows (λ request words none asked told of_table pages p. clears (world_of settings (before ++ r ∷ first)) c listed
      request words none asked told of_table pages p) has)

-- what is written stays marked
written_stays : {A : Type 0} (settings : Settings) (records : List (Record A)) (file : FileNo) (hwpt : ObjId)
    (page : ℕ) → IsRun settings records → (is : IsWritten settings records file hwpt page)
    → HasRow (world_of settings (is.before ++ is.r ∷ is.later)).tracked file hwpt (HasPage page)
unfolding changed with_tables
written_stays {A = A} settings records file hwpt page run is =
    stays_later settings is.before is.r is.later run_all file hwpt (HasPage page) is.not_turned is.stands
    (λ other pages has. inr has)
    (λ w c listed request words none asked told of_table pages has.
    let none_of : refusal w (let x : Event A = event.DirtyClear file request in x) ≡ None = rw asked at none in
    in_kept (λ p. not (is_page_of (reported_span request) p)) pages page has
    (not_false _ (false_else (is_page_of (reported_span request) page) (λ inside.
    is.not_cleared c listed (record {
      request = request;
      words = words;
      asked = asked;
      told = told;
      of_table = of_table;
      span = asked_for (view w) file request (dirty_passed (view w) file request none_of) page inside;
    })))))
    here
  where
    run_all : IsRun settings (is.before ++ is.r ∷ is.later)
    run_all = subst (IsRun settings) is.parts run

    w : World
    w = world_of settings is.before

    a : Attachment
    a = is.writes.attachment

    found : attachment_of w.attachments is.writes.device ≡ Some a
    found = subst (λ (d : DeviceNo). attachment_of w.attachments d ≡ Some a) is.writes.of_device
        (found_once w.attachments a
        (usable_of settings is.before (run_before settings is.before (is.r ∷ is.later) run_all)).sound.debts.once
        (within w.attachments a is.writes.attached))

    marks : HasRow (marked_by (Some a) (page_of is.writes.iova.0) w.tracked) file hwpt (HasPage page)
    marks = row_remarked (λ pages. page_of is.writes.iova.0 ∷ pages) a.file a.hwpt w.tracked file hwpt Any
        (HasPage page) (λ file_same table_same pages any.
        inl (page_is is.writes.iova.0 page is.writes.first is.writes.last))
        (λ other pages any. absurd (other is.writes.of_file is.writes.of_table)) (row_of_tracked w file hwpt is.tracked)

    here : HasRow (world_of settings (is.before ++ is.r ∷ [])).tracked file hwpt (HasPage page)
    here = by_event settings is.before is.r (run_first settings is.before is.r is.later run_all)
        (λ new. HasRow new.tracked file hwpt (HasPage page))
        (event.DeviceWrite is.writes.device is.writes.iova is.writes.bytes) (reply.Passed is.writes.frame) refl
        is.writes.asked is.writes.passed (λ none answers.
        subst (λ (o : Option Attachment).
        HasRow (marked_by o (page_of is.writes.iova.0) w.tracked) file hwpt (HasPage page)) (sym found) marks)

pub marked_after : {A : Type 0} (settings : Settings) (records : List (Record A)) (file : FileNo) (hwpt : ObjId)
    (page : ℕ) → IsRun settings records → IsWritten settings records file hwpt page
    → IsMarked (world_of settings records) file hwpt page
marked_after {A = A} settings records file hwpt page run is =
    mark_of_row (world_of settings records) file hwpt page
    (subst (λ (l : List (Record A)). HasRow (world_of settings l).tracked file hwpt (HasPage page)) (sym is.parts)
    (written_stays settings records file hwpt page run is))

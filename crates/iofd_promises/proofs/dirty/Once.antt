-- What is tracked has one row.
use Rattle.std.proofs.Common.{◌≡◌, ℕ, Bool, true, false, cond, ◌&&◌, ◌||◌, not, eqb, Option, Some, None, List, []}
use Rattle.std.proofs.Common.{◌∷◌, map, refl, ap, sym, ◌∙◌, arith}
use Rattle.std.specs.List.{list_any, slice_get}
use Rattle.std.proofs.lemmas.Bool.Decides.{nat_tests}
use Rattle.iofd_steps.specs.After.{changed}
use Rattle.iofd_words.specs.Attachments.{attachment_of}
use Rattle.iofd_words.specs.Dirty.{TrackedTable, is_tracked_as, marked_by, with_tracking, without_tracked}
use Rattle.iofd_words.specs.Pages.{page_of}
use Rattle.iofd_steps.specs.Run.{IsRun, world_of}
use Rattle.iofd_words.specs.Record.{Record}
use Rattle.iofd_words.specs.Settings.{Settings}
use Rattle.iofd_words.specs.Tables.{with_tables}
use Rattle.iofd_words.specs.World.{World, opening}
use Rattle.iofd_words.specs.declared.event.Event.{Event}
use Rattle.iofd_words.specs.declared.numbers.FileNo.{FileNo}
use Rattle.iofd_words.specs.declared.numbers.ObjId.{ObjId}
use Rattle.iofd_words.specs.declared.reply.Reply.{Reply}
use Rattle.iofd_words.specs.declared.rows.Attachment.{Attachment}
use Rattle.iofd_rows.proofs.Bools.{and_true, both_true, not_false, not_true}
use Rattle.iofd_rows.proofs.Each.{in_filter}
use Rattle.iofd_rows.proofs.ListTests.{false_else}
use Rattle.iofd_runs.proofs.Accessed.{some_in}
use Rattle.iofd_runs.proofs.Runs.{run_keeps}
use Rattle.iofd_promises.proofs.Lists.{all_apart, apart-filter, one_place}
use Rattle.iofd_promises.proofs.dirty.Records.{unmarked}
use Rattle.iofd_promises.proofs.dirty.Rows.{named}
use Rattle.iofd_promises.proofs.dirty.TrackedMoves.{IsCleared, IsTurned, IsWrittenBy, SameTracked, SomeGo, TrackedMove}
use Rattle.iofd_promises.proofs.dirty.TrackedMoves.{tracked_moves}

-- two rows of one page table
abbrev alike : TrackedTable → TrackedTable → Bool
alike a b = eqb a.file.0 b.file.0 && eqb a.hwpt.0 b.hwpt.0

flipped : (a b : TrackedTable) → alike a b ≡ true → is_tracked_as a.file a.hwpt b ≡ true
flipped a b is =
    let parts = and_true (eqb a.file.0 b.file.0) (eqb a.hwpt.0 b.hwpt.0) is in
    let files : eqb b.file.0 a.file.0 ≡ true = let p = parts.0 in search (p, arith, nat_tests) in
    let tables : eqb b.hwpt.0 a.hwpt.0 ≡ true = let p = parts.1 in search (p, arith, nat_tests) in
    both_true _ _ files tables

-- ---- one row more, like none that is left

none_left : (file : FileNo) (hwpt : ObjId) (tables : List TrackedTable)
    → (let row : TrackedTable = record { file = file; hwpt = hwpt; pages = [] } in
    list_any (alike row) (without_tracked file hwpt tables) ≡ false)
none_left file hwpt tables =
    let row : TrackedTable = record { file = file; hwpt = hwpt; pages = [] } in
    false_else (list_any (alike row) (without_tracked file hwpt tables)) (λ some.
    let (other, there, is) = some_in (alike row) (without_tracked file hwpt tables) some in
    let (before, kept) = in_filter (λ (t : TrackedTable). not (is_tracked_as file hwpt t)) tables other there in
    let never = sym (not_true _ kept) ∙ flipped row other is in
    cc)

apart_turned : (file : FileNo) (hwpt : ObjId) (on : Bool) (tables : List TrackedTable) → all_apart alike tables ≡ true
    → all_apart alike (with_tracking file hwpt on tables) ≡ true
apart_turned file hwpt true tables apart =
    both_true _ _ (not_false _ (none_left file hwpt tables))
    (apart-filter alike (λ (t : TrackedTable). not (is_tracked_as file hwpt t)) tables apart)
apart_turned file hwpt false tables apart =
    apart-filter alike (λ (t : TrackedTable). not (is_tracked_as file hwpt t)) tables apart

-- ---- the same rows with other marks

module _ (g : List ℕ → List ℕ) (own : FileNo) (own_table : ObjId) where
  abbrev marks : TrackedTable → TrackedTable
  marks row = cond (is_tracked_as own own_table row) (record row { pages = g row.pages }) row

  left_alike : (x y : TrackedTable) → alike (marks x) y ≡ alike x y
  left_alike x y = by_name (is_tracked_as own own_table x)
    where
      by_name : (b : Bool) → alike (cond b (record x { pages = g x.pages }) x) y ≡ alike x y
      by_name true = refl
      by_name false = refl

  right_alike : (x y : TrackedTable) → alike x (marks y) ≡ alike x y
  right_alike x y = by_name (is_tracked_as own own_table y)
    where
      by_name : (b : Bool) → alike x (cond b (record y { pages = g y.pages }) y) ≡ alike x y
      by_name true = refl
      by_name false = refl

  any_alike : (x : TrackedTable) (tables : List TrackedTable)
      → list_any (alike (marks x)) (map marks tables) ≡ list_any (alike x) tables
  any_alike x [] = refl
  any_alike x (t ∷ tables) =
      ap (λ (b : Bool). b || list_any (alike (marks x)) (map marks tables)) (left_alike x (marks t) ∙ right_alike x t)
      ∙ ap (λ (b : Bool). alike x t || b) (any_alike x tables)

  apart_marked : (tables : List TrackedTable) → all_apart alike (map marks tables) ≡ all_apart alike tables
  apart_marked [] = refl
  apart_marked (t ∷ tables) =
      ap (λ (b : Bool). not b && all_apart alike (map marks tables)) (any_alike t tables)
      ∙ ap (λ (b : Bool). not (list_any (alike t) tables) && b) (apart_marked tables)

-- ---- each event

Apart : World → Type 0
Apart w = all_apart alike w.tracked ≡ true

keeps_apart : {A : Type 0} (w : World) (e : Event A) (answer : Reply) (new : World) → TrackedMove w e answer new
    → Apart w → Apart new
unfolding Apart
keeps_apart w e answer new (SameTracked is quiet stay) apart = rw is apart
keeps_apart w e answer new (SomeGo gone stays quiet is objects left kept) apart =
    rw is (apart-filter alike (λ (t : TrackedTable). not (gone t.file t.hwpt)) w.tracked apart)
keeps_apart w e answer new (IsTurned file hwpt on is done tracked objects) apart =
    rw tracked (apart_turned file hwpt on w.tracked apart)
keeps_apart w e answer new (IsWrittenBy device iova bytes frame is passed tracked objects) apart =
    rw tracked (by_attached (attachment_of w.attachments device))
  where
    by_attached : (o : Option Attachment) → all_apart alike (marked_by o (page_of iova.0) w.tracked) ≡ true
    by_attached None = apart
    by_attached (Some a) = apart_marked (λ pages. page_of iova.0 ∷ pages) a.file a.hwpt w.tracked ∙ apart
keeps_apart w e answer new (IsCleared file request words is told tracked objects) apart =
    rw tracked (apart_marked (unmarked request) file request.hwpt w.tracked ∙ apart)

apart_after : {A : Type 0} (settings : Settings) (records : List (Record A)) → IsRun settings records
    → Apart (world_of settings records)
unfolding Apart IsRun world_of with_tables
apart_after settings records run =
    run_keeps Apart (λ w taken given apart. apart)
    (λ at w e answer none answers apart. keeps_apart w e answer (changed at w e answer)
    (tracked_moves at w e answer) apart) 0 (opening settings) records run refl

pub one_row : {A : Type 0} (settings : Settings) (records : List (Record A)) (i j : ℕ) (a b : TrackedTable)
    → IsRun settings records → slice_get (world_of settings records).tracked i ≡ Some a
    → slice_get (world_of settings records).tracked j ≡ Some b → a.file ≡ b.file → a.hwpt ≡ b.hwpt → i ≡ j
unfolding Apart
one_row settings records i j a b run first second files tables =
    one_place alike (world_of settings records).tracked i j a b (apart_after settings records run) first second
    (named b.file b.hwpt a files tables) (named a.file a.hwpt b (sym files) (sym tables))

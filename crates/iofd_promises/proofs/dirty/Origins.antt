-- Which record of a run a mark is from.
use Rattle.std.proofs.Common.{◌≡◌, ℕ, not, Some, List, [], ◌∷◌, ◌++◌, refl}
use Rattle.std.proofs.Common.{sym, ◌∙◌, subst, ◌⊎◌, inl, inr, eqb}
use Rattle.iofd_words.specs.Attachments.{attachment_of}
use Rattle.iofd_words.specs.Dirty.{reported_span}
use Rattle.iofd_words.specs.DirtyWords.{is_page_of}
use Rattle.iofd_words.specs.Pages.{page_of}
use Rattle.iofd_steps.specs.Run.{IsRun, world_of}
use Rattle.iofd_words.specs.Record.{Record}
use Rattle.iofd_words.specs.Settings.{Settings}
use Rattle.iofd_words.specs.View.{view}
use Rattle.iofd_words.specs.World.{World}
use Rattle.iofd_words.specs.declared.event.DirtyRequest.{DirtyRequest}
use Rattle.iofd_words.specs.declared.event.Event.TheVariants as event
use Rattle.iofd_words.specs.declared.numbers.DeviceNo.{DeviceNo}
use Rattle.iofd_words.specs.declared.numbers.FileNo.{FileNo}
use Rattle.iofd_words.specs.declared.numbers.FrameNo.{FrameNo}
use Rattle.iofd_words.specs.declared.numbers.Iova.{Iova}
use Rattle.iofd_words.specs.declared.numbers.ObjId.{ObjId}
use Rattle.iofd_words.specs.declared.reply.Reply.TheVariants as reply
use Rattle.iofd_words.specs.declared.rows.Attachment.{Attachment}
use Rattle.iofd_rows.proofs.Bools.{clash, not_true}
use Rattle.iofd_rows.proofs.Each.{IsIn, in_filter, in_found}
use Rattle.iofd_rows.proofs.Moves.{device_is}
use Rattle.iofd_runs.proofs.NotRefused.{dirty_passed}
use Rattle.iofd_promises.proofs.Rows.{contains}
use Rattle.iofd_promises.proofs.Steps.{answered_in, run_before}
use Rattle.iofd_promises.specs.Marks.{Clears, HasTable, IsAskedFor, IsMarked, IsWritten}
use Rattle.iofd_promises.specs.Marks.{Turns}
use Rattle.iofd_promises.proofs.dirty.OneMore.{grown, no_more, none_later, none_more, parts_more, stands_more}
use Rattle.iofd_promises.proofs.dirty.Records.{ByClear, ByTurn, ByWrite, ComesBy, Stays}
use Rattle.iofd_promises.proofs.dirty.Rows.{HasRow}
use Rattle.iofd_promises.proofs.dirty.Runs.{HasPage, row_of_mark, step_comes}
use Rattle.iofd_promises.proofs.dirty.Runs.{tracked_of_row}
use Rattle.iofd_promises.proofs.dirty.Spans.{of_span, page_holds}
use Rattle.iofd_promises.proofs.dirty.There.{Any, has_table, with_any}

module _ {A : Type 0} (settings : Settings) (file : FileNo) (hwpt : ObjId) (page : ℕ) where
  abbrev Row : List (Record A) → Type 0
  Row records = HasRow (world_of settings records).tracked file hwpt (HasPage page)

  abbrev Written : List (Record A) → Type 0
  Written records = IsRun settings records → Row records → IsWritten settings records file hwpt page

  module _ (before : List (Record A)) (c : Record A) (earlier : Written before)
      (run : IsRun settings (before ++ c ∷ [])) (table : HasTable (world_of settings (before ++ c ∷ [])) file hwpt)
    where
      abbrev w : World
      w = world_of settings before

      stays : Row before → (Turns c file hwpt → ⊥) → (Clears c file hwpt page → ⊥)
          → IsWritten settings (before ++ c ∷ []) file hwpt page
      stays has no_turn no_clear =
          let is = earlier (run_before settings before (c ∷ []) run) has in
          record {
            before = is.before;
            r = is.r;
            later = is.later ++ c ∷ [];
            parts = parts_more settings before c file hwpt is.before is.r is.later is.parts;
            tracked = is.tracked;
            writes = is.writes;
            not_turned = none_more settings before c file hwpt is.before is.r is.later is.parts
                (λ d. Turns d file hwpt) is.not_turned no_turn;
            not_cleared = none_more settings before c file hwpt is.before is.r is.later is.parts
                (λ d. Clears d file hwpt page) is.not_cleared no_clear;
            stands = stands_more settings before c file hwpt is.before is.r is.later is.parts is.stands table;
          }

      written_now : (device : DeviceNo) (iova : Iova) (bytes : List ℕ) (frame : FrameNo)
          → c.event ≡ event.DeviceWrite device iova bytes → c.reply ≡ reply.Passed frame → (a : Attachment)
          → attachment_of w.attachments device ≡ Some a → a.file ≡ file → a.hwpt ≡ hwpt → page_of iova.0 ≡ page
          → HasRow w.tracked file hwpt Any → IsWritten settings (before ++ c ∷ []) file hwpt page
      written_now device iova bytes frame asked passed a found of_file of_table is has =
          let (there, of_device) = in_found (λ (b : Attachment). eqb b.device.0 device.0) w.attachments a found in
          let (first, last) = page_holds iova.0 page is in
          record {
            before = before;
            r = c;
            later = [];
            parts = refl;
            tracked = tracked_of_row w file hwpt Any has;
            writes = record {
              device = device;
              iova = iova;
              bytes = bytes;
              frame = frame;
              asked = asked;
              passed = passed;
              first = first;
              last = last;
              attachment = a;
              attached = contains w.attachments a there;
              of_device = device_is a.device device of_device;
              of_file = of_file;
              of_table = of_table;
            };
            not_turned = no_more (λ d. Turns d file hwpt);
            not_cleared = no_more (λ d. Clears d file hwpt page);
            stands = none_later settings before c file hwpt table;
          }

      by_origin : ComesBy w c.event c.reply file hwpt (HasPage page)
          → IsWritten settings (before ++ c ∷ []) file hwpt page
      by_origin (Stays has no_turn no_clear) =
          stays has (λ turns. no_turn turns.on turns.asked turns.done)
          (λ clears. no_clear clears.request clears.words clears.asked clears.told clears.of_table)
      by_origin (ByTurn is done never) = absurd never
      by_origin (ByWrite device iova bytes frame asked passed a found of_file of_table has) = by_page has.pages
        where
          by_page : (page_of iova.0 ≡ page) ⊎ IsIn has.row.pages page
              → IsWritten settings (before ++ c ∷ []) file hwpt page
          by_page (inl same) =
              written_now device iova bytes frame asked passed a found of_file of_table same
              (with_any w file hwpt _ has)
          by_page (inr marked) =
              stays (record {
                row = has.row;
                there = has.there;
                of_file = has.of_file;
                of_table = has.of_table;
                pages = marked;
              }) (λ turns. let other = sym asked ∙ turns.asked in cc)
              (λ clears. let other = sym asked ∙ clears.asked in cc)
      by_origin (ByClear request words asked told of_table has) =
          let (marked, outside) = in_filter (λ p. not (is_page_of (reported_span request) p)) has.row.pages page
          has.pages in
          let (none, answers) = answered_in settings before c run (event.DirtyClear file request) (reply.Dirty words)
          refl asked told in
          stays (record {
            row = has.row;
            there = has.there;
            of_file = has.of_file;
            of_table = has.of_table;
            pages = marked;
          }) (λ turns. let other = sym asked ∙ turns.asked in cc)
          (λ clears.
          let both = sym asked ∙ clears.asked in
          let same : clears.request ≡ request = cc in
          clash _ (not_true _ outside)
          (of_span (view w) file request (dirty_passed (view w) file request none) page
          (subst (λ (q : DirtyRequest). IsAskedFor q page) same clears.span)))

  written_at : (records : List (Record A)) → Written records
  unfolding world_of
  written_at = grown Written (λ run has. absurd has.there)
      (λ before c earlier run has.
      by_origin before c earlier run (has_table settings (before ++ c ∷ []) file hwpt run
      (with_any (world_of settings (before ++ c ∷ [])) file hwpt _ has))
      (step_comes settings before c file hwpt (HasPage page) run has))

pub written_of : {A : Type 0} (settings : Settings) (records : List (Record A)) (file : FileNo) (hwpt : ObjId)
    (page : ℕ) → IsRun settings records → IsMarked (world_of settings records) file hwpt page
    → IsWritten settings records file hwpt page
written_of settings records file hwpt page run is =
    written_at settings file hwpt page records run
    (row_of_mark (world_of settings records) file hwpt page is)

-- What a record does to the row of a page table, and where a row comes from.
use Rattle.std.proofs.Common.{◌≡◌, ℕ, Bool, true, false, ◌&&◌, not, eqb, Option, Some, None, List, [], ◌∷◌, refl, ap}
use Rattle.std.proofs.Common.{sym, ◌∙◌, subst, arith, ◌⊎◌, inl, inr}
use Rattle.std.specs.List.{filter}
use Rattle.std.proofs.lemmas.Bool.Decides.{nat_tests}
use Rattle.iofd_words.specs.Attachments.{attachment_of}
use Rattle.iofd_words.specs.Dirty.{TrackedTable, marked_by, reported_span, with_tracking}
use Rattle.iofd_words.specs.DirtyWords.{is_page_of}
use Rattle.iofd_words.specs.Pages.{page_of}
use Rattle.iofd_words.specs.World.{World}
use Rattle.iofd_words.specs.declared.event.DirtyRequest.{DirtyRequest}
use Rattle.iofd_words.specs.declared.event.Event.{Event}
use Rattle.iofd_words.specs.declared.event.Event.TheVariants as event
use Rattle.iofd_words.specs.declared.numbers.DeviceNo.{DeviceNo}
use Rattle.iofd_words.specs.declared.numbers.FileNo.{FileNo}
use Rattle.iofd_words.specs.declared.numbers.FrameNo.{FrameNo}
use Rattle.iofd_words.specs.declared.numbers.Iova.{Iova}
use Rattle.iofd_words.specs.declared.numbers.ObjId.{ObjId}
use Rattle.iofd_words.specs.declared.reply.Reply.{Reply}
use Rattle.iofd_words.specs.declared.reply.Reply.TheVariants as reply
use Rattle.iofd_words.specs.declared.rows.Attachment.{Attachment}
use Rattle.iofd_words.specs.declared.rows.Object.{Object}
use Rattle.iofd_rows.proofs.Bools.{and_true, clash}
use Rattle.iofd_rows.proofs.Each.{IsIn, in_filter}
use Rattle.iofd_rows.proofs.Named.{file_is, id_is}
use Rattle.iofd_rows.specs.Ids.{have_own_ids}
use Rattle.iofd_promises.proofs.dirty.Rows.{HasRow, row_kept, row_remarked, row_unmarked, row_was}
use Rattle.iofd_promises.proofs.dirty.TrackedMoves.{IsCleared, IsTurned, IsWrittenBy, Quiet, SameTracked, SomeGo}
use Rattle.iofd_promises.proofs.dirty.TrackedMoves.{TrackedMove}

-- the marks that a report of these pages leaves
abbrev pub unmarked : DirtyRequest → List ℕ → List ℕ
unmarked request pages = filter (λ page. not (is_page_of (reported_span request) page)) pages

abbrev pub NoTurn : {A : Type 0} → Event A → Reply → FileNo → ObjId → Type 0
NoTurn e answer file hwpt = (on : Bool) → e ≡ event.DirtyEnable file hwpt on → answer ≡ reply.Done → ⊥

abbrev pub NoClear : {A : Type 0} → Event A → Reply → FileNo → ObjId → Type 0
NoClear e answer file hwpt = (request : DirtyRequest) (words : List ℕ) → e ≡ event.DirtyClear file request
    → answer ≡ reply.Dirty words → request.hwpt ≡ hwpt → ⊥

-- the same name
abbrev same_name : FileNo → ObjId → FileNo → ObjId → Bool
same_name own own_table file hwpt = eqb file.0 own.0 && eqb hwpt.0 own_table.0

itself : (file : FileNo) (hwpt : ObjId) → same_name file hwpt file hwpt ≡ true
itself file hwpt = grind (arith, nat_tests)

same_is : (own : FileNo) (own_table : ObjId) (file : FileNo) (hwpt : ObjId) → own ≡ file → own_table ≡ hwpt
    → same_name own own_table file hwpt ≡ true
same_is own own_table file hwpt file_same table_same = rw (file_same, table_same) (itself file hwpt)

quiet_turn : {A : Type 0} → (e : Event A) (answer : Reply) (file : FileNo) (hwpt : ObjId) → Quiet e answer
    → NoTurn e answer file hwpt
quiet_turn {A = A} e answer file hwpt quiet on is done =
    subst (λ (told : Reply). Quiet (let x : Event A = event.DirtyEnable file hwpt on in x) told) done
    (subst (λ (x : Event A). Quiet x answer) is quiet)

quiet_clear : {A : Type 0} → (e : Event A) (answer : Reply) (file : FileNo) (hwpt : ObjId) → Quiet e answer
    → NoClear e answer file hwpt
quiet_clear {A = A} e answer file hwpt quiet request words is told of_table =
    subst (λ (said : Reply). Quiet (let x : Event A = event.DirtyClear file request in x) said) told
    (subst (λ (x : Event A). Quiet x answer) is quiet)

-- ---- a row stays

module _ {A : Type 0} (w : World) (e : Event A) (answer : Reply) (new : World) (file : FileNo) (hwpt : ObjId)
    (P : List ℕ → Type 0) where
  -- as long as its page table is there, where no tracking is turned on or off, and no page is cleared that it needs
  pub stays_by : TrackedMove w e answer new → have_own_ids w.objects ≡ true → NoTurn e answer file hwpt
      → (table : Object) → IsIn new.objects table → table.file ≡ file → table.id ≡ hwpt
      → ((page : ℕ) (pages : List ℕ) → P pages → P (page ∷ pages))
      → ((request : DirtyRequest) (words : List ℕ) → e ≡ event.DirtyClear file request
      → answer ≡ reply.Dirty words → request.hwpt ≡ hwpt → (pages : List ℕ) → P pages → P (unmarked request pages))
      → HasRow w.tracked file hwpt P → HasRow new.tracked file hwpt P
  stays_by (SameTracked is quiet stay) own no_turn table there of_file of_id grows clears has = rw is has
  stays_by (SomeGo gone stays quiet is objects left kept) own no_turn table there of_file of_id grows clears has =
      rw is (by_gone (gone file hwpt) refl)
    where
      by_gone : (b : Bool) → gone file hwpt ≡ b
          → HasRow (filter (λ (t : TrackedTable). not (gone t.file t.hwpt)) w.tracked) file hwpt P
      by_gone true is_gone =
          let (before, stays_there) = in_filter stays w.objects table (rw objects at there) in
          let goes : gone table.file table.id ≡ true = rw (of_file, of_id) is_gone in
          absurd (clash _ (left own table before goes) stays_there)
      by_gone false other = row_kept gone w.tracked file hwpt P other has
  stays_by (IsTurned own own_table on is done tracked objects) ids no_turn table there of_file of_id grows clears has =
      rw tracked (by_name (same_name own own_table file hwpt) refl on is)
    where
      others : same_name own own_table file hwpt ≡ false
          → HasRow (filter (λ (t : TrackedTable). not (same_name own own_table t.file t.hwpt)) w.tracked) file hwpt P
      others other = row_kept (same_name own own_table) w.tracked file hwpt P other has

      by_name : (b : Bool) → same_name own own_table file hwpt ≡ b → (on : Bool)
          → e ≡ event.DirtyEnable own own_table on → HasRow (with_tracking own own_table on w.tracked) file hwpt P
      by_name true same on is =
          let names = and_true (eqb file.0 own.0) (eqb hwpt.0 own_table.0) same in
          absurd (no_turn on (is ∙ ap (λ (f : FileNo). event.DirtyEnable f own_table on)
          (sym (file_is file own names.0)) ∙ ap (λ (i : ObjId). event.DirtyEnable file i on)
          (sym (id_is hwpt own_table names.1))) done)
      by_name false other true is =
          let row = others other in
          record {
            row = row.row;
            there = inr row.there;
            of_file = row.of_file;
            of_table = row.of_table;
            pages = row.pages;
          }
      by_name false other false is = others other
  stays_by (IsWrittenBy device iova bytes frame is passed tracked objects) own no_turn table there of_file of_id grows
      clears has = rw tracked (by_attached (attachment_of w.attachments device))
    where
      by_attached : (o : Option Attachment) → HasRow (marked_by o (page_of iova.0) w.tracked) file hwpt P
      by_attached None = has
      by_attached (Some a) = row_remarked (λ pages. page_of iova.0 ∷ pages) a.file a.hwpt w.tracked file hwpt P P
          (λ file_same table_same pages p. grows (page_of iova.0) pages p) (λ other pages p. p) has
  stays_by (IsCleared own request words is told tracked objects) ids no_turn table there of_file of_id grows clears
      has =
      rw tracked (row_remarked (unmarked request) own request.hwpt w.tracked file hwpt P P
      (λ file_same table_same pages p. clears request words
      (is ∙ ap (λ (f : FileNo). event.DirtyClear f request) file_same) told table_same pages p)
      (λ other pages p. p) has)

-- ---- where a row comes from

-- it was there, and so it stays, it is turned on, a page is marked in it, or pages are cleared
pub data ComesBy {A : Type 0} (w : World) (e : Event A) (answer : Reply) (file : FileNo) (hwpt : ObjId)
    (P : List ℕ → Type 0) : Type 0 where
  Stays : HasRow w.tracked file hwpt P → NoTurn e answer file hwpt → NoClear e answer file hwpt
      → ComesBy w e answer file hwpt P
  ByTurn : e ≡ event.DirtyEnable file hwpt true → answer ≡ reply.Done → P [] → ComesBy w e answer file hwpt P
  ByWrite : (device : DeviceNo) (iova : Iova) (bytes : List ℕ) (frame : FrameNo)
      → e ≡ event.DeviceWrite device iova bytes → answer ≡ reply.Passed frame → (a : Attachment)
      → attachment_of w.attachments device ≡ Some a → a.file ≡ file → a.hwpt ≡ hwpt
      → HasRow w.tracked file hwpt (λ pages. P (page_of iova.0 ∷ pages)) → ComesBy w e answer file hwpt P
  ByClear : (request : DirtyRequest) (words : List ℕ) → e ≡ event.DirtyClear file request
      → answer ≡ reply.Dirty words → request.hwpt ≡ hwpt
      → HasRow w.tracked file hwpt (λ pages. P (unmarked request pages)) → ComesBy w e answer file hwpt P

module _ {A : Type 0} (w : World) (e : Event A) (answer : Reply) (new : World) (file : FileNo) (hwpt : ObjId)
    (P : List ℕ → Type 0) where
  pub comes_by : TrackedMove w e answer new → HasRow new.tracked file hwpt P → ComesBy w e answer file hwpt P
  comes_by (SameTracked is quiet stay) has =
      Stays (rw is at has) (quiet_turn e answer file hwpt quiet) (quiet_clear e answer file hwpt quiet)
  comes_by (SomeGo gone stays quiet is objects left kept) has =
      Stays (row_was gone w.tracked file hwpt P (rw is at has)).0 (quiet_turn e answer file hwpt quiet)
      (quiet_clear e answer file hwpt quiet)
  comes_by (IsTurned own own_table on is done tracked objects) has = by_on on is (rw tracked at has)
    where
      no_clear : (on : Bool) → e ≡ event.DirtyEnable own own_table on → NoClear e answer file hwpt
      no_clear on is request words other told of_table = cc

      others : (on : Bool) → e ≡ event.DirtyEnable own own_table on
          → HasRow (filter (λ (t : TrackedTable). not (same_name own own_table t.file t.hwpt)) w.tracked) file hwpt P
          → ComesBy w e answer file hwpt P
      others on is has =
          let (before, other) = row_was (same_name own own_table) w.tracked file hwpt P has in
          Stays before (λ on again done.
          let file_same : own ≡ file = cc in
          let table_same : own_table ≡ hwpt = cc in
          clash _ other (same_is own own_table file hwpt file_same table_same)) (no_clear on is)

      by_on : (on : Bool) → e ≡ event.DirtyEnable own own_table on
          → HasRow (with_tracking own own_table on w.tracked) file hwpt P → ComesBy w e answer file hwpt P
      by_on false is has = others false is has
      by_on true is has = by_place has.there
        where
          by_place : (let new_row : TrackedTable = record { file = own; hwpt = own_table; pages = [] } in
              new_row ≡ has.row)
              ⊎ IsIn (filter (λ (t : TrackedTable). not (same_name own own_table t.file t.hwpt)) w.tracked) has.row
              → ComesBy w e answer file hwpt P
          by_place (inl same) =
              let file_same : own ≡ file = ap (λ (t : TrackedTable). t.file) same ∙ has.of_file in
              let table_same : own_table ≡ hwpt = ap (λ (t : TrackedTable). t.hwpt) same ∙ has.of_table in
              ByTurn (is ∙ ap (λ (f : FileNo). event.DirtyEnable f own_table true) file_same
              ∙ ap (λ (i : ObjId). event.DirtyEnable file i true) table_same) done
              (subst P (sym (ap (λ (t : TrackedTable). t.pages) same)) has.pages)
          by_place (inr later) = others true is (record {
            row = has.row;
            there = later;
            of_file = has.of_file;
            of_table = has.of_table;
            pages = has.pages;
          })
  comes_by (IsWrittenBy device iova bytes frame is passed tracked objects) has =
      by_attached (attachment_of w.attachments device) refl (rw tracked at has)
    where
      stays : HasRow w.tracked file hwpt P → ComesBy w e answer file hwpt P
      stays before =
          Stays before (λ on other done. cc) (λ request words other told of_table. cc)

      by_attached : (o : Option Attachment) → attachment_of w.attachments device ≡ o
          → HasRow (marked_by o (page_of iova.0) w.tracked) file hwpt P → ComesBy w e answer file hwpt P
      by_attached None none has = stays has
      by_attached (Some a) found has =
          by_row (row_unmarked (λ pages. page_of iova.0 ∷ pages) a.file a.hwpt w.tracked file hwpt P has)
        where
          by_row : ((a.file ≡ file) × (a.hwpt ≡ hwpt)
              × HasRow w.tracked file hwpt (λ pages. P (page_of iova.0 ∷ pages)))
              ⊎ ((a.file ≡ file → a.hwpt ≡ hwpt → ⊥) × HasRow w.tracked file hwpt P)
              → ComesBy w e answer file hwpt P
          by_row (inl (file_same, table_same, before)) =
              ByWrite device iova bytes frame is passed a found file_same table_same before
          by_row (inr (other, before)) = stays before
  comes_by (IsCleared own request words is told tracked objects) has =
      by_row (row_unmarked (unmarked request) own request.hwpt w.tracked file hwpt P (rw tracked at has))
    where
      by_row : ((own ≡ file) × (request.hwpt ≡ hwpt) × HasRow w.tracked file hwpt (λ pages. P (unmarked request pages)))
          ⊎ ((own ≡ file → request.hwpt ≡ hwpt → ⊥) × HasRow w.tracked file hwpt P)
          → ComesBy w e answer file hwpt P
      by_row (inl (file_same, table_same, before)) =
          ByClear request words (is ∙ ap (λ (f : FileNo). event.DirtyClear f request) file_same) told table_same before
      by_row (inr (other, before)) =
          Stays before (λ on turns done. cc) (λ again words clears said of_table.
          let file_same : own ≡ file = cc in
          let request_same : request ≡ again = cc in
          other file_same (ap (λ (q : DirtyRequest). q.hwpt) request_same ∙ of_table))

-- What is sound for a device is so after a record that is no turn of it.
use Rattle.std.proofs.Common.{◌≡◌, ◌+◌, Bool, true, false, eqb, cond, Option, Some, None, is_some, List, [], ◌∷◌, ◌++◌}
use Rattle.std.proofs.Common.{length, refl, sym, ap, ◌∙◌, subst, arith}
use Rattle.std.proofs.lemmas.Bool.Decides.{nat_tests}
use Rattle.std.proofs.lemmas.List.Sums.{sum_by-append}
use Rattle.std.proofs.lemmas.List.{append-nil, append_assoc}
use Rattle.iofd_words.specs.Areas.{area_at, areas_of, is_of}
use Rattle.iofd_words.specs.Attachments.{ioas_of, ioas_of_attachment}
use Rattle.iofd_words.specs.Pins.{ObjectPage, frame_now, pinned_frame}
use Rattle.iofd_words.specs.Policy.{page_in}
use Rattle.iofd_steps.specs.Run.{IsRun, world_of}
use Rattle.iofd_words.specs.Record.{Record}
use Rattle.iofd_words.specs.Settings.{Settings}
use Rattle.iofd_words.specs.Tables.{with_tables}
use Rattle.iofd_words.specs.Turns.{is_turn_of, turns_of}
use Rattle.iofd_words.specs.World.{World, opening}
use Rattle.iofd_words.specs.declared.numbers.DeviceNo.{DeviceNo}
use Rattle.iofd_words.specs.declared.numbers.FileNo.{FileNo}
use Rattle.iofd_words.specs.declared.numbers.FrameNo.{FrameNo}
use Rattle.iofd_words.specs.declared.numbers.ObjId.{ObjId}
use Rattle.iofd_words.specs.declared.rows.Area.{Area}
use Rattle.iofd_words.specs.declared.rows.ObjectKind.{ObjectKind}
use Rattle.iofd_words.specs.declared.rows.ObjectKind.TheVariants as kind
use Rattle.iofd_rows.proofs.Bools.{and_true, both_true}
use Rattle.iofd_rows.proofs.Each.{IsIn}
use Rattle.iofd_rows.proofs.Named.{file_is, id_is}
use Rattle.iofd_rows.proofs.Owed.{IsDebtor, each_owed, table_of}
use Rattle.iofd_rows.proofs.PageCounts.{count-cons}
use Rattle.iofd_runs.proofs.OneMore.{world_more}
use Rattle.iofd_runs.proofs.PinnedAccess.{page_pinned}
use Rattle.iofd_runs.proofs.Runs.{run_beginning, run_keeps}
use Rattle.iofd_laws.specs.Laws.{PinMoves, pin_moves}
use Rattle.iofd_laws.proofs.KeepsBound.{IsTidy, keeps_tidy, opening_tidy, tabled_tidy}
use Rattle.iofd_laws.proofs.KeepsFrames.{after_moves}
use Rattle.iofd_promises.proofs.Denials.{only_area}
use Rattle.iofd_promises.proofs.Facts.{apart_of, fits_of, pinned_of}
use Rattle.iofd_promises.proofs.Rows.{contains, within}
use Rattle.iofd_promises.proofs.Steps.{by_record}
use Rattle.iofd_interleavings.specs.Caches.{Entry, IsBacked, Sound, address_of}
use Rattle.iofd_interleavings.proofs.StaysAttached.{stays_attached}
use Rattle.iofd_interleavings.proofs.StaysCovered.{IsKept, stays_covered}

-- ---- runs

pub tidy_of : {A : Type 0} (settings : Settings) (records : List (Record A)) → IsRun settings records
    → IsTidy (world_of settings records)
unfolding IsRun world_of
tidy_of settings records run = run_keeps IsTidy tabled_tidy keeps_tidy 0 (opening settings) records run (opening_tidy
    settings)

pub beginning : {A : Type 0} (settings : Settings) (before later : List (Record A)) → IsRun settings (before ++ later)
    → IsRun settings before
unfolding IsRun
beginning settings before later run = run_beginning 0 (opening settings) before later run

-- ---- the attachment and the area of an entry that is backed

-- the device is attached to the area's address space, and the area is there
record IsCovered (device : DeviceNo) (area : Area) (w : World) : Type 0 where
  debtor : IsDebtor w.objects w.attachments area.file area.ioas device.0
  kept : IsKept device area w.areas

module _ (w : World) (device : DeviceNo) (entry : Entry) (b : IsBacked w device entry) where
  area_in : IsIn w.areas b.area
  area_in = within w.areas b.area b.there

  names : (eqb b.area.file.0 b.attachment.file.0 ≡ true) × (eqb b.area.ioas.0 b.ioas.0 ≡ true)
  names = and_true (eqb b.area.file.0 b.attachment.file.0) (eqb b.area.ioas.0 b.ioas.0) b.own

  debtor : IsDebtor w.objects w.attachments b.area.file b.area.ioas device.0
  debtor =
      let (width, automatic, table) = table_of w.objects b.attachment b.ioas b.space in
      record {
        a = b.attachment;
        found = b.attached;
        of_file = sym (file_is b.area.file b.attachment.file names.0);
        width = width;
        automatic = automatic;
        table = table ∙ ap (λ (i : ObjId). let o : Option ObjectKind = Some (kind.Hwpt i width automatic) in o)
            (sym (id_is b.area.ioas b.ioas names.1));
      }

-- ---- one record

-- a pin that stays keeps its frame
same_frame : (old new : Option FrameNo) (now : Option FrameNo) (frame : FrameNo) → PinMoves old new now
    → old ≡ Some frame → is_some new ≡ true → new ≡ Some frame
same_frame None new now frame moves was is = cc
same_frame (Some old) None now frame moves was is = cc
same_frame (Some old) (Some new) now frame moves was is = ap Some moves ∙ was

module _ {A : Type 0} (settings : Settings) (before : List (Record A)) (r : Record A)
    (run : IsRun settings (before ++ r ∷ [])) (device : DeviceNo) (other : is_turn_of device r.event ≡ false)
    (entry : Entry) (b : IsBacked (world_of settings before) device entry) where
  abbrev old : World
  old = world_of settings before

  abbrev new : World
  new = world_of settings (before ++ r ∷ [])

  covered : IsCovered device b.area new
  unfolding with_tables
  covered =
      let tidy = tidy_of settings before (beginning settings before (r ∷ []) run) in
      let held = area_in old device entry b in
      let is = debtor old device entry b in
      let space = (each_owed old tidy.sound.debts).in_spaces b.area held in
      by_record settings before r run (λ w. IsCovered device b.area w)
      (λ cause refused told. record {
        debtor = is;
        kept = record { phase = b.area.phase; among = held; may = b.phase };
      })
      (λ none answers moves.
      let is_new = stays_attached old device b.area.file b.area.ioas tidy space is (length before) r.event r.reply none
      answers other in
      let kept_new = stays_covered old device b.area tidy held b.phase space is (length before) r.event r.reply none
      answers other in
      record {
        debtor = record {
          a = is_new.a;
          found = is_new.found;
          of_file = is_new.of_file;
          width = is_new.width;
          automatic = is_new.automatic;
          table = is_new.table;
        };
        kept = record { phase = kept_new.phase; among = kept_new.among; may = kept_new.may };
      })

  pub backed_after : IsBacked new device entry
  backed_after = record {
    attachment = covered.debtor.a;
    attached = covered.debtor.found;
    ioas = b.area.ioas;
    space = space;
    area = area;
    there = contains new.areas area covered.kept.among;
    own = own;
    covers = b.covers;
    rights = b.rights;
    phase = covered.kept.may;
    pinned = pinned;
  }
    where
      area : Area
      area = record b.area { phase = covered.kept.phase }

      space : ioas_of_attachment new.objects covered.debtor.a ≡ Some b.area.ioas
      space = ap (λ (o : Option ObjectKind). elim o [ Some k ↦ ioas_of k | None ↦ None ]) covered.debtor.table

      own : is_of covered.debtor.a.file b.area.ioas b.area ≡ true
      own =
          let files = ap (λ (f : FileNo). f.0) covered.debtor.of_file in
          let file : eqb b.area.file.0 covered.debtor.a.file.0 ≡ true = search (files, arith, nat_tests) in
          let ioas : eqb b.area.ioas.0 b.area.ioas.0 ≡ true = search (arith, nat_tests) in
          both_true _ _ file ioas

      at : area_at (address_of entry) (areas_of new.areas covered.debtor.a.file b.area.ioas) ≡ Some area
      at = only_area new.areas covered.debtor.a.file b.area.ioas (address_of entry) area (apart_of settings
          (before ++ r ∷ []) run) covered.kept.among own b.covers

      page : ObjectPage
      page = page_in b.area (address_of entry)

      still : is_some (pinned_frame new.pins page) ≡ true
      still = page_pinned (length (before ++ r ∷ [])) new covered.debtor.a b.area.ioas area (address_of entry)
          (pinned_of settings (before ++ r ∷ []) run) (fits_of settings (before ++ r ∷ []) run) space at

      moves : pin_moves page old new
      moves = subst (λ (w : World). pin_moves page old w) (sym (world_more settings before r))
          (after_moves old page (length before) r)

      pinned : pinned_frame new.pins page ≡ Some entry.frame
      pinned = same_frame (pinned_frame old.pins page) (pinned_frame new.pins page)
          (frame_now new.memory new.user_pages page) entry.frame moves b.pinned still

pub sound_after : {A : Type 0} (settings : Settings) (before : List (Record A)) (r : Record A) (device : DeviceNo)
    (entries : List Entry) → IsRun settings (before ++ r ∷ []) → is_turn_of device r.event ≡ false
    → Sound (world_of settings before) device entries → Sound (world_of settings (before ++ r ∷ [])) device entries
sound_after settings before r device entries run other sound =
    λ entry cached. backed_after settings before r run device other entry (sound entry cached)

-- ---- many records, of which none is a turn

turns-append : {A : Type 0} (device : DeviceNo) (before later : List (Record A))
    → turns_of device (before ++ later) ≡ turns_of device before + turns_of device later
turns-append {A = A} device before later =
    sum_by-append (λ (r : Record A). cond (is_turn_of device r.event) 1 0) before later

-- no turn is the first of them, nor among the others
no_turn : {A : Type 0} (device : DeviceNo) (r : Record A) (later : List (Record A)) → turns_of device (r ∷ later) ≡ 0
    → (is_turn_of device r.event ≡ false) × (turns_of device later ≡ 0)
no_turn {A = A} device r later none =
    by_test (is_turn_of device r.event) refl (sym (count-cons (λ (r : Record A). is_turn_of device r.event) r later)
    ∙ none)
  where
    by_test : (b : Bool) → is_turn_of device r.event ≡ b → cond b 1 0 + turns_of device later ≡ 0
        → (is_turn_of device r.event ≡ false) × (turns_of device later ≡ 0)
    by_test true is none = absurd (omega (arith, none))
    by_test false is none = (is, omega (arith, none))

pub sound_later : {A : Type 0} (settings : Settings) (device : DeviceNo) (entries : List Entry)
    (later before : List (Record A)) → IsRun settings (before ++ later) → turns_of device later ≡ 0
    → Sound (world_of settings before) device entries → Sound (world_of settings (before ++ later)) device entries
sound_later {A = A} settings device entries [] before run none sound =
    subst (λ (rs : List (Record A)). Sound (world_of settings rs) device entries) (sym (append-nil before)) sound
sound_later {A = A} settings device entries (r ∷ later) before run none sound =
    let same : before ++ r ∷ [] ++ later ≡ before ++ r ∷ later = append_assoc before (r ∷ []) later in
    let run_split : IsRun settings ((before ++ r ∷ []) ++ later) = subst (λ (rs : List (Record A)). IsRun settings rs)
    (sym same) run in
    let parts = no_turn device r later none in
    subst (λ (rs : List (Record A)). Sound (world_of settings rs) device entries) same
    (sound_later settings device entries later (before ++ r ∷ []) run_split parts.1
    (sound_after settings before r device entries (beginning settings (before ++ r ∷ []) later run_split) parts.0
    sound))

pub sound_stays : {A : Type 0} (settings : Settings) (device : DeviceNo) (entries : List Entry)
    (before later : List (Record A)) → IsRun settings (before ++ later)
    → turns_of device (before ++ later) ≡ turns_of device before → Sound (world_of settings before) device entries
    → Sound (world_of settings (before ++ later)) device entries
sound_stays settings device entries before later run same sound =
    let parts = turns-append device before later in
    sound_later settings device entries later before run (omega (arith, same, parts)) sound

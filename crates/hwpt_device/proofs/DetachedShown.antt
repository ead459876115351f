-- What is kept after an attachment ended shows the world after it.
use Rattle.std.proofs.Common.{◌≡◌, ℕ, Bool, true, false, cond, not, eqb, Option, Some, None, List, [], map, refl, sym}
use Rattle.std.proofs.Common.{◌∙◌, ◌&&◌, ltb, ap, subst, ◌+◌, ◌-◌, ◌<◌, arith, Vec, IfSome}
use Rattle.iofd_rows.specs.Ids.{have_own_ids}
use Rattle.iofd_refusals.specs.Checks.{detach_checks}
use Rattle.dirty_bitmap.specs.Tracking.{Tables}
use Rattle.iofd_words.specs.Dirty.{TrackedTable, without_tracked}
use Rattle.iofd_words.specs.FirstTrue.{first_true}
use Rattle.iofd_words.specs.declared.width.Width.{Width}
use Rattle.iofd_steps.specs.Answers.{Answers}
use Rattle.iofd_runs.proofs.Accessed.{each_held}
use Rattle.iofd_runs.proofs.HoldersStay.{detached_accesses}
use Rattle.iofd_runs.proofs.NotRefused.{detach_passed}
use Rattle.iofd_runs.proofs.OwnIds.{own_ids-filter}
use Rattle.frame_memory.specs.Pool.{FramePool}
use Rattle.user_memory_rows.proofs.AccessCounts.{none_counted}
use Rattle.user_memory_rows.proofs.AccessStays.{PinsNext, pins_next}
use Rattle.user_memory_rows.proofs.FramesFollow.{translated_same}
use Rattle.user_memory_rows.proofs.Gone.{all_have, released_none, table_lost}
use Rattle.user_memory_rows.specs.Moves.{IsReleased, MayRelease}
use Rattle.user_memory_rows.specs.Shown.{FramesShown, accessed, has_page, over, tables_in, translated}
use Rattle.user_memory.specs.Changes.{never}
use Rattle.user_memory.specs.Memory.{Memory}
use Rattle.std.specs.Prelude.{IsTrue, is_none}
use Rattle.std.specs.List.{filter, list_all}
use Rattle.std.specs.List.Sorted.{IsNonDecreasingBy, IsPermutation}
use Rattle.iofd_steps.specs.After.{changed, detach_changes, detached, goes_with, settle, tracked_without}
use Rattle.iofd_words.specs.Areas.{all_paid, areas_of, paid, with_phase}
use Rattle.iofd_words.specs.Attachments.{attachment_of, ioas_of_attachment, without_attachment}
use Rattle.iofd_words.specs.Objects.{has_hwpt, has_ioas, is_ioas, kind_of, without_object}
use Rattle.iofd_words.specs.Pins.{ObjectPage}
use Rattle.iofd_words.specs.View.{view}
use Rattle.iofd_words.specs.World.{World}
use Rattle.iofd_words.specs.declared.event.Event.TheVariants as event
use Rattle.iofd_words.specs.declared.numbers.DeviceNo.{DeviceNo}
use Rattle.iofd_words.specs.declared.numbers.FileNo.{FileNo}
use Rattle.iofd_words.specs.declared.numbers.ObjId.{ObjId}
use Rattle.iofd_words.specs.declared.reply.Reply.TheVariants as reply
use Rattle.iofd_words.specs.declared.rows.Area.{Area}
use Rattle.iofd_words.specs.declared.rows.Attachment.{Attachment}
use Rattle.iofd_words.specs.declared.rows.Object.{Object}
use Rattle.iofd_words.specs.declared.rows.ObjectKind.{ObjectKind}
use Rattle.iofd_words.specs.declared.rows.ObjectKind.TheVariants as kind
use Rattle.iofd_rows.proofs.Owed.{table_of}
use Rattle.iofd_rows.proofs.Paid.{paid_areas_of}
use Rattle.server_state.specs.Held.{areas_at, objects_in, own, space_of}
use Rattle.server_state.specs.Mapping.{own_areas, untranslated_pins}
use Rattle.hwpt_device.specs.Attaching.{has_no_user, has_one_user, is_automatic_at, is_idle, takes_its_table}
use Rattle.server_state.specs.Choice.{AreFramesChosen, IsChosen}
use Rattle.server_state.specs.Leads.{leads_of}
use Rattle.server_state.specs.Shows.{DirtyShown, ObjectsShown, Shows, TablesShown}
use Rattle.server_state.specs.Spaces.{HasAreas, IsOrderly}
use Rattle.server_state.specs.Step.{IsTidy}
use Rattle.server_state.specs.TableGone.{HasLostTable, IsTableGone}
use Rattle.server_state.specs.Tables.{has_own_width, page_tables_among}
use Rattle.server_state.specs.declared.held.Held.{Held}
use Rattle.server_state.specs.declared.state.State.{State}
use Rattle.server_state.proofs.AccessPinsStay.{shown_still}
use Rattle.server_state.proofs.AreasBecome.{own_at}
use Rattle.server_state.proofs.Counted.{counts_of, over_spaces, own_row, users_of_row}
use Rattle.server_state.specs.Users.{AccessSpaces, accesses_to, devices_on, tables_over}
use Rattle.server_state.proofs.CountsShown.{device_leaves, on_own}
use Rattle.server_state.proofs.DevicesOn.{devices-without, has_devices, none_on}
use Rattle.iofd_words.specs.Attachments.{has_device_on}
use Rattle.iofd_rows.proofs.Bools.{and_true, not_true}
use Rattle.std.proofs.lemmas.Bool.Decides.{nat_tests}
use Rattle.hwpt_device.proofs.Detached.{all_stay, bindings_stay, left_of, none_goes, none_of, one_goes}
use Rattle.hwpt_device.proofs.Detached.{others_stay}
use Rattle.hwpt_device.proofs.Detached.{some_goes}
use Rattle.hwpt_device.proofs.PaidLeads.{paid_leads}
use Rattle.hwpt_device.proofs.TableGone.{given_rows, named_rows, orphan_rows, tables_kept, tests_kept}
use Rattle.server_state.proofs.TablesUnreached.{unreached}
use Rattle.server_state.proofs.TablesAmong.{found_hwpt}
use Rattle.page_table_set.specs.PageTables.{Hwpt, IfAllStand, PageTables, hwpt_of, objects_of}
use Rattle.page_table_set.specs.Removed.{rows_found, without_tables}
use Rattle.iofd_rows.proofs.Each.{IsIn, in_found}
use Rattle.iofd_rows.proofs.Moves.{device_is}
use Rattle.iofd_runs.proofs.StillTabled.{leaves_table, none_after}
use Rattle.iofd_words.specs.TablePlaces.{is_table_of}
use Rattle.iofd_words.specs.Tables.{MovesTables, is_orphan, missing_tables, tables_after, with_tables}
use Rattle.iofd_words.specs.declared.numbers.FrameNo.{FrameNo}
use Rattle.iofd_words.specs.declared.rows.TableFrame.{TableFrame}
use Rattle.server_state.proofs.GivenBack.{times_in}
use Rattle.server_state.proofs.GivenMoves.{gives, tables_left as tables_beside}
use Rattle.server_state.proofs.GivenShown.{given_shown}
use Rattle.server_state.proofs.Still.{still}
use Rattle.page_table_words.specs.Released.{GivesBack}
use Rattle.page_table_words.specs.Rows.{TableRow}
use Rattle.server_state.proofs.Objects.{has_table}
use Rattle.hwpt_device.proofs.Flushed.{attached_to, shows_paid, unattached}
use Rattle.server_state.proofs.MemoryReleased.{AreFewer, may_release, may_release_over, over_map, shown_over}
use Rattle.server_state.proofs.MemoryReleased.{tables_lead, tables_stand, translated_map}
use Rattle.server_state.proofs.PageTables.{has_hwpt_kept}
use Rattle.object_table.specs.Table.{Row, Table, changed_at, with_users}
use Rattle.object_table.specs.declared.kind.Kind.TheVariants as of_kind

-- what isn't attached was refused
pub never_unattached : {X : Type 0} (w : World) (device : DeviceNo) → first_true (detach_checks (view w) device) ≡ None
    → attachment_of w.attachments device ≡ None → X
never_unattached w device none is =
    let attached : is_none (attachment_of w.attachments device) ≡ false =
    (detach_passed (view w) device none).attached in
    let other : is_none (attachment_of w.attachments device) ≡ true = ap (λ (o : Option Attachment). is_none o) is in
    absurd (differ (sym other ∙ attached))
  where
    differ : true ≡ false → ⊥
    differ is = cc

-- the device's attachment, in the words of the world
record Ending (w : World) (device : DeviceNo) (a : Attachment) (ioas : ObjId) : Type 0 where
  found : attachment_of w.attachments device ≡ Some a
  over : ioas_of_attachment w.objects a ≡ Some ioas

-- the pins after it
next_pins : (at : ℕ) (w : World) (device : DeviceNo) (a : Attachment) → IsTidy at w
    → first_true (detach_checks (view w) device) ≡ None → attachment_of w.attachments device ≡ Some a
    → PinsNext (at + 1) w (settle w (detached w device a))
unfolding changed Answers
next_pins at w device a tidy none found =
    let Q = λ (o : Option Attachment). PinsNext (at + 1) w (detach_changes w device o) in
    let after : Q (attachment_of w.attachments device) =
    pins_next {A = Unit {0}} at w (event.Detach device) reply.Done none tt tidy.pins in
    subst Q found after

-- ---- paid areas

-- a paid area
abbrev with_paid : DeviceNo → Area → Area
with_paid device area = with_phase (paid device area.phase) area

over_paid : (device : DeviceNo) (areas : List Area) (n : ℕ) → over (all_paid device areas) n ≡ over areas n
over_paid device areas n = over_map (with_paid device) areas (λ area. refl) n

translated_paid : (objects : List Object) (device : DeviceNo) (areas : List Area) (n : ℕ)
    → translated objects (all_paid device areas) n ≡ translated objects areas n
translated_paid objects device areas n =
    translated_map objects (with_paid device) areas (λ area. refl) (λ area. refl) (λ area. refl) n

-- access pins cover no page of a memory object over which no area is left: none was over it
paid_uncovered : (w : World) (device : DeviceNo) (page : ObjectPage) → has_page w.memory page ≡ true
    → over (all_paid device w.areas) page.memory ≡ 0 → accessed w.objects w.areas w.access_pins page ≡ 0
paid_uncovered w device page there none =
    none_counted w.objects w.areas w.access_pins page (sym (over_paid device w.areas page.memory) ∙ none)

-- ---- users that are counted

none_more : (n m : ℕ) → n ≡ m → n + 0 ≡ m
none_more n m same = omega arith

devices_alone : (n tables accesses devices : ℕ) → n ≡ tables + accesses + devices → tables ≡ 0 → accesses ≡ 0
    → n ≡ devices
devices_alone n tables accesses devices many none none_to = omega arith

one_more : (n tables accesses devices left own : ℕ) → n ≡ tables + accesses + devices → tables ≡ 0 → accesses ≡ 0
    → left + own ≡ devices → own ≡ 1 → n ≡ left + 1
one_more n tables accesses devices left own many none none_to all one = omega arith

one_or_more : (n : ℕ) → eqb (n + 1) 1 ≡ not (ltb 0 n)
one_or_more n = grind (arith, nat_tests)

none_or_some : (n : ℕ) → eqb n 0 ≡ not (ltb 0 n)
none_or_some n = grind (arith, nat_tests)

-- the same page tables translate as before
fewer_none : (w : World) (device : DeviceNo) (left : List Object)
    → ((f : FileNo) (i : ObjId) → has_hwpt left f i ≡ has_hwpt w.objects f i)
    → AreFewer never never w left (all_paid device w.areas)
fewer_none w device left same = record {
  over_left = λ n. none_more _ _ (over_paid device w.areas n);
  translated_left =
      λ n. none_more _ _ (translated_paid left device w.areas n ∙ translated_same w.objects left w.areas same n);
  uncovered = paid_uncovered w device;
}

module _ {A : Type 0} where
  pub never_lost : {X : Type 0} (w : World) (s : State A) (device : DeviceNo) → Shows w s
      → first_true (detach_checks (view w) device) ≡ None → attachment_of s.attachments.items device ≡ None → X
  never_lost w s device shows none is = never_unattached w device none (rw shows.devices.attached is)

  pub never_astray : {X : Type 0} (at : ℕ) (w : World) (s : State A) (device : DeviceNo) → IsTidy at w → Shows w s
      → first_true (detach_checks (view w) device) ≡ None
      → space_of (objects_in s.objects) (attachment_of s.attachments.items device) ≡ None → X
  never_astray at w s device tidy shows none is =
      never_unattached w device none (unattached w device tidy.debts
      (rw (shows.objects.rows, shows.devices.attached) is))

  ending : (w : World) (s : State A) (device : DeviceNo) (a : Attachment) (file : FileNo) (ioas : ObjId) → Shows w s
      → attachment_of s.attachments.items device ≡ Some a
      → space_of (objects_in s.objects) (attachment_of s.attachments.items device) ≡ Some (file, ioas)
      → Ending w device a ioas
  ending w s device a file ioas shows found space =
      let space_of_w : space_of w.objects (attachment_of w.attachments device) ≡ Some (file, ioas) =
      rw (shows.objects.rows, shows.devices.attached) space in
      let to = attached_to w.objects (attachment_of w.attachments device) file ioas space_of_w in
      let here : attachment_of w.attachments device ≡ Some a = rw shows.devices.attached found in
      let same : to.a ≡ a = cc in
      record { found = here; over = ap (ioas_of_attachment w.objects) (sym same) ∙ to.over }

  space_here : (w : World) (s : State A) (device : DeviceNo) (a : Attachment) (ioas : ObjId) → Shows w s
      → attachment_of s.attachments.items device ≡ Some a → Ending w device a ioas
      → space_of (objects_in s.objects) (attachment_of s.attachments.items device) ≡ Some (a.file, ioas)
  space_here w s device a ioas shows found end =
      let over : ioas_of_attachment (objects_in s.objects) a ≡ Some ioas = rw shows.objects.rows at end.over in
      rw (found, over, space_of) refl

  -- what a step with this world, these frames given back and this state says
  abbrev IsStep : ℕ → World → DeviceNo → Option FrameNo → List FrameNo → State A → Type 0
  IsStep at w device via given new =
      Answers {A = A} w (event.Detach device) reply.Done × IsChosen {A = A} w (event.Detach device) via reply.Done
      × MovesTables {A = A} w (changed {A = A} at w (event.Detach device) reply.Done)
      (event.Detach device) reply.Done [] given
      × AreFramesChosen {A = A} w (changed {A = A} at w (event.Detach device) reply.Done) (event.Detach device)
      reply.Done [] given
      × Shows (with_tables [] given (changed {A = A} at w (event.Detach device) reply.Done)) new

  -- whether the page table goes is told before by its users: the device is the only one
  pub last_tells : (at : ℕ) (w : World) (s : State A) (device : DeviceNo) (a : Attachment) (file : FileNo)
      (ioas : ObjId) → IsTidy at w → Shows w s → attachment_of s.attachments.items device ≡ Some a
      → space_of (objects_in s.objects) (attachment_of s.attachments.items device) ≡ Some (file, ioas)
      → (is_automatic_at (objects_in s.objects) a.file a.hwpt && has_one_user s.objects a.file a.hwpt)
      ≡ is_idle w.objects (without_attachment device w.attachments) a.file a.hwpt
  last_tells at w s device a file ioas tidy shows found space =
      ap (λ (l : List Object). is_automatic_at l a.file a.hwpt && has_one_user s.objects a.file a.hwpt)
      (sym shows.objects.rows)
      ∙ ap (λ (b : Bool). is_automatic_at w.objects a.file a.hwpt && b) one_tells
    where
      end : Ending w device a ioas
      end = ending w s device a file ioas shows found space

      one_tells : has_one_user s.objects a.file a.hwpt
          ≡ not (has_device_on (without_attachment device w.attachments) a.file a.hwpt)
      one_tells =
          let (width, automatic, kind_w) = table_of w.objects a ioas end.over in
          let kind_s : kind_of (objects_in s.objects) a.file a.hwpt ≡ Some (kind.Hwpt ioas width automatic) =
          sym (ap (λ (objects : List Object). kind_of objects a.file a.hwpt) shows.objects.rows) ∙ kind_w in
          let (row, found, there) = own_row s.objects.rows a.file a.hwpt (kind.Hwpt ioas width automatic)
          kind_s in
          let many = users_of_row w.objects w.attachments s.objects.rows shows.objects.counted a.file a.hwpt row
          there in
          let no_space : has_ioas w.objects a.file a.hwpt ≡ false =
          ap (λ (o : Option ObjectKind). elim o [ Some k ↦ is_ioas k | None ↦ false ]) kind_w in
          let none = over_spaces w.objects a.file a.hwpt tidy.debts.spaces no_space in
          let none_to = shows.objects.accesses a.file a.hwpt no_space in
          let all = devices-without w.attachments device a a.file a.hwpt tidy.debts.once end.found in
          let one = on_own a in
          let on = one_more _ _ _ _ _ _ many none none_to all one in
          ap (λ (o : Option (Row (Held A))). elim o as (λ _. Bool) [ Some r ↦ eqb r.users 1 | None ↦ false ]) found
          ∙ ap (λ (n : ℕ). eqb n 1) on
          ∙ one_or_more (devices_on (without_attachment device w.attachments) a.file a.hwpt)
          ∙ ap not (sym (has_devices (without_attachment device w.attachments) a.file a.hwpt))

  -- in the words of what is kept
  pub takes_it : (at : ℕ) (w : World) (s : State A) (device : DeviceNo) (a : Attachment) (file : FileNo) (ioas : ObjId)
      → IsTidy at w → Shows w s → attachment_of s.attachments.items device ≡ Some a
      → space_of (objects_in s.objects) (attachment_of s.attachments.items device) ≡ Some (file, ioas)
      → (is_automatic_at (objects_in s.objects) a.file a.hwpt && has_one_user s.objects a.file a.hwpt) ≡ true
      → IsTrue (takes_its_table (objects_in s.objects) s.attachments.items device)
  takes_it at w s device a file ioas tidy shows found space last =
      let idle : is_idle w.objects (without_attachment device w.attachments) a.file a.hwpt ≡ true =
      sym (last_tells at w s device a file ioas tidy shows found space) ∙ last in
      let kept : is_idle (objects_in s.objects) (without_attachment device s.attachments.items) a.file a.hwpt ≡ true =
      rw (shows.objects.rows, shows.devices.attached) at idle in
      rw (takes_its_table, found) kept

  module _ (at : ℕ) (w : World) (s : State A) (attachments : Vec Attachment A) (device : DeviceNo) (a : Attachment)
      (file : FileNo) (ioas : ObjId) (table : Table (Held A)) (tidy : IsTidy at w) (shows : Shows w s)
      (none : first_true (detach_checks (view w) device) ≡ None)
      (found : attachment_of s.attachments.items device ≡ Some a)
      (space : space_of (objects_in s.objects) (attachment_of s.attachments.items device) ≡ Some (file, ioas))
      (pays : IsOrderly s.objects → HasAreas a.file ioas
      (all_paid device (areas_at s.objects.rows a.file ioas)) s.objects table)
      (without : attachments.items ≡ without_attachment device s.attachments.items)
      (less : Table (Held A))
      (leaves : IfSome (own table a.file of_kind.Hwpt a.hwpt) (λ row. 0 < row.users
      → less.rows ≡ changed_at a.file a.hwpt (with_users (row.users - 1)) table.rows))
      (less_same : less ≡ record table { rows = less.rows }) where
    end : Ending w device a ioas
    end = ending w s device a file ioas shows found space

    paid_shown : Shows (record w { areas = all_paid device w.areas }) (record s { objects = table })
    paid_shown =
        shows_paid at w s device a.file ioas table tidy shows (space_here w s device a ioas shows found end) pays

    others : attachments.items ≡ without_attachment device w.attachments
    others = rw (← shows.devices.attached) at without

    -- what the page table is
    of_world : (width : Width) × (automatic : Bool)
        × (kind_of w.objects a.file a.hwpt ≡ Some (kind.Hwpt ioas width automatic))
    of_world = table_of w.objects a ioas end.over

    -- the page table has one user fewer
    less_shown : ObjectsShown w.settings w.closed w.objects (without_attachment device w.attachments)
        (all_paid device w.areas) less
    less_shown =
        let (width, automatic, kind_w) = of_world in
        device_leaves w.settings w.closed w.objects w.attachments (all_paid device w.areas) table less
        paid_shown.objects a ioas width automatic kind_w less_same device tidy.debts.once end.found leaves

    kind_less : (width : Width) (automatic : Bool)
        → kind_of w.objects a.file a.hwpt ≡ Some (kind.Hwpt ioas width automatic)
        → kind_of (objects_in less) a.file a.hwpt ≡ Some (kind.Hwpt ioas width automatic)
    kind_less width automatic kind_w =
        sym (ap (λ (objects : List Object). kind_of objects a.file a.hwpt) less_shown.rows) ∙ kind_w

    no_space : has_ioas w.objects a.file a.hwpt ≡ false
    no_space =
        let (width, automatic, kind_w) = of_world in
        ap (λ (o : Option ObjectKind). elim o [ Some k ↦ is_ioas k | None ↦ false ]) kind_w

    -- no page table stands over a page table, and no access object is attached to one
    none_over_it : tables_over w.objects a.file a.hwpt ≡ 0
    none_over_it = over_spaces w.objects a.file a.hwpt tidy.debts.spaces no_space

    none_to_it : accesses_to w.objects a.file a.hwpt ≡ 0
    none_to_it = shows.objects.accesses a.file a.hwpt no_space

    -- whether a device is left on it is told by its users
    users_tell : has_no_user less a.file a.hwpt
        ≡ not (has_device_on (without_attachment device w.attachments) a.file a.hwpt)
    users_tell =
        let (width, automatic, kind_w) = of_world in
        let (row, found, there) = own_row less.rows a.file a.hwpt (kind.Hwpt ioas width automatic)
        (kind_less width automatic kind_w) in
        let many = users_of_row w.objects (without_attachment device w.attachments) less.rows less_shown.counted
        a.file a.hwpt row there in
        let none = none_over_it in
        let none_to = none_to_it in
        let on = devices_alone _ _ _ _ many none none_to in
        ap (λ (o : Option (Row (Held A))). elim o as (λ _. Bool) [ Some r ↦ eqb r.users 0 | None ↦ true ]) found
        ∙ none_or_some row.users
        ∙ ap (λ (n : ℕ). not (ltb 0 n)) on
        ∙ ap not (sym (has_devices (without_attachment device w.attachments) a.file a.hwpt))

    -- so whether the page table goes is told by the table
    table_tells : (is_automatic_at (objects_in less) a.file a.hwpt && has_no_user less a.file a.hwpt)
        ≡ is_idle w.objects (without_attachment device w.attachments) a.file a.hwpt
    table_tells =
        ap (λ (l : List Object). is_automatic_at l a.file a.hwpt && has_no_user less a.file a.hwpt)
        (sym less_shown.rows)
        ∙ ap (λ (b : Bool). is_automatic_at w.objects a.file a.hwpt && b) users_tell

    -- one user is counted before exactly where none is left
    pub last_told : (is_automatic_at (objects_in s.objects) a.file a.hwpt && has_one_user s.objects a.file a.hwpt)
        ≡ (is_automatic_at (objects_in less) a.file a.hwpt && has_no_user less a.file a.hwpt)
    last_told = last_tells at w s device a file ioas tidy shows found space ∙ sym table_tells

    -- the objects that are left
    abbrev left : List Object
    left = left_of (without_attachment device w.attachments) a w.objects

    -- the world after it, but for the frames of tables
    ends : changed {A = A} at w (event.Detach device) reply.Done ≡ settle w (detached w device a)
    unfolding changed
    ends = ap (detach_changes w device) end.found

    -- the page tables that are tracked still, by whether it goes
    tracked_so : (goes : Bool) → is_idle w.objects (without_attachment device w.attachments) a.file a.hwpt ≡ goes
        → tracked_without (without_attachment device w.attachments) a w
        ≡ cond goes (without_tracked a.file a.hwpt w.tracked) w.tracked
    tracked_so goes is =
        let (width, automatic, kind_w) = of_world in
        ap (λ b. cond b (without_tracked a.file a.hwpt w.tracked) w.tracked)
        (some_goes w.objects (without_attachment device w.attachments) a (kind.Hwpt ioas width automatic) tidy.ids
        kind_w ∙ is)

    -- these rows of tables are left, and the page tables that are kept stand with them where the frames of the others
    -- were given back
    module _ (areas_gone pins_gone : ℕ → ℕ) (rows : List TableFrame) (kept : PageTables) (before : FramePool)
        (new : Table (Held A)) (dirty : Tables) (memory : Memory) (pool : FramePool)
        (objects : ObjectsShown w.settings w.closed left (without_attachment device w.attachments)
        (all_paid device w.areas) new)
        (marks : DirtyShown (tracked_without (without_attachment device w.attachments) a w) dirty)
        (fewer : AreFewer areas_gone pins_gone w left (all_paid device w.areas))
        (frames : FramesShown w.settings.pool w.writes rows s.memory before)
        (tables : TablesShown (record w { objects = left; table_frames = rows }) kept before)
        (released : IsReleased areas_gone pins_gone s.memory memory before pool) where
      pub shows_ended : Shows (record (settle w (detached w device a)) { table_frames = rows })
          (record s {
            objects = new;
            page_tables = kept;
            attachments = attachments;
            dirty = dirty;
            memory = memory;
            pool = pool;
          })
      unfolding settle detached
      shows_ended =
          let next = next_pins at w device a tidy none end.found in
          let has = all_have (all_paid device w.areas) w.memory next.pins.used in
          let after =
          shown_over at w s tidy shows rows before frames areas_gone pins_gone left (all_paid device w.areas) fewer
          (at + 1) (settle w (detached w device a)) memory pool next.pins refl refl has refl refl next.covered refl
          released in
          record {
            settings = shows.settings;
            limits = after.limits;
            allowed = shows.allowed;
            dirty = marks;
            objects = objects;
            devices = record {
              bindings =
                  λ d. bindings_stay w.objects (without_attachment device w.attachments) a d ∙ shows.devices.bindings d;
              rising = shows.devices.rising;
              attached = sym others;
            };
            users = after.users;
            pins = after.pins;
            access_pins =
                shown_still w.objects left w.areas w.access_pins s.access_pins
                (detached_accesses w (without_attachment device w.attachments) a).holders
                (each_held w.objects w.areas w.access_pins tidy.pins.held) shows.access_pins;
            frames = after.frames;
            tables = record {
              tables = tables.tables;
              widths = tables.widths;
              stand =
                  tables_lead at w s tidy shows rows before frames areas_gone pins_gone left (all_paid device w.areas)
                  fewer (at + 1) (settle w (detached w device a)) memory pool next.pins refl refl has refl refl
                  next.covered refl released pool rows kept.tables tables.tables
                  (λ f i page some. paid_leads w.pins device w.areas f i page)
                  (tables_stand at w s tidy shows rows before frames areas_gone pins_gone left
                  (all_paid device w.areas) fewer (at + 1) (settle w (detached w device a)) memory pool next.pins refl
                  refl has refl refl next.covered refl released kept.tables tables.stand);
            };
          }

    -- ---- the page table stays

    pub shows_detached : (via : Option FrameNo) (given : List FrameNo) → given ≡ []
        → (is_automatic_at (objects_in less) a.file a.hwpt && has_no_user less a.file a.hwpt) ≡ false
        → IsStep at w device via given (record s { objects = less; attachments = attachments })
    unfolding changed settle detached Answers
    shows_detached via given nothing busy =
        let busy_w : is_idle w.objects (without_attachment device w.attachments) a.file a.hwpt ≡ false =
        sym table_tells ∙ busy in
        let stays = none_goes w.objects (without_attachment device w.attachments) a tidy.ids busy_w in
        let fewer = fewer_none w device left (λ f i. ap (λ (l : List Object). has_hwpt l f i) stays) in
        let shown =
        shows_ended never never w.table_frames s.page_tables s.pool less s.dirty s.memory s.pool
        (record {
          rows = stays ∙ less_shown.rows;
          spaces = less_shown.spaces;
          files = less_shown.files;
          counted = λ f i. less_shown.counted f i
              ∙ ap (λ (l : List Object). counts_of l (without_attachment device w.attachments) f i)
              (sym stays);
          accesses = subst AccessSpaces (sym stays) less_shown.accesses;
        })
        (subst (λ (rows : List TrackedTable). DirtyShown rows s.dirty) (sym (tracked_so false busy_w)) shows.dirty)
        fewer shows.frames
        (record {
          tables = shows.tables.tables ∙ ap page_tables_among (sym stays);
          widths = shows.tables.widths;
          stand = shows.tables.stand;
        })
        (released_none never never s.memory s.pool
        (may_release at w s tidy shows never never left (all_paid device w.areas) fewer))
        in
        let of : a.device ≡ device = device_is a.device device
        (in_found (λ (b : Attachment). eqb b.device.0 device.0) w.attachments a end.found).1 in
        let leaves : leaves_table w.objects w.attachments (Some a) ≡ true =
        ap (λ (d : DeviceNo). list_all (λ object. not (goes_with (without_attachment d w.attachments) a object))
        w.objects) of
        ∙ none_of w.objects (without_attachment device w.attachments) a tidy.ids busy_w
        in
        let takes : leaves_table w.objects w.attachments (attachment_of w.attachments device) ≡ true =
        ap (leaves_table w.objects w.attachments) end.found ∙ leaves in
        subst (λ (l : List FrameNo). IsStep at w device via l (record s { objects = less; attachments = attachments }))
        (sym nothing)
        (still {A = A} at (event.Detach device) via reply.Done (record s {
          objects = less;
          attachments = attachments;
        }) (λ gone t. refl) w tidy tt tt
        (subst (λ (v : World). Shows v (record s { objects = less; attachments = attachments })) (sym ends) shown)
        tt takes)

    -- ---- the page table goes with the attachment

    module _ (dirty : Tables) (new : Table (Held A)) (kept : PageTables) (before : FramePool)
        (idle : (is_automatic_at (objects_in less) a.file a.hwpt && has_no_user less a.file a.hwpt) ≡ true)
        (gone : IsTableGone a.file a.hwpt ioas
        (record s { objects = less; attachments = attachments; dirty = dirty }) new kept before) where
      idle_w : is_idle w.objects (without_attachment device w.attachments) a.file a.hwpt ≡ true
      idle_w = sym table_tells ∙ idle

      one_left : left ≡ without_object a.file a.hwpt w.objects
      one_left = one_goes w.objects (without_attachment device w.attachments) a tidy.ids
          idle_w

      no_device : devices_on (without_attachment device w.attachments) a.file a.hwpt ≡ 0
      no_device = none_on (without_attachment device w.attachments) a.file a.hwpt (not_true _
          (and_true (is_automatic_at w.objects a.file a.hwpt)
          (not (has_device_on (without_attachment device w.attachments) a.file a.hwpt)) idle_w).1)

      objects_shown : ObjectsShown w.settings w.closed left (without_attachment device w.attachments)
          (all_paid device w.areas) new
      objects_shown =
          let (width, automatic, kind_w) = of_world in
          subst (λ (l : List Object). ObjectsShown w.settings w.closed l (without_attachment device w.attachments)
          (all_paid device w.areas) new) (sym one_left)
          (gone.objects at w (without_attachment device w.attachments) (all_paid device w.areas) width automatic tidy
          less_shown kind_w no_device)

      had : has_hwpt w.objects a.file ioas ≡ true
      had = let (width, automatic, kind_w) = of_world in has_table w.objects a.file a.hwpt ioas width automatic kind_w

      -- the areas that aren't translated any more
      own_left : own_areas new a.file ioas ≡ all_paid device (areas_of w.areas a.file ioas)
      own_left =
          own_at new a.file ioas (record {
            ids = ap have_own_ids (sym objects_shown.rows) ∙ own_ids-filter _ w.objects tidy.ids;
          })
          ∙ sym (objects_shown.spaces a.file ioas) ∙ paid_areas_of device w.areas a.file ioas

      -- ---- its tables

      -- the rows of the other page tables
      abbrev others_rows : List TableFrame
      others_rows = without_tables a.file a.hwpt w.table_frames

      its_place : (h : Hwpt) × (hwpt_of s.page_tables.tables a.file a.hwpt ≡ Some h)
      its_place =
          let (width, automatic, kind_w) = of_world in
          let (h, is, of_file, of_kind) = found_hwpt w.objects s.page_tables.tables a (kind.Hwpt ioas width automatic)
          shows.tables.tables kind_w refl in
          (h, is)

      frames_left : FramesShown w.settings.pool w.writes others_rows s.memory before
      frames_left =
          let (h, is) = its_place in
          given_shown w.settings.pool w.writes w.table_frames (is_table_of a.file a.hwpt)
          (rows_found w.table_frames (hwpt_of s.page_tables.tables a.file a.hwpt)) s.memory
          s.pool before shows.frames
          (unreached w s shows tidy.tabled.owned)
          (named_rows w.table_frames s.page_tables.tables a.file a.hwpt h is)
          (gone.released w.table_frames (leads_of w) shows.tables.stand)

      tables_left : TablesShown (record w { objects = left; table_frames = others_rows }) kept before
      tables_left = record {
        tables =
            ap (map (λ (h : Hwpt). h.object)) gone.kept
            ∙ tables_kept w.objects s.page_tables.tables shows.tables.tables shows.tables.stand.own a.file a.hwpt
            ∙ ap page_tables_among (sym one_left);
        widths = ap (list_all has_own_width) gone.kept
            ∙ tests_kept w.objects s.page_tables.tables shows.tables.tables shows.tables.stand.own a.file a.hwpt
            has_own_width shows.tables.widths;
        stand = gone.stand w.table_frames (leads_of w) shows.tables.stand;
      }

      -- whether others translate the address space is known of those that are kept
      same_left : has_hwpt left a.file ioas ≡ has_hwpt (objects_of kept) a.file ioas
      same_left = sym (has_hwpt_kept (objects_of kept) left tables_left.tables a.file ioas)

      module _ (listed given : List FrameNo) (nothing : listed ≡ [])
          (gives_back : IfAllStand s.pool s.page_tables.tables
          (λ frames leads. GivesBack (rows_found frames (hwpt_of s.page_tables.tables a.file a.hwpt)) listed given))
        where
          back : GivesBack (rows_found w.table_frames (hwpt_of s.page_tables.tables a.file a.hwpt)) [] given
          back =
              subst (λ (l : List FrameNo). GivesBack (rows_found w.table_frames
              (hwpt_of s.page_tables.tables a.file a.hwpt)) l given) nothing
              (gives_back w.table_frames (leads_of w) shows.tables.stand)

          -- its frames are given back, and no others
          given_once : (f : ℕ) → times_in given f ≡ tables_in (filter (is_table_of a.file a.hwpt) w.table_frames) f
          given_once =
              let (h, is) = its_place in given_rows w.table_frames s.page_tables.tables a.file a.hwpt h is given
              (subst (λ (l : List FrameNo). IsPermutation
              (map (λ (row : TableRow). row.frame) (rows_found w.table_frames
              (hwpt_of s.page_tables.tables a.file a.hwpt))) l) (sym back.is) back.same)

          sorted : IsNonDecreasingBy (λ (f : FrameNo). f.0) given
          sorted = subst (IsNonDecreasingBy (λ (f : FrameNo). f.0)) (sym back.is) back.rising

          orphans : (t : TableFrame) → IsIn w.table_frames t → is_orphan left t ≡ is_table_of a.file a.hwpt t
          orphans t within = ap (λ (l : List Object). is_orphan l t) one_left
              ∙ orphan_rows w.objects w.table_frames tidy.tabled.owned a.file a.hwpt t within

          none_missing : missing_tables left (all_paid device w.areas) w.table_frames ≡ []
          unfolding changed settle detached
          none_missing =
              subst (λ (v : World). missing_tables v.objects v.areas w.table_frames ≡ []) ends
              (none_after {A = A} at w (event.Detach device) reply.Done tt tidy.tabled.needed)

          moved : MovesTables {A = A} w (settle w (detached w device a)) (event.Detach device) reply.Done [] given
              × AreFramesChosen {A = A} w (settle w (detached w device a)) (event.Detach device) reply.Done [] given
          unfolding settle detached
          moved =
              gives {A = A} w (settle w (detached w device a)) (event.Detach device) reply.Done
              (is_table_of a.file a.hwpt) given shows.frames.once given_once sorted orphans refl
              (own_ids-filter _ w.objects tidy.ids) none_missing (λ t. refl)

          rows_after : tables_after [] given (settle w (detached w device a)) ≡ others_rows
          unfolding settle detached
          rows_after = tables_beside {A = A} w (settle w (detached w device a)) (event.Detach device) reply.Done
              (is_table_of a.file a.hwpt) given shows.frames.once given_once sorted orphans refl

          step : (via : Option FrameNo) (memory : Memory) (pool : FramePool)
              → Shows (record (settle w (detached w device a)) { table_frames = others_rows }) (record s {
                objects = new;
                page_tables = kept;
                attachments = attachments;
                dirty = dirty;
                memory = memory;
                pool = pool;
              })
              → IsStep at w device via given (record s {
                objects = new;
                page_tables = kept;
                attachments = attachments;
                dirty = dirty;
                memory = memory;
                pool = pool;
              })
          unfolding with_tables Answers
          step via memory pool shown =
              let to : State A = record s {
                objects = new;
                page_tables = kept;
                attachments = attachments;
                dirty = dirty;
                memory = memory;
                pool = pool;
              } in
              let Left : World → Type 0 = λ (v : World).
              MovesTables {A = A} w v (event.Detach device) reply.Done [] given × AreFramesChosen {A = A} w v (event.Detach device) reply.Done [] given
              × Shows (with_tables [] given v) to in
              let of_rows : List TableFrame → Type 0 =
              λ (rows : List TableFrame). Shows (record (settle w (detached w device a)) { table_frames = rows })
              to in
              let here : Left (settle w (detached w device a)) =
              (moved.0, moved.1, subst of_rows (sym rows_after) shown) in
              let (moves, chosen, after) = subst Left (sym ends) here in
              (tt, tt, moves, chosen, after)

      -- the pins that go with it
      abbrev pins_gone : ℕ → ℕ
      pins_gone = untranslated_pins kept new a.file ioas

      fewer_pins : AreFewer never pins_gone w left (all_paid device w.areas)
      fewer_pins = by_table (has_hwpt (objects_of kept) a.file ioas) refl
        where
          by_table : (b : Bool) → has_hwpt (objects_of kept) a.file ioas ≡ b
              → AreFewer never (cond b never (over (own_areas new a.file ioas))) w left (all_paid device w.areas)
          -- another one over the address space stays
          by_table true more =
              fewer_none w device left (all_stay w (without_attachment device w.attachments) a ioas tidy.ids
              end.over had (same_left ∙ more))
          -- it was the last one
          by_table false last = record {
            over_left = λ n. none_more _ _ (over_paid device w.areas n);
            translated_left =
                λ n. ap (λ k. translated left (all_paid device w.areas) n + k) (ap (λ l. over l n) own_left
                ∙ over_paid device (areas_of w.areas a.file ioas) n)
                ∙ ap (λ k. k + over (areas_of w.areas a.file ioas) n) (translated_paid left device w.areas n)
                ∙ table_lost w.objects left w.areas a.file ioas had (same_left ∙ last)
                (others_stay w (without_attachment device w.attachments) a ioas tidy.ids end.over) n;
            uncovered = paid_uncovered w device;
          }

      pub may_unpin : MayRelease never pins_gone s.memory before.holds
      may_unpin = may_release_over at w s tidy shows others_rows before frames_left never pins_gone left
          (all_paid device w.areas) fewer_pins

      shows_dropped : DirtyShown (without_tracked a.file a.hwpt w.tracked) dirty
          → (listed given : List FrameNo) → listed ≡ []
          → IfAllStand s.pool s.page_tables.tables
          (λ frames leads. GivesBack (rows_found frames (hwpt_of s.page_tables.tables a.file a.hwpt)) listed given)
          → (via : Option FrameNo) (memory : Memory) (pool : FramePool)
          → IsReleased never pins_gone s.memory memory before pool
          → IsStep at w device via given (record s {
            objects = new;
            page_tables = kept;
            attachments = attachments;
            dirty = dirty;
            memory = memory;
            pool = pool;
          })
      shows_dropped marks listed given nothing gives_back via memory pool released =
          step listed given nothing gives_back via memory pool
          (shows_ended never pins_gone others_rows kept before new dirty memory pool objects_shown
          (subst (λ (rows : List TrackedTable). DirtyShown rows dirty) (sym (tracked_so true idle_w)) marks)
          fewer_pins frames_left tables_left released)

    pub shows_lost : (to : State A) (dirty : Tables) → DirtyShown (without_tracked a.file a.hwpt w.tracked) dirty
        → (is_automatic_at (objects_in less) a.file a.hwpt && has_no_user less a.file a.hwpt) ≡ true
        → HasLostTable a.file a.hwpt ioas
        (record s { objects = less; attachments = attachments; dirty = dirty }) to
        → (listed given : List FrameNo) → listed ≡ []
        → IfAllStand s.pool s.page_tables.tables
        (λ frames leads. GivesBack (rows_found frames (hwpt_of s.page_tables.tables a.file a.hwpt)) listed given)
        → (via : Option FrameNo) → IsStep at w device via given to
    shows_lost to dirty marks idle lost listed given nothing gives_back via =
        subst (IsStep at w device via given) (sym lost.others)
        (shows_dropped dirty to.objects to.page_tables lost.between idle lost.gone marks listed given nothing
        gives_back via to.memory to.pool lost.pins)

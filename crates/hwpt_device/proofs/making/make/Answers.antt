use Rattle.std.proofs.Common.{◌≡◌, ◌-◌, ℕ, List, false, IsSome, length, refl, sym, ◌∙◌, ap, subst, arith, vec_capacity}
use Rattle.std.proofs.Common.{vec_len}
use Rattle.frame_memory.specs.Pool.{least_free}
use Rattle.page_table_set.specs.PageTables.{hwpt_at, with_hwpt}
use Rattle.iofd_runs.proofs.TableCounts.{no_kind}
use Rattle.page_table_words.proofs.Frames.{some_least}
use Rattle.iofd_words.specs.Areas.{areas_of}
use Rattle.iofd_words.specs.Files.{is_user, user_of}
use Rattle.iofd_words.specs.Settings.{Settings}
use Rattle.iofd_words.specs.TablePlaces.{lacking, live_pages, places_of}
use Rattle.iofd_words.specs.declared.numbers.FrameNo.{FrameNo}
use Rattle.iofd_words.specs.declared.rows.Area.{Area}
use Rattle.iofd_words.specs.declared.rows.Object.{Object}
use Rattle.server_state.proofs.Errors.{on_err_same}
use Rattle.server_state.specs.Mapping.{own_areas}
use Rattle.server_state.specs.declared.state.State.{State}
use Rattle.object_table.specs.Table.{Table, inserted, reserved_id}
use Rattle.server_state.specs.declared.held.Held.{Held}
use Rattle.hwpt_device.proofs.AreasOwn.{fresh_there, objects_made, own_still, row_of}
use Rattle.hwpt_device.proofs.Asks.{may_pin, pins_known, translated_space}
use Rattle.hwpt_device.proofs.Made.{reserved_unseen, shows_stayed}
use Rattle.hwpt_device.proofs.MayAdd.{can_add, free_there, leads_none, no_row, pinned_more}
use Rattle.hwpt_device.proofs.PinnedFirst.{leads_yet, stand_yet}
use Rattle.hwpt_device.proofs.RootAdded.{of_some, takes_one}
use Rattle.hwpt_device.proofs.SpaceCounted.{counts_one}
use Rattle.hwpt_device.proofs.TableMade.{are_chosen, as_many_taken, made_shown}
use Rattle.hwpt_device.proofs.NeverRefused.{never_userless}
use Rattle.hwpt_device.specs.Filling.{Adds, CanAdd}
use Rattle.hwpt_device.specs.Making.{made_object}
use Rattle.hwpt_device.proofs.making.make.Goals as goal

pub unreachable-requires : goal.unreachable-requires
unreachable-requires g c =
    never_userless c.requires.may.world c.args.state.now c.args.file c.args.ioas c.args.width c.requires.may.shows
    c.requires.may.may (sym c.user_of.ensures.value ∙ c.in_default.is)

pub pin_space-requires-clause-translated : goal.pin_space-requires-clause-translated
pin_space-requires-clause-translated g c =
    let shows = reserved_unseen c.requires.may.world c.args.state.now c.reserve.new.state c.reserve.ensures.rows
    c.reserve.ensures.files c.reserve.ensures.tables c.reserve.ensures.others c.requires.may.shows in
    c.has_over-translated.ensures
    ∙ translated_space c.requires.may.world c.reserve.new.state c.reserve.new.state.objects
    c.reserve.new.state.page_tables.tables c.args.file c.args.ioas shows refl refl

pub pin_space-requires-clause-known : goal.pin_space-requires-clause-known
pin_space-requires-clause-known g c =
    let shows = reserved_unseen c.requires.may.world c.args.state.now c.reserve.new.state c.reserve.ensures.rows
    c.reserve.ensures.files c.reserve.ensures.tables c.reserve.ensures.others c.requires.may.shows in
    pins_known c.requires.may.at c.requires.may.world c.reserve.new.state c.requires.may.tidy shows

pub pin_space-requires-clause-may : goal.pin_space-requires-clause-may
pin_space-requires-clause-may g c = λ none.
    let shows = reserved_unseen c.requires.may.world c.args.state.now c.reserve.new.state c.reserve.ensures.rows
    c.reserve.ensures.files c.reserve.ensures.tables c.reserve.ensures.others c.requires.may.shows in
    let same : c.reserve.new.state.config ≡ c.args.state.now.config =
    ap (λ (st : State _). st.config) c.reserve.ensures.others in
    may_pin c.requires.may.at c.requires.may.world c.reserve.new.state c.reserve.new.state.objects c.args.file
    c.args.ioas c.args.width c.in-Some.user c.requires.may.tidy shows c.requires.may.may
    (ap (λ (settings : Settings). user_of settings c.args.file) same ∙ sym c.user_of.ensures.value ∙ c.in-Some.is)
    (ap (λ (settings : Settings). is_user settings c.in-Some.user) same ∙ c.in-Some.ensures.known) refl none

pub returns-in_err-reserve-clause-err : goal.returns-in_err-reserve-clause-err
returns-in_err-reserve-clause-err g c =
    on_err_same c.from_residual.result _
    (λ w shows. reserved_unseen w c.args.state.now c.reserve.new.state c.reserve.ensures.rows c.reserve.ensures.files
    c.reserve.ensures.tables c.reserve.ensures.others shows)

pub returns-in_err-pin_space-clause-err : goal.returns-in_err-pin_space-clause-err
returns-in_err-pin_space-clause-err g c =
    on_err_same c.from_residual-in_err-pin_space.result _
    (λ w shows. shows_stayed w c.reserve.new.state c.pin_space.new.memory c.pin_space.new.pool
    c.in_err-pin_space.ensures.err
    (reserved_unseen w c.args.state.now c.reserve.new.state c.reserve.ensures.rows c.reserve.ensures.files
    c.reserve.ensures.tables c.reserve.ensures.others shows))

pub insert_reserved-id-requires : goal.insert_reserved-id-requires
insert_reserved-id-requires g c =
    let HasRoom = λ (t : Table _). IsSome (reserved_id t c.args.file) in
    subst HasRoom (sym c.add_user.ensures.others) c.in_ok-reserve.ensures.object_room

pub add-requires-clause-can : goal.add-requires-clause-can
add-requires-clause-can g c =
    let w = c.requires.may.world in
    let s = c.reserve.new.state in
    let tidy = c.requires.may.tidy in
    let id = c.insert_reserved-id.result in
    let shows = reserved_unseen w c.args.state.now s c.reserve.ensures.rows c.reserve.ensures.files
    c.reserve.ensures.tables c.reserve.ensures.others c.requires.may.shows in
    let table = c.insert_reserved-id.new.self in
    let range = c.insert_reserved-id.ensures.in_range in
    let base = c.add_user.new.table in
    let one = counts_one c.requires.may.at w s c.args.file c.args.ioas c.args.width base tidy shows
    c.requires.may.may c.add_user.ensures.rows in
    let base_files = ap (λ (t : Table _). t.files) c.add_user.ensures.others in
    let fresh = fresh_there c.requires.may.at w s tidy shows c.args.file c.args.ioas id c.args.width c.args.automatic
    table base one c.insert_reserved-id.ensures.unused range.0 range.1 in
    let rows : table.rows ≡ inserted (row_of c.args.file c.args.ioas id c.args.width c.args.automatic) base.rows =
    c.insert_reserved-id.ensures.rows ∙ ap (λ (value : Held _). inserted (record {
      file = c.args.file;
      id = id;
      users = 0;
      value = value;
    }) base.rows) c.held_table-table.ensures in
    let own = own_still c.requires.may.at w s tidy shows c.args.file c.args.ioas id c.args.width c.args.automatic table
    base one c.insert_reserved-id.ensures.unused range.0 range.1 rows
    (c.insert_reserved-id.ensures.files ∙ base_files) in
    let more = pinned_more c.requires.may.at w s tidy shows c.args.file c.args.ioas c.pin_space.new.memory
    c.pin_space.new.pool c.in_ok-pin_space.ensures.ok in
    let few = c.in_ok-reserve.ensures.frame_room in
    let long = ap (λ (l : List FrameNo). length l) c.reserve.ensures.numbers in
    let many = ap (λ (l : List Area). length (lacking (λ place. false) (places_of c.args.width (live_pages l))))
    (c.requires.may.shows.objects.spaces c.args.file c.args.ioas) in
    let room = vec_capacity c.reserve.new.taken - vec_len c.reserve.new.taken in
    let here = can_add c.requires.may.at w s tidy shows c.args.file c.args.ioas id c.args.width c.args.automatic
    c.requires.may.may fresh c.pin_space.new.memory c.pin_space.new.pool more room
    (omega (arith, few, long, many)) in
    subst (λ (o : Object). CanAdd c.pin_space.new.pool s.page_tables.tables c.pin_space.new.memory o c.args.width
    (own_areas table o.file c.args.ioas) room) (sym c.table_object.ensures)
    (subst (λ (l : List Area). CanAdd c.pin_space.new.pool s.page_tables.tables c.pin_space.new.memory
    (made_object c.args.file c.args.ioas id c.args.width c.args.automatic)
    c.args.width l room) (sym own) here)

pub returns-clause-ok : goal.returns-clause-ok
returns-clause-ok g c =
    λ at w tidy shows_old roomy.
    let s = c.reserve.new.state in
    let id = c.insert_reserved-id.result in
    let table = c.insert_reserved-id.new.self in
    let range = c.insert_reserved-id.ensures.in_range in
    let unused = c.insert_reserved-id.ensures.unused in
    let after = c.pin_space.new.memory in
    let pool = c.pin_space.new.pool in
    let taken = c.add.new.taken.items in
    let object = made_object c.args.file c.args.ioas id c.args.width c.args.automatic in
    let shows = reserved_unseen w c.args.state.now s c.reserve.ensures.rows c.reserve.ensures.files
    c.reserve.ensures.tables c.reserve.ensures.others shows_old in
    let base = c.add_user.new.table in
    let one = counts_one at w s c.args.file c.args.ioas c.args.width base tidy shows roomy c.add_user.ensures.rows in
    let files = c.insert_reserved-id.ensures.files ∙ ap (λ (t : Table _). t.files) c.add_user.ensures.others in
    let fresh = fresh_there at w s tidy shows c.args.file c.args.ioas id c.args.width c.args.automatic table base one
    unused range.0 range.1 in
    let rows : table.rows ≡ inserted (row_of c.args.file c.args.ioas id c.args.width c.args.automatic) base.rows =
    c.insert_reserved-id.ensures.rows ∙ ap (λ (value : Held _). inserted (record {
      file = c.args.file;
      id = id;
      users = 0;
      value = value;
    }) base.rows) c.held_table-table.ensures in
    let objects = objects_made at w s tidy shows c.args.file c.args.ioas id c.args.width c.args.automatic table base one
    unused range.0 range.1 rows files in
    let own = own_still at w s tidy shows c.args.file c.args.ioas id c.args.width c.args.automatic table base one unused
    range.0 range.1 rows files in
    let more = pinned_more at w s tidy shows c.args.file c.args.ioas after pool c.in_ok-pin_space.ensures.ok in
    let few = free_there at w s tidy shows c.args.file c.args.ioas id c.args.width c.args.automatic roomy
    fresh after pool more in
    let one = takes_one w.table_frames object c.args.width (live_pages (areas_of w.areas c.args.file c.args.ioas))
    (no_row w.objects w.table_frames object tidy.tabled.owned (no_kind w.objects c.args.file id fresh)) in
    let some = some_least pool.holds (omega (arith, few, one)) in
    let tables_are = of_some (λ (frame : ℕ). c.add.new.page_tables.tables ≡ with_hwpt
    (hwpt_at c.table_object.result c.args.width frame) s.page_tables.tables) (least_free pool.holds) some.0
    some.1 c.add.ensures.tables in
    let tables_now = subst (λ (o : Object). c.add.new.page_tables.tables ≡ with_hwpt (hwpt_at o c.args.width some.0)
    s.page_tables.tables) c.table_object.ensures tables_are in
    let adds = subst (λ (o : Object). Adds o c.args.width after (own_areas table o.file c.args.ioas)
    s.page_tables.tables c.add.new.page_tables.tables pool c.add.new.pool c.reserve.new.taken.items taken)
    c.table_object.ensures c.add.ensures.added in
    let adds_own = subst (λ (l : List Area). Adds object c.args.width after l s.page_tables.tables
    c.add.new.page_tables.tables pool c.add.new.pool c.reserve.new.taken.items taken) own adds in
    let adds_all = subst (λ (l : List FrameNo). Adds object c.args.width after
    (areas_of w.areas c.args.file c.args.ioas) s.page_tables.tables c.add.new.page_tables.tables pool
    c.add.new.pool l taken) (c.reserve.ensures.numbers ∙ c.requires.empty) adds_own in
    let filled = adds_all w.table_frames (leads_yet at w s tidy shows c.args.file c.args.ioas id c.args.width
    c.args.automatic roomy after pool more)
    (stand_yet at w s tidy shows c.args.file c.args.ioas id c.args.width c.args.automatic roomy after pool more fresh)
    (no_row w.objects w.table_frames object tidy.tabled.owned (no_kind w.objects c.args.file id fresh))
    (leads_none at w s tidy shows c.args.file c.args.ioas id c.args.width c.args.automatic roomy
    fresh after pool more) in (
      fresh,
      are_chosen at w s tidy shows c.args.file c.args.ioas id c.args.width c.args.automatic roomy fresh after pool more
          c.add.new.page_tables c.add.new.pool taken some.0 tables_now filled c.facts.ensures.bytes,
      as_many_taken at w s tidy shows c.args.file c.args.ioas id c.args.width c.args.automatic roomy fresh after pool
          more c.add.new.page_tables c.add.new.pool taken some.0 tables_now filled c.facts.ensures.bytes,
      made_shown at w s tidy shows c.args.file c.args.ioas id c.args.width c.args.automatic roomy fresh after pool more
          c.add.new.page_tables c.add.new.pool taken some.0 tables_now filled c.facts.ensures.bytes table objects,
    )

pub returns-in_err-reserve-clause-attachments : goal.returns-in_err-reserve-clause-attachments
returns-in_err-reserve-clause-attachments g c = ap (λ (st : State _). st.attachments) c.reserve.ensures.others

pub returns-in_err-reserve-clause-config : goal.returns-in_err-reserve-clause-config
returns-in_err-reserve-clause-config g c = ap (λ (st : State _). st.config) c.reserve.ensures.others

pub returns-in_err-pin_space-clause-attachments : goal.returns-in_err-pin_space-clause-attachments
returns-in_err-pin_space-clause-attachments g c = ap (λ (st : State _). st.attachments) c.reserve.ensures.others

pub returns-in_err-pin_space-clause-config : goal.returns-in_err-pin_space-clause-config
returns-in_err-pin_space-clause-config g c = ap (λ (st : State _). st.config) c.reserve.ensures.others

pub returns-clause-attachments : goal.returns-clause-attachments
returns-clause-attachments g c = ap (λ (st : State _). st.attachments) c.reserve.ensures.others

pub returns-clause-config : goal.returns-clause-config
returns-clause-config g c = ap (λ (st : State _). st.config) c.reserve.ensures.others

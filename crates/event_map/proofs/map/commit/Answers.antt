use Rattle.std.proofs.Common.{◌≡◌, ◌-◌, ℕ, true, false, None, List, [], ap, subst, sym, ◌∙◌}
use Rattle.std.proofs.Common.{arith, vec_capacity, vec_len}
use Rattle.iofd_words.specs.Frames.{frame_at, has_pages}
use Rattle.iofd_words.specs.Pages.{page_of}
use Rattle.iofd_words.specs.declared.rows.MemoryObject.{MemoryObject}
use Rattle.user_memory.specs.Memory.{has_room}
use Rattle.iofd_steps.specs.Answers.{Answers, IsMappedAt}
use Rattle.iofd_words.specs.Rights.{is_fixed}
use Rattle.iofd_words.specs.declared.reply.Reply.TheVariants as reply
use Rattle.server_state.specs.Choice.{IsLeastMapped}
use Rattle.iofd_words.specs.Files.{user_of}
use Rattle.iofd_steps.specs.After.{mapped_area}
use Rattle.user_memory_rows.proofs.FramesFollow.{is_backed}
use Rattle.event_map.proofs.MapGranted.{can_map, enough_there}
use Rattle.event_map.proofs.MayMap.{no_table_over}
use Rattle.event_map.specs.AreaMapped.{CanMapArea, IsAreaMapped}
use Rattle.page_table_set.specs.PageTables.{IfAllStand}
use Rattle.iofd_words.specs.declared.numbers.FrameNo.{FrameNo}
use Rattle.page_table_set.specs.OverSpans.{hwpts_over}
use Rattle.iofd_words.specs.declared.rows.Area.{Area}
use Rattle.server_state.specs.Step.{IsKnown}
use Rattle.server_state.proofs.Limits.{same_limits}
use Rattle.event_map.proofs.Chosen.{is_spanned}
use Rattle.event_map.specs.Place.{IsPlace}
use Rattle.server_state.proofs.Errors.{on_err_same}
use Rattle.server_state.proofs.ViewShown.{same_view}
use Rattle.server_state.specs.Seen.{seen}
use Rattle.iofd_runs.proofs.NotRefused.{map_place}
use Rattle.iofd_words.specs.View.{view}
use Rattle.event_map.proofs.AreaPlaced.{area_comes, area_taken, has_place, has_user, is_place, shows_roomy}
use Rattle.event_map.proofs.AreaPlaced.{shows_unmapped}
use Rattle.event_map.proofs.MapAsks.{limit_kept, pages_there, placed, rising, some_length, whole_va, within_user}
use Rattle.event_map.proofs.Mapped.{IsMappedAs, shows_mapped}
use Rattle.event_map.proofs.PlaceAsks.{span_usable, span_whole}
use Rattle.server_state.specs.declared.state.State.{State}
use Rattle.event_map.proofs.map.commit.Goals as goal

pub unreachable-requires : goal.unreachable-requires
unreachable-requires g c =
    let known = c.requires.granted in
    let w = known.world in
    let lacks : user_of w.settings c.args.file ≡ None =
    rw known.shows.settings (sym c.user_of.ensures.value ∙ c.in_default.is) in
    has_user w c.args.file c.args.request (map_place (view w) c.args.file c.args.request known.none) lacks

pub place_of-requires-clause-known : goal.place_of-requires-clause-known
place_of-requires-clause-known g c = record {
  at = c.args.at;
  world = c.requires.granted.world;
  tidy = c.requires.granted.tidy;
  shows = c.requires.granted.shows;
}

pub place_of-requires-clause-some : goal.place_of-requires-clause-some
place_of-requires-clause-some g c = some_length c.args.at c.args.state.now c.args.file c.args.request c.in-Some.user
    c.requires.granted (sym c.user_of.ensures.value ∙ c.in-Some.is)

pub mapped_area-area-requires : goal.mapped_area-area-requires
mapped_area-area-requires g c = is_spanned (seen c.args.state.now) c.args.file c.args.request c.in-Some-place_of.span
    (rw c.in-Some-place_of.is at c.place_of.ensures)

pub unreachable-requires-in_default-place_of : goal.unreachable-requires-in_default-place_of
unreachable-requires-in_default-place_of g c =
    let known = c.requires.granted in
    let w = known.world in
    has_place w c.args.file c.args.request (map_place (view w) c.args.file c.args.request known.none)
    (seen c.args.state.now) (sym (same_view w c.args.state.now known.shows known.tidy.tabled.owned))
    (rw c.in_default-place_of.is at c.place_of.ensures)

pub tables_to_map-count-requires-clause-pages : goal.tables_to_map-count-requires-clause-pages
tables_to_map-count-requires-clause-pages g c =
    span_whole c.args.state.now c.args.file c.args.request
    (placed c.args.at c.args.state.now c.args.file c.args.request c.in-Some.user c.requires.granted
    (sym c.user_of.ensures.value ∙ c.in-Some.is)) c.in-Some-place_of.span (rw
    c.in-Some-place_of.is at c.place_of.ensures)

pub tables_to_map-count-requires-clause-usable : goal.tables_to_map-count-requires-clause-usable
tables_to_map-count-requires-clause-usable g c =
    span_usable c.args.state.now c.args.file c.args.request
    (placed c.args.at c.args.state.now c.args.file c.args.request c.in-Some.user c.requires.granted
    (sym c.user_of.ensures.value ∙ c.in-Some.is)) c.in-Some-place_of.span (rw
    c.in-Some-place_of.is at c.place_of.ensures)

pub returns-in_err-reserve-2-clause-err : goal.returns-in_err-reserve-2-clause-err
returns-in_err-reserve-2-clause-err g c =
    on_err_same c.from_residual-in_err-reserve-2.result _
    (shows_roomy c.args.at c.args.state.now c.args.file c.args.request.ioas c.reserve-2.new.table
    c.reserve-2.ensures.areas)

pub add-requires-clause-start : goal.add-requires-clause-start
add-requires-clause-start g c =
    rw c.memory_object-object.ensures (whole_va c.args.at c.args.state.now c.args.file c.args.request c.in-Some.user
    c.requires.granted (sym c.user_of.ensures.value ∙ c.in-Some.is))

pub add-requires-clause-end : goal.add-requires-clause-end
add-requires-clause-end g c =
    rw c.memory_object-object.ensures (within_user c.args.at c.args.state.now c.args.file c.args.request c.in-Some.user
    c.requires.granted (sym c.user_of.ensures.value ∙ c.in-Some.is))

pub add-requires-clause-user : goal.add-requires-clause-user
add-requires-clause-user g c =
    rw (c.memory_object-object.ensures, same_limits c.requires.granted.world c.args.state.now c.requires.granted.shows)
    c.in-Some.ensures.known

pub add-requires-clause-rises : goal.add-requires-clause-rises
add-requires-clause-rises g c =
    rw c.memory_object-object.ensures (rising c.args.at c.args.state.now c.args.file c.args.request c.in-Some.user
    c.requires.granted (sym c.user_of.ensures.value ∙ c.in-Some.is))

pub add-requires-clause-present : goal.add-requires-clause-present
add-requires-clause-present g c =
    let P : MemoryObject → Type 0 = λ row. c.has_hwpt-pinned.result ≡ true
    → has_pages (frame_at c.args.state.now.memory.pages) row.user (page_of row.va) row.count ≡ true in
    subst P (sym c.memory_object-object.ensures)
    (pages_there c.args.at c.args.state.now c.args.file c.args.request c.in-Some.user c.requires.granted
    (sym c.user_of.ensures.value ∙ c.in-Some.is) c.has_hwpt-pinned.result c.has_hwpt-pinned.ensures)

pub add-requires-clause-room : goal.add-requires-clause-room
add-requires-clause-room g c =
    let P : MemoryObject → Type 0 =
    λ row. c.has_hwpt-pinned.result ≡ true → has_room c.args.state.now.memory row.user row.count ≡ true in
    subst P (sym c.memory_object-object.ensures)
    (limit_kept c.args.at c.args.state.now c.args.file c.args.request c.in-Some.user c.requires.granted
    (sym c.user_of.ensures.value ∙ c.in-Some.is) c.in-Some.ensures.known c.has_hwpt-pinned.result
    c.has_hwpt-pinned.ensures)

pub add-requires-clause-backed : goal.add-requires-clause-backed
add-requires-clause-backed g c =
    let w = c.requires.granted.world in
    is_backed w.settings.pool w.writes w.table_frames c.args.state.now.memory c.args.state.now.pool
    c.requires.granted.shows.frames

pub returns-in_err-add-clause-err : goal.returns-in_err-add-clause-err
returns-in_err-add-clause-err g c =
    on_err_same c.from_residual-in_err-add.result _
    (shows_unmapped c.args.at c.args.state.now c.args.file c.args.request.ioas c.reserve-2.new.table c.add.new.self
    c.add.new.pool c.reserve-2.ensures.areas c.in_err-add.ensures.err c.in_err-add.ensures.pool_err)

pub map_area-requires-clause-can : goal.map_area-requires-clause-can
map_area-requires-clause-can g c =
    let place : IsPlace (seen c.args.state.now) c.args.file c.args.request c.in-Some-place_of.span =
    rw c.in-Some-place_of.is at c.place_of.ensures in
    subst (λ (a : Area). c.has_hwpt-pinned.result ≡ true
    → CanMapArea c.add.new.pool c.args.state.now.page_tables.tables c.add.new.self a
    (vec_capacity c.reserve.new.self - vec_len c.reserve.new.self)) (sym c.mapped_area-area.ensures)
    (can_map c.args.at c.args.state.now c.args.file c.args.request c.in-Some.user c.requires.granted
    (sym c.user_of.ensures.value ∙ c.in-Some.is) c.in-Some-place_of.span place c.add.new.self c.add.new.pool
    c.has_hwpt-pinned.result (vec_capacity c.reserve.new.self - vec_len c.reserve.new.self)
    c.has_hwpt-pinned.ensures (rw c.memory_object-object.ensures at c.in_ok-add.ensures.object)
    c.in_ok-add.ensures.settles
    (omega (arith, c.tables_to_map-count.ensures, c.in_ok-reserve.ensures.ok, c.reserve.ensures.len)))

pub map_area-requires-clause-none : goal.map_area-requires-clause-none
map_area-requires-clause-none g c =
    let known : IsKnown c.args.state.now = record {
      at = c.args.at;
      world = c.requires.granted.world;
      tidy = c.requires.granted.tidy;
      shows = c.requires.granted.shows;
    } in
    subst (λ (a : Area). c.has_hwpt-pinned.result ≡ false
    → hwpts_over a.file a.ioas c.args.state.now.page_tables.tables ≡ []) (sym c.mapped_area-area.ensures)
    (λ none. no_table_over c.args.state.now c.args.file c.args.request.ioas known (sym c.has_hwpt-pinned.ensures
    ∙ none))

pub returns-clause-ok : goal.returns-clause-ok
unfolding Answers
returns-clause-ok g c = λ via w tidy shows none may.
    let s = c.args.state.now in
    let file = c.args.file in
    let request = c.args.request in
    let span = c.in-Some-place_of.span in
    let user = c.in-Some.user in
    let taken = c.map_area.new.taken.items in
    let state = c.map_area.new.state in
    let new_area : Area = mapped_area c.args.at file request (record { 0 = span.first }) in
    let is_user = sym c.user_of.ensures.value ∙ c.in-Some.is in
    let place : IsPlace (seen s) file request span = rw c.in-Some-place_of.is at c.place_of.ensures in
    let (spanned, at_place, least_place) = is_place w file request (map_place (view w) file request none) (seen s)
    (sym (same_view w s shows tidy.tabled.owned)) span place in
    let first : span.first ≡ c.first.result = sym c.first.ensures.value in
    let mapped =
    subst (λ (old : List FrameNo). IfAllStand c.add.new.pool s.page_tables.tables
    (IsAreaMapped c.add.new.self new_area s.page_tables.tables c.add.new.pool state.pool old taken))
    (c.reserve.ensures.items ∙ c.requires.empty)
    (subst (λ (a : Area). IfAllStand c.add.new.pool s.page_tables.tables
    (IsAreaMapped c.add.new.self a s.page_tables.tables c.add.new.pool state.pool
    c.reserve.new.self.items taken)) c.mapped_area-area.ensures c.map_area.ensures.mapped) in
    let shown =
    shows_mapped c.args.at w s tidy shows file request (record { 0 = span.first }) user c.insert.new.table
    c.add.new.self c.add.new.pool c.has_hwpt-pinned.result none at_place is_user
    c.has_hwpt-pinned.ensures (rw c.memory_object-object.ensures at c.in_ok-add.ensures.object)
    c.in_ok-add.ensures.settles
    (enough_there c.args.at s file request user c.requires.granted is_user span place)
    state.pool taken mapped c.facts.ensures.bytes
    (λ orderly. area_taken w s file request tidy.tabled shows (map_place (view w) file request none) c.args.at
    (record { 0 = span.first }) at_place (λ space free.
    area_comes s.objects c.reserve-2.new.table c.insert.new.table file request.ioas new_area orderly space free
    c.reserve-2.ensures.areas c.in_ok-reserve-2.ensures.ok
    (rw (c.mapped_area-area.ensures, ap (λ (t : State _). t.objects) c.map_area.ensures.same)
    at c.insert.ensures))) in
    let moved = subst (λ (n : ℕ). IsMappedAs c.args.at w file request (record { 0 = n }) taken
    (record state { objects = c.insert.new.table })) first
    (subst (λ (t : State _). IsMappedAs c.args.at w file request (record { 0 = span.first }) taken
    (record t { objects = c.insert.new.table })) (sym c.map_area.ensures.same) shown) in (
      subst (λ (n : ℕ). IsMappedAt w file request (is_fixed request.flags) (record { 0 = n })) first at_place,
      subst (λ (n : ℕ). IsLeastMapped w file request (is_fixed request.flags) (reply.Iova (record { 0 = n }))) first
          least_place,
      moved.0,
      moved.1,
      moved.2,
    )

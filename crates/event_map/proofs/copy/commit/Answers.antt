use Rattle.std.proofs.Common.{◌≡◌, ◌-◌, ℕ, true, false, List, Some, None, [], sym, ◌∙◌, ap}
use Rattle.std.proofs.Common.{subst, arith, vec_capacity, vec_len}
use Rattle.iofd_runs.proofs.CopySource.{copy_source}
use Rattle.iofd_runs.proofs.NotRefused.{copy_place}
use Rattle.iofd_steps.specs.After.{mapped_area}
use Rattle.iofd_steps.specs.Answers.{Answers, IsMappedAt}
use Rattle.iofd_words.specs.Copies.{placed_as, source_in}
use Rattle.iofd_words.specs.Files.{user_of}
use Rattle.iofd_words.specs.Rights.{is_fixed}
use Rattle.iofd_words.specs.View.{view}
use Rattle.iofd_words.specs.declared.numbers.FrameNo.{FrameNo}
use Rattle.iofd_words.specs.declared.reply.Reply.TheVariants as reply
use Rattle.iofd_words.specs.declared.rows.Area.{Area}
use Rattle.page_table_set.specs.OverSpans.{hwpts_over}
use Rattle.page_table_set.specs.PageTables.{IfAllStand}
use Rattle.user_memory_rows.proofs.FramesFollow.{is_backed}
use Rattle.event_map.proofs.AreaPlaced.{area_comes, area_taken, has_place, has_user, is_place, shows_roomy}
use Rattle.event_map.proofs.AreaPlaced.{shows_unpinned}
use Rattle.event_map.proofs.Chosen.{is_spanned}
use Rattle.event_map.proofs.Copied.{IsCopiedAs, is_over, shows_copied}
use Rattle.event_map.proofs.CopyGranted.{can_map, enough_there, few_over, own, passed, placed, present, room, there}
use Rattle.event_map.proofs.MayMap.{no_table_over}
use Rattle.event_map.proofs.PlaceAsks.{span_usable, span_whole}
use Rattle.event_map.specs.AreaMapped.{CanMapArea, IsAreaMapped}
use Rattle.event_map.specs.Place.{IsPlace}
use Rattle.event_map.specs.Sources.{number_of}
use Rattle.server_state.proofs.Errors.{on_err_same}
use Rattle.server_state.proofs.ViewShown.{same_view}
use Rattle.server_state.specs.Choice.{IsLeastMapped}
use Rattle.server_state.specs.Seen.{seen}
use Rattle.server_state.specs.Step.{IsKnown}
use Rattle.server_state.specs.declared.state.State.{State}
use Rattle.event_map.proofs.copy.commit.Goals as goal

pub unreachable-requires : goal.unreachable-requires
unreachable-requires g c =
    let known = c.requires.granted.granted in
    let w = known.world in
    let lacks : user_of w.settings c.args.file ≡ None =
    rw known.shows.settings (sym c.user_of.ensures.value ∙ c.in_default.is) in
    has_user w c.args.file (placed_as c.args.request) (copy_place (view w) c.args.file c.args.request known.none) lacks

pub source_number-requires-clause-some : goal.source_number-requires-clause-some
source_number-requires-clause-some g c =
    (passed c.requires.granted.at c.args.state.now c.args.file c.args.request c.requires.granted.granted).some

pub source_number-requires-clause-sum : goal.source_number-requires-clause-sum
source_number-requires-clause-sum g c =
    (passed c.requires.granted.at c.args.state.now c.args.file c.args.request c.requires.granted.granted).source_sum

pub source_number-requires-clause-space : goal.source_number-requires-clause-space
source_number-requires-clause-space g c =
    (passed c.requires.granted.at c.args.state.now c.args.file c.args.request c.requires.granted.granted).source_space

pub unreachable-requires-in_default-source_number : goal.unreachable-requires-in_default-source_number
unreachable-requires-in_default-source_number g c =
    let known = c.requires.granted.granted in
    let w = known.world in
    let shows = known.shows in
    let (source, found, is) = copy_source w c.args.file c.args.request known.none in
    let nowhere : None ≡ Some source.memory =
    sym (sym c.source_number.ensures ∙ c.in_default-source_number.is)
    ∙ ap (λ (areas : List Area). number_of (source_in areas c.args.request))
    (sym (shows.objects.spaces c.args.file c.args.request.src_ioas))
    ∙ ap number_of found in
    let never : ⊥ = cc in
    never

pub place_of-requires-clause-some : goal.place_of-requires-clause-some
place_of-requires-clause-some g c = rw c.placed_as-placed.ensures
    (passed c.requires.granted.at c.args.state.now c.args.file c.args.request c.requires.granted.granted).some

pub unreachable-requires-in_default-place_of : goal.unreachable-requires-in_default-place_of
unreachable-requires-in_default-place_of g c =
    let known = c.requires.granted.granted in
    let w = known.world in
    has_place w c.args.file (placed_as c.args.request) (copy_place (view w) c.args.file c.args.request known.none)
    (seen c.args.state.now) (sym (same_view w c.args.state.now known.shows known.tidy.tabled.owned))
    (rw (c.placed_as-placed.ensures, c.in_default-place_of.is) at c.place_of.ensures)

pub mapped_area-area-requires : goal.mapped_area-area-requires
mapped_area-area-requires g c = rw c.placed_as-placed.ensures
    (is_spanned (seen c.args.state.now) c.args.file (placed_as c.args.request) c.in-Some-place_of.span
    (rw (c.placed_as-placed.ensures, c.in-Some-place_of.is) at c.place_of.ensures))

pub tables_to_map-count-requires-clause-pages : goal.tables_to_map-count-requires-clause-pages
tables_to_map-count-requires-clause-pages g c =
    span_whole c.args.state.now c.args.file (placed_as c.args.request)
    (placed c.requires.granted.at c.args.state.now c.args.file c.args.request c.requires.granted.granted)
    c.in-Some-place_of.span (rw (c.placed_as-placed.ensures, c.in-Some-place_of.is) at c.place_of.ensures)

pub tables_to_map-count-requires-clause-usable : goal.tables_to_map-count-requires-clause-usable
tables_to_map-count-requires-clause-usable g c =
    span_usable c.args.state.now c.args.file (placed_as c.args.request)
    (placed c.requires.granted.at c.args.state.now c.args.file c.args.request c.requires.granted.granted)
    c.in-Some-place_of.span (rw (c.placed_as-placed.ensures, c.in-Some-place_of.is) at c.place_of.ensures)

pub returns-in_err-reserve-2-clause-err : goal.returns-in_err-reserve-2-clause-err
returns-in_err-reserve-2-clause-err g c =
    on_err_same c.from_residual-in_err-reserve-2.result _
    (λ (at : ℕ). shows_roomy at c.args.state.now c.args.file c.args.request.dst_ioas c.reserve-2.new.table
    c.reserve-2.ensures.areas)

pub share-requires-clause-there : goal.share-requires-clause-there
share-requires-clause-there g c = there c.requires.granted.at c.args.state.now c.args.file c.args.request
    c.requires.granted.granted c.in-Some-source_number.number (sym c.source_number.ensures ∙ c.in-Some-source_number.is)
    c.in-Some.user (sym c.user_of.ensures.value ∙ c.in-Some.is)

pub share-requires-clause-few : goal.share-requires-clause-few
share-requires-clause-few g c = few_over c.requires.granted.at c.args.state.now c.args.file c.args.request
    c.requires.granted.granted c.in-Some-source_number.number

pub share-requires-clause-own : goal.share-requires-clause-own
share-requires-clause-own g c = λ translated.
    own c.requires.granted.at c.args.state.now c.args.file c.args.request c.requires.granted.granted
    c.in-Some-source_number.number (sym c.source_number.ensures ∙ c.in-Some-source_number.is) c.in-Some.user
    (sym c.user_of.ensures.value ∙ c.in-Some.is)

pub share-requires-clause-present : goal.share-requires-clause-present
share-requires-clause-present g c =
    present c.requires.granted.at c.args.state.now c.args.file c.args.request c.requires.granted.granted
    c.in-Some-source_number.number (sym c.source_number.ensures ∙ c.in-Some-source_number.is) c.in-Some.user
    (sym c.user_of.ensures.value ∙ c.in-Some.is)
    c.objects_told.ensures c.has_hwpt-pinned.result c.has_hwpt-pinned.ensures

pub share-requires-clause-room : goal.share-requires-clause-room
share-requires-clause-room g c = λ translated.
    room c.requires.granted.at c.args.state.now c.args.file c.args.request c.requires.granted.granted
    c.in-Some-source_number.number (sym c.source_number.ensures ∙ c.in-Some-source_number.is) c.in-Some.user
    (sym c.user_of.ensures.value ∙ c.in-Some.is)
    c.objects_told.ensures c.has_hwpt-pinned.result c.has_hwpt-pinned.ensures translated c.in-Some.ensures.known

pub share-requires-clause-backed : goal.share-requires-clause-backed
share-requires-clause-backed g c =
    let w = c.requires.granted.granted.world in
    is_backed w.settings.pool w.writes w.table_frames c.args.state.now.memory c.args.state.now.pool
    c.requires.granted.granted.shows.frames

pub returns-in_err-share-clause-err : goal.returns-in_err-share-clause-err
returns-in_err-share-clause-err g c =
    on_err_same c.from_residual-in_err-share.result _ (λ (at : ℕ) w tidy shows.
    shows_unpinned w _ c.share.new.self c.share.new.pool
    (shows_roomy at c.args.state.now c.args.file c.args.request.dst_ioas c.reserve-2.new.table
    c.reserve-2.ensures.areas w tidy shows) c.share.ensures.pages c.share.ensures.limits
    c.in_err-share.ensures.err c.in_err-share.ensures.pool_err)

pub map_area-requires-clause-can : goal.map_area-requires-clause-can
map_area-requires-clause-can g c =
    let place : IsPlace (seen c.args.state.now) c.args.file (placed_as c.args.request) c.in-Some-place_of.span =
    rw (c.placed_as-placed.ensures, c.in-Some-place_of.is) at c.place_of.ensures in
    subst (λ (a : Area). c.has_hwpt-pinned.result ≡ true
    → CanMapArea c.share.new.pool c.args.state.now.page_tables.tables c.share.new.self a
    (vec_capacity c.reserve.new.self - vec_len c.reserve.new.self)) (sym
    (rw c.placed_as-placed.ensures at c.mapped_area-area.ensures))
    (can_map c.requires.granted.at c.args.state.now c.args.file c.args.request c.requires.granted.granted
    c.in-Some-place_of.span place
    c.in-Some-source_number.number (sym c.source_number.ensures ∙ c.in-Some-source_number.is)
    c.share.new.self c.share.new.pool c.has_hwpt-pinned.result (vec_capacity c.reserve.new.self
    - vec_len c.reserve.new.self)
    c.has_hwpt-pinned.ensures c.in_ok-share.ensures.share c.in_ok-share.ensures.settles
    (omega (arith, c.tables_to_map-count.ensures, c.in_ok-reserve.ensures.ok, c.reserve.ensures.len)))

pub map_area-requires-clause-none : goal.map_area-requires-clause-none
map_area-requires-clause-none g c =
    let granted = c.requires.granted.granted in
    let known : IsKnown c.args.state.now =
    record { at = c.requires.granted.at; world = granted.world; tidy = granted.tidy; shows = granted.shows } in
    subst (λ (a : Area). c.has_hwpt-pinned.result ≡ false
    → hwpts_over a.file a.ioas c.args.state.now.page_tables.tables ≡ []) (sym
    (rw c.placed_as-placed.ensures at c.mapped_area-area.ensures))
    (λ none. no_table_over c.args.state.now c.args.file c.args.request.dst_ioas known (sym c.has_hwpt-pinned.ensures
    ∙ none))

pub returns-clause-ok : goal.returns-clause-ok
unfolding Answers
returns-clause-ok g c = λ at via w tidy shows none may.
    let s = c.args.state.now in
    let file = c.args.file in
    let request = c.args.request in
    let span = c.in-Some-place_of.span in
    let number = c.in-Some-source_number.number in
    let taken = c.map_area.new.taken.items in
    let state = c.map_area.new.state in
    let new_area : Area = mapped_area number file (placed_as request) (record { 0 = span.first }) in
    let area_is = rw c.placed_as-placed.ensures at c.mapped_area-area.ensures in
    let place : IsPlace (seen s) file (placed_as request) span =
    rw (c.placed_as-placed.ensures, c.in-Some-place_of.is) at c.place_of.ensures in
    let rows = copy_place (view w) file request none in
    let (spanned, at_place, least_place) =
    is_place w file (placed_as request) rows (seen s) (sym (same_view w s shows tidy.tabled.owned)) span place in
    let first : span.first ≡ c.first.result = sym c.first.ensures.value in
    let mapped =
    subst (λ (old : List FrameNo). IfAllStand c.share.new.pool s.page_tables.tables
    (IsAreaMapped c.share.new.self new_area s.page_tables.tables c.share.new.pool state.pool old
    taken)) (c.reserve.ensures.items ∙ c.requires.empty)
    (subst (λ (a : Area). IfAllStand c.share.new.pool s.page_tables.tables
    (IsAreaMapped c.share.new.self a s.page_tables.tables c.share.new.pool state.pool
    c.reserve.new.self.items taken)) area_is c.map_area.ensures.mapped) in
    let over = is_over w file request number none
    (ap (λ (areas : List Area). number_of (source_in areas request)) (shows.objects.spaces file request.src_ioas)
    ∙ (sym c.source_number.ensures ∙ c.in-Some-source_number.is)) in
    let shown =
    shows_copied at w s tidy shows file request (record { 0 = span.first }) number c.share.new.self c.share.new.pool
    c.has_hwpt-pinned.result none at_place over
    c.has_hwpt-pinned.ensures c.in_ok-share.ensures.share c.in_ok-share.ensures.settles
    (enough_there c.requires.granted.at s file request c.requires.granted.granted span place number)
    c.insert.new.table state.pool taken mapped c.facts.ensures.bytes
    (λ orderly. area_taken w s file (placed_as request) tidy.tabled shows rows
    number
    (record { 0 = span.first }) at_place (λ space free.
    area_comes s.objects c.reserve-2.new.table c.insert.new.table file request.dst_ioas new_area orderly space free
    c.reserve-2.ensures.areas c.in_ok-reserve-2.ensures.ok
    (rw (area_is, ap (λ (t : State _). t.objects) c.map_area.ensures.same) at c.insert.ensures))) in
    let moved = subst (λ (n : ℕ). IsCopiedAs at w file request (record { 0 = n }) taken
    (record state { objects = c.insert.new.table })) first
    (subst (λ (t : State _). IsCopiedAs at w file request (record { 0 = span.first }) taken
    (record t { objects = c.insert.new.table })) (sym c.map_area.ensures.same) shown) in (
      subst (λ (n : ℕ). IsMappedAt w file (placed_as request) (is_fixed request.flags) (record { 0 = n })) first
          at_place,
      subst (λ (n : ℕ). IsLeastMapped w file (placed_as request) (is_fixed request.flags)
          (reply.Iova (record { 0 = n }))) first least_place,
      moved.0,
      moved.1,
      moved.2,
    )

use Rattle.std.proofs.Common.{List, refl, sym, subst, ap, ◌∙◌, arith}
use Rattle.area_map_rows.proofs.Kept.{length-filter-le}
use Rattle.area_map_rows.specs.Areas.{AreKept, areas_within}
use Rattle.iofd_steps.specs.After.{changed}
use Rattle.iofd_steps.specs.Answers.{Answers, UnmapAnswers}
use Rattle.iofd_rows.proofs.Bools.{clash, not_false}
use Rattle.iofd_runs.proofs.NotRefused.{unmap_passed}
use Rattle.iofd_words.specs.Areas.{most_tries}
use Rattle.iofd_words.specs.Span.{lies_in}
use Rattle.iofd_words.specs.View.{view}
use Rattle.iofd_words.specs.declared.event.Event.TheVariants as event
use Rattle.iofd_words.specs.declared.reply.Reply.TheVariants as reply
use Rattle.iofd_words.specs.declared.rows.Area.{Area}
use Rattle.event_unmap.proofs.AreasToClear.{can_clear_within}
use Rattle.event_unmap.proofs.OwnAreas.{own_are}
use Rattle.event_unmap.proofs.TablesLeave.{can_count, can_give, given_back, loses_one}
use Rattle.event_unmap.proofs.Unmapped.{attached_is, bytes_fit, bytes_shown, errno_shown, may_remove, names_span}
use Rattle.event_unmap.proofs.Unmapped.{shows_pending, shows_removed, tables_left, unmapped_covered, unmapped_pins}
use Rattle.event_unmap.proofs.Unmapped.{waits_shown}
use Rattle.server_state.proofs.Errors.{on_err_same}
use Rattle.server_state.proofs.Still.{still}
use Rattle.server_state.specs.Mapping.{own_areas}
use Rattle.event_unmap.proofs.unmap.commit.Goals as goal

pub unreachable-requires : goal.unreachable-requires
unreachable-requires g c =
    let known = c.requires.granted.granted in
    names_span known.world c.args.file c.args.request c.unmapped_span.result known.none c.in_default.is
    c.unmapped_span.ensures.some

pub unreachable-requires-in_default-areas_of : goal.unreachable-requires-in_default-areas_of
unreachable-requires-in_default-areas_of g c =
    let known = c.requires.granted.granted in
    clash _ (rw c.in_default-areas_of.is at c.areas_of.ensures)
    (rw (← known.shows.objects.rows) (unmap_passed (view known.world) c.args.file c.args.request known.none).space)

pub reserve_given-requires : goal.reserve_given-requires
reserve_given-requires g c =
    let known = c.requires.granted.granted in
    let own = own_are c.args.state.now _ c.requires.granted c.args.file c.args.request.ioas _
    c.in-Some-areas_of.ensures.1 in
    let kept = subst AreKept (sym own) c.within-met.ensures.kept in
    rw (← own) (can_count c.requires.granted.at known.world c.args.state.now c.args.file c.args.request known.tidy
    known.shows known.none kept c.in-Some.span c.in-Some.ensures.value c.facts.ensures)

pub clear-requires : goal.clear-requires
clear-requires g c =
    let own = own_are c.args.state.now _ c.requires.granted c.args.file c.args.request.ioas _
    c.in-Some-areas_of.ensures.1 in
    let met = c.within-met.ensures.value ∙ ap (λ (l : List Area). areas_within c.in-Some.span l) (sym own) in
    let known = c.requires.granted.granted in
    rw (c.again-2.ensures, met)
    (can_clear_within c.requires.granted.at known.world c.args.state.now c.args.file c.args.request.ioas
    c.in-Some.span known.tidy known.shows)

pub returns-then-waits-clause-ok : goal.returns-then-waits-clause-ok
unfolding changed Answers
returns-then-waits-clause-ok g c = λ at via w tidy shows none may.
    let own = own_are c.args.state.now _ c.requires.granted c.args.file c.args.request.ioas _
    c.in-Some-areas_of.ensures.1 in
    let kept = subst AreKept (sym own) c.within-met.ensures.kept in
    let met = c.within-met.ensures.value ∙ ap (λ (l : List Area). areas_within c.in-Some.span l) (sym own) in
    let told = rw (c.again.ensures, c.within-met.ensures.value, ← own) at c.some_waits-waits.ensures in
    let most = c.most_tries-most.ensures
    ∙ ap (λ (l : List Area). most_tries (areas_within c.in-Some.span l)) (sym own) in
    let devices = attached_is at w c.args.state.now c.args.file c.args.request tidy shows c.in-Some-attached_to.attached
    c.args.state.now.attachments.items refl c.in-Some-attached_to.ensures.some in
    let waits = waits_shown at w c.args.state.now c.args.file c.args.request tidy shows none kept c.in-Some.span
    c.in-Some-attached_to.attached c.in-Some.ensures.value devices in
    let clears = rw (c.again-2.ensures, met) at c.clear.ensures.cleared in
    rw (c.in_ok-reserve_given.ensures.same, c.requires.none) (still at (event.Unmap c.args.file c.args.request) via
    c.wait.result _ (λ left t. rw c.wait.ensures.told refl) w tidy
    (rw (c.wait.ensures.told, most) (
      waits ∙ sym told ∙ c.if-waits.true,
      errno_shown at w c.args.state.now c.args.file c.args.request tidy shows none kept
          c.in-Some.span c.in-Some.ensures.value,
    )) tt
    (rw c.wait.ensures.told (shows_pending at w c.args.state.now c.args.file c.args.request tidy shows none kept
    c.in-Some.span c.in-Some.ensures.value
    c.clear.new.pool c.clear.ensures.bytes clears
    c.in-Some-attached_to.attached c.wait.new.table c.clear.new.page_tables devices
    (rw most at c.wait.ensures.areas) c.clear.ensures.same)) tt tt)

pub bytes_of-bytes-requires-clause-few : goal.bytes_of-bytes-requires-clause-few
bytes_of-bytes-requires-clause-few g c =
    let own = own_are c.args.state.now _ c.requires.granted c.args.file c.args.request.ioas _
    c.in-Some-areas_of.ensures.1 in
    let kept = subst AreKept (sym own) c.within-met.ensures.kept in
    let met = c.within-met.ensures.value ∙ ap (λ (l : List Area). areas_within c.in-Some.span l) (sym own) in
    let own = own_areas c.args.state.now.objects c.args.file c.args.request.ioas in
    let fewer = length-filter-le (λ (area : Area). lies_in area.span c.in-Some.span) own in
    let most = kept.few in
    rw (c.again-3.ensures, met) (omega (arith, fewer, most))

pub bytes_of-bytes-requires-clause-fit : goal.bytes_of-bytes-requires-clause-fit
bytes_of-bytes-requires-clause-fit g c =
    let own = own_are c.args.state.now _ c.requires.granted c.args.file c.args.request.ioas _
    c.in-Some-areas_of.ensures.1 in
    let kept = subst AreKept (sym own) c.within-met.ensures.kept in
    let met = c.within-met.ensures.value ∙ ap (λ (l : List Area). areas_within c.in-Some.span l) (sym own) in
    let known = c.requires.granted.granted in
    rw (c.again-3.ensures, met)
    (bytes_fit c.requires.granted.at known.world c.args.state.now c.args.file c.args.request c.in-Some.span known.tidy
    known.shows kept)

pub remove-requires : goal.remove-requires
remove-requires g c =
    let own = own_are c.args.state.now _ c.requires.granted c.args.file c.args.request.ioas _
    c.in-Some-areas_of.ensures.1 in
    let kept = subst AreKept (sym own) c.within-met.ensures.kept in
    let met = c.within-met.ensures.value ∙ ap (λ (l : List Area). areas_within c.in-Some.span l) (sym own) in
    let told = rw (c.again.ensures, c.within-met.ensures.value, ← own) at c.some_waits-waits.ensures in
    let known = c.requires.granted.granted in
    let at = c.requires.granted.at in
    let devices = attached_is at known.world c.args.state.now c.args.file c.args.request known.tidy
    known.shows c.in-Some-attached_to.attached c.args.state.now.attachments.items refl
    c.in-Some-attached_to.ensures.some in
    let waits = waits_shown at known.world c.args.state.now c.args.file c.args.request known.tidy known.shows
    known.none kept c.in-Some.span c.in-Some-attached_to.attached c.in-Some.ensures.value
    devices in
    rw met
    (may_remove at known.world c.args.state.now c.args.file c.args.request known.tidy known.shows known.none
    kept c.in-Some.span c.has_hwpt-translated.result c.in-Some.ensures.value
    c.has_hwpt-translated.ensures (not_false _ (waits ∙ sym told ∙ c.if-waits.false))
    c.clear.new.pool.holds c.clear.ensures.cleared.holds)

pub give_back-requires-clause-can : goal.give_back-requires-clause-can
unfolding changed Answers
give_back-requires-clause-can g c =
    let own = own_are c.args.state.now _ c.requires.granted c.args.file c.args.request.ioas _
    c.in-Some-areas_of.ensures.1 in
    let kept = subst AreKept (sym own) c.within-met.ensures.kept in
    let met = c.within-met.ensures.value ∙ ap (λ (l : List Area). areas_within c.in-Some.span l) (sym own) in
    let told = rw (c.again.ensures, c.within-met.ensures.value, ← own) at c.some_waits-waits.ensures in
    let known = c.requires.granted.granted in
    let at = c.requires.granted.at in
    let w = known.world in
    let devices = attached_is at w c.args.state.now c.args.file c.args.request known.tidy known.shows
    c.in-Some-attached_to.attached c.args.state.now.attachments.items refl c.in-Some-attached_to.ensures.some in
    let waits = waits_shown at w c.args.state.now c.args.file c.args.request known.tidy known.shows known.none kept
    c.in-Some.span c.in-Some-attached_to.attached c.in-Some.ensures.value devices in
    let clears = rw (c.again-2.ensures, met) at c.clear.ensures.cleared in
    let bytes = rw (c.again-3.ensures, met) at c.bytes_of-bytes.ensures in
    let done = not_false _ (waits ∙ sym told ∙ c.if-waits.false) in
    let answers : UnmapAnswers w c.args.file c.args.request (reply.Bytes c.bytes_of-bytes.result) = (
      done,
      bytes ∙ sym (bytes_shown at w c.args.state.now c.args.file c.args.request known.tidy known.shows known.none
          kept c.in-Some.span c.in-Some.ensures.value),
    ) in
    let stand = tables_left at w c.args.state.now c.args.file c.args.request known.tidy known.shows known.none kept
    c.in-Some.span c.has_hwpt-translated.result c.in-Some.ensures.value c.has_hwpt-translated.ensures
    c.clear.new.pool c.clear.ensures.bytes clears
    c.remove.new.memory c.remove.new.pool
    (unmapped_pins at w c.args.file c.args.request c.bytes_of-bytes.result known.none answers known.tidy.pins)
    (unmapped_covered at w c.args.file c.args.request c.bytes_of-bytes.result known.none answers known.tidy.pins) done
    (rw met at c.remove.ensures) in
    rw (c.clear.ensures.same, ← own) (can_give at w c.args.state.now c.args.file c.args.request known.tidy known.shows
    known.none kept c.in-Some.span c.in-Some.ensures.value c.remove.new.pool stand _ c.has_hwpt-translated.result
    c.has_hwpt-translated.ensures
    (λ translated. rw (← own) at c.in_ok-reserve_given.ensures.room translated c.if-waits.false))

pub returns-clause-ok : goal.returns-clause-ok
unfolding changed Answers
returns-clause-ok g c = λ at via w tidy shows none may.
    let own = own_are c.args.state.now _ c.requires.granted c.args.file c.args.request.ioas _
    c.in-Some-areas_of.ensures.1 in
    let kept = subst AreKept (sym own) c.within-met.ensures.kept in
    let met = c.within-met.ensures.value ∙ ap (λ (l : List Area). areas_within c.in-Some.span l) (sym own) in
    let told = rw (c.again.ensures, c.within-met.ensures.value, ← own) at c.some_waits-waits.ensures in
    let devices = attached_is at w c.args.state.now c.args.file c.args.request tidy shows c.in-Some-attached_to.attached
    c.args.state.now.attachments.items refl c.in-Some-attached_to.ensures.some in
    let waits = waits_shown at w c.args.state.now c.args.file c.args.request tidy shows none kept c.in-Some.span
    c.in-Some-attached_to.attached c.in-Some.ensures.value devices in
    let clears = rw (c.again-2.ensures, met) at c.clear.ensures.cleared in
    let bytes = rw (c.again-3.ensures, met) at c.bytes_of-bytes.ensures in
    let done = not_false _ (waits ∙ sym told ∙ c.if-waits.false) in
    let answers : UnmapAnswers w c.args.file c.args.request (reply.Bytes c.bytes_of-bytes.result) = (
      done,
      bytes ∙ sym (bytes_shown at w c.args.state.now c.args.file c.args.request tidy shows none kept
          c.in-Some.span c.in-Some.ensures.value),
    ) in
    let shown = shows_removed at w c.args.state.now c.args.file c.args.request tidy shows none kept c.in-Some.span
    c.has_hwpt-translated.result c.in-Some.ensures.value c.has_hwpt-translated.ensures
    c.clear.new.pool c.clear.ensures.bytes clears
    c.remove.new.memory c.remove.new.pool
    (unmapped_pins at w c.args.file c.args.request c.bytes_of-bytes.result none answers tidy.pins)
    (unmapped_covered at w c.args.file c.args.request c.bytes_of-bytes.result none answers tidy.pins) done
    (rw met at c.remove.ensures)
    c.remove-2.new.table c.args.state.now.page_tables c.remove-2.ensures refl in
    let moved = given_back at w c.args.state.now c.args.file c.args.request tidy shows none kept c.in-Some.span
    c.in-Some.ensures.value c.remove-2.new.table c.remove.new.memory c.remove.new.pool c.give_back.new.pool
    c.give_back.new.given.items c.bytes_of-bytes.result shown
    (rw (c.clear.ensures.same, ← own) at c.give_back.ensures.shed)
    c.give_back.ensures.bytes in (
      answers,
      tt,
      moved.0,
      moved.1,
      rw (c.give_back.ensures.same, c.clear.ensures.same) moved.2,
    )

-- memory is wanting only where nothing is on its way out
pub returns-in_err-reserve_given-clause-pending : goal.returns-in_err-reserve_given-clause-pending
returns-in_err-reserve_given-clause-pending g c =
    let own = own_are c.args.state.now _ c.requires.granted c.args.file c.args.request.ioas _
    c.in-Some-areas_of.ensures.1 in
    let kept = subst AreKept (sym own) c.within-met.ensures.kept in
    let told = rw (c.again.ensures, c.within-met.ensures.value, ← own) at c.some_waits-waits.ensures in
    on_err_same c.from_residual.result _ (λ at w tidy shows none.
    let devices = attached_is at w c.args.state.now c.args.file c.args.request tidy shows c.in-Some-attached_to.attached
    c.args.state.now.attachments.items refl c.in-Some-attached_to.ensures.some in
    waits_shown at w c.args.state.now c.args.file c.args.request tidy shows none kept
    c.in-Some.span c.in-Some-attached_to.attached c.in-Some.ensures.value devices
    ∙ sym told ∙ c.in_err-reserve_given.ensures.pending)

-- and only where some table goes
pub returns-in_err-reserve_given-clause-tables : goal.returns-in_err-reserve_given-clause-tables
returns-in_err-reserve_given-clause-tables g c =
    let own = own_are c.args.state.now _ c.requires.granted c.args.file c.args.request.ioas _
    c.in-Some-areas_of.ensures.1 in
    let kept = subst AreKept (sym own) c.within-met.ensures.kept in
    let lacking = rw (← own) at c.in_err-reserve_given.ensures.lacking in
    on_err_same c.from_residual.result _ (λ at w tidy shows none.
    loses_one at w c.args.state.now c.args.file c.args.request tidy shows none kept c.in-Some.span
    c.in-Some.ensures.value lacking)

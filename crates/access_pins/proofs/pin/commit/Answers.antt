use Rattle.std.proofs.Common.{ℕ, ◌<◌, leb, false, ◌≡◌, Bool, true, ◌&&◌, Option, None, List, length, refl, is_none, is_some, ap, subst}
use Rattle.std.proofs.Common.{sym, ◌∙◌, arith}
use Rattle.std.proofs.lemmas.Bool.Decides.{nat_tests}
use Rattle.std.specs.List.{list_all}
use Rattle.access_pins.proofs.AskedPins.{never_unattached, pin_ends}
use Rattle.access_pins.proofs.HeldPins.{held_alike}
use Rattle.access_pins.proofs.PinPlace.{space_there}
use Rattle.access_pins.proofs.Pinned.{has_room, may_pin_met, pinned_shown_met, unheld, unpinned_same, whole_pages}
use Rattle.access_pages.proofs.Undone.{may_take_back, taken_back}
use Rattle.access_pages.specs.Runs.{AreReleased, MayRelease, runs_in}
use Rattle.area_map_rows.proofs.Kept.{length-filter-le}
use Rattle.held_pins.specs.declared.pin.HeldPin.{HeldPin}
use Rattle.iofd_rows.proofs.Bools.{clash}
use Rattle.iofd_rows.proofs.ListTests.{all_pass}
use Rattle.iofd_runs.proofs.AccessPins.{pin_fits}
use Rattle.iofd_runs.proofs.AccessesPassed.{pin_passed}
use Rattle.iofd_steps.specs.After.{changed}
use Rattle.iofd_steps.specs.Answers.{Answers}
use Rattle.iofd_words.specs.Files.{user_of}
use Rattle.iofd_words.specs.Settings.{Settings}
use Rattle.iofd_words.specs.Span.{meets}
use Rattle.iofd_words.specs.View.{view}
use Rattle.iofd_words.specs.declared.numbers.ObjId.{ObjId}
use Rattle.iofd_words.specs.declared.numbers.UserNo.{UserNo}
use Rattle.iofd_words.specs.declared.rows.AccessPin.{AccessPin}
use Rattle.iofd_words.specs.declared.rows.Area.{Area}
use Rattle.server_state.proofs.Errors.{on_err_same}
use Rattle.server_state.specs.Shows.{Shows}
use Rattle.access_pins.proofs.pin.commit.Goals as goal

-- a file of which an object isn't refused has a user
userless : (o : Option UserNo) (closed : Bool) → o ≡ None → (is_some o && closed) ≡ true → ⊥
userless o closed is opened = clash _ (ap (λ (u : Option UserNo). is_some u && closed) is) opened

pub unreachable-requires : goal.unreachable-requires
unreachable-requires g c =
    let known = c.requires.granted in
    let w = known.world in
    let (ioas, passed) = pin_passed (view w) c.args.file c.args.id c.args.request known.none in
    userless (user_of w.settings c.args.file) _
    (ap (λ (settings : Settings). user_of settings c.args.file) known.shows.settings
    ∙ sym c.user_of.ensures.value ∙ c.in_default.is) passed.opened

pub unreachable-requires-in_default-attached_to : goal.unreachable-requires-in_default-attached_to
unreachable-requires-in_default-attached_to g c =
    let known = c.requires.granted in
    let (ioas, passed) = pin_passed (view known.world) c.args.file c.args.id c.args.request known.none in
    never_unattached c.requires.at known.world c.args.state.now known.tidy known.shows c.args.file c.args.id
    (ap (λ (o : Option ObjId). is_none o) passed.attached) (sym c.in_default-attached_to.is ∙ c.attached_to.ensures)

pub unreachable-requires-in_default-asked_pin : goal.unreachable-requires-in_default-asked_pin
unreachable-requires-in_default-asked_pin g c =
    let known = c.requires.granted in
    let (ioas, passed) = pin_passed (view known.world) c.args.file c.args.id c.args.request known.none in
    let ends = pin_ends c.args.file c.args.id c.args.request
    (pin_fits (view known.world) c.args.file c.args.id ioas c.args.request passed) in
    clash _ refl (rw c.in_default-asked_pin.is at c.asked_pin.ensures.some ends.0 ends.1)

pub unreachable-requires-in_default-areas_of : goal.unreachable-requires-in_default-areas_of
unreachable-requires-in_default-areas_of g c =
    let known = c.requires in
    clash _ (rw c.in_default-areas_of.is at c.areas_of.ensures)
    (space_there c.args.state.now (record {
      at = known.at;
      world = known.granted.world;
      tidy = known.granted.tidy;
      shows = known.granted.shows;
    }) c.args.file c.args.id c.in-Some-attached_to.ioas (sym c.attached_to.ensures ∙ c.in-Some-attached_to.is))

pub pin_all-requires-clause-met : goal.pin_all-requires-clause-met
pin_all-requires-clause-met g c =
    let span = c.in-Some-asked_pin.pin.span in
    ap (λ (l : List Area). list_all (λ (a : Area). meets a.span span) l) c.meeting-met.ensures
    ∙ all_pass (λ (a : Area). meets a.span span) c.in-Some-areas_of.areas.now.areas

pub pin_all-requires-clause-may : goal.pin_all-requires-clause-may
pin_all-requires-clause-may g c =
    let known = c.requires.granted in
    may_pin_met c.requires.at known.world c.args.state.now c.args.file c.args.id c.args.request known.tidy known.shows
    known.none c.in-Some-attached_to.ioas (sym c.in-Some-attached_to.is ∙ c.attached_to.ensures)
    c.in-Some-asked_pin.pin c.in-Some-asked_pin.ensures.row c.in-Some-asked_pin.ensures.space
    c.in-Some-areas_of.areas.now.areas c.in-Some-areas_of.ensures.1 c.facts.ensures.kept.apart c.meeting-met.result
    c.meeting-met.ensures c.in-Some.field-0 (sym c.user_of.ensures.value ∙ c.in-Some.is) c.in-Some.ensures.known

pub pin_all-requires-clause-few : goal.pin_all-requires-clause-few
pin_all-requires-clause-few g c =
    let span = c.in-Some-asked_pin.pin.span in
    let fewer = length-filter-le (λ (a : Area). meets a.span span) c.in-Some-areas_of.areas.now.areas in
    let is = ap (λ (l : List Area). length l) c.meeting-met.ensures in
    let fits = c.facts.ensures.few in
    omega (arith, fewer, is, fits)

pub returns-in_err-pin_all-clause-memory : goal.returns-in_err-pin_all-clause-memory
returns-in_err-pin_all-clause-memory g c =
    let known = c.requires.granted in
    on_err_same c.from_residual.result _
    (unheld c.requires.at known.world c.args.state.now c.args.file c.args.id c.args.request known.tidy known.shows
    known.none c.in-Some-attached_to.ioas (sym c.in-Some-attached_to.is ∙ c.attached_to.ensures)
    c.in-Some-asked_pin.pin c.in-Some-asked_pin.ensures.row c.in-Some-asked_pin.ensures.space
    c.in-Some-areas_of.areas.now.areas c.in-Some-areas_of.ensures.1 c.facts.ensures.kept.apart c.meeting-met.result
    c.meeting-met.ensures c.in_err-pin_all.ensures.memory)

pub returns-in-Err-clause-memory : goal.returns-in-Err-clause-memory
returns-in-Err-clause-memory g c =
    let known = c.requires in
    let asked = c.in-Some-asked_pin.ensures in
    let row = asked.row in
    held_alike c.args.state.now (record {
      at = known.at;
      world = known.granted.world;
      tidy = known.granted.tidy;
      shows = known.granted.shows;
    }) c.args.file c.args.id c.in-Some-attached_to.ioas c.args.request
    (sym c.attached_to.ensures ∙ c.in-Some-attached_to.is) c.in-Some-asked_pin.pin (ap (λ (p : AccessPin). p.file) row)
    (ap (λ (p : AccessPin). p.access) row) asked.space (ap (λ (p : AccessPin). p.span) row)
    (ap (λ (p : AccessPin). p.write) row)
    ∙ c.in-Err.ensures.full

pub returns-in_err-pin_all-clause-err : goal.returns-in_err-pin_all-clause-err
returns-in_err-pin_all-clause-err g c =
    on_err_same c.from_residual.result _ (λ at w tidy shows. unpinned_same at w c.args.state.now tidy shows
    c.pin_all.new.memory c.pin_all.new.pool c.in_err-pin_all.ensures.err)

pub pin-requires-clause-whole : goal.pin-requires-clause-whole
pin-requires-clause-whole g c =
    let known = c.requires.granted in
    whole_pages c.requires.at known.world c.args.state.now c.args.file c.args.id c.args.request known.tidy known.shows
    known.none c.in-Some-attached_to.ioas (sym c.in-Some-attached_to.is ∙ c.attached_to.ensures)
    c.in-Some-asked_pin.pin c.in-Some-asked_pin.ensures.row c.in-Some-asked_pin.ensures.space
    c.in-Some-areas_of.areas.now.areas c.in-Some-areas_of.ensures.1 c.facts.ensures.kept.apart

below_most : (n : ℕ) → leb 65535 n ≡ false → n < 65535
below_most n few = search (few, arith, nat_tests)

pub pin-requires-clause-few : goal.pin-requires-clause-few
pin-requires-clause-few g c =
    let known = c.requires.granted in
    below_most _ (has_room c.requires.at known.world c.args.state.now c.args.file c.args.id c.args.request known.tidy
    known.shows known.none c.in-Some-attached_to.ioas (sym c.in-Some-attached_to.is ∙ c.attached_to.ensures)
    c.in-Some-asked_pin.pin c.in-Some-asked_pin.ensures.row c.in-Some-asked_pin.ensures.space
    c.in-Some-areas_of.areas.now.areas c.in-Some-areas_of.ensures.1 c.facts.ensures.kept.apart)

pub unpin_all-requires-clause-met : goal.unpin_all-requires-clause-met
unpin_all-requires-clause-met g c =
    let span = c.in-Some-asked_pin.pin.span in
    ap (λ (l : List Area). list_all (λ (a : Area). meets a.span span) l) c.meeting-areas.ensures
    ∙ all_pass (λ (a : Area). meets a.span span) c.in-Some-areas_of.areas.now.areas

pub unpin_all-requires-clause-may : goal.unpin_all-requires-clause-may
unpin_all-requires-clause-may g c =
    let known = c.requires.granted in
    let s = c.args.state.now in
    let pin = c.in-Some-asked_pin.pin in
    let asked = c.in-Some-asked_pin.ensures in
    subst (λ (l : List Area). MayRelease (runs_in pin.span l) c.pin_all.new.memory c.pin_all.new.pool.holds)
    (c.meeting-met.ensures ∙ sym c.meeting-areas.ensures)
    (may_take_back (runs_in pin.span c.meeting-met.result) s.memory c.pin_all.new.memory s.pool c.pin_all.new.pool
    c.in_ok-pin_all.ensures.ok
    (may_pin_met c.requires.at known.world s c.args.file c.args.id c.args.request known.tidy known.shows known.none
    c.in-Some-attached_to.ioas (sym c.in-Some-attached_to.is ∙ c.attached_to.ensures) pin asked.row asked.space
    c.in-Some-areas_of.areas.now.areas c.in-Some-areas_of.ensures.1 c.facts.ensures.kept.apart c.meeting-met.result
    c.meeting-met.ensures c.in-Some.field-0 (sym c.user_of.ensures.value ∙ c.in-Some.is) c.in-Some.ensures.known))

pub returns-in-Err-clause-err : goal.returns-in-Err-clause-err
returns-in-Err-clause-err g c = λ at w tidy shows.
    let s = c.args.state.now in
    let pin = c.in-Some-asked_pin.pin in
    let gone = subst (λ (l : List Area). AreReleased (runs_in pin.span l) c.pin_all.new.memory c.unpin_all.new.memory
    c.pin_all.new.pool c.unpin_all.new.pool) (c.meeting-areas.ensures ∙ sym c.meeting-met.ensures)
    c.unpin_all.ensures in
    subst (λ (kept : List HeldPin). Shows w (record s {
      access_pins = kept;
      memory = c.unpin_all.new.memory;
      pool = c.unpin_all.new.pool;
    })) (sym c.in-Err.ensures.err)
    (unpinned_same at w s tidy shows c.unpin_all.new.memory c.unpin_all.new.pool
    (taken_back (runs_in pin.span c.meeting-met.result) s.memory c.pin_all.new.memory s.pool c.pin_all.new.pool
    c.in_ok-pin_all.ensures.ok c.unpin_all.new.memory c.unpin_all.new.pool gone))

pub returns-in-Ok-clause-ok : goal.returns-in-Ok-clause-ok
unfolding changed Answers
returns-in-Ok-clause-ok g c = λ at w tidy shows none. (
  tt,
  pinned_shown_met at w c.args.state.now c.args.file c.args.id c.args.request tidy shows none
      c.in-Some-attached_to.ioas (sym c.in-Some-attached_to.is ∙ c.attached_to.ensures) c.in-Some-asked_pin.pin
      c.in-Some-asked_pin.ensures.row c.in-Some-asked_pin.ensures.space c.in-Some-areas_of.areas.now.areas
      c.in-Some-areas_of.ensures.1 c.facts.ensures.kept.apart c.meeting-met.result c.meeting-met.ensures
      c.pin.new.self c.pin_all.new.memory c.pin_all.new.pool c.in-Ok.ensures.more c.in_ok-pin_all.ensures.ok,
)

use Rattle.std.proofs.Common.{List, refl, ap, subst, sym, ◌∙◌}
use Rattle.std.specs.List.{list_all}
use Rattle.access_pages.specs.Runs.{AreReleased, MayRelease, meeting, runs_in}
use Rattle.access_pins.proofs.AskedPins.{never_unattached, pin_areas, pin_attached}
use Rattle.access_pins.proofs.AskedPins.{held_fits, pin_ends}
use Rattle.access_pins.proofs.HeldPins.{held_alike}
use Rattle.access_pins.proofs.PinPlace.{space_there}
use Rattle.access_pins.proofs.Unpinned.{may_unpin, unpinned_shown}
use Rattle.area_map_rows.specs.Areas.{AreApart}
use Rattle.iofd_rows.proofs.Bools.{clash}
use Rattle.iofd_rows.proofs.ListTests.{all_pass}
use Rattle.iofd_runs.proofs.AccessesPassed.{access_unpin_passed}
use Rattle.iofd_words.specs.Accesses.{pin_of}
use Rattle.iofd_steps.specs.After.{changed}
use Rattle.iofd_steps.specs.Answers.{Answers}
use Rattle.iofd_words.specs.Pins.{is_equal}
use Rattle.iofd_words.specs.Span.{meets}
use Rattle.iofd_words.specs.View.{view}
use Rattle.iofd_words.specs.declared.rows.AccessPin.{AccessPin}
use Rattle.iofd_words.specs.declared.rows.Area.{Area}
use Rattle.server_state.proofs.AccessPinsStay.{any_kept}
use Rattle.access_pins.proofs.unpin.commit.Goals as goal

pub unreachable-requires : goal.unreachable-requires
unreachable-requires g c =
    let known = c.requires.granted in
    never_unattached c.requires.at known.world c.args.state.now known.tidy known.shows c.args.file c.args.id
    (access_unpin_passed (view known.world) c.args.file c.args.id c.args.request known.none).attached
    (sym c.in_default.is ∙ c.attached_to.ensures)

pub unreachable-requires-in_default-asked_pin : goal.unreachable-requires-in_default-asked_pin
unreachable-requires-in_default-asked_pin g c =
    let known = c.requires.granted in
    let passed = access_unpin_passed (view known.world) c.args.file c.args.id c.args.request known.none in
    let ends = pin_ends c.args.file c.args.id c.args.request (held_fits c.requires.at known.world known.tidy
    (pin_of c.args.file c.args.id c.args.request) passed.held) in
    clash _ refl (rw c.in_default-asked_pin.is at c.asked_pin.ensures.some ends.0 ends.1)

pub unreachable-requires-in_default-areas_of : goal.unreachable-requires-in_default-areas_of
unreachable-requires-in_default-areas_of g c =
    let known = c.requires in
    clash _ (rw c.in_default-areas_of.is at c.areas_of.ensures)
    (space_there c.args.state.now (record {
      at = known.at;
      world = known.granted.world;
      tidy = known.granted.tidy;
      shows = known.granted.shows;
    }) c.args.file c.args.id c.in-Some.ioas (sym c.attached_to.ensures ∙ c.in-Some.is))

pub unpin_all-requires-clause-met : goal.unpin_all-requires-clause-met
unpin_all-requires-clause-met g c =
    let span = c.in-Some-asked_pin.pin.span in
    ap (λ (l : List Area). list_all (λ (a : Area). meets a.span span) l) c.meeting-areas.ensures
    ∙ all_pass (λ (a : Area). meets a.span span) c.in-Some-areas_of.areas.now.areas

pub unpin_all-requires-clause-may : goal.unpin_all-requires-clause-may
unpin_all-requires-clause-may g c =
    let known = c.requires.granted in
    let w = known.world in
    let s = c.args.state.now in
    let pin = c.in-Some-asked_pin.pin in
    let asked = c.in-Some-asked_pin.ensures in
    let ioas = sym c.in-Some.is ∙ c.attached_to.ensures in
    let areas = pin_areas c.requires.at w s known.tidy known.shows c.args.file c.args.id c.in-Some.ioas ioas pin
    c.args.request asked.row asked.space c.in-Some-areas_of.areas.now.areas c.in-Some-areas_of.ensures.1 in
    subst (λ (l : List Area). MayRelease (runs_in pin.span l) s.memory s.pool.holds)
    (ap (λ (l : List Area). meeting pin.span l) areas ∙ sym c.meeting-areas.ensures)
    (may_unpin c.requires.at w s c.args.file c.args.id c.args.request known.tidy known.shows known.none pin asked.row
    (pin_attached c.requires.at w s known.tidy known.shows c.args.file c.args.id c.in-Some.ioas ioas pin c.args.request
    asked.row asked.space) (subst AreApart (sym areas) c.facts.ensures.kept.apart))

pub unpin-requires : goal.unpin-requires
unpin-requires g c =
    let known = c.requires in
    let w = known.granted.world in
    let asked = c.in-Some-asked_pin.ensures in
    let row = asked.row in
    sym (held_alike c.args.state.now (record {
      at = known.at;
      world = w;
      tidy = known.granted.tidy;
      shows = known.granted.shows;
    }) c.args.file c.args.id c.in-Some.ioas c.args.request
    (sym c.attached_to.ensures ∙ c.in-Some.is) c.in-Some-asked_pin.pin (ap (λ (p : AccessPin). p.file) row)
    (ap (λ (p : AccessPin). p.access) row) asked.space (ap (λ (p : AccessPin). p.span) row)
    (ap (λ (p : AccessPin). p.write) row))
    ∙ sym (any_kept w.objects w.access_pins c.args.state.now.access_pins known.granted.shows.access_pins
    (is_equal (pin_of c.args.file c.args.id c.args.request)))
    ∙ (access_unpin_passed (view w) c.args.file c.args.id c.args.request known.granted.none).held

pub returns : goal.returns
unfolding changed Answers
returns g c = λ at w tidy shows none.
    let s = c.args.state.now in
    let pin = c.in-Some-asked_pin.pin in
    let asked = c.in-Some-asked_pin.ensures in
    let ioas = sym c.in-Some.is ∙ c.attached_to.ensures in
    let areas = pin_areas at w s tidy shows c.args.file c.args.id c.in-Some.ioas ioas pin c.args.request asked.row
    asked.space c.in-Some-areas_of.areas.now.areas c.in-Some-areas_of.ensures.1 in (
      tt,
      unpinned_shown at w s c.args.file c.args.id c.args.request tidy shows none pin asked.row
          (pin_attached at w s tidy shows c.args.file c.args.id c.in-Some.ioas ioas pin c.args.request asked.row
          asked.space) (subst AreApart (sym areas) c.facts.ensures.kept.apart)
          c.unpin.new.self c.unpin_all.new.memory c.unpin_all.new.pool c.unpin.ensures.less
          (subst (λ (l : List Area). AreReleased (runs_in pin.span l) s.memory c.unpin_all.new.memory s.pool
          c.unpin_all.new.pool) (c.meeting-areas.ensures ∙ ap (λ (l : List Area). meeting pin.span l) (sym areas))
          c.unpin_all.ensures),
    )

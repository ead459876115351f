use Rattle.std.proofs.Common.{false, List, ◌++◌, refl, ◌∙◌, ap}
use Rattle.std.specs.List.{list_all}
use Rattle.iofd_rows.specs.Pinned.{has_object, have_own_numbers}
use Rattle.iofd_words.specs.World.{World}
use Rattle.iofd_words.specs.declared.rows.Area.{Area}
use Rattle.iofd_words.specs.declared.rows.MemoryObject.{MemoryObject}
use Rattle.iofd_words.specs.declared.rows.Pin.{Pin}
use Rattle.iofd_rows.proofs.Bools.{clash}
use Rattle.journal_audit_maps.proofs.AccessPinned.{match_none, match_some, never_absent, pin_done, some_span}
use Rattle.journal_audit_maps.proofs.access_pin.pin.Goals as goal

pub gather-requires-clause-own : goal.gather-requires-clause-own
gather-requires-clause-own g c =
    ap (λ (rows : List MemoryObject). have_own_numbers rows)
    (c.deref-3.ensures.value ∙ ap (λ (x : World). x.memory) c.world.view_is)
    ∙ c.requires.kept.pins.numbers

pub gather-requires-clause-sizes : goal.gather-requires-clause-sizes
gather-requires-clause-sizes g c =
    ap (λ (rows : List MemoryObject). list_all (has_object rows) c.deref.result.now)
    (c.deref-3.ensures.value ∙ ap (λ (x : World). x.memory) c.world.view_is)
    ∙ ap (λ (rows : List Area). list_all (has_object c.args.world.now.memory) rows)
    (c.deref.ensures.value ∙ ap (λ (x : World). x.areas) c.world.view_is)
    ∙ c.requires.kept.pins.sizes

pub unreachable-requires : goal.unreachable-requires
unreachable-requires g c =
    clash false refl (c.in_default.ensures.fits.1 (some_span c.args.world.now c.args.file c.args.id c.args.ioas
    c.args.request c.requires.attached c.requires.granted))

pub unreachable-requires-in_default-found : goal.unreachable-requires-in_default-found
unreachable-requires-in_default-found g c =
    never_absent _ c.args.world.now c.args.file c.args.id c.args.ioas c.args.request _ _ _ _ _ c.world.view_is
    c.deref.ensures.value c.deref-2.ensures.value c.deref-3.ensures.value c.deref-4.ensures.value c.from-asked.ensures
    c.requires.attached c.requires.granted (match_none _ _ _ c.in_default-found.is c.in_ok-found.ensures)

pub returns : goal.returns
returns g c =
    pin_done _ c.args.world.now c.args.file c.args.id c.args.ioas c.args.request _ _ _ _ _ c.world.view_is
    c.deref.ensures.value c.deref-2.ensures.value c.deref-3.ensures.value c.deref-4.ensures.value c.from-asked.ensures
    _ c.args.at _ _ c.in-Some.span c.requires.kept c.requires.attached c.in-Some.ensures.value
    (match_some _ _ _ _ c.in-Some-found.is c.in_ok-found.ensures) refl
    (c.in_ok-extend_from_slice.ensures.items
    ∙ ap (λ (rows : List Pin). c.world.inside.pins.items ++ rows) c.deref-5.ensures.value)
    c.in_ok-push.ensures.items

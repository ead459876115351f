use Rattle.std.proofs.Common.{false, refl, ap, ◌∙◌, List, ◌++◌}
use Rattle.iofd_rows.proofs.Bools.{clash}
use Rattle.iofd_words.specs.View.{view}
use Rattle.iofd_words.specs.declared.rows.Pin.{Pin}
use Rattle.iofd_runs.proofs.NotRefused.{copy_passed}
use Rattle.journal_audit_maps.proofs.AccessPinned.{match_none, match_some}
use Rattle.journal_audit.proofs.Copied.{copy_done, never_absent, never_sourceless, some_span, source_sized}
use Rattle.journal_audit.proofs.copy.copy_at.Goals as goal

pub unreachable-requires : goal.unreachable-requires
unreachable-requires g c =
    clash false refl (c.in_default.ensures.fits.1 (some_span _ c.args.world.now c.args.file c.args.request c.args.iova
    c.requires.granted c.requires.answered))

pub unreachable-requires-in_default-source_of : goal.unreachable-requires-in_default-source_of
unreachable-requires-in_default-source_of g c =
    never_sourceless _ c.args.world.now c.args.file c.args.request _ _ c.world.view_is
    (copy_passed (view c.args.world.now) c.args.file c.args.request c.requires.granted).found c.deref.ensures.value
    c.in_default-source_of.ensures refl

pub shared_pins_in-requires-clause-sized : goal.shared_pins_in-requires-clause-sized
shared_pins_in-requires-clause-sized g c =
    (source_sized c.args.at _ c.args.world.now c.args.file c.args.request _ c.in-Some-source_of.source.now _
    c.world.view_is c.requires.kept c.deref.ensures.value c.in-Some-source_of.ensures refl).1

pub unreachable-requires-in_default-2 : goal.unreachable-requires-in_default-2
unreachable-requires-in_default-2 g c =
    never_absent c.args.world.now c.args.file c.args.request c.in-Some-source_of.source.now c.requires.granted
    (source_sized c.args.at _ c.args.world.now c.args.file c.args.request _ c.in-Some-source_of.source.now _
    c.world.view_is c.requires.kept c.deref.ensures.value c.in-Some-source_of.ensures refl).0
    (match_none _ _ _ c.in_default-2.is c.in_ok-pins.ensures)

pub returns : goal.returns
returns g c =
    copy_done _ c.args.at _ c.args.world.now _ c.args.file c.args.request c.args.iova c.in-Some-source_of.source.now _ _
    _ c.world.view_is c.requires.kept c.requires.granted c.requires.answered
    (source_sized c.args.at _ c.args.world.now c.args.file c.args.request _ c.in-Some-source_of.source.now _
    c.world.view_is c.requires.kept c.deref.ensures.value c.in-Some-source_of.ensures refl).0
    c.in-Some.ensures.value c.rights.ensures (match_some _ _ _ _ c.in-Some-2.is c.in_ok-pins.ensures) refl
    c.in_ok-add_area.ensures
    (c.in_ok-extend_from_slice.ensures.items
    ∙ ap (λ (rows : List Pin). c.world.inside.pins.items ++ rows) c.deref-2.ensures.value)

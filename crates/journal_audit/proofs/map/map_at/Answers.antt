use Rattle.std.proofs.Common.{false, refl, ap, ◌∙◌, List, ◌++◌}
use Rattle.iofd_rows.proofs.Bools.{clash}
use Rattle.iofd_words.specs.declared.rows.Pin.{Pin}
use Rattle.journal_audit_maps.proofs.AccessPinned.{match_none, match_some}
use Rattle.journal_audit.proofs.Mapped.{map_done, never_absent, some_span}
use Rattle.journal_audit.proofs.map.map_at.Goals as goal

pub unreachable-requires : goal.unreachable-requires
unreachable-requires g c =
    clash false refl (c.in_default.ensures.fits.1 (some_span _ c.args.world.now c.args.file c.args.request c.args.iova
    c.requires.granted c.requires.answered))

pub unreachable-requires-in_default-2 : goal.unreachable-requires-in_default-2
unreachable-requires-in_default-2 g c =
    never_absent c.args.world.now c.args.file c.args.request c.args.user _ c.args.at c.requires.granted
    c.requires.known c.object_of-object.ensures
    (match_none _ _ _ c.in_default-2.is c.in_ok-pins.ensures)

pub returns : goal.returns
returns g c =
    map_done _ c.args.at _ c.args.world.now _ c.args.file c.args.request c.args.iova c.args.user _ _ _ _ c.world.view_is
    c.requires.kept c.requires.granted c.requires.answered c.requires.known c.object_of-object.ensures
    c.in-Some.ensures.value c.rights.ensures (match_some _ _ _ _ c.in-Some-2.is c.in_ok-pins.ensures) refl
    c.in_ok-push.ensures.items c.in_ok-add_area.ensures
    (c.in_ok-extend_from_slice.ensures.items
    ∙ ap (λ (rows : List Pin). c.world.inside.pins.items ++ rows) c.deref.ensures.value)

use Rattle.std.proofs.Common.{◌≡◌, true, Option, is_some, ap, sym, ◌∙◌}
use Rattle.access_pins.proofs.HeldFrames.{has_frame}
use Rattle.access_pins.proofs.HeldPins.{never_covered}
use Rattle.iofd_words.specs.View.{View}
use Rattle.iofd_words.specs.declared.fault.AccessKind.TheVariants.{Read}
use Rattle.iofd_words.specs.declared.numbers.FrameNo.{FrameNo}
use Rattle.server_state.proofs.ViewShown.{same_view}
use Rattle.server_state.specs.Seen.{seen}
use Rattle.access_pins.proofs.held_access.frame_of.Goals as goal

pub returns-in_default-clause-covered : goal.returns-in_default-clause-covered
returns-in_default-clause-covered g c =
    sym (never_covered c.args.state.now c.requires c.args.file c.args.id c.args.iova.0 Read
    (sym c.attached_to.ensures ∙ c.in_default.is))

-- a pin covers the page: so it is pinned
pub returns-clause-covered : goal.returns-clause-covered
returns-clause-covered g c =
    let known = c.requires in
    let w = known.world in
    let s = c.args.state.now in
    let covered : (seen s).is_covered c.args.file c.args.id c.args.iova.0 Read ≡ true =
    sym c.if-not-is_covered.ensures in
    ap (λ (o : Option FrameNo). is_some o) c.frame_at.ensures
    ∙ has_frame known.at w s known.tidy known.shows c.args.file c.args.id c.args.iova.0
    (ap (λ (v : View). v.is_covered c.args.file c.args.id c.args.iova.0 Read)
    (sym (same_view w s known.shows known.tidy.tabled.owned)) ∙ covered)
    ∙ sym covered

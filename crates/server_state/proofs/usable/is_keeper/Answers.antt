use Rattle.std.proofs.Common.{◌≡◌, ◌∙◌, ◌&&◌, Bool, true, false, refl, sym}
use Rattle.iofd_words.specs.Attachments.{is_attached_to}
use Rattle.iofd_words.specs.Files.{device_of}
use Rattle.iofd_words.specs.Ranges.{meets_some}
use Rattle.iofd_words.specs.Usable.{reserved_of}
use Rattle.server_state.specs.Held.{objects_in}
use Rattle.server_state.proofs.usable.is_keeper.Goals as goal

kept_too : (attached kept : Bool) → kept ≡ true → attached ≡ (attached && kept)
kept_too true kept is = sym is
kept_too false kept is = refl

not_kept : (attached kept : Bool) → kept ≡ false → false ≡ (attached && kept)
not_kept true kept is = sym is
not_kept false kept is = refl

pub returns-then-keeps : goal.returns-then-keeps
returns-then-keeps g c =
    let kept = sym c.keeps.ensures ∙ c.if-keeps.true in
    c.is_attached_to.ensures
    ∙ kept_too (is_attached_to (objects_in c.args.table.now) c.args.file c.args.ioas c.args.attachment.now)
    (meets_some (reserved_of (device_of c.args.config.now c.args.attachment.now.device)) c.args.span) kept

pub returns-else-keeps : goal.returns-else-keeps
returns-else-keeps g c =
    let kept = sym c.keeps.ensures ∙ c.if-keeps.false in
    c.if-keeps.false
    ∙ not_kept (is_attached_to (objects_in c.args.table.now) c.args.file c.args.ioas c.args.attachment.now)
    (meets_some (reserved_of (device_of c.args.config.now c.args.attachment.now.device)) c.args.span) kept

use Rattle.std.proofs.Common.{[], ◌∷◌, sym, ◌∙◌}
use Rattle.iofd_refusals.specs.Checks.{lacks_attached_frames, lacks_attached_page, passes_limit_attached}
use Rattle.iofd_words.specs.Files.{device_of}
use Rattle.iofd_words.specs.View.{view}
use Rattle.iofd_words.specs.declared.refusal.Cause.TheVariants as cause
use Rattle.journal_audit_page_tables.proofs.Told.{told_first}
use Rattle.journal_audit_page_tables.proofs.attach.refusal_by_frames.Goals as goal

pub returns-in-Some : goal.returns-in-Some
returns-in-Some g c =
    let v = view c.args.world.now in
    told_first ((cause.Absent, lacks_attached_page v c.args.file c.args.ioas)
    ∷ (cause.Account, passes_limit_attached v c.args.file c.args.ioas) ∷ [])
    ((cause.Frames, lacks_attached_frames v c.args.file c.args.ioas (device_of v.settings c.args.device)) ∷ [])
    c.in-Some.cause (sym c.in-Some.is ∙ c.in_ok-cause.ensures)

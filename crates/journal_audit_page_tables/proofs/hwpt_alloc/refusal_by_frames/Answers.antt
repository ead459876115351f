use Rattle.std.proofs.Common.{[], ◌∷◌, sym, ◌∙◌}
use Rattle.iofd_refusals.specs.Checks.{lacks_attached_page, lacks_new_tables, passes_limit_attached}
use Rattle.iofd_words.specs.Objects.{settings_under}
use Rattle.iofd_words.specs.View.{view}
use Rattle.iofd_words.specs.declared.refusal.Cause.TheVariants as cause
use Rattle.journal_audit_page_tables.proofs.Told.{told_first}
use Rattle.journal_audit_page_tables.proofs.hwpt_alloc.refusal_by_frames.Goals as goal

pub returns-in-Some : goal.returns-in-Some
returns-in-Some g c =
    let v = view c.args.world.now in
    told_first ((cause.Absent, lacks_attached_page v c.args.file c.args.request.ioas)
    ∷ (cause.Account, passes_limit_attached v c.args.file c.args.request.ioas) ∷ [])
    ((
      cause.Frames,
      lacks_new_tables v c.args.file c.args.request.ioas
          (settings_under v.settings v.objects c.args.file c.args.request.device),
    ) ∷ [])
    c.in-Some.cause (sym c.in-Some.is ∙ c.in_ok-cause.ensures)

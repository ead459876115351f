use Rattle.std.proofs.Common.{[], ◌∷◌, sym, ◌∙◌, is_none, not}
use Rattle.iofd_refusals.specs.Checks.{hwpt_alloc_checks, lacks_attached_page, lacks_new_tables, narrows_by_width}
use Rattle.iofd_refusals.specs.Checks.{passes_limit_attached, waits_for_leaving}
use Rattle.iofd_words.specs.Objects.{device_under, has_ioas, is_full, settings_under}
use Rattle.iofd_words.specs.View.{view}
use Rattle.iofd_words.specs.declared.refusal.Cause.TheVariants as cause
use Rattle.journal_audit_page_tables.proofs.Told.{told_first}
use Rattle.journal_audit_page_tables.proofs.hwpt_alloc.refusal.Goals as goal

pub returns-in-Some : goal.returns-in-Some
unfolding hwpt_alloc_checks
returns-in-Some g c =
    let v = view c.args.world.now in
    let file = c.args.file in
    let request = c.args.request in
    told_first ((cause.Id, not (v.is_open file))
    ∷ (cause.Id, is_none (device_under v.objects file request.device))
    ∷ (cause.Id, not (has_ioas v.objects file request.ioas))
    ∷ (cause.Pending, waits_for_leaving v file request.ioas)
    ∷ (cause.Narrow, narrows_by_width v file request.ioas (settings_under v.settings v.objects file request.device))
    ∷ (cause.Full, is_full v.objects file) ∷ [])
    ((cause.Absent, lacks_attached_page v file request.ioas)
    ∷ (cause.Account, passes_limit_attached v file request.ioas)
    ∷ (
      cause.Frames,
      lacks_new_tables v file request.ioas
          (settings_under v.settings v.objects file request.device),
    ) ∷ [])
    c.in-Some.cause (sym c.in-Some.is ∙ c.in_ok-cause.ensures)

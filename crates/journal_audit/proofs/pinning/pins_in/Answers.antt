use Rattle.std.proofs.Common.{◌≡◌, List, ap, ◌∙◌}
use Rattle.iofd_words.specs.World.{World}
use Rattle.iofd_words.specs.declared.rows.UserPage.{UserPage}
use Rattle.journal_audit.proofs.PageRows.{table_over}
use Rattle.journal_audit.proofs.pinning.pins_in.Goals as goal

pub returns : goal.returns
returns g c =
    let has = table_over _ c.args.world.now c.args.file c.args.ioas _ _ c.world.view_is c.deref.ensures.value
    c.has_hwpt.ensures c.if-not-has_hwpt.false in
    let pages : ◌≡◌ {A = List UserPage} c.deref-2.result.now c.args.world.now.user_pages =
    c.deref-2.ensures.value ∙ ap (λ (w : World). w.user_pages) c.world.view_is in
    rw has (rw pages at c.pins_of_new.ensures)

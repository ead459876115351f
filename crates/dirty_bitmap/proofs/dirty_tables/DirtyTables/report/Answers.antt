use Rattle.std.proofs.Common.{ap, ◌∙◌}
use Rattle.iofd_words.specs.DirtyWords.{dirty_words}
use Rattle.dirty_bitmap.specs.Tracking.{is_marked_in, marks_of}
use Rattle.dirty_bitmap.proofs.Reports.{zeros_are}
use Rattle.dirty_bitmap.proofs.dirty_tables.DirtyTables.report.Goals as goal

pub returns-in-Some : goal.returns-in-Some
returns-in-Some g c =
    c.report.ensures
    ∙ ap (λ o. dirty_words (λ page. is_marked_in o page) c.args.span)
    (c.in-Some.ensures.value ∙ ap (λ tables. marks_of tables c.args.file c.args.hwpt) c.self.view_is)

pub returns-in-None : goal.returns-in-None
returns-in-None g c =
    zeros_are c.args.span
    ∙ ap (λ o. dirty_words (λ page. is_marked_in o page) c.args.span)
    (c.in-None.ensures.value ∙ ap (λ tables. marks_of tables c.args.file c.args.hwpt) c.self.view_is)

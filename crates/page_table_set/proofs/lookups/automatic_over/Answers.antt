use Rattle.std.proofs.Common.{◌∙◌, ◌&&◌, eqb, ap}
use Rattle.std.specs.List.{find}
use Rattle.iofd_words.specs.Objects.{is_automatic_over}
use Rattle.page_table_set.specs.PageTables.{Hwpt}
use Rattle.page_table_set.proofs.ByFile.{find_of}
use Rattle.page_table_set.proofs.lookups.automatic_over.Goals as goal

pub returns : goal.returns
returns c =
    c.automatic_in.ensures
    ∙ ap (find (λ (h : Hwpt).
    eqb h.object.file.0 c.args.file.0 && is_automatic_over c.args.ioas c.args.width h.object.kind))
    c.of_file.ensures
    ∙ find_of c.args.file.0 (λ h. is_automatic_over c.args.ioas c.args.width h.object.kind) c.args.tables.now

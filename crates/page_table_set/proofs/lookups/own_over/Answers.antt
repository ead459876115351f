use Rattle.std.proofs.Common.{◌∙◌, ◌&&◌, eqb, List, ap}
use Rattle.std.specs.List.{list_any}
use Rattle.iofd_words.specs.Objects.{is_hwpt_over}
use Rattle.page_table_set.specs.PageTables.{Hwpt}
use Rattle.page_table_set.proofs.ByFile.{any_of, file_of}
use Rattle.page_table_set.proofs.lookups.own_over.Goals as goal

pub returns : goal.returns
returns c =
    c.any_over.ensures
    ∙ ap (λ (list : List Hwpt). list_any (λ h. eqb (file_of h) c.args.file.0 && is_hwpt_over c.args.ioas h.object.kind)
    list) c.of_file.ensures
    ∙ any_of c.args.file.0 (λ h. is_hwpt_over c.args.ioas h.object.kind) c.args.tables.now

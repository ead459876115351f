use Rattle.std.proofs.Common.{◌∙◌, Some, List, sym, ap}
use Rattle.std.specs.List.{slice_get}
use Rattle.page_table_set.specs.PageTables.{Hwpt}
use Rattle.page_table_set.specs.Removed.{id_of}
use Rattle.page_table_set.proofs.ByFile.{first_of}
use Rattle.page_table_set.proofs.lookups.first_of.Goals as goal

pub returns-in_err-hwpt : goal.returns-in_err-hwpt
returns-in_err-hwpt c =
    let first = ap (λ (list : List Hwpt). slice_get list 0) c.of_file.ensures in
    c.from_residual.ensures
    ∙ ap id_of (c.in_err-hwpt.ensures.value ∙ first ∙ sym (first_of c.args.file.0 c.args.tables.now))

pub returns : goal.returns
returns c =
    let first = ap (λ (list : List Hwpt). slice_get list 0) c.of_file.ensures in
    ap (λ (h : Hwpt). Some h.object.id) c.hwpt.view_is
    ∙ ap id_of (c.in_ok-hwpt.ensures.value ∙ first ∙ sym (first_of c.args.file.0 c.args.tables.now))

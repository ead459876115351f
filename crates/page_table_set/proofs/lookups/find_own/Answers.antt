use Rattle.std.proofs.Common.{◌∙◌, eqb, List, ap}
use Rattle.page_table_set.specs.PageTables.{Hwpt, hwpt_of}
use Rattle.page_table_set.proofs.ByFile.{find_of}
use Rattle.page_table_set.proofs.lookups.find_own.Goals as goal

pub returns : goal.returns
returns c =
    c.find_in.ensures ∙ ap (λ (list : List Hwpt). hwpt_of list c.args.file c.args.id) c.of_file.ensures
    ∙ find_of c.args.file.0 (λ h. eqb h.object.id.0 c.args.id.0) c.args.tables.now

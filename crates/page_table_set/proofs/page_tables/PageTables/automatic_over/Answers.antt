use Rattle.std.proofs.Common.{◌∙◌, ◌&&◌, eqb, Some, List, Bool, sym, ap}
use Rattle.std.specs.List.{find}
use Rattle.std.specs.Option.{option_map}
use Rattle.iofd_words.specs.Objects.{is_automatic_over}
use Rattle.page_table_set.specs.PageTables.{Hwpt}
use Rattle.page_table_set.proofs.Objects.{automatic_rows}
use Rattle.page_table_set.proofs.page_tables.PageTables.automatic_over.Goals as goal

pub returns : goal.returns
returns g c =
    let tables : List Hwpt = c.self.inside.tables.items in
    let test : Hwpt → Bool =
    λ h. eqb h.object.file.0 c.args.file.0 && is_automatic_over c.args.ioas c.args.width h.object.kind in
    let found = c.in_ok-automatic_over.ensures ∙ ap (find test) c.deref.ensures.value in
    rw (← c.self.view_is) (ap (λ (h : Hwpt). Some h.object.id) c.branch.view_is
    ∙ ap (option_map (λ (h : Hwpt). h.object.id)) found
    ∙ sym (automatic_rows tables c.args.file c.args.ioas c.args.width))

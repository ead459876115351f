use Rattle.std.proofs.Common.{◌≡◌, ◌∙◌, ◌+◌, List, sym, ap}
use Rattle.iofd_words.specs.declared.rows.Area.{Area}
use Rattle.area_map_rows.specs.Rows.{first_of}
use Rattle.area_map_rows.proofs.FirstFree.{starts_from-first}
use Rattle.area_map_rows.proofs.row.Row.starts_from.Goals as goal

pub returns : goal.returns
returns g c =
    let xs : List Area = c.self.inside.areas.items in
    let is : xs ≡ c.args.self.now = c.self.view_is in
    let first : c.from-2.result ≡ first_of c.args.self.now = c.from-2.ensures ∙ c.self.invariant.3 ∙ ap first_of is in
    rw (c.from.ensures, first) (sym (starts_from-first (c.args.at + c.args.count) c.args.self.now c.requires.some))

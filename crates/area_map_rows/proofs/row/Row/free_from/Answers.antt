use Rattle.std.proofs.Common.{◌≡◌, ◌∙◌, ◌+◌, ◌<◌, List, false, max, sym, ap, arith}
use Rattle.iofd_words.specs.declared.rows.Area.{Area}
use Rattle.area_map_rows.specs.Areas.{AreApart}
use Rattle.area_map_rows.specs.Rows.{end_of, first_free, starts_from, widest_of}
use Rattle.area_map_rows.proofs.FirstFree.{free-behind}
use Rattle.area_map_rows.proofs.row.Row.free_from.Goals as goal

pub returns-then-self-count-clause-value : goal.returns-then-self-count-clause-value
returns-then-self-count-clause-value g c =
    let xs : List Area = c.self.inside.areas.items in
    let is : xs ≡ c.args.self.now = c.self.view_is in
    let apart : AreApart xs = rw is c.requires.apart in
    let begun : starts_from (c.args.at + c.args.count) xs ≡ false = rw is c.requires.begun in
    let narrow : widest_of xs < c.args.count = omega (arith, c.self.invariant.2, c.if-self-count.true) in
    let behind : c.max.result ≡ max c.args.at (end_of xs + 1) =
    rw (c.from.ensures, c.self.invariant.1) at c.max.ensures in
    behind ∙ sym (free-behind c.args.at c.args.count xs apart begun narrow)
    ∙ ap (λ (areas : List Area). first_free c.args.at c.args.count areas) is

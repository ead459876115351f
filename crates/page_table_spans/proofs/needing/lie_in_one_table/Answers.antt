use Rattle.std.proofs.Common.{ℕ, find, not, sym, ap, ◌∙◌}
use Rattle.std.specs.Option.{option_copied}
use Rattle.page_table_spans.proofs.OneTable.{ends_from, no_some, one_table}
use Rattle.page_table_spans.proofs.needing.lie_in_one_table.Goals as goal

pub returns-in-Some : goal.returns-in-Some
returns-in-Some g c = λ yes.
    let areas = c.args.areas.now.areas in
    let found = sym c.first_reaching.ensures.area ∙ ap option_copied c.in-Some.is in
    let live = sym c.is_live.ensures ∙ c.if-is_live.true in
    let behind = no_some c.first_reaching-in-Some.result (c.is_none.ensures ∙ ap not yes) in
    let end = ap (λ (address : ℕ). find (ends_from address) areas) (sym c.end_of_table-end.ensures)
    ∙ sym c.first_reaching-in-Some.ensures.area ∙ ap option_copied behind in
    one_table c.args.level c.in-Some.first.now areas c.first_reaching.ensures.kept.apart
    (λ k d within. (c.requires.pages k d within).whole) found live (rw c.first.ensures.value at end)

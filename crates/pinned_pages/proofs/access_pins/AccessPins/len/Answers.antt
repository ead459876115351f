use Rattle.std.proofs.Common.{◌∙◌, ap, is_some, sym}
use Rattle.std.specs.List.{count_by, range_with_len}
use Rattle.pinned_pages.specs.Access.{AccessMap, AccessRows, kept_map, row_at}
use Rattle.pinned_pages.proofs.AccessRows.{none_counted}
use Rattle.pinned_pages.proofs.access_pins.AccessPins.len.Goals as goal

pub returns-in-None : goal.returns-in-None
returns-in-None g c = λ count counted.
    let none = ap (λ (map : AccessMap). map.rows)
    (sym c.self.view_is ∙ ap (kept_map (λ rows. rows.value)) c.in-None.is) in
    ap (λ (rows : AccessRows). count_by (λ index. is_some (row_at rows index)) (range_with_len 0 count)) none
    ∙ none_counted 0 count

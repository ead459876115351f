-- Pages by their order, and the sets of those that are counted.
use Rattle.std.specs.Prelude.{ℕ, ◌≡◌, List, nat_lt}
use Rattle.std.specs.BTreeSet.{BTreeSet, contains}
use Rattle.std.specs.Ordering.{bool_cmp, nat_cmp, ordering_then}
use Rattle.std.specs.declared.cmp.Ordering.{Ordering}
use Rattle.held_pins.specs.Counts.{count_in}
use Rattle.held_pins.specs.declared.keys.PageKey.{PageKey}

-- by file, then by object, by page, and by access object; pinned for reads alone before pinned for writes too
abbrev pub page_cmp : PageKey → PageKey → Ordering
page_cmp a b =
    ordering_then (nat_cmp a.file b.file) (ordering_then (nat_cmp a.object b.object)
    (ordering_then (nat_cmp a.page b.page) (ordering_then (nat_cmp a.access b.access) (bool_cmp a.write b.write))))

-- the key with the object and the access object exchanged
abbrev pub exchanged : PageKey → PageKey
exchanged key =
    record { file = key.file; object = key.access; page = key.page; access = key.object; write = key.write }

-- how often a page is counted, by its key of which these two are exchanged
abbrev pub count_exchanged : List (PageKey × ℕ) → PageKey → ℕ
count_exchanged rows key = count_in page_cmp rows (exchanged key)

-- the keys of the set are those that are counted
abbrev pub HasCounted : (PageKey → ℕ) → BTreeSet PageKey → Type 0
HasCounted count order = (key : PageKey) → contains page_cmp order key ≡ nat_lt 0 (count key)

-- two sets have the pages that are counted: the first by their keys, the second by keys of which the two are exchanged
pub record AreInOrder (rows : List (PageKey × ℕ)) (order exchanged_order : BTreeSet PageKey) : Type 0 where
  pub keys : HasCounted (count_in page_cmp rows) order
  pub exchanged_keys : HasCounted (count_exchanged rows) exchanged_order

use Rattle.std.proofs.Common.{◌≡◌, ◌+◌, if◌then◌else◌}
use Rattle.held_pins.specs.Counts.{count_in}
use Rattle.held_pins.specs.Held.{is_from, page_cmp}
use Rattle.held_pins.specs.declared.keys.PageKey.{PageKey}
use Rattle.held_pins.proofs.page_counts.add_pages.Given as goal

-- each page so far is counted once more
abbrev pub invariant-loop-page : goal.invariant-loop-page
invariant-loop-page g l =
    (key : PageKey) → count_in page_cmp l.counts key
    ≡ count_in page_cmp l.fn.counts key + (if is_from l.first l.page key then 1 else 0)

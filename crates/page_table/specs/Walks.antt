-- Where an address leads.
use Rattle.std.specs.Prelude.{ℕ, ◌^◌, nat_lt, Some, None, List, if◌then◌else◌}
use Rattle.iofd_words.specs.Pages.{page_of}
use Rattle.iofd_words.specs.Width.{bits_of}
use Rattle.iofd_words.specs.declared.width.Width.{Width}
use Rattle.page_table.specs.declared.walk.Walk.{Walk}
use Rattle.page_table.specs.declared.walk.Walk.TheVariants as walk
use Rattle.page_table_words.specs.Rows.{MappedPage, page_at}

-- a mapped page leads to its frame with its rights, an address at or above the width's end is beyond, and no other
-- leads anywhere
abbrev pub walk_of : Width → List MappedPage → ℕ → Walk
walk_of width pages iova =
    if nat_lt iova (2 ^ bits_of width) then elim (page_at pages (page_of iova)) [
      | Some to ↦ walk.Hit to.frame to.rights
      | None ↦ walk.None
    ] else walk.Beyond

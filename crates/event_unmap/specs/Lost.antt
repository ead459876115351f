-- Whether an UNMAP that doesn't wait takes tables away from the page tables over its address space.
use Rattle.std.specs.Prelude.{Bool, not, filter}
use Rattle.std.specs.List.{list_any}
use Rattle.iofd_words.specs.Areas.{is_touched}
use Rattle.iofd_words.specs.Tables.{is_idle}
use Rattle.iofd_words.specs.World.{World}
use Rattle.iofd_words.specs.declared.event.UnmapRequest.{UnmapRequest}
use Rattle.iofd_words.specs.declared.numbers.FileNo.{FileNo}

-- once the areas that it names have gone, some table below a root is there through which no page of an area goes
abbrev pub loses_table : World → FileNo → UnmapRequest → Bool
loses_table w file request =
    list_any
    (is_idle w.objects (filter (λ area. not (is_touched file request area)) w.areas) file request.ioas)
    w.table_frames

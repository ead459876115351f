-- What holds of the world before the record at this position, whatever run has led to it.
use Rattle.std.specs.Prelude.{◌≡◌, ◌==◌, ◌&&◌, ℕ, Bool, true, not, nat_lt, List, [], ◌∷◌}
use Rattle.std.specs.List.{list_all, list_any}
use Rattle.iofd_words.specs.World.{World}
use Rattle.iofd_words.specs.declared.rows.MemoryObject.{MemoryObject}
use Rattle.iofd_words.specs.declared.rows.TableFrame.{TableFrame}
use Rattle.iofd_rows.specs.Ids.{have_own_ids}
use Rattle.iofd_rows.specs.Pinned.{ArePinned}
use Rattle.iofd_runs.specs.Apart.{are_apart}
use Rattle.iofd_runs.specs.Fits.{RowsFit}
use Rattle.iofd_runs.specs.PinsFit.{AccessPinsFit}
use Rattle.iofd_runs.specs.Tabled.{AreTabled}

-- no table's frame is that of a later one too
abbrev pub tables_differ : List TableFrame → Bool
tables_differ [] = true
tables_differ (table ∷ tables) =
    not (list_any (λ other. other.frame.0 == table.frame.0) tables) && tables_differ tables

-- each memory object's number is below those of all that follow
abbrev pub numbers_rise : List MemoryObject → Bool
numbers_rise [] = true
numbers_rise (m ∷ memory) = list_all (λ other. nat_lt m.number other.number) memory && numbers_rise memory

pub record IsKept (at : ℕ) (w : World) : Type 0 where
  -- each page that is to be pinned has one pin, and no other page has any
  pub pins : ArePinned at w
  -- memory objects stand by rising number
  pub numbers : numbers_rise w.memory ≡ true
  -- no id is that of two objects of a file
  pub own_ids : have_own_ids w.objects ≡ true
  -- each page table has the tables that it needs, each table a page table and a frame of its own
  pub tabled : AreTabled w
  pub differ : tables_differ w.table_frames ≡ true
  -- areas are of whole pages, and attachments are of devices that there are, by rising number
  pub fit : RowsFit w
  -- access pins are of whole pages
  pub pins_fit : AccessPinsFit w
  -- no two areas of an address space have an address in common
  pub apart : are_apart w.areas ≡ true

-- One level down.
use Rattle.std.proofs.Common.{◌≡◌, ℕ, ◌-◌, ◌/◌, ◌%◌, ◌<◌, true, eqb, not, Some, List, length, ◌∙◌, arith}
use Rattle.std.proofs.lemmas.Bool.Decides.{nat_tests}
use Rattle.iofd_words.specs.declared.numbers.FrameNo.{FrameNo}
use Rattle.frame_memory.specs.Pool.{FramePool}
use Rattle.page_table_words.specs.Entries.{entry_at, table_entry}
use Rattle.iofd_words.specs.Levels.{index_at}
use Rattle.page_table_words.specs.Reached.{GoesThrough}
use Rattle.page_table_words.specs.Rows.{MappedPage, TableRow, table_at}
use Rattle.page_table_words.specs.Stands.{Stands}
use Rattle.page_table_words.proofs.Decoded.{table_present}
use Rattle.page_table_words.proofs.Tables.{table_within}

pub through_within : (pool : FramePool) (level page : ℕ) (frame : FrameNo) → GoesThrough pool level page frame
    → frame.0 < length pool.holds
through_within pool level page frame through =
    table_within pool through.levels through.root through.rows through.pages through.stands level page frame through.at

module _ (pool : FramePool) (levels : ℕ) (root : FrameNo) (rows : List TableRow) (pages : List MappedPage)
    (stands : Stands pool levels root rows pages) (level page : ℕ) (frame : FrameNo)
    (at : table_at rows level page ≡ Some frame) where
  module _ (entry : ℕ) (low : 1 < level) (is : entry ≡ entry_at pool frame.0 (index_at level page)) where
    says : entry ≡ table_entry (table_at rows (level - 1) page)
    says = is ∙ stands.entries level page frame at low

    pub next_at : (next : FrameNo) → (not (eqb (entry % 4) 0)) ≡ true → next.0 ≡ entry / 4096
        → (table_at rows (level - 1) page ≡ Some next) × (entry % 4 ≡ 3)
    next_at next present named =
        table_present (table_at rows (level - 1) page) entry next says (grind (arith, nat_tests)) named

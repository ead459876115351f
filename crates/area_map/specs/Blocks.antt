-- What is kept of blocks of rows, so that a search for free addresses passes over many rows at once.
use Rattle.std.specs.Prelude.{ℕ, suc, zero, ◌-◌, ◌*◌, ◌<◌, ◌≤◌, ◌≡◌, get_or, max, Vec}
use Rattle.std.specs.Prelude.{Option, Some, None, List, [], ◌∷◌, length, take, drop}
use Rattle.iofd_words.specs.declared.rows.Area.{Area}
use Rattle.area_map_rows.specs.Rows.{in_rows, end_of, first_of, widest_of}
use Rattle.area_map.specs.declared.blocks.Block.{Block}

-- how many free addresses lie between the row before this place and the one at it; 0 where one of them is none
abbrev pub gap_before : ℕ → List (List Area) → ℕ
gap_before place [] = 0
gap_before zero (row ∷ rows) = 0
gap_before (suc zero) (row ∷ []) = 0
gap_before (suc zero) (row ∷ next ∷ rows) = first_of next - end_of row - 1
gap_before (suc (suc place)) (row ∷ rows) = gap_before (suc place) rows

-- how many the widest gap has in the row at this place, and between it and the rows beside it
abbrev pub widest_around : ℕ → List (List Area) → ℕ
widest_around place rows =
    max (widest_of (get_or rows place [])) (max (gap_before place rows) (gap_before (suc place) rows))

-- what a look through a block's rows finds: where their areas begin and end, and how wide the widest gap between two of
-- them is
abbrev pub block_of : List (List Area) → Block
block_of rows = record {
  first = first_of (in_rows rows);
  end = end_of (in_rows rows);
  widest = widest_of (in_rows rows);
}

-- what is kept of a block's rows: where their areas begin and end, and that no gap between two of them is wider
pub record IsBlockOf (rows : List (List Area)) (block : Block) : Type 0 where
  pub first : block.first ≡ first_of (in_rows rows)
  pub end : block.end ≡ end_of (in_rows rows)
  pub widest : widest_of (in_rows rows) ≤ block.widest

-- the rows of the block of this number
abbrev pub rows_of : ℕ → List (List Area) → List (List Area)
rows_of number rows = take 32 (drop (32 * number) rows)

-- for each block is kept what is to be, but for those from the one on and before the other
pub record AreBlocksBut (from to : ℕ) (blocks : List Block) (rows : List (List Area)) : Type 0 where
  pub before : (number : ℕ) → number < length blocks → number < from
      → IsBlockOf (rows_of number rows) (get_or blocks number (block_of []))
  pub behind : (number : ℕ) → number < length blocks → to ≤ number
      → IsBlockOf (rows_of number rows) (get_or blocks number (block_of []))

-- for each block is kept what is to be
abbrev pub AreBlocks : List Block → List (List Area) → Type 0
AreBlocks blocks rows = (number : ℕ) → number < length blocks
    → IsBlockOf (rows_of number rows) (get_or blocks number (block_of []))

-- the rows from the one on and before the other may have changed, and no others have
pub record IsSameBut (from to : ℕ) (old new : List (List Area)) : Type 0 where
  pub before : take from new ≡ take from old
  pub behind : drop to new ≡ drop to old

-- the blocks that a vector has, if there is one
abbrev pub listed : {X : Type 0} → Option (Vec Block X) → List Block
listed None = []
listed (Some blocks) = blocks.items

-- A port reads or writes many bytes in pieces, each of which a device may read or write at once.
use Rattle.std.specs.Prelude.{◌≡◌, ℕ, ◌+◌, ◌-◌, ◌<◌, ◌≤◌, min, Option, List, [], ◌∷◌, ◌++◌, length}
use Rattle.iofd_words.specs.Pages.{offset_of}
use Rattle.lane_lock.specs.Outcomes.{OnlySees}
use Rattle.lane_lock.specs.Passes.{SamePass, view_of}
use Rattle.guarded_core.specs.Passes.{CoreGhosts}
use Rattle.shared_iommufd.specs.Ports.{KeepsSame, Standing}

-- how many bytes the next piece has, where so many are left from the address on: as many as the page has from there on,
-- and no more than 64
abbrev pub piece_len : ℕ → ℕ → ℕ
piece_len address left = min left (min (4096 - offset_of address) 64)

-- a piece that passed: its bytes, the place of the record that it made, if it made one, and how the port stood then
pub record Piece (A : Type 0) (g : CoreGhosts A) : Type 0 where
  pub bytes : List ℕ
  pub at : Option ℕ
  pub after : Standing A g

module _ {A : Type 0} {g : CoreGhosts A} where
  -- the bytes of the pieces
  abbrev pub bytes_of : List (Piece A g) → List ℕ
  bytes_of [] = []
  bytes_of (piece ∷ pieces) = piece.bytes ++ bytes_of pieces

  -- how the port stands after the pieces, which stood as p before them
  abbrev pub standing_after : Standing A g → List (Piece A g) → Standing A g
  standing_after p [] = p
  standing_after p (piece ∷ pieces) = standing_after piece.after pieces

  -- the place of the last record that they made
  abbrev pub last_place : Option ℕ → List (Piece A g) → Option ℕ
  last_place place [] = place
  last_place place (piece ∷ pieces) = last_place piece.at pieces

  -- These pieces, of so many bytes from the address on, have passed one after another: each begins where the one before
  -- it ends, while there are bytes left, has as many bytes as a piece has there, and is such a piece, as the one before
  -- left the port.
  abbrev pub Follow : (ℕ → Standing A g → Piece A g → Type 0) → ℕ → ℕ → Standing A g → List (Piece A g) → Type 0
  Follow IsPiece address left p [] = Unit {0}
  Follow IsPiece address left p (piece ∷ pieces) =
      (0 < left)
      × (length piece.bytes ≡ piece_len address left)
      × SamePass p.pass piece.after.pass
      × IsPiece address p piece
      × Follow IsPiece (address + length piece.bytes) (left - length piece.bytes) piece.after pieces

  -- so many of the bytes have passed, in these pieces; the port keeps what it kept then, and its pass has made no
  -- record since, and has seen no less
  pub record HavePassed (IsPiece : ℕ → Standing A g → Piece A g → Type 0) (address left : ℕ) (p : Standing A g)
      (pieces : List (Piece A g)) (done : ℕ) (q : Standing A g) : Type 0 where
    pub follow : Follow IsPiece address left p pieces
    pub count : length (bytes_of pieces) ≡ done
    pub within : done ≤ left
    pub same : SamePass (standing_after p pieces).pass q.pass
    pub sees : OnlySees (view_of (standing_after p pieces).pass) (view_of q.pass)
    pub keeps : KeepsSame (standing_after p pieces) q

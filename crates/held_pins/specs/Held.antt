-- How the counts of pins and of their pages belong together.
pub use Rattle.held_pins.specs.PageOrder.{count_exchanged, exchanged, page_cmp}
use Rattle.std.specs.Prelude.{ℕ, ◌≡◌, ◌<◌, ◌≤◌, ◌+◌, ◌/◌, Bool, ◌==◌, ◌&&◌, not, nat_le, nat_lt}
use Rattle.std.specs.Prelude.{IsTrue, List, [], ◌∷◌, ◌++◌, replicate, if◌then◌else◌}
use Rattle.std.specs.List.{count_by}
use Rattle.std.specs.Ordering.{bool_cmp, nat_cmp, ordering_then}
use Rattle.std.specs.declared.cmp.Ordering.{Ordering}
use Rattle.iofd_words.specs.Bounds.{Bounds}
use Rattle.iofd_words.specs.declared.numbers.FileNo.{FileNo}
use Rattle.iofd_words.specs.declared.numbers.ObjId.{ObjId}
use Rattle.held_pins.specs.Counts.{ArePositive, count_in}
use Rattle.held_pins.specs.HeldPins.{is_whole}
use Rattle.held_pins.specs.declared.keys.HolderKey.{HolderKey}
use Rattle.held_pins.specs.declared.keys.PageKey.{PageKey}
use Rattle.held_pins.specs.declared.keys.PinKey.{PinKey}
use Rattle.held_pins.specs.declared.pin.HeldPin.{HeldPin}
use Rattle.held_pins.specs.declared.pin_counts.PinCounts.{PinCounts}

-- ---- pins as keys

-- field by field; those for reads alone before those for writes too
abbrev pub key_cmp : PinKey → PinKey → Ordering
key_cmp a b =
    ordering_then (nat_cmp a.access b.access) (ordering_then (nat_cmp a.ioas b.ioas)
    (ordering_then (nat_cmp a.first b.first) (ordering_then (nat_cmp a.last b.last)
    (ordering_then (nat_cmp a.file b.file) (bool_cmp a.write b.write)))))

abbrev pub pin_of : PinKey → HeldPin
pin_of key =
    record {
      file = record { 0 = key.file };
      access = record { 0 = key.access };
      ioas = record { 0 = key.ioas };
      span = record { first = key.first; last = key.last };
      write = key.write;
    }

abbrev pub key_of : HeldPin → PinKey
key_of pin =
    record {
      file = pin.file.0;
      access = pin.access.0;
      ioas = pin.ioas.0;
      first = pin.span.first;
      last = pin.span.last;
      write = pin.write;
    }

-- the pins that are counted, equal ones side by side
abbrev pub pins_of : List (PinKey × ℕ) → List HeldPin
pins_of [] = []
pins_of (row ∷ rows) = replicate row.1 (pin_of row.0) ++ pins_of rows

-- ---- their pages and holders as keys

abbrev pub holder_cmp : HolderKey → HolderKey → Ordering
holder_cmp a b = ordering_then (nat_cmp a.file b.file) (nat_cmp a.access b.access)

abbrev pub holder_of : FileNo → ObjId → HolderKey
holder_of file access = record { file = file.0; access = access.0 }

-- the page at an address of an object, as the access object has pinned it, for writes too or for reads alone
abbrev pub page_in : FileNo → ObjId → ℕ → ObjId → Bool → PageKey
page_in file object address access write =
    record { file = file.0; object = object.0; page = address / 4096; access = access.0; write = write }

-- another page of the same object, pinned alike
abbrev pub at_page : PageKey → ℕ → PageKey
at_page key page =
    record { file = key.file; object = key.object; page = page; access = key.access; write = key.write }

-- the second is of the same object as the first and pinned alike, from its page on and below the end
abbrev pub is_from : PageKey → ℕ → PageKey → Bool
is_from first end key =
    first.file == key.file && first.object == key.object && first.access == key.access
    && (if first.write then key.write else not key.write) && (nat_le first.page key.page && nat_lt key.page end)

-- the key is of this object, whoever pinned it and for what, and of a page at which the span has an address
abbrev pub is_reached : FileNo → ObjId → Bounds → PageKey → Bool
is_reached file object span key =
    key.file == file.0 && key.object == object.0 && nat_le (span.first / 4096) key.page
    && nat_le key.page (span.last / 4096)

-- the key is of a page that the pin covers, in its address space, by who holds the pin and for what
abbrev pub is_over : HeldPin → PageKey → Bool
is_over pin key =
    is_from (page_in pin.file pin.ioas pin.span.first pin.access pin.write) (pin.span.last / 4096 + 1) key

-- ---- what is counted

-- a page by its address space and the access object that pinned it, for writes too or for reads alone; and who holds
-- pins
pub data Tally : Type 0 where
  Pinned : PageKey → Tally
  OfHolder : HolderKey → Tally

-- how often it is counted
abbrev pub tally : {A : Type 0} → PinCounts A → Tally → ℕ
tally counts (Pinned key) = count_in page_cmp counts.pages key
tally counts (OfHolder key) = count_in holder_cmp counts.holders key

-- whether it is counted for this pin
abbrev pub is_tallied : Tally → HeldPin → Bool
is_tallied (Pinned key) pin = is_over pin key
is_tallied (OfHolder key) pin = pin.file.0 == key.file && pin.access.0 == key.access

module _ {A : Type 0} where
  -- what is counted for the pin is counted less often than can be
  abbrev pub HaveRoom : PinCounts A → HeldPin → Type 0
  HaveRoom counts pin = (what : Tally) → IsTrue (is_tallied what pin) → tally counts what < 65535

  -- what is counted for the pin is counted
  abbrev pub AreThere : PinCounts A → HeldPin → Type 0
  AreThere counts pin = (what : Tally) → IsTrue (is_tallied what pin) → 0 < tally counts what

  -- something that is counted for the pin isn't counted yet
  abbrev pub Lack : PinCounts A → HeldPin → Type 0
  Lack counts pin = (what : Tally) × IsTrue (is_tallied what pin) × (tally counts what ≡ 0)

  -- what is counted for the pin is counted once more in the second, and all else as often
  abbrev pub AreMore : PinCounts A → PinCounts A → HeldPin → Type 0
  AreMore less more pin =
      (what : Tally) → tally more what ≡ tally less what + (if is_tallied what pin then 1 else 0)

  abbrev pub AreAlike : PinCounts A → PinCounts A → Type 0
  AreAlike a b = (what : Tally) → tally a what ≡ tally b what

  -- all is counted once for each pin for which it is
  pub record IsTied (spans : List (PinKey × ℕ)) (counts : PinCounts A) : Type 0 where
    pub positive : ArePositive spans
    pub tallied : (what : Tally) → tally counts what ≡ count_by (is_tallied what) (pins_of spans)
    pub few : (key : HolderKey) → tally counts (OfHolder key) ≤ 65535
    pub whole : count_by (λ pin. not (is_whole pin)) (pins_of spans) ≡ 0

-- How many frames there are of an object's pages that are pinned.
use Rattle.std.proofs.Common.{◌≡◌, ℕ, ◌<◌, true, false, cond, eqb, Option, Some, None, List, [], length}
use Rattle.std.proofs.Common.{arith}
use Rattle.std.specs.List.{find, slice_get}
use Rattle.std.specs.Option.{IfNone, IfSome}
use Rattle.std.proofs.lemmas.Bool.Decides.{nat_tests}
use Rattle.std.proofs.lemmas.List.{nil_from_length}
use Rattle.iofd_words.specs.declared.numbers.FrameNo.{FrameNo}
use Rattle.iofd_words.specs.declared.rows.MemoryObject.{MemoryObject}
use Rattle.memory_objects.specs.Objects.{MemoryEntry, object_at, pinned_frame, rows_of}
use Rattle.memory_objects.proofs.Invariants.{row_found, rows_found}
use Rattle.user_memory.specs.Memory.{pins_in}

-- as many as the object has pages, where a pin stands on it, and none where none does
abbrev AreCounted : List FrameNo → Option MemoryEntry → Type 0
AreCounted frames object =
    IfSome object (λ o. length frames ≡ cond (eqb o.pages.pages.table_pins 0) 0 o.pages.pages.count)

all_of : (frames : List FrameNo) (object : Option MemoryEntry) → AreCounted frames object → 0 < pins_in object
    → IfSome (row_found object) (λ row. length frames ≡ row.count)
all_of frames None counted pins = counted
all_of frames (Some o) counted pins =
    let pinned : eqb o.pages.pages.table_pins 0 ≡ false = grind (arith, nat_tests) in
    rw pinned at counted

pub all_pages : (frames : List FrameNo) (objects : List MemoryEntry) (n : ℕ) → AreCounted frames (object_at objects n)
    → 0 < pins_in (object_at objects n) → IfSome (find (λ (row : MemoryObject). eqb row.number n) (rows_of objects))
    (λ row. length frames ≡ row.count)
all_pages frames objects n counted pins =
    rw (rows_found objects n) (all_of frames (object_at objects n) counted pins)

none_of : (frames : List FrameNo) (object : Option MemoryEntry) → IfNone object (frames ≡ [])
    → AreCounted frames object → pins_in object ≡ 0 → frames ≡ []
none_of frames None none counted pins = none
none_of frames (Some o) none counted pins =
    let zero : eqb o.pages.pages.table_pins 0 ≡ true = grind (arith, nat_tests) in
    nil_from_length frames (rw zero at counted)

pub no_pages : (frames : List FrameNo) (objects : List MemoryEntry) (n : ℕ)
    → IfNone (object_at objects n) (frames ≡ []) → AreCounted frames (object_at objects n)
    → pins_in (object_at objects n) ≡ 0 → frames ≡ []
no_pages frames objects n none counted pins = none_of frames (object_at objects n) none counted pins

-- and each is that of its page
each_of : (frames : List FrameNo) (objects : List MemoryEntry) (n : ℕ) (o : Option MemoryEntry)
    → IfSome o (λ x. 0 < x.pages.pages.table_pins → (i : ℕ) → slice_get frames i ≡ pinned_frame objects n i)
    → 0 < pins_in o → (i : ℕ) → slice_get frames i ≡ pinned_frame objects n i
each_of frames objects n None each pins i = absurd (omega (arith, pins))
each_of frames objects n (Some x) each pins i = each pins i

pub each_page : (frames : List FrameNo) (objects : List MemoryEntry) (n : ℕ) → IfSome (object_at objects n)
    (λ x. 0 < x.pages.pages.table_pins → (i : ℕ) → slice_get frames i ≡ pinned_frame objects n i)
    → 0 < pins_in (object_at objects n) → (i : ℕ) → slice_get frames i ≡ pinned_frame objects n i
each_page frames objects n each pins i = each_of frames objects n (object_at objects n) each pins i

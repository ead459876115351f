-- What is kept at the opening shows the world of the opening.
use Rattle.std.proofs.Common.{◌≡◌, ℕ, zero, suc, ◌+◌, ◌-◌, Bool, true, false, ◌&&◌, eqb, ltb, is_some, List, [], ◌∷◌}
use Rattle.std.proofs.Common.{length, replicate, get_or, slice_index, refl, sym, ◌∙◌, ap, subst, arith}
use Rattle.std.specs.List.{count_by, slice_get}
use Rattle.std.proofs.lemmas.Bool.Decides.{nat_tests}
use Rattle.std.proofs.lemmas.List.{get_or-replicate, length-replicate}
use Rattle.frame_memory.specs.Pool.{frame_size, fresh, zeros}
use Rattle.iofd_words.specs.Files as file
use Rattle.iofd_words.specs.Settings.{Settings}
use Rattle.iofd_words.specs.declared.numbers.FileNo.{FileNo}
use Rattle.iofd_words.specs.declared.numbers.UserNo.{UserNo}
use Rattle.iofd_words.specs.declared.rows.UserPage.{UserPage}
use Rattle.server_state.specs.AccessPins.{AccessPinsShown}
use Rattle.server_state.specs.declared.held.Held.{Held}
use Rattle.user_memory_rows.specs.Shown.{FramesShown, PinsShown}
use Rattle.object_table.specs.Table.{fresh_table, is_open}
use Rattle.memory_objects.specs.Invariant.{MemoryInvariant}
use Rattle.memory_objects.specs.Objects as entries
use Rattle.memory_objects.specs.Objects.{MemoryEntry, pins_on}
use Rattle.user_memory.specs.Memory.{Memory, areas_in, pins_in, reached}

-- ---- the files

some_below : {X : Type 0} (xs : List X) (n : ℕ) → is_some (slice_get xs n) ≡ get_or (replicate (length xs) true) n false
some_below [] n = refl
some_below (x ∷ xs) zero = refl
some_below (x ∷ xs) (suc n) = some_below xs n

open_at : (files : List UserNo) (n : ℕ) → (ltb 0 n && get_or (replicate (length files) true) (n - 1) false)
    ≡ (is_some (file.numbered files n) && true)
open_at files zero = refl
open_at files (suc n) =
    let before : suc n - 1 ≡ n = omega arith in
    let first : ltb 0 (suc n) ≡ true = search (arith, nat_tests) in
    rw (first, before, some_below files n) (and_whole (get_or (replicate (length files) true) n false))
  where
    and_whole : (b : Bool) → b ≡ (b && true)
    and_whole true = refl
    and_whole false = refl

pub all_open : (A : Type 0) (settings : Settings) (number : FileNo)
    → is_open (fresh_table {V = Held A} (length settings.files)) number ≡ file.is_open settings [] number
all_open A settings number = open_at settings.files number.0

-- ---- the frames

-- no page names a frame, and each byte is zero
pub frames_opened : (pool : ℕ) (m : Memory) → m.pages ≡ [] → m.objects ≡ [] → FramesShown pool [] [] m (fresh pool)
unfolding frame_size
frames_opened pool m pages objects = record {
  size = length-replicate pool 0;
  count = length-replicate pool zeros;
  full = λ frame within some. ap (λ (l : List ℕ). length l) (get_or-replicate pool frame zeros [] within)
      ∙ length-replicate {A = ℕ} 4096 0;
  holds = λ frame. none_held pool frame ∙ sym (rw (none_reached frame) refl);
  once = λ frame. omega arith;
  written = λ frame offset within below some. ap (λ (l : List ℕ). slice_index l offset)
      (get_or-replicate pool frame zeros [] within) ∙ get_or-replicate 4096 offset 0 0 below;
}
  where
    none_held : (count frame : ℕ) → slice_index (replicate {A = ℕ} count 0) frame ≡ 0
    none_held zero frame = refl
    none_held (suc count) zero = refl
    none_held (suc count) (suc frame) = none_held count frame

    none_reached : (frame : ℕ) → reached m frame ≡ 0
    none_reached frame =
        ap (λ (l : List UserPage). count_by (λ page. eqb page.frame.0 frame) l + pins_on m.objects frame) pages
        ∙ ap (λ (l : List MemoryEntry). 0 + pins_on l frame) objects

-- no memory object is there
pub pins_opened : (m : Memory) → m.objects ≡ [] → PinsShown [] [] [] [] [] m
pins_opened m objects = record {
  rows = sym (ap (λ (l : List MemoryEntry). entries.rows_of l) objects);
  areas = λ number. ap (λ (l : List MemoryEntry). areas_in (entries.object_at l number)) objects;
  tables = λ number. ap (λ (l : List MemoryEntry). pins_in (entries.object_at l number)) objects;
  access = λ page there. ap (λ (l : List MemoryEntry). entries.access_pins_on l page.memory page.index) objects;
  frames = λ page. sym (ap (λ (l : List MemoryEntry). entries.pinned_frame l page.memory page.index) objects);
  names = λ frame. sym (ap (λ (l : List MemoryEntry). ltb 0 (pins_on l frame)) objects);
  invariant = subst MemoryInvariant (sym objects) none;
}
  where
    none : MemoryInvariant []
    none = record { rising = refl; unpinned = refl; counted = refl; areas = refl }

-- ---- the pins of access objects

-- none is held
pub access_pins_opened : AccessPinsShown [] [] []
access_pins_opened = record { counts = λ test. refl; spaces = refl }

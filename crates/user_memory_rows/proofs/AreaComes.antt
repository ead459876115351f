-- One area more lies over a memory object: pins, frames and users' pages are shown again.
use Rattle.std.proofs.Common.{◌≡◌, ℕ, ◌+◌, ◌≤◌, Bool, true, false, cond, ◌&&◌, ◌||◌, eqb, leb, ltb, Option, Some}
use Rattle.std.proofs.Common.{None, List}
use Rattle.std.proofs.Common.{refl, ap, sym, ◌∙◌, arith}
use Rattle.std.specs.List.{list_any}
use Rattle.std.proofs.lemmas.Bool.Decides.{nat_tests}
use Rattle.frame_memory.specs.Pool.{FramePool}
use Rattle.iofd_steps.specs.After.{settle}
use Rattle.iofd_words.specs.Areas.{with_area}
use Rattle.iofd_words.specs.Frames.{frame_at}
use Rattle.iofd_words.specs.Objects.{has_hwpt}
use Rattle.iofd_words.specs.Pins.{ObjectPage, pinned_pages, settled}
use Rattle.iofd_words.specs.World.{World}
use Rattle.iofd_words.specs.declared.numbers.UserNo.{UserNo}
use Rattle.iofd_words.specs.declared.rows.Area.{Area}
use Rattle.iofd_words.specs.declared.rows.MemoryObject.{MemoryObject}
use Rattle.iofd_words.specs.declared.rows.Object.{Object}
use Rattle.iofd_words.specs.declared.rows.UserPage.{UserPage}
use Rattle.iofd_rows.proofs.Bools.{and_true, both_true}
use Rattle.iofd_rows.proofs.Each.{IsIn, of_any}
use Rattle.iofd_rows.specs.Pinned.{ArePinned}
use Rattle.user_memory_rows.proofs.Counts.{count_with_area}
use Rattle.user_memory_rows.proofs.CountBy.{any_count}
use Rattle.user_memory_rows.proofs.PinsFollow.{pins_follow, still_some}
use Rattle.user_memory_rows.specs.Shown.{PinsShown, accessed, has_page, over, translated}
use Rattle.memory_objects.specs.Invariant.{MemoryInvariant}
use Rattle.memory_objects.specs.Objects.{MemoryEntry, object_at}
use Rattle.user_memory.proofs.Found.{found_passes, has_index, pinned_has}
use Rattle.user_memory.specs.Changes.{HasShare, Settles}
use Rattle.user_memory.specs.Memory.{Memory, access_pins, areas_in, areas_over, is_pinned, rows_of, table_pins}

-- ---- areas over a memory object

-- one that is there is counted
pub area_counted : (areas : List Area) (a : Area) → IsIn areas a → 1 ≤ over areas a.memory
area_counted areas a within =
    let itself : eqb a.memory a.memory ≡ true = own a.memory in
    let some = sym (any_count (λ (b : Area). eqb b.memory a.memory) areas)
    ∙ of_any (λ (b : Area). eqb b.memory a.memory) areas a within itself in
    search (some, arith, nat_tests)
  where
    own : (n : ℕ) → eqb n n ≡ true
    own n = grind (arith, nat_tests)

-- with one area more
pub over_more : (x : Area) (areas : List Area) (kept after : Memory) → ((n : ℕ) → areas_over kept n ≡ over areas n)
    → ((n : ℕ) → areas_over after n ≡ areas_over kept n + cond (eqb x.memory n) 1 0) → (n : ℕ)
    → areas_over after n ≡ over (with_area x areas) n
over_more x areas kept after was more n =
    more n ∙ ap (λ k. k + cond (eqb x.memory n) 1 0) (was n)
    ∙ sym (count_with_area (λ (a : Area). eqb a.memory n) x areas)

pub translated_more : (objects : List Object) (x : Area) (areas : List Area) (kept after : Memory) (pinned : Bool)
    → pinned ≡ has_hwpt objects x.file x.ioas → ((n : ℕ) → table_pins kept n ≡ translated objects areas n)
    → ((n : ℕ) → table_pins after n ≡ table_pins kept n + cond (eqb x.memory n) (cond pinned 1 0) 0) → (n : ℕ)
    → table_pins after n ≡ translated objects (with_area x areas) n
translated_more objects x areas kept after pinned is was more n =
    more n ∙ ap (λ k. k + cond (eqb x.memory n) (cond pinned 1 0) 0) (was n)
    ∙ ap (λ k. translated objects areas n + k) one
    ∙ sym (count_with_area (λ (a : Area). eqb a.memory n && has_hwpt objects a.file a.ioas) x areas)
  where
    both : (b c : Bool) → cond b (cond c 1 0) 0 ≡ cond {A = ℕ} (b && c) 1 0
    both true c = refl
    both false c = refl

    one : cond (eqb x.memory n) (cond pinned 1 0) 0 ≡ cond {A = ℕ} (eqb x.memory n
        && has_hwpt objects x.file x.ioas) 1 0
    one = rw is (both (eqb x.memory n) (has_hwpt objects x.file x.ioas))

-- ---- what it makes of the memory

-- one area more lies over the memory object of this number, with so many pins, whether the object came with it or was
-- there; the objects under the other areas have the pages that they had
pub record HasAreaMore (count number : ℕ) (old new : Memory) : Type 0 where
  pub areas : (n : ℕ) → areas_over new n ≡ areas_over old n + cond (eqb number n) 1 0
  pub pins : (n : ℕ) → table_pins new n ≡ table_pins old n + cond (eqb number n) count 0
  pub access : (page : ObjectPage) → access_pins new page ≡ access_pins old page
  pub pages : (page : ObjectPage) → 1 ≤ areas_over old page.memory
      → list_any (λ row. eqb page.memory row.number && ltb page.index row.count) (rows_of new) ≡ list_any
      (λ row. eqb page.memory row.number && ltb page.index row.count) (rows_of old)

pub more_shared : (count number : ℕ) (old new : Memory) → HasShare count number old new
    → HasAreaMore count number old new
more_shared count number old new has = record {
  areas = has.areas;
  pins = has.pins;
  access = has.access;
  pages = λ page some. ap (list_any (λ (row : MemoryObject). eqb page.memory row.number && ltb page.index row.count))
      has.rows;
}

-- an object that has a page has an area
has_area : (entries : List MemoryEntry) (n i : ℕ) → MemoryInvariant entries → has_index (object_at entries n) i ≡ true
    → 1 ≤ areas_in (object_at entries n)
has_area entries n i kept has = by_object (object_at entries n) refl has
  where
    by_object : (o : Option MemoryEntry) → object_at entries n ≡ o → has_index o i ≡ true → 1 ≤ areas_in o
    by_object None is has = cc
    by_object (Some o) is has =
        let some = (and_true (leb 1 o.areas) (leb o.pages.pages.table_pins o.areas)
        (found_passes (λ (x : MemoryEntry). leb 1 x.areas && leb x.pages.pages.table_pins x.areas) entries n o
        kept.areas is)).0 in
        search (some, arith, nat_tests)

module _ (count number : ℕ) (old new : Memory) (has : HasAreaMore count number old new) where
  -- what was pinned still is
  pub more_pinned : MemoryInvariant old.objects → (page : ObjectPage) → is_pinned old page ≡ true
      → is_pinned new page ≡ true
  more_pinned kept page is =
      let parts = and_true (list_any (λ (row : MemoryObject). eqb page.memory row.number && ltb page.index row.count)
      (rows_of old)) (ltb 0 (table_pins old page.memory) || ltb 0 (access_pins old page)) is in
      both_true _ _
      (has.pages page (has_area old.objects page.memory page.index kept (pinned_has old page kept.rising is)) ∙ parts.0)
      (let more = has.pins page.memory in
      still_some (table_pins old page.memory) (table_pins new page.memory) (access_pins old page)
      (access_pins new page) (omega (arith, more)) (has.access page) parts.1)

  -- as many pins more stand on the object
  pub more_pins : table_pins new number ≡ table_pins old number + count
  more_pins = let itself : eqb number number ≡ true = own number in has.pins number ∙ rw itself refl
    where
      own : (k : ℕ) → eqb k k ≡ true
      own k = grind (arith, nat_tests)

-- ---- pins

module _ (at next : ℕ) (w new : World) (x : Area) (pinned : Bool) (kept after : Memory)
    (before_pool after_pool : FramePool) (is : ArePinned at w) (is_next : ArePinned next new)
    (shown : PinsShown w.objects w.areas w.memory w.pins w.access_pins kept)
    (is_settled : new.pins ≡ settled (pinned_pages w.objects w.areas w.memory w.access_pins)
    (pinned_pages new.objects new.areas new.memory new.access_pins) new.memory new.user_pages w.pins)
    (same_objects : new.objects ≡ w.objects) (same_pages : new.user_pages ≡ w.user_pages)
    (area_more : new.areas ≡ with_area x w.areas)
    (pages : (user : UserNo) (page : ℕ) → frame_at w.user_pages user page ≡ frame_at kept.pages user page)
    (is_translated : pinned ≡ has_hwpt w.objects x.file x.ioas) where
  pub area_shown : new.memory ≡ rows_of after → HasAreaMore (cond pinned 1 0) x.memory kept after
      → ((page : ObjectPage) → has_page new.memory page ≡ true
      → access_pins kept page ≡ accessed new.objects new.areas new.access_pins page)
      → Settles kept after before_pool after_pool
      → PinsShown new.objects new.areas new.memory new.pins new.access_pins after
  area_shown rows has accesses settles =
      pins_follow at next w new kept after before_pool after_pool is is_next shown is_settled
      (λ user page. ap (λ (l : List UserPage). frame_at l user page) same_pages ∙ pages user page
      ∙ ap (λ (l : List UserPage). frame_at l user page) (sym settles.pages))
      rows
      (λ n. over_more x w.areas kept after shown.areas has.areas n ∙ ap (λ (l : List Area). over l n) (sym area_more))
      (λ n. translated_more w.objects x w.areas kept after pinned is_translated shown.tables has.pins n
      ∙ ap (λ (l : List Area). translated w.objects l n) (sym area_more)
      ∙ ap (λ (l : List Object). translated l new.areas n) (sym same_objects))
      (λ page there. has.access page ∙ accesses page there) settles

-- the world with one area more over a memory object that was there
abbrev pub shared_world : World → Area → World
shared_world w x = settle w (record w { areas = with_area x w.areas })

pub shared_shown : (at next : ℕ) (w : World) (x : Area) (pinned : Bool) (kept after : Memory)
    (before_pool after_pool : FramePool) → ArePinned at w → ArePinned next (shared_world w x)
    → PinsShown w.objects w.areas w.memory w.pins w.access_pins kept
    → ((page : ObjectPage) → has_page w.memory page ≡ true
    → accessed w.objects (with_area x w.areas) w.access_pins page ≡ accessed w.objects w.areas w.access_pins page)
    → ((user : UserNo) (page : ℕ) → frame_at w.user_pages user page ≡ frame_at kept.pages user page)
    → pinned ≡ has_hwpt w.objects x.file x.ioas → HasShare (cond pinned 1 0) x.memory kept after
    → Settles kept after before_pool after_pool
    → PinsShown w.objects (with_area x w.areas) w.memory (shared_world w x).pins w.access_pins after
unfolding settle
shared_shown at next w x pinned kept after before_pool after_pool is is_next shown same pages is_translated has
    settles =
    area_shown at next w (shared_world w x) x pinned kept after before_pool after_pool is is_next shown refl
    refl refl refl pages is_translated (shown.rows ∙ sym has.rows) (more_shared _ _ _ _ has)
    (λ page there. shown.access page there ∙ sym (same page there)) settles

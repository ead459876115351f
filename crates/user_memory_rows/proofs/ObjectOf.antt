-- What is asked of the memory object of one number, as the rows of the world tell it.
use Rattle.std.proofs.Common.{◌≡◌, ℕ, ◌*◌, ◌≤◌, Bool, true, false, cond, ◌&&◌, ◌||◌, not, eqb, Some, List, [], ◌∷◌}
use Rattle.std.proofs.Common.{length, refl, ap, sym, ◌∙◌, arith}
use Rattle.std.specs.Prelude.{is_none}
use Rattle.std.specs.List.{filter, find, list_all, list_any}
use Rattle.std.proofs.Math.Path.{fun_ext}
use Rattle.std.proofs.lemmas.Bool.Decides.{nat_tests}
use Rattle.iofd_words.specs.Pins.{unpinned_pages}
use Rattle.iofd_words.specs.Span.{size_of}
use Rattle.iofd_words.specs.World.{World}
use Rattle.iofd_words.specs.declared.numbers.UserNo.{UserNo}
use Rattle.iofd_words.specs.declared.rows.Area.{Area}
use Rattle.iofd_words.specs.declared.rows.MemoryObject.{MemoryObject}
use Rattle.iofd_rows.proofs.Bools.{and_true, clash, not_true, or_none}
use Rattle.iofd_rows.proofs.Each.{IsIn, of_each}
use Rattle.iofd_rows.proofs.ListTests.{any_weaker}
use Rattle.iofd_rows.specs.Pinned.{ArePinned, has_object, have_own_numbers}
use Rattle.user_memory_rows.proofs.AreaComes.{area_counted}
use Rattle.user_memory_rows.specs.Shown.{PinsShown}
use Rattle.user_memory.proofs.NewPages.{lacking_pages}
use Rattle.user_memory.proofs.Shared.{one_new}
use Rattle.user_memory.specs.Invariant.{ObjectsTell}
use Rattle.user_memory.specs.Memory.{Memory, are_of, areas_over, frame_now, lacks_page, new_pages, pinned_frame}
use Rattle.user_memory.specs.Memory.{rows_at, rows_of}

-- ---- its pages

pub rows_of_one : (m : Memory) (n : ℕ) → rows_at m (n ∷ []) ≡ filter (λ row. eqb row.number n) (rows_of m)
rows_of_one m n = ap (λ (p : MemoryObject → Bool). filter p (rows_of m))
    (fun_ext (λ (row : MemoryObject). or_none (eqb n row.number) ∙ turned n row.number))
  where
    turned : (a b : ℕ) → eqb a b ≡ eqb b a
    turned a b = grind (arith, nat_tests)

-- one of them is to be pinned, and isn't there
pub lacks_one : (m : Memory) (n : ℕ) → ObjectsTell m.objects
    → lacks_page m n ≡ list_any (λ page. is_none (frame_now m page))
    (unpinned_pages (pinned_frame m) (filter (λ row. eqb row.number n) (rows_of m)))
lacks_one m n told =
    sym (or_none (lacks_page m n)) ∙ lacking_pages m (n ∷ []) told
    ∙ ap (λ (rows : List MemoryObject). list_any (λ page. is_none (frame_now m page))
    (unpinned_pages (pinned_frame m) rows)) (rows_of_one m n)

-- how many of them are to be pinned
pub pages_of_one : (m : Memory) (n : ℕ) → ObjectsTell m.objects
    → new_pages m n ≡ length (unpinned_pages (pinned_frame m) (filter (λ row. eqb row.number n) (rows_of m)))
pages_of_one m n told = sym (one_new m n told)
    ∙ ap (λ (rows : List MemoryObject). length (unpinned_pages (pinned_frame m) rows)) (rows_of_one m n)

-- ---- whose it is

pub own_of_one : (m : Memory) (user : UserNo) (n : ℕ) (own : MemoryObject → Bool)
    → ((row : MemoryObject) → own row ≡ true → eqb row.user.0 user.0 ≡ true)
    → list_all (λ row. not (eqb row.number n) || own row) (rows_of m) ≡ true → are_of user (rows_at m (n ∷ [])) ≡ true
own_of_one m user n own is all = ap (are_of user) (rows_of_one m n) ∙ each (rows_of m) all
  where
    each : (rows : List MemoryObject) → list_all (λ row. not (eqb row.number n) || own row) rows ≡ true
        → are_of user (filter (λ row. eqb row.number n) rows) ≡ true
    each [] all = refl
    each (row ∷ rows) all =
        let parts = and_true (not (eqb row.number n) || own row)
        (list_all (λ row. not (eqb row.number n) || own row) rows) all in
        by_test (eqb row.number n) parts.0 (each rows parts.1)
      where
        by_test : (b : Bool) → (not b || own row) ≡ true → are_of user (filter (λ row. eqb row.number n) rows) ≡ true
            → are_of user (cond b (row ∷ filter (λ row. eqb row.number n) rows) (filter (λ row. eqb row.number n) rows))
            ≡ true
        by_test true here rest = let one = is row here in rw one rest
        by_test false here rest = rest

-- ---- under an area

-- the object of this number is the row that is found, and of this size in bytes
pub record IsFound (rows : List MemoryObject) (n bytes : ℕ) : Type 0 where
  pub object : MemoryObject
  pub found : find (λ (row : MemoryObject). eqb row.number n) rows ≡ Some object
  pub size : object.count * 4096 ≡ bytes

found_sized : (rows : List MemoryObject) (n size : ℕ) → have_own_numbers rows ≡ true
    → list_any (λ (m : MemoryObject). eqb m.number n && eqb (m.count * 4096) size) rows ≡ true → IsFound rows n size
found_sized [] n size own some = cc
found_sized (m ∷ rows) n size own some =
    let parts =
    and_true (not (list_any (λ (o : MemoryObject). eqb o.number m.number) rows)) (have_own_numbers rows) own in
    by_number (eqb m.number n) refl (eqb (m.count * 4096) size) refl some (not_true _ parts.0)
    (found_sized rows n size parts.1)
  where
    same : (a b c : ℕ) → eqb a b ≡ true → eqb c b ≡ true → eqb c a ≡ true
    same a b c one two = grind (arith, nat_tests)

    sizes : (a b : ℕ) → eqb a b ≡ true → a ≡ b
    sizes a b is = search (is, arith, nat_tests)

    by_number : (b : Bool) → eqb m.number n ≡ b → (c : Bool) → eqb (m.count * 4096) size ≡ c
        → ((b && c) || list_any (λ (o : MemoryObject). eqb o.number n && eqb (o.count * 4096) size) rows) ≡ true
        → list_any (λ (o : MemoryObject). eqb o.number m.number) rows ≡ false
        → (list_any (λ (o : MemoryObject). eqb o.number n && eqb (o.count * 4096) size) rows ≡ true
        → IsFound rows n size) → IsFound (m ∷ rows) n size
    by_number true is true sized some none later =
        record { object = m; found = rw is refl; size = sizes (m.count * 4096) size sized }
    by_number true is false other some none later =
        absurd (clash _ none (any_weaker (λ (o : MemoryObject). eqb o.number n && eqb (o.count * 4096) size)
        (λ (o : MemoryObject). eqb o.number m.number) rows
        (λ o passes. same m.number n o.number is (and_true (eqb o.number n) _ passes).0) some))
    by_number false is c sized some none later =
        let rest = later some in record { object = rest.object; found = rw is rest.found; size = rest.size }

-- the memory object under an area of the world, and that an area lies over it
module _ (at : ℕ) (w : World) (a : Area) (within : IsIn w.areas a) where
  pub object_under : ArePinned at w → IsFound w.memory a.memory (size_of a.span)
  object_under pinned = found_sized w.memory a.memory (size_of a.span) pinned.numbers
      (of_each (has_object w.memory) w.areas a pinned.sizes within)

  pub area_there : (kept : Memory) → PinsShown w.objects w.areas w.memory w.pins w.access_pins kept
      → 1 ≤ areas_over kept a.memory
  area_there kept shown =
      let counted = area_counted w.areas a within in let same = shown.areas a.memory in omega (arith, counted, same)

-- Changes of the objects that a contract sees: a pin less, an area less, pins more.
use Rattle.std.proofs.Common.{◌≡◌, ℕ, ◌+◌, ◌-◌, ◌≤◌, Bool, true, false, ◌&&◌, cond, eqb, leb, not, Option, Some, None}
use Rattle.std.proofs.Common.{List, [], ◌∷◌, map, refl, sym, ap, ◌∙◌, subst, arith, ⊎_elim}
use Rattle.std.specs.List.{filter, list_all}
use Rattle.std.proofs.lemmas.Bool.{and_parts, cases_Bool, eqb-true, leb-true, le-leb, ne_eqb}
use Rattle.mem_account.specs.Accounts.{is_user}
use Rattle.mem_account.specs.declared.Account.{Account}
use Rattle.memory_objects.specs.Backed.{AccountsMove}
use Rattle.memory_objects.specs.Objects.{MemoryEntry, all_unpinned, have_areas, have_pins, object_at, pinned_by}
use Rattle.memory_objects.specs.Objects.{pinned_less, row_of, rows_of, times_of, with_pages}
use Rattle.memory_objects.proofs.FramesSeen.{rows_unpinned}
use Rattle.memory_objects.proofs.Moved.{same_users}
use Rattle.memory_objects.proofs.OneObject.{times_one}
use Rattle.memory_objects.proofs.PinOne.{found_number}
use Rattle.user_memory.specs.Changes.{HasLess, never, once}
use Rattle.user_memory.specs.Invariant.{AccountsTell, ObjectsTell, is_kept}
use Rattle.user_memory.specs.Memory.{areas_in, pins_in}
use Rattle.user_memory.proofs.Found.{AreOwn, found_passes, own_numbers}
use Rattle.user_memory.proofs.Kept.{less_kept}
use Rattle.user_memory.proofs.Settled.{access_moved, StepOf, mapped_at, moved, unpinned_settles}
use Rattle.iofd_words.specs.declared.rows.UserPage.{UserPage}

-- ---- tests of all objects

pub all_mapped : (p q : MemoryEntry → Bool) (G : MemoryEntry → MemoryEntry)
    → ((o : MemoryEntry) → p o ≡ true → q (G o) ≡ true) → (objects : List MemoryEntry) → list_all p objects ≡ true
    → list_all q (map G objects) ≡ true
all_mapped p q G each [] all = refl
all_mapped p q G each (o ∷ objects) all =
    let parts = and_parts (p o) (list_all p objects) all in
    rw (each o parts.0) (all_mapped p q G each objects parts.1)

pub all_filtered : (p q : MemoryEntry → Bool) (objects : List MemoryEntry) → list_all p objects ≡ true
    → list_all p (filter q objects) ≡ true
all_filtered p q [] all = refl
all_filtered p q (o ∷ objects) all =
    let parts = and_parts (p o) (list_all p objects) all in
    let rest = all_filtered p q objects parts.1 in
    ⊎_elim (λ (kept : q o ≡ true). rw (kept, parts.0) rest) (λ (gone : q o ≡ false). rw gone rest) (cases_Bool (q o))

pub all_alike : (p q : MemoryEntry → Bool) → ((o : MemoryEntry) → q o ≡ p o) → (objects : List MemoryEntry)
    → list_all p objects ≡ true → list_all q objects ≡ true
all_alike p q same [] all = refl
all_alike p q same (o ∷ objects) all =
    let parts = and_parts (p o) (list_all p objects) all in
    let here = same o ∙ parts.0 in
    rw here (all_alike p q same objects parts.1)

-- ---- accounts

abbrev pub has_user : List Account → MemoryEntry → Bool
has_user accounts o = is_user accounts o.pages.pages.user.0

-- where as many pages of each user's are pinned, the accounts tell as they did
pub accounts_stay : (accounts : List Account) (old new : List MemoryEntry) → AccountsTell accounts old
    → ((user : ℕ) → pinned_by new user ≡ pinned_by old user) → list_all (has_user accounts) new ≡ true → ObjectsTell new
    → AccountsTell accounts new
accounts_stay accounts old new tell same users told = record {
  held = λ user known. tell.held user known ∙ sym (same user);
  users = users;
  told = told;
}

-- and where they moved with the pins
pub accounts_moved : (before after : List Account) (old new : List MemoryEntry) → AccountsTell before old
    → AccountsMove old new before after → list_all (has_user before) new ≡ true → ObjectsTell new
    → AccountsTell after new
accounts_moved before after old new tell move users told = record {
  held = λ user known.
      let was = sym (same_users before after move.count user) ∙ known in
      let held = tell.held user was in
      let moved = move.held user was in
      omega (arith, held, moved);
  users = all_alike (has_user before) (has_user after)
      (λ o. same_users before after move.count o.pages.pages.user.0) new users;
  told = told;
}

-- ---- a pin less

module _ (rows : List UserPage) (old : List MemoryEntry) (told : ObjectsTell old) (n : ℕ) where
  abbrev pub unpin : MemoryEntry → MemoryEntry
  unpin o = with_pages (pinned_less (times_of o.number (n ∷ [])) o.pages.pages) o

  pub unpin_kept : list_all is_kept (all_unpinned (n ∷ []) old) ≡ true
  unpin_kept = all_mapped is_kept is_kept unpin one old told.kept
    where
      one : (o : MemoryEntry) → is_kept o ≡ true → is_kept (unpin o) ≡ true
      one o kept = less_kept o (times_of o.number (n ∷ [])) kept

  pub unpin_steps : (k i : ℕ) → StepOf rows (object_at old k) (object_at (all_unpinned (n ∷ []) old) k) i
  unpin_steps k i =
      let P : Option MemoryEntry → Type 0 = λ b. StepOf rows (object_at old k) b i in
      subst P (sym (mapped_at unpin (λ o. refl) old k)) (by_object (object_at old k) refl)
    where
      by_object : (a : Option MemoryEntry) → object_at old k ≡ a → StepOf rows a (moved unpin a) i
      by_object None is = refl
      by_object (Some o) is =
          unpinned_settles rows o (found_passes is_kept old k o told.kept is) i (times_of o.number (n ∷ []))

  pins_less : (k : ℕ) → 1 ≤ pins_in (object_at old n)
      → pins_in (object_at (all_unpinned (n ∷ []) old) k) + once n k ≡ pins_in (object_at old k)
  pins_less k some =
      ap (λ b. pins_in b + once n k) (mapped_at unpin (λ o. refl) old k) ∙ by_object (object_at old k) refl
    where
      by_object : (a : Option MemoryEntry) → object_at old k ≡ a → pins_in (moved unpin a) + once n k ≡ pins_in a
      by_object None is =
          let other : eqb n k ≡ false = ne_eqb n k (λ same. let none = ap (λ m. pins_in (object_at old m)) same
          ∙ ap pins_in is in omega (arith, some, none)) in
          rw other refl
      by_object (Some o) is =
          let number = found_number old k o is in
          let times = times_one o.number n in
          by_test (eqb n o.number) (eqb n k) refl (ap (eqb n) number) times
          (λ same. ap (λ m. pins_in (object_at old m)) (eqb-true n k same) ∙ ap pins_in is)
        where
          by_test : (b c : Bool) → eqb n k ≡ c → b ≡ c → times_of o.number (n ∷ []) ≡ cond b 1 0
              → (eqb n k ≡ true → pins_in (object_at old n) ≡ o.pages.pages.table_pins)
              → o.pages.pages.table_pins - times_of o.number (n ∷ []) + cond c 1 0 ≡ o.pages.pages.table_pins
          by_test true true is same times here = let pins = here is in omega (arith, times, pins, some)
          by_test false false is same times here = omega (arith, times)
          by_test true false is same times here = cc
          by_test false true is same times here = cc

-- ---- what a pin less and an area less ask

-- of each object that is the one of its number among all
pub all_own : (all : List MemoryEntry) (p q : MemoryEntry → Bool)
    → ((o : MemoryEntry) → object_at all o.number ≡ Some o → p o ≡ true → q o ≡ true) → (objects : List MemoryEntry)
    → AreOwn all objects → list_all p objects ≡ true → list_all q objects ≡ true
all_own all p q each [] own passes = refl
all_own all p q each (o ∷ objects) own passes =
    let parts = and_parts (p o) (list_all p objects) passes in
    rw (each o own.0 parts.0) (all_own all p q each objects own.1 parts.1)

abbrev pub has_areas : MemoryEntry → Bool
has_areas o = leb 1 o.areas && leb o.pages.pages.table_pins o.areas

module _ (old : List MemoryEntry) (told : ObjectsTell old) (n : ℕ) where
  pub pins_there : 1 ≤ pins_in (object_at old n) → have_pins (n ∷ []) old ≡ true
  pins_there some = all_own old has_areas (λ o. leb (times_of o.number (n ∷ [])) o.pages.pages.table_pins) one old
      (own_numbers old told.memory.rising) told.memory.areas
    where
      one : (o : MemoryEntry) → object_at old o.number ≡ Some o → has_areas o ≡ true
          → leb (times_of o.number (n ∷ [])) o.pages.pages.table_pins ≡ true
      one o own has = le-leb (times_of o.number (n ∷ [])) o.pages.pages.table_pins
          (by_test (eqb n o.number) refl (times_one o.number n))
        where
          by_test : (b : Bool) → eqb n o.number ≡ b → times_of o.number (n ∷ []) ≡ cond b 1 0
              → times_of o.number (n ∷ []) ≤ o.pages.pages.table_pins
          by_test true is times = let pins = ap (λ m. pins_in (object_at old m)) (eqb-true n o.number is)
              ∙ ap pins_in own in omega (arith, times, pins, some)
          by_test false is times = omega (arith, times)

  pub areas_there : pins_in (object_at old n) + 1 ≤ areas_in (object_at old n) → have_areas (n ∷ []) old ≡ true
  areas_there some = all_own old has_areas (λ o. leb (o.pages.pages.table_pins + times_of o.number (n ∷ [])) o.areas)
      one old (own_numbers old told.memory.rising) told.memory.areas
    where
      one : (o : MemoryEntry) → object_at old o.number ≡ Some o → has_areas o ≡ true
          → leb (o.pages.pages.table_pins + times_of o.number (n ∷ [])) o.areas ≡ true
      one o own has =
          let parts = and_parts (leb 1 o.areas) (leb o.pages.pages.table_pins o.areas) has in
          let low = leb-true o.pages.pages.table_pins o.areas parts.1 in
          le-leb (o.pages.pages.table_pins + times_of o.number (n ∷ [])) o.areas
          (by_test low (eqb n o.number) refl (times_one o.number n))
        where
          by_test : o.pages.pages.table_pins ≤ o.areas → (b : Bool) → eqb n o.number ≡ b
              → times_of o.number (n ∷ []) ≡ cond b 1 0
              → o.pages.pages.table_pins + times_of o.number (n ∷ []) ≤ o.areas
          by_test low true is times =
              let pins = ap (λ m. pins_in (object_at old m)) (eqb-true n o.number is) ∙ ap pins_in own in
              let areas = ap (λ m. areas_in (object_at old m)) (eqb-true n o.number is) ∙ ap areas_in own in
              omega (arith, times, pins, areas, some)
          by_test low false is times = omega (arith, times, low)

-- ---- the rows that stay

-- where the objects' areas are left as they were, all rows stay
rows_stay : (all new : List MemoryEntry) → ((k : ℕ) → areas_in (object_at new k) ≡ areas_in (object_at all k))
    → (objects : List MemoryEntry) → AreOwn all objects → list_all has_areas objects ≡ true
    → filter (λ row. not (eqb (areas_in (object_at new row.number)) 0)) (rows_of objects) ≡ rows_of objects
rows_stay all new same [] own has = refl
rows_stay all new same (o ∷ objects) own has =
    let parts = and_parts (has_areas o) (list_all has_areas objects) has in
    let first = and_parts (leb 1 o.areas) (leb o.pages.pages.table_pins o.areas) parts.0 in
    let some = leb-true 1 o.areas first.0 in
    let areas = same o.number ∙ ap areas_in own.0 in
    let there : eqb (areas_in (object_at new o.number)) 0 ≡ false =
    ne_eqb (areas_in (object_at new o.number)) 0 (λ e. omega (arith, areas, some, e)) in
    rw there (ap (λ rest. row_of o ∷ rest) (rows_stay all new same objects own.1 parts.1))

module _ (rows : List UserPage) (old_limits new_limits : List ℕ) (old : List MemoryEntry)
    (told : ObjectsTell old) (n : ℕ) where
  areas_unpinned : (k : ℕ) → areas_in (object_at (all_unpinned (n ∷ []) old) k) ≡ areas_in (object_at old k)
  areas_unpinned k = ap areas_in (mapped_at (unpin rows old told n) (λ o. refl) old k) ∙ by_object (object_at old k)
    where
      by_object : (a : Option MemoryEntry) → areas_in (moved (unpin rows old told n) a) ≡ areas_in a
      by_object None = refl
      by_object (Some o) = refl

  pub unpin_less : 1 ≤ pins_in (object_at old n)
      → HasLess never (once n) (record { pages = rows; limits = old_limits; objects = old; room = 0 }) (record {
        pages = rows;
        limits = new_limits;
        objects = all_unpinned (n ∷ []) old;
        room = 0;
      })
  unpin_less some = record {
    rows = rows_unpinned (n ∷ []) old ∙ sym (rows_stay old (all_unpinned (n ∷ []) old) areas_unpinned old
        (own_numbers old told.memory.rising) told.memory.areas);
    areas = λ k. let same = areas_unpinned k in omega (arith, same);
    pins = λ k. pins_less rows old told n k some;
    access = λ page. access_moved (unpin rows old told n) (λ o. refl) (λ o i. refl) old page.memory page.index;
  }

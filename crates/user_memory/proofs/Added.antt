-- A memory object more.
use Rattle.std.proofs.Common.{◌≡◌, ℕ, ◌+◌, ◌^◌, ◌*◌, ◌<◌, ◌≤◌, Bool, true, false, ◌&&◌, cond, eqb, ltb, leb, Option}
use Rattle.std.proofs.Common.{Some, None, List, [], ◌∷◌, ◌++◌, ◌||◌, length, refl, sym, ap, ◌∙◌, subst, arith}
use Rattle.std.specs.List.{filter_map, list_all, range_with_len, slice_get}
use Rattle.std.proofs.lemmas.Bool.Decides.{nat_tests}
use Rattle.std.proofs.lemmas.Bool.{and_from, and_parts, eq-eqb, eqb-true, le-leb, ltb-true, ne_eqb}
use Rattle.std.proofs.lemmas.List.Folds.{list_all-append}
use Rattle.iofd_words.specs.Frames.{frame_at, has_pages}
use Rattle.iofd_words.specs.Pages.{page_of}
use Rattle.iofd_words.specs.declared.rows.MemoryObject.{MemoryObject}
use Rattle.iofd_words.specs.declared.rows.UserPage.{UserPage}
use Rattle.frame_memory.specs.Pool.{FramePool}
use Rattle.mem_account.specs.Accounts.{held_by, is_user, limit_of}
use Rattle.mem_account.specs.declared.Account.{Account}
use Rattle.pinned_pages.specs.Holds.{HasMoreHolds, times}
use Rattle.memory_objects.specs.Invariant.{MemoryInvariant}
use Rattle.memory_objects.specs.Objects.{MemoryEntry, access_pins_in, are_below, object_at, row_of, rows_of}
use Rattle.pinned_pages.specs.Pages.{MemoryPages, ObjectPages, frame_of, held_frames, pinned_count}
use Rattle.pinned_pages.proofs.Runs.{mapped_at, none_mapped, same_mapped}
use Rattle.memory_objects.proofs.Ledger.{charged_held, length-held, same_limits}
use Rattle.memory_objects.proofs.Moved.{same_users}
use Rattle.memory_objects.proofs.PinsStay.{object_appended, pinned_appended, pins_appended}
use Rattle.pinned_pages.proofs.UsersPages.{all_framed}
use Rattle.user_memory.specs.Adding.{MayPin, charged_for, frames_of, pages_for}
use Rattle.user_memory.specs.Changes.{HasObject, Settles}
use Rattle.user_memory.specs.Invariant.{AccountsTell, is_kept}
use Rattle.user_memory.specs.Memory as memory
use Rattle.user_memory.specs.Memory.{IsBacked, areas_in, pins_in}
use Rattle.user_memory.proofs.Follow.{pages_within, room_for_pins}
use Rattle.user_memory.proofs.Found.{found_passes}
use Rattle.user_memory.proofs.Moves.{all_alike, has_user}
use Rattle.user_memory.proofs.Settled.{StepOf, memory_of, settle, step_same}
use Rattle.user_memory.proofs.Users.{limits_of, limits_stay, room_seen}

-- ---- what it asks

pub may_pin : (rows : List UserPage) (accounts : List Account) (old : List MemoryEntry)
    (tell : AccountsTell accounts old) (holds : List ℕ) (row : MemoryObject) → row.va + row.count * 4096 ≤ 2 ^ 48
    → has_pages (frame_at rows) row.user (page_of row.va) row.count ≡ true
    → memory.has_room (memory_of rows (limits_of accounts) old) row.user row.count ≡ true
    → IsBacked (memory_of rows (limits_of accounts) old) holds → length rows < 2 ^ 64 → length old < 2 ^ 64
    → MayPin rows holds accounts row
may_pin rows accounts old tell holds row end present room backed few_pages few_objects =
    let both = sym (room_seen rows accounts old row.user tell row.count) ∙ room in
    let parts = and_parts (is_user accounts row.user.0)
    (leb (held_by accounts row.user.0 + row.count) (limit_of accounts row.user.0)) both in
    record {
      within = pages_within rows holds (λ f. let least = backed.least f in omega (arith, least));
      holds = room_for_pins (memory_of rows (limits_of accounts) old) holds row.count backed tell.told.kept few_pages
          few_objects (omega (arith, end));
      user = parts.0;
      present = present;
      room = parts.1;
    }

pub rises_told : (objects : List MemoryEntry) (number : ℕ)
    → list_all (λ (other : MemoryObject). ltb other.number number) (rows_of objects) ≡ true
    → are_below objects number ≡ true
rises_told [] number all = refl
rises_told (o ∷ objects) number all =
    let parts = and_parts (ltb o.number number)
    (list_all (λ (other : MemoryObject). ltb other.number number) (rows_of objects)) all in
    rw parts.0 (rises_told objects number parts.1)

none_at : (objects : List MemoryEntry) (number : ℕ) → are_below objects number ≡ true → object_at objects number ≡ None
none_at [] number below = refl
none_at (o ∷ objects) number below =
    let parts = and_parts (ltb o.number number) (are_below objects number) below in
    let low = ltb-true o.number number parts.0 in
    let other : eqb o.number number ≡ false = ne_eqb o.number number (λ e. omega (arith, low, e)) in
    rw other (none_at objects number parts.1)

-- ---- the object

module _ (rows : List UserPage) (row : MemoryObject) (pinned : Bool) (capacity spare : ℕ) (present : pinned ≡ true
    → has_pages (frame_at rows) row.user (page_of row.va) row.count ≡ true) where
  -- as it stands in the list
  abbrev pub entry_of : MemoryEntry
  entry_of = record {
    number = row.number;
    areas = 1;
    pages = record { pages = pages_for rows row pinned; capacity = capacity; room = spare };
  }

  framed : length (cond pinned (frames_of rows row) []) ≡ cond pinned row.count 0
  framed = by_pinned pinned present
    where
      by_pinned : (b : Bool) → (b ≡ true → has_pages (frame_at rows) row.user (page_of row.va) row.count ≡ true)
          → length (cond b (frames_of rows row) []) ≡ cond b row.count 0
      by_pinned true there = all_framed rows row.user (page_of row.va) row.count (there refl)
      by_pinned false there = refl

  entry_kept : row.count ≤ 2 ^ 36 → is_kept entry_of ≡ true
  entry_kept few =
      and_from (leb row.count (2 ^ 36)) (eqb (length (cond pinned (frames_of rows row) []))
      (cond (eqb (cond pinned 1 0) 0) 0 row.count) && true)
      (le-leb row.count (2 ^ 36) few)
      (and_from (eqb (length (cond pinned (frames_of rows row) [])) (cond (eqb (cond pinned 1 0) 0) 0 row.count)) true
      (eq-eqb (length (cond pinned (frames_of rows row) [])) (cond (eqb (cond pinned 1 0) 0) 0 row.count) (framed
      ∙ by_pinned pinned)) refl)
    where
      by_pinned : (b : Bool) → cond b row.count 0 ≡ cond (eqb (cond b 1 0) 0) 0 row.count
      by_pinned true = refl
      by_pinned false = refl

  entry_frame : (i : ℕ) → frame_of (pages_for rows row pinned) i
      ≡ cond pinned (cond (ltb i row.count) (frame_at rows row.user (page_of row.va + i)) None) None
  entry_frame i = by_pinned pinned present
    where
      by_pinned : (b : Bool) → (b ≡ true → has_pages (frame_at rows) row.user (page_of row.va) row.count ≡ true)
          → slice_get (cond b (frames_of rows row) []) i
          ≡ cond b (cond (ltb i row.count) (frame_at rows row.user (page_of row.va + i)) None) None
      by_pinned true there =
          let same : 0 + i ≡ i = omega arith in
          mapped_at (λ k. frame_at rows row.user (page_of row.va + k)) 0 row.count i (there refl)
          ∙ ap (λ k. cond (ltb i row.count) (frame_at rows row.user (page_of row.va + k)) None) same
      by_pinned false there = refl

  entry_held : held_frames (pages_for rows row pinned) ≡ cond pinned (frames_of rows row) []
  entry_held =
      same_mapped (frame_of (pages_for rows row pinned))
      (λ i. cond pinned (frame_at rows row.user (page_of row.va + i)) None) 0 row.count
      (λ i low high.
      let within : ltb i row.count ≡ true = grind (arith, nat_tests) in
      entry_frame i ∙ ap (λ b. cond pinned (cond b (frame_at rows row.user (page_of row.va + i)) None) None) within)
      ∙ by_pinned pinned
    where
      by_pinned : (b : Bool) → filter_map (λ i. cond b (frame_at rows row.user (page_of row.va + i)) None)
          (range_with_len 0 row.count) ≡ cond b (frames_of rows row) []
      by_pinned true = refl
      by_pinned false = none_mapped (λ i. None) 0 row.count (λ i low high. refl)

  entry_step : (i : ℕ) → StepOf rows None (Some entry_of) i
  entry_step i = entry_frame i ∙ by_pinned pinned (ltb i row.count)
    where
      by_pinned : (b c : Bool) → cond b (cond c (frame_at rows row.user (page_of row.va + i)) None) None
          ≡ cond (c && (ltb 0 (cond b 1 0) || false)) (frame_at rows row.user (page_of row.va + i)) None
      by_pinned true true = refl
      by_pinned true false = refl
      by_pinned false true = refl
      by_pinned false false = refl

-- without a pin none of its pages is pinned
pub none_pinned : (rows : List UserPage) (row : MemoryObject) (pinned : Bool) → cond {A = ℕ} pinned 1 0 ≡ 0
    → pinned_count (pages_for rows row pinned) ≡ 0
none_pinned rows row true none = absurd (omega (arith, none))
none_pinned rows row false none =
    ap length (none_mapped (frame_of (pages_for rows row false)) 0 row.count (λ i low high. refl))

-- ---- the objects with it

module _ (rows : List UserPage) (accounts : List Account) (old : List MemoryEntry) (tell : AccountsTell accounts old)
    (row : MemoryObject) (pinned : Bool) (capacity spare : ℕ) (present : pinned ≡ true
    → has_pages (frame_at rows) row.user (page_of row.va) row.count ≡ true) (below : are_below old
    row.number ≡ true) where
  abbrev pub entry : MemoryEntry
  entry = entry_of rows row pinned capacity spare present

  abbrev pub with_entry : List MemoryEntry
  with_entry = old ++ entry ∷ []

  found_with : (k : ℕ) → object_at with_entry k ≡ cond (eqb row.number k) (Some entry) (object_at old k)
  found_with k = object_appended old entry k below

  none_before : (k : ℕ) → eqb row.number k ≡ true → object_at old k ≡ None
  none_before k here = ap (object_at old) (sym (eqb-true row.number k here)) ∙ none_at old row.number below

  add_steps : (k i : ℕ) → StepOf rows (object_at old k) (object_at with_entry k) i
  add_steps k i =
      let P : Option MemoryEntry → Type 0 = λ b. StepOf rows (object_at old k) b i in
      subst P (sym (found_with k)) (by_test (eqb row.number k) (none_before k))
    where
      by_test : (b : Bool) → (b ≡ true → object_at old k ≡ None)
          → StepOf rows (object_at old k) (cond b (Some entry) (object_at old k)) i
      by_test true none = let Q : Option MemoryEntry → Type 0 =
          λ a. StepOf rows a (Some entry) i in subst Q (sym (none refl)) (entry_step rows row pinned capacity spare
          present i)
      by_test false none = step_same rows (object_at old k) i (λ o is. found_passes is_kept old k o tell.told.kept is)

  pub add_object : (old_limits new_limits : List ℕ)
      → HasObject (cond pinned 1 0) row (memory_of rows old_limits old) (memory_of rows new_limits with_entry)
  add_object old_limits new_limits = record {
    rows = rows_with old;
    areas = λ k. ap areas_in (found_with k) ∙ by_areas k (eqb row.number k) (none_before k);
    pins = λ k. ap pins_in (found_with k) ∙ by_pins k (eqb row.number k) (none_before k);
    access = λ page. ap (λ o. access_pins_in o page.index) (found_with page.memory)
        ∙ by_access page.memory page.index (eqb row.number page.memory) (none_before page.memory);
  }
    where
      rows_with : (xs : List MemoryEntry) → rows_of (xs ++ entry ∷ []) ≡ rows_of xs ++ row ∷ []
      rows_with [] = refl
      rows_with (x ∷ xs) = ap (λ rest. row_of x ∷ rest) (rows_with xs)

      by_access : (k i : ℕ) (b : Bool) → (b ≡ true → object_at old k ≡ None)
          → access_pins_in (cond b (Some entry) (object_at old k)) i ≡ access_pins_in (object_at old k) i
      by_access k i true none = rw (none refl) refl
      by_access k i false none = refl

      by_areas : (k : ℕ) (b : Bool) → (b ≡ true → object_at old k ≡ None)
          → areas_in (cond b (Some entry) (object_at old k)) ≡ areas_in (object_at old k) + cond b 1 0
      by_areas k true none = rw (none refl) refl
      by_areas k false none = omega arith

      by_pins : (k : ℕ) (b : Bool) → (b ≡ true → object_at old k ≡ None)
          → pins_in (cond b (Some entry) (object_at old k)) ≡ pins_in (object_at old k) + cond b (cond pinned 1 0) 0
      by_pins k true none = rw (none refl) (omega arith)
      by_pins k false none = omega arith

  -- ---- the accounts

  module _ (known : is_user accounts row.user.0 ≡ true) where
    charged_count : length (charged_for accounts row pinned) ≡ length accounts
    charged_count = by_pinned pinned
      where
        by_pinned : (b : Bool) → length (charged_for accounts row b) ≡ length accounts
        by_pinned true = length-held accounts row.user.0 (held_by accounts row.user.0 + row.count) known
        by_pinned false = refl

    pub charged_limits : limits_of (charged_for accounts row pinned) ≡ limits_of accounts
    charged_limits =
        limits_stay accounts (charged_for accounts row pinned) charged_count (λ user. by_pinned user pinned)
      where
        by_pinned : (user : ℕ) (b : Bool) → limit_of (charged_for accounts row b) user ≡ limit_of accounts user
        by_pinned user true = same_limits accounts row.user.0 (held_by accounts row.user.0 + row.count) known user
        by_pinned user false = refl

    charged_by : (user : ℕ) → is_user accounts user ≡ true
        → held_by (charged_for accounts row pinned) user ≡ held_by accounts user
        + cond (eqb row.user.0 user) (cond pinned row.count 0) 0
    charged_by user one = by_pinned pinned
      where
        same_both : (b : Bool) (n : ℕ) → cond b n n ≡ n
        same_both true n = refl
        same_both false n = refl

        by_pinned : (b : Bool) → held_by (charged_for accounts row b) user ≡ held_by accounts user
            + cond (eqb row.user.0 user) (cond b row.count 0) 0
        by_pinned true = charged_held accounts row.user.0 row.count user known one
        by_pinned false = let none = same_both (eqb row.user.0 user) 0 in omega (arith, none)

    pub add_tell : row.count ≤ 2 ^ 36 → MemoryInvariant with_entry
        → AccountsTell (charged_for accounts row pinned) with_entry
    add_tell few kept = record {
      held = λ user there.
          let was = sym (same_users accounts (charged_for accounts row pinned) charged_count user) ∙ there in
          let held = tell.held user was in
          let charge = charged_by user was in
          let more = pinned_appended old entry user in
          let same = ap (λ n. cond (eqb row.user.0 user) n 0) (ap length (entry_held rows row pinned capacity spare
          present) ∙ framed rows row pinned capacity spare present) in
          omega (arith, held, charge, more, same);
      users = all_alike (has_user accounts) (has_user (charged_for accounts row pinned))
          (λ o. same_users accounts (charged_for accounts row pinned) charged_count o.pages.pages.user.0) with_entry
          (list_all-append (has_user accounts) old (entry ∷ []) ∙ rw (tell.users, known) refl);
      told = record {
        memory = kept;
        kept = list_all-append is_kept old (entry ∷ [])
            ∙ both (list_all is_kept old) (is_kept entry) tell.told.kept
            (entry_kept rows row pinned capacity spare present few);
      };
    }
      where
        both : (a b : Bool) → a ≡ true → b ≡ true → (a && (b && true)) ≡ true
        both a b one two = rw (one, two) refl

  pub add_settles : (new_limits : List ℕ) (before after : FramePool) → new_limits ≡ limits_of accounts
      → HasMoreHolds before after (cond pinned (frames_of rows row) [])
      → MemoryInvariant with_entry → Settles (memory_of rows (limits_of accounts) old)
      (memory_of rows new_limits with_entry) before after
  add_settles new_limits before after same more kept =
      settle rows (limits_of accounts) new_limits old with_entry before after same
      tell.told.memory.rising add_steps more.count
      (λ frame. let holds = more.holds frame in let named = pins_appended old entry frame in
      let own = ap (times frame) (entry_held rows row pinned capacity spare present) in
      omega (arith, holds, named, own)) more.bytes kept

-- the objects that the call leaves
pub added_is : (rows : List UserPage) (row : MemoryObject) (pinned : Bool) (reserved old new : List MemoryEntry)
    (pages : MemoryPages) → new ≡ reserved ++ record { number = row.number; areas = 1; pages = pages } ∷ []
    → reserved ≡ old → pages.pages ≡ pages_for rows row pinned
    → new ≡ old ++ record {
      number = row.number;
      areas = 1;
      pages = record { pages = pages_for rows row pinned; capacity = pages.capacity; room = pages.room };
    } ∷ []
added_is rows row pinned reserved old new pages is same made =
    is ∙ ap (λ xs. xs ++ record { number = row.number; areas = 1; pages = pages } ∷ []) same
    ∙ ap (λ (p : ObjectPages). old ++ record {
      number = row.number;
      areas = 1;
      pages = record { pages = p; capacity = pages.capacity; room = pages.room };
    } ∷ []) made

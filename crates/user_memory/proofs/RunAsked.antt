-- What pins by accesses of a run ask: that its pages are there, room in the user's account, and memory.
use Rattle.std.proofs.Common.{◌≡◌, ℕ, zero, suc, ◌+◌, ◌<◌, ◌≤◌, ◌^◌, Bool, true, false, ◌&&◌, cond, eqb, leb, IfSome}
use Rattle.std.proofs.Common.{Option, Some, None, List, [], ◌∷◌, length, refl, sym, ap, ◌∙◌, arith}
use Rattle.std.specs.Prelude.{is_none}
use Rattle.std.specs.List.{count_by, find, list_any, range_with_len}
use Rattle.std.proofs.lemmas.Bool.{and_parts, eqb-true, leb-true, not-false}
use Rattle.std.proofs.lemmas.Bool.Decides.{nat_tests}
use Rattle.std.proofs.lemmas.List.{length-map}
use Rattle.std.proofs.lemmas.List.FromFn.{length-range_with_len}
use Rattle.std.proofs.lemmas.List.Sums.{count_by-le-length, sum_by-cons}
use Rattle.iofd_words.specs.Pins.{ObjectPage}
use Rattle.iofd_words.specs.declared.rows.MemoryObject.{MemoryObject}
use Rattle.iofd_words.specs.declared.rows.UserPage.{UserPage}
use Rattle.mem_account.specs.Accounts.{has_room, held_by, is_user, limit_of}
use Rattle.mem_account.specs.declared.Account.{Account}
use Rattle.memory_objects.specs.Invariant.{MemoryInvariant}
use Rattle.memory_objects.specs.Objects.{MemoryEntry, SamePins, access_pins_in, object_at, passes, rows_of}
use Rattle.memory_objects.specs.Runs.{CanPinRun, RoomGrows, covers, has_room_for, lies_within, run_count_in}
use Rattle.memory_objects.specs.Runs.{run_is_there}
use Rattle.memory_objects.specs.declared.run.PageRun.{PageRun}
use Rattle.memory_objects.proofs.Invariants.{row_found, rows_found}
use Rattle.memory_objects.proofs.RunOne.{become}
use Rattle.pinned_pages.specs.Accesses.{run_count, run_is_present}
use Rattle.pinned_pages.specs.Pages.{access_pins, frame_of}
use Rattle.pinned_pages.proofs.Runs.{in_run}
use Rattle.user_memory.specs.Invariant.{AccountsTell, is_kept}
use Rattle.user_memory.specs.Memory as memory
use Rattle.user_memory.specs.Memory.{IsBacked, Memory, new_in_runs, run_lies}
use Rattle.user_memory.proofs.Follow.{pages_within, room_for_pins}
use Rattle.user_memory.proofs.Found.{found_passes, kept_count}
use Rattle.user_memory.proofs.Moves.{has_user}
use Rattle.user_memory.proofs.RunPages.{covered, lacking_told, lies_told, run_count_told}
use Rattle.user_memory.proofs.RunPins.{seen_grown}
use Rattle.user_memory.proofs.Settled.{memory_of}
use Rattle.user_memory.proofs.Users.{limits_of, room_seen}

-- ---- the run's object

passes_if : (test : MemoryEntry → Bool) (a : Option MemoryEntry) → ((o : MemoryEntry) → a ≡ Some o → test o ≡ true)
    → passes test a ≡ true
passes_if test None each = refl
passes_if test (Some o) each = each o refl

-- ---- what a pin asks

module _ (rows : List UserPage) (accounts : List Account) (old : List MemoryEntry) (tell : AccountsTell accounts old)
    (run : PageRun) (lies : run_lies (memory_of rows (limits_of accounts) old) run ≡ true) where
  abbrev m : Memory
  m = memory_of rows (limits_of accounts) old

  its_lies : lies_within run (object_at old run.number) ≡ true
  its_lies = sym (lies_told run old tell.told.memory.rising) ∙ lies

  its_count : run_count_in run (object_at old run.number) ≡ length (new_in_runs m (run ∷ []))
  its_count = run_count_told m run tell.told.memory.rising its_lies

  its_few : run_count_in run (object_at old run.number) ≤ 2 ^ 36
  its_few = by_object (object_at old run.number) refl its_lies
    where
      by_object : (a : Option MemoryEntry) → object_at old run.number ≡ a → lies_within run a ≡ true
          → run_count_in run a ≤ 2 ^ 36
      by_object None is within = omega arith
      by_object (Some o) is within =
          let all = count_by-le-length (λ i. is_none (frame_of o.pages.pages i))
          (range_with_len run.first run.count) in
          let long = length-range_with_len run.first run.count in
          let low = leb-true (run.first + run.count) o.pages.pages.count within in
          let few = kept_count o (found_passes is_kept old run.number o tell.told.kept is) in
          omega (arith, all, long, low, few)

  its_room : IfSome (find (λ (row : MemoryObject). eqb row.number run.number) (rows_of old))
      (λ row. memory.has_room m row.user (length (new_in_runs m (run ∷ []))) ≡ true)
      → passes (λ o. has_room accounts o.pages.pages.user.0 (run_count o.pages.pages run.first run.count))
      (object_at old run.number) ≡ true
  its_room room = by_object (object_at old run.number) (rw (rows_found old run.number) at room) its_count
    where
      by_object : (a : Option MemoryEntry)
          → IfSome (row_found a) (λ row. memory.has_room m row.user (length (new_in_runs m (run ∷ []))) ≡ true)
          → run_count_in run a ≡ length (new_in_runs m (run ∷ []))
          → passes (λ o. has_room accounts o.pages.pages.user.0 (run_count o.pages.pages run.first run.count)) a ≡ true
      by_object None holds count = refl
      by_object (Some o) holds count =
          let user = o.pages.pages.user in
          let k = length (new_in_runs m (run ∷ [])) in
          let both = sym (room_seen rows accounts old user tell k) ∙ holds in
          let parts = and_parts (is_user accounts user.0)
          (leb (held_by accounts user.0 + k) (limit_of accounts user.0)) both in
          ap (λ n. leb (held_by accounts user.0 + n) (limit_of accounts user.0)) count ∙ parts.1

  its_user : passes (has_user accounts) (object_at old run.number) ≡ true
  its_user = passes_if (has_user accounts) (object_at old run.number)
      (λ o is. found_passes (has_user accounts) old run.number o tell.users is)

  pub run_allowed : (grown : List MemoryEntry) (holds : List ℕ) → (grows : RoomGrows run.number old grown)
      → SamePins old grown → MemoryInvariant grown → rows_of grown ≡ rows_of old
      → passes (has_room_for run) (object_at grown run.number) ≡ true
      → list_any (λ page. is_none (memory.frame_now m page)) (new_in_runs m (run ∷ [])) ≡ false
      → IfSome (find (λ (row : MemoryObject). eqb row.number run.number) (rows_of old))
      (λ row. memory.has_room m row.user (length (new_in_runs m (run ∷ []))) ≡ true)
      → ((page : ObjectPage) → covers run page.memory page.index ≡ true → memory.access_pins m page + 1 < 2 ^ 64)
      → IsBacked m holds → length rows < 2 ^ 64 → length grown < 2 ^ 64
      → CanPinRun grown run rows holds accounts
  run_allowed grown holds grows same kept rows_are enough present room few backed few_pages few_objects =
      let count : run_count_in run (object_at grown run.number) ≡ run_count_in run (object_at old run.number) =
      seen_grown rows (limits_of accounts) run.number old grown grows same kept (run_count_in run)
      (λ pages. run_count pages run.first run.count) (λ o. refl) in
      record {
        within = pages_within rows holds (λ f. let least = backed.least f in omega (arith, least));
        lies = sym (lies_told run grown kept.rising) ∙ ap (list_any (λ (row : MemoryObject).
            eqb row.number run.number && leb (run.first + run.count) row.count)) rows_are ∙ lies;
        present = seen_grown rows (limits_of accounts) run.number old grown grows same kept
            (passes (run_is_there rows run)) (λ pages. run_is_present pages rows run.first run.count) (λ o. refl)
            ∙ not-false (passes (run_is_there rows run) (object_at old run.number))
            (sym (lacking_told m run tell.told.memory.rising its_lies) ∙ present);
        memory = enough;
        user = seen_grown rows (limits_of accounts) run.number old grown grows same kept
            (passes (has_user accounts)) (λ pages. is_user accounts pages.user.0) (λ o. refl) ∙ its_user;
        room = seen_grown rows (limits_of accounts) run.number old grown grows same kept
            (passes (λ o. has_room accounts o.pages.pages.user.0 (run_count o.pages.pages run.first run.count)))
            (λ pages. has_room accounts pages.user.0 (run_count pages run.first run.count)) (λ o. refl)
            ∙ its_room room;
        holds = room_for_pins m holds (run_count_in run (object_at grown run.number)) backed tell.told.kept few_pages
            (omega (arith, few_objects, long)) (omega (arith, count, its_few));
        pins = λ index within.
            let here = few (record { memory = run.number; index = index }) (covered run index within) in
            let pins = same.access run.number index in
            omega (arith, here, pins);
      }
    where
      long : length grown ≡ length old
      long = ap length grows.objects ∙ length-map old (become run.number grows.pages)

-- ---- memory is wanting

-- one of so many numbers that passes a test
record IsCounted (p : ℕ → Bool) (from n : ℕ) : Type 0 where
  at : ℕ
  low : from ≤ at
  high : at < from + n
  passes_test : p at ≡ true

some_counted : (p : ℕ → Bool) (from n : ℕ) → 0 < count_by p (range_with_len from n) → IsCounted p from n
some_counted p from zero some = absurd (omega (arith, some))
some_counted p from (suc n) some =
    by_test (p from) refl (sum_by-cons (λ i. cond (p i) 1 0) from (range_with_len (from + 1) n))
    (some_counted p (from + 1) n)
  where
    by_test : (b : Bool) → p from ≡ b → count_by p (range_with_len from (suc n))
        ≡ cond (p from) 1 0 + count_by p (range_with_len (from + 1) n)
        → (0 < count_by p (range_with_len (from + 1) n) → IsCounted p (from + 1) n) → IsCounted p from (suc n)
    by_test true is sum rest = record { at = from; low = omega arith; high = omega arith; passes_test = is }
    by_test false is sum rest =
        let none = ap {B = ℕ} (λ b. cond b 1 0) is in
        let later = rest (omega (arith, some, sum, none)) in
        record {
          at = later.at;
          low = omega (arith, later.low);
          high = omega (arith, later.high);
          passes_test = later.passes_test;
        }

-- then no access pins some page of the run
pub run_lacked : (m : Memory) (run : PageRun) → passes (has_room_for run) (object_at m.objects run.number) ≡ false
    → (page : ObjectPage) × (covers run page.memory page.index ≡ true) × (memory.access_pins m page ≡ 0)
run_lacked m run lacks = by_object (object_at m.objects run.number) refl lacks
  where
    by_object : (a : Option MemoryEntry) → object_at m.objects run.number ≡ a → passes (has_room_for run) a ≡ false
        → (page : ObjectPage) × (covers run page.memory page.index ≡ true) × (memory.access_pins m page ≡ 0)
    by_object None is none = cc
    by_object (Some o) is none =
        let some : 0 < count_by (λ i. eqb (access_pins o.pages.pages i) 0) (range_with_len run.first run.count) =
        above (count_by (λ i. eqb (access_pins o.pages.pages i) 0) (range_with_len run.first run.count))
        o.pages.room none in
        let one = some_counted (λ i. eqb (access_pins o.pages.pages i) 0) run.first run.count some in (
          record { memory = run.number; index = one.at },
          covered run one.at (in_run run.first run.count one.at one.low one.high),
          ap (λ x. access_pins_in x one.at) is ∙ eqb-true (access_pins o.pages.pages one.at) 0 one.passes_test,
        )
      where
        above : (a b : ℕ) → leb a b ≡ false → 0 < a
        above a b less = grind (arith, nat_tests)

-- A loop over areas that let go of their memory objects, one after another.
use Rattle.std.proofs.Common.{◌≡◌, ℕ, ◌+◌, ◌≤◌, Bool, true, false, cond, eqb, List, [], ◌∷◌, refl, arith}
use Rattle.std.proofs.lemmas.Bool.Decides.{nat_tests}
use Rattle.frame_memory.specs.Pool.{FramePool}
use Rattle.iofd_words.specs.declared.rows.Area.{Area}
use Rattle.user_memory_rows.proofs.CountBy.{count-cons}
use Rattle.user_memory_rows.proofs.Released.{less_none, may_further, released_as, released_further, settles_none}
use Rattle.user_memory_rows.specs.Moves.{IsReleased, MayRelease, if_translated}
use Rattle.user_memory_rows.specs.Shown.{over}
use Rattle.user_memory.specs.Changes.{HasLess, Settles, never, once}
use Rattle.user_memory.specs.Memory.{Memory, areas_over, table_pins}

-- some of the areas have let go, and the others may: of their pins where they are translated, and of their objects
-- where they go
pub record AreGoing (gone : List Area → ℕ → ℕ) (pins : List Area → ℕ
    → ℕ) (all left : List Area) (first now : Memory) (before between : FramePool) : Type 0 where
  pub areas_done : ℕ → ℕ
  pub pins_done : ℕ → ℕ
  pub areas_sum : (n : ℕ) → areas_done n + gone left n ≡ gone all n
  pub pins_sum : (n : ℕ) → pins_done n + pins left n ≡ pins all n
  pub released : IsReleased areas_done pins_done first now before between
  pub may : MayRelease (gone left) (pins left) now between.holds

module _ (gone pins : List Area → ℕ → ℕ) where
  pub going_first : (all : List Area) (first : Memory) (before : FramePool)
      → MayRelease (gone all) (pins all) first before.holds → AreGoing gone pins all all first first before before
  going_first all first before may = record {
    areas_done = never;
    pins_done = never;
    areas_sum = λ n. omega arith;
    pins_sum = λ n. omega arith;
    released =
        record { less = less_none first may.invariant; settles = settles_none first before may.invariant may.only };
    may = may;
  }

  -- one area more
  pub going_further : (all left rest : List Area) (some_areas some_pins : ℕ
      → ℕ) (first now next : Memory) (before between after : FramePool)
      → ((n : ℕ) → gone left n ≡ some_areas n + gone rest n) → ((n : ℕ) → pins left n ≡ some_pins n + pins rest n)
      → AreGoing gone pins all left first now before between → HasLess some_areas some_pins now next
      → Settles now next between after
      → AreGoing gone pins all rest first next before after
  going_further all left rest some_areas some_pins first now next before between after areas_are pins_are
      going less settles = record {
        areas_done = λ n. going.areas_done n + some_areas n;
        pins_done = λ n. going.pins_done n + some_pins n;
        areas_sum = λ n. sum (going.areas_done n) (some_areas n) (gone rest n) (gone left n) (gone all n)
            (areas_are n) (going.areas_sum n);
        pins_sum = λ n. sum (going.pins_done n) (some_pins n) (pins rest n) (pins left n) (pins all n)
            (pins_are n) (going.pins_sum n);
        released = released_further going.areas_done going.pins_done some_areas some_pins first now next before between
            after going.released.less less going.released.settles settles;
        may = may_further (gone left) (pins left) some_areas some_pins (gone rest) (pins rest) now next between after
            going.may areas_are pins_are less settles;
      }
    where
      sum : (d s r l a : ℕ) → l ≡ s + r → d + l ≡ a → d + s + r ≡ a
      sum d s r l a is all = omega (arith, is, all)

  -- all have
  pub going_last : (all : List Area) (first now : Memory) (before between : FramePool) → ((n : ℕ) → gone [] n ≡ 0)
      → ((n : ℕ) → pins [] n ≡ 0) → AreGoing gone pins all [] first now before between
      → IsReleased (gone all) (pins all) first now before between
  going_last all first now before between no_areas no_pins going =
      released_as going.areas_done going.pins_done (gone all) (pins all) first now before between
      (λ n. done (going.areas_done n) (gone [] n) (gone all n) (no_areas n) (going.areas_sum n))
      (λ n. done (going.pins_done n) (pins [] n) (pins all n) (no_pins n) (going.pins_sum n))
      going.released
    where
      done : (d r a : ℕ) → r ≡ 0 → d + r ≡ a → d ≡ a
      done d r a none sum = omega (arith, none, sum)

-- ---- counts of one area and the rest

pub over_first : (area : Area) (rest : List Area) (n : ℕ) → over (area ∷ rest) n ≡ once area.memory n + over rest n
over_first area rest n = count-cons (λ (a : Area). eqb a.memory n) area rest

pub translated_first : (translated : Bool) (area : Area) (rest : List Area) (n : ℕ)
    → if_translated translated (area ∷ rest) n ≡ cond translated (once area.memory) never n
    + if_translated translated rest n
translated_first true area rest n = over_first area rest n
translated_first false area rest n = refl

pub once_own : (n : ℕ) → once n n ≡ 1
once_own n = let own : eqb n n ≡ true = grind (arith, nat_tests) in rw own refl

-- an area that is left
pub one_left : (left rest : List Area) (area : Area) → left ≡ area ∷ rest → 1 ≤ over left area.memory
one_left left rest area is =
    let first = over_first area rest area.memory in
    let own = once_own area.memory in
    let some : 1 ≤ over (area ∷ rest) area.memory = omega (arith, first, own) in
    rw is some

-- its pin may go
pub may_unpin : (gone : List Area → ℕ → ℕ) (all left rest : List Area) (area : Area) (first now : Memory)
    (before between : FramePool) → left ≡ area ∷ rest → AreGoing gone over all left first now before between
    → 1 ≤ table_pins now area.memory
may_unpin gone all left rest area first now before between is going =
    let some = one_left left rest area is in
    let most = going.may.pins area.memory in
    omega (arith, some, most)

-- ---- one area

-- its pin is off, and then it goes
pub one_gone : (number : ℕ) (first now next : Memory) (before after : FramePool) → HasLess never (once number) first now
    → Settles first now before after → HasLess (once number) never now next → Settles now next after after
    → IsReleased (once number) (once number) first next before after
one_gone number first now next before after less settles less_area settles_area =
    released_as (λ n. never n + once number n) (λ n. once number n + never n) (once number)
    (once number) first next before after
    (λ n. omega arith) (λ n. omega arith)
    (released_further never (once number) (once number) never first now next before after after less
    less_area settles settles_area)

-- one of those that are left may go alone
pub may_one : (translated : Bool) (all left rest : List Area) (area : Area) (first now : Memory)
    (before between : FramePool) → left ≡ area ∷ rest
    → AreGoing over (if_translated translated) all left first now before between
    → MayRelease (once area.memory) (cond translated (once area.memory) never) now between.holds
may_one translated all left rest area first now before between is going = record {
  pins = λ n. pins translated n (going.may.pins n);
  areas = λ n. areas translated n (going.may.areas n);
  access = λ page gone. let less = few page.memory in going.may.access page (omega (arith, less, gone));
  backed = going.may.backed;
  invariant = going.may.invariant;
  only = going.may.only;
}
  where
    few : (n : ℕ) → once area.memory n ≤ over left n
    few n = let first_is = over_first area rest n in let some : once area.memory n ≤ over (area ∷ rest) n =
        omega (arith, first_is) in rw is some

    pins : (b : Bool) (n : ℕ) → if_translated b left n ≤ table_pins now n
        → cond b (once area.memory) never n ≤ table_pins now n
    pins true n most = let less = few n in omega (arith, less, most)
    pins false n most = most

    areas : (b : Bool) (n : ℕ) → table_pins now n + over left n ≤ areas_over now n + if_translated b left n
        → table_pins now n + once area.memory n ≤ areas_over now n + cond b (once area.memory) never n
    areas true n most = let less = few n in omega (arith, less, most)
    areas false n most = let less = few n in omega (arith, less, most)

pub translated_none : (translated : Bool) (n : ℕ) → if_translated translated [] n ≡ 0
translated_none true n = refl
translated_none false n = refl

-- One step after another lets go of memory objects.
use Rattle.std.proofs.Common.{◌≡◌, ℕ, ◌+◌, ◌≤◌, Bool, true, false, cond, ◌&&◌, ◌||◌, not, eqb, ltb, leb, Option, None}
use Rattle.std.proofs.Common.{List}
use Rattle.std.proofs.Common.{[], ◌∷◌, refl, ap, sym, ◌∙◌, arith}
use Rattle.std.specs.Prelude.{if◌then◌else◌}
use Rattle.std.specs.List.{filter, list_all, list_any}
use Rattle.std.proofs.lemmas.Bool.Decides.{nat_tests}
use Rattle.frame_memory.specs.Pool.{FramePool}
use Rattle.iofd_rows.proofs.Bools.{and_true, both_true}
use Rattle.iofd_rows.proofs.ListTests.{any-filter, any_weaker, filter_all}
use Rattle.iofd_words.specs.Pins.{ObjectPage}
use Rattle.iofd_words.specs.declared.rows.MemoryObject.{MemoryObject}
use Rattle.user_memory_rows.specs.Moves.{IsReleased, MayRelease}
use Rattle.memory_objects.specs.Invariant.{MemoryInvariant}
use Rattle.memory_objects.specs.Objects as objects
use Rattle.memory_objects.specs.Objects.{MemoryEntry, are_rising, object_at}
use Rattle.user_memory.specs.Changes.{HasLess, HoldsFollow, Settles, never}
use Rattle.user_memory.specs.Memory.{Memory, access_pins, areas_in, areas_over, frame_now, is_pinned, pinned_frame}
use Rattle.user_memory.specs.Memory.{rows_of}
use Rattle.user_memory.specs.Memory.{table_pins}

-- ---- nothing happens

pub holds_stay : (m : Memory) (pool : FramePool) → HoldsFollow m m pool pool
holds_stay m pool = record { count = refl; holds = λ frame. refl; backed = λ is. is }

pub settles_none : (m : Memory) (pool : FramePool) → MemoryInvariant m.objects
    → ((page : ObjectPage) → is_pinned m page ≡ false → pinned_frame m page ≡ None) → Settles m m pool pool
settles_none m pool invariant only = record {
  pages = refl;
  limits = refl;
  frames = λ page. stays page (is_pinned m page) refl;
  holds = holds_stay m pool;
  bytes = refl;
  kept = invariant;
}
  where
    stays : (page : ObjectPage) (b : Bool) → is_pinned m page ≡ b
        → pinned_frame m page ≡ (if is_pinned m page
        then (if is_pinned m page then pinned_frame m page else frame_now m page) else None)
    stays page true is = rw is refl
    stays page false is = rw is (only page is)

-- each object has an area
abbrev has_area : Option MemoryEntry → Bool
has_area o = not (eqb (areas_in o) 0)

-- objects of higher numbers are found behind this one
behind : (o : MemoryEntry) (all later : List MemoryEntry)
    → list_all (λ (next : MemoryEntry). ltb o.number next.number) later ≡ true
    → list_all (λ (row : MemoryObject). has_area (object_at all row.number)) (objects.rows_of later) ≡ true
    → list_all (λ (row : MemoryObject). has_area (object_at (o ∷ all) row.number)) (objects.rows_of later) ≡ true
behind o all [] higher each = refl
behind o all (p ∷ later) higher each =
    let highs =
    and_true (ltb o.number p.number) (list_all (λ (next : MemoryEntry). ltb o.number next.number) later) higher in
    let parts = and_true (has_area (object_at all p.number))
    (list_all (λ (row : MemoryObject). has_area (object_at all row.number)) (objects.rows_of later)) each in
    let other : eqb o.number p.number ≡ false = unlike o.number p.number highs.0 in
    both_true _ _ (rw other parts.0) (behind o all later highs.1 parts.1)
  where
    unlike : (m n : ℕ) → ltb m n ≡ true → eqb m n ≡ false
    unlike m n is = grind (arith, nat_tests)

some_area : (all : List MemoryEntry) → are_rising all ≡ true
    → list_all (λ (o : MemoryEntry). leb 1 o.areas && leb o.pages.pages.table_pins o.areas) all ≡ true
    → list_all (λ (row : MemoryObject). has_area (object_at all row.number)) (objects.rows_of all) ≡ true
some_area [] rising each = refl
some_area (o ∷ all) rising each =
    let rises = and_true (list_all (λ (next : MemoryEntry). ltb o.number next.number) all) (are_rising all) rising in
    let parts = and_true (leb 1 o.areas && leb o.pages.pages.table_pins o.areas)
    (list_all (λ (o : MemoryEntry). leb 1 o.areas && leb o.pages.pages.table_pins o.areas) all) each in
    let firsts = and_true (leb 1 o.areas) (leb o.pages.pages.table_pins o.areas) parts.0 in
    both_true _ _ (rw (own o.number) (some o.areas firsts.0)) (behind o all all rises.0 (some_area all rises.1 parts.1))
  where
    own : (n : ℕ) → eqb n n ≡ true
    own n = grind (arith, nat_tests)

    some : (n : ℕ) → leb 1 n ≡ true → not (eqb n 0) ≡ true
    some n is = grind (arith, nat_tests)

pub rows_stay : (m : Memory) → MemoryInvariant m.objects
    → rows_of m ≡ filter (λ row. not (eqb (areas_over m row.number) 0)) (rows_of m)
rows_stay m invariant = sym (filter_all (λ (row : MemoryObject). not (eqb (areas_over m row.number) 0)) (rows_of m)
    (some_area m.objects invariant.rising invariant.areas))

pub less_none : (m : Memory) → MemoryInvariant m.objects → HasLess never never m m
less_none m invariant = record {
  rows = rows_stay m invariant;
  areas = λ n. omega arith;
  pins = λ n. omega arith;
  access = λ page. refl;
}

-- ---- one step, and then another

-- what passes the second test passed the first
filter_twice : {X : Type 0} (p q : X → Bool) (xs : List X) → ((x : X) → p x ≡ true → q x ≡ true)
    → filter p (filter q xs) ≡ filter p xs
filter_twice p q [] stronger = refl
filter_twice {X = X} p q (x ∷ xs) stronger = by_test (q x) refl (p x) refl (filter_twice p q xs stronger)
  where
    never : (b : Bool) → b ≡ false → b ≡ true → ⊥
    never true is other = cc
    never false is other = cc

    by_test : (b : Bool) → q x ≡ b → (c : Bool) → p x ≡ c → filter p (filter q xs) ≡ filter p xs
        → filter p (cond b (x ∷ filter q xs) (filter q xs)) ≡ cond c (x ∷ filter p xs) (filter p xs)
    by_test true is true passes rest = rw (passes, rest) refl
    by_test true is false passes rest = rw (passes, rest) refl
    by_test false is true passes rest = absurd (never (q x) is (stronger x passes))
    by_test false is false passes rest = rest

-- what is pinned afterwards was pinned before
pub still_pinned : (gone_areas gone_pins : ℕ → ℕ) (old new : Memory) → HasLess gone_areas gone_pins old new
    → (page : ObjectPage) → is_pinned new page ≡ true → is_pinned old page ≡ true
still_pinned gone_areas gone_pins old new less page is =
    let parts = and_true (list_any (λ (row : MemoryObject). eqb page.memory row.number && ltb page.index row.count)
    (rows_of new)) (ltb 0 (table_pins new page.memory) || ltb 0 (access_pins new page)) is in
    let fewer : list_any (λ (row : MemoryObject). eqb page.memory row.number && ltb page.index row.count)
    (filter (λ (row : MemoryObject). not (eqb (areas_over new row.number) 0)) (rows_of old)) ≡ true =
    ap (list_any (λ (row : MemoryObject). eqb page.memory row.number && ltb page.index row.count)) (sym less.rows)
    ∙ parts.0 in
    let listed : list_any (λ (row : MemoryObject). eqb page.memory row.number
    && ltb page.index row.count) (rows_of old) ≡ true =
    any_weaker (λ (row : MemoryObject). not (eqb (areas_over new row.number) 0)
    && (eqb page.memory row.number && ltb page.index row.count)) (λ (row : MemoryObject). eqb page.memory
    row.number && ltb page.index row.count) (rows_of old) (λ row both. (and_true _ _ both).1)
    (sym (any-filter (λ (row : MemoryObject). eqb page.memory row.number && ltb page.index row.count)
    (λ (row : MemoryObject). not (eqb (areas_over new row.number) 0)) (rows_of old)) ∙ fewer) in
    both_true _ _ listed (either (ltb 0 (table_pins new page.memory)) refl (rw (less.access page) at parts.1))
  where
    more : (a b c : ℕ) → a + b ≡ c → ltb 0 a ≡ true → ltb 0 c ≡ true
    more a b c sum some = grind (arith, nat_tests)

    or_true : (b c : Bool) → c ≡ true → (b || c) ≡ true
    or_true true c is = refl
    or_true false c is = is

    either : (b : Bool) → ltb 0 (table_pins new page.memory) ≡ b → (ltb 0 (table_pins new page.memory)
        || ltb 0 (access_pins old page)) ≡ true
        → (ltb 0 (table_pins old page.memory) || ltb 0 (access_pins old page)) ≡ true
    either true is some =
        let still : ltb 0 (table_pins old page.memory) ≡ true =
        more (table_pins new page.memory) (gone_pins page.memory) (table_pins old page.memory)
        (less.pins page.memory) is in
        rw still refl
    either false is some =
        or_true (ltb 0 (table_pins old page.memory)) (ltb 0 (access_pins old page)) (rw is at some)

module _ (areas pins more_areas more_pins : ℕ → ℕ) (first second third : Memory) (before between after : FramePool)
    (less : HasLess areas pins first second) (more : HasLess more_areas more_pins second third) where
  less_further : HasLess (λ n. areas n + more_areas n) (λ n. pins n + more_pins n) first third
  less_further = record {
    rows = more.rows ∙ ap (filter (λ (row : MemoryObject). not (eqb (areas_over third row.number) 0))) less.rows
        ∙ twice (rows_of first);
    areas = λ n. added (areas_over third n) (areas n) (more_areas n) (areas_over second n) (areas_over first n)
        (less.areas n) (more.areas n);
    pins = λ n. added (table_pins third n) (pins n) (more_pins n) (table_pins second n) (table_pins first n)
        (less.pins n) (more.pins n);
    access = λ page. more.access page ∙ less.access page;
  }
    where
      added : (c x y b a : ℕ) → b + x ≡ a → c + y ≡ b → c + (x + y) ≡ a
      added c x y b a one two = omega (arith, one, two)

      left : (c y b : ℕ) → c + y ≡ b → not (eqb c 0) ≡ true → not (eqb b 0) ≡ true
      left c y b sum some = grind (arith, nat_tests)

      twice : (rows : List MemoryObject) → filter (λ (row : MemoryObject). not (eqb (areas_over third row.number) 0))
          (filter (λ (row : MemoryObject). not (eqb (areas_over second row.number) 0)) rows) ≡ filter
          (λ (row : MemoryObject). not (eqb (areas_over third row.number) 0)) rows
      twice rows = filter_twice (λ (row : MemoryObject). not (eqb (areas_over third row.number) 0))
          (λ (row : MemoryObject). not (eqb (areas_over second row.number) 0)) rows
          (λ row some. left (areas_over third row.number) (more_areas row.number) (areas_over second row.number)
          (more.areas row.number) some)

  holds_further : HoldsFollow first second before between → HoldsFollow second third between after
      → HoldsFollow first third before after
  holds_further one two = record {
    count = two.count ∙ one.count;
    holds = λ frame. added _ _ _ _ _ _ (one.holds frame) (two.holds frame);
    backed = λ is. two.backed (one.backed is);
  }
    where
      added : (h1 h2 h3 r1 r2 r3 : ℕ) → h2 + r1 ≡ h1 + r2 → h3 + r2 ≡ h2 + r3 → h3 + r1 ≡ h1 + r3
      added h1 h2 h3 r1 r2 r3 one two = omega (arith, one, two)

  settles_further : Settles first second before between → Settles second third between after
      → Settles first third before after
  settles_further one two = record {
    pages = two.pages ∙ one.pages;
    limits = two.limits ∙ one.limits;
    frames = λ page. two.frames page ∙ by_pinned page (is_pinned third page) refl;
    holds = holds_further one.holds two.holds;
    bytes = two.bytes ∙ one.bytes;
    kept = two.kept;
  }
    where
      by_pinned : (page : ObjectPage) (b : Bool) → is_pinned third page ≡ b
          → (if is_pinned third page then (if is_pinned second page then pinned_frame second page
          else frame_now third page) else None)
          ≡ (if is_pinned third page then (if is_pinned first page then pinned_frame first page
          else frame_now third page) else None)
      by_pinned page false is = rw is refl
      by_pinned page true is =
          let in_second = still_pinned more_areas more_pins second third more page is in
          let in_first = still_pinned areas pins first second less page in_second in
          let told : pinned_frame second page ≡ (if is_pinned second page
          then (if is_pinned first page then pinned_frame first page else frame_now second page) else None) =
          one.frames page in
          let here : pinned_frame second page ≡ pinned_frame first page = rw (in_second, in_first) at told in
          rw (is, in_second, in_first) here

  pub released_further : Settles first second before between → Settles second third between after
      → IsReleased (λ n. areas n + more_areas n) (λ n. pins n + more_pins n) first third before after
  released_further one two = record { less = less_further; settles = settles_further one two }

-- ---- what may still go

-- what is said of the same numbers
pub released_as : (areas pins other_areas other_pins : ℕ → ℕ) (old new : Memory) (before after : FramePool)
    → ((n : ℕ) → areas n ≡ other_areas n) → ((n : ℕ) → pins n ≡ other_pins n)
    → IsReleased areas pins old new before after → IsReleased other_areas other_pins old new before after
released_as areas pins other_areas other_pins old new before after same_areas same_pins is = record {
  less = record {
    rows = is.less.rows;
    areas = λ n. ap (λ k. areas_over new n + k) (sym (same_areas n)) ∙ is.less.areas n;
    pins = λ n. ap (λ k. table_pins new n + k) (sym (same_pins n)) ∙ is.less.pins n;
    access = is.less.access;
  };
  settles = is.settles;
}

-- no page is pinned but those that are to be
pub only_after : (old new : Memory) (before after : FramePool) → Settles old new before after → (page : ObjectPage)
    → is_pinned new page ≡ false → pinned_frame new page ≡ None
only_after old new before after settles page is = settles.frames page ∙ rw is refl

-- of what may go some has gone: the rest may go
pub may_further : (areas pins some_areas some_pins rest_areas rest_pins : ℕ
    → ℕ) (old new : Memory) (before after : FramePool) → MayRelease areas pins old before.holds
    → ((n : ℕ) → areas n ≡ some_areas n + rest_areas n) → ((n : ℕ) → pins n ≡ some_pins n + rest_pins n)
    → HasLess some_areas some_pins old new → Settles old new before after
    → MayRelease rest_areas rest_pins new after.holds
may_further areas pins some_areas some_pins rest_areas rest_pins old new before after may areas_are
    pins_are less settles = record {
      pins = λ n. left_pins (rest_pins n) (some_pins n) (pins n) (table_pins new n) (table_pins old n) (pins_are n)
          (may.pins n) (less.pins n);
      areas = λ n. left (areas n) (pins n) (some_areas n) (some_pins n) (rest_areas n) (rest_pins n) (areas_over new n)
          (table_pins new n) (areas_over old n) (table_pins old n) (areas_are n) (pins_are n) (less.areas n)
          (less.pins n) (may.areas n);
      access = λ page gone. less.access page ∙ may.access page
          (left_areas (areas page.memory) (some_areas page.memory) (rest_areas page.memory) (areas_over new page.memory)
          (areas_over old page.memory) (areas_are page.memory) (less.areas page.memory) gone);
      backed = settles.holds.backed may.backed;
      invariant = settles.kept;
      only = only_after old new before after settles;
    }
  where
    left_areas : (a sa ra ao bo : ℕ) → a ≡ sa + ra → ao + sa ≡ bo → ao ≤ ra → bo ≤ a
    left_areas a sa ra ao bo is less gone = omega (arith, is, less, gone)

    left_pins : (r s p t u : ℕ) → p ≡ s + r → p ≤ u → t + s ≡ u → r ≤ t
    left_pins r s p t u is most less = omega (arith, is, most, less)

    left : (a p sa sp ra rp ao tp bo up : ℕ) → a ≡ sa + ra → p ≡ sp + rp → ao + sa ≡ bo → tp + sp ≡ up → up + a ≤ bo + p
        → tp + ra ≤ ao + rp
    left a p sa sp ra rp ao tp bo up is1 is2 less1 less2 most = omega (arith, is1, is2, less1, less2, most)

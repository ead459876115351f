-- Areas and page tables that go: what goes of the counts, and what is seen of the memory objects afterwards.
use Rattle.std.proofs.Common.{◌≡◌, ℕ, ◌+◌, ◌≤◌, Bool, true, false, cond, ◌&&◌, ◌||◌, not, eqb, ltb, List, [], ◌∷◌, ◌++◌}
use Rattle.std.proofs.Common.{refl, ap, sym, ◌∙◌, subst, arith}
use Rattle.std.specs.Prelude.{if◌then◌else◌}
use Rattle.std.specs.List.{count_by, filter, list_all, list_any}
use Rattle.std.proofs.lemmas.Bool.Decides.{nat_tests}
use Rattle.frame_memory.specs.Pool.{FramePool}
use Rattle.iofd_words.specs.Areas.{areas_of, is_of}
use Rattle.iofd_words.specs.Objects.{has_hwpt}
use Rattle.iofd_words.specs.declared.numbers.FileNo.{FileNo}
use Rattle.iofd_words.specs.declared.numbers.ObjId.{ObjId}
use Rattle.iofd_words.specs.declared.rows.Area.{Area}
use Rattle.iofd_words.specs.declared.rows.MemoryObject.{MemoryObject}
use Rattle.iofd_words.specs.declared.rows.Object.{Object}
use Rattle.iofd_rows.proofs.Bools.{and_true}
use Rattle.iofd_rows.proofs.ListTests.{any-filter}
use Rattle.iofd_rows.proofs.Named.{file_is, id_is}
use Rattle.iofd_rows.proofs.PageTables.{hwpt_alike}
use Rattle.user_memory_rows.proofs.AreasGoing.{one_gone}
use Rattle.user_memory_rows.proofs.Counts.{count_alike, count_fewer, count_parts, count_split, count_within}
use Rattle.user_memory_rows.proofs.CountBy.{any_count, count-cons}
use Rattle.user_memory_rows.proofs.Released.{less_none, may_further, released_as, released_further, settles_none}
use Rattle.user_memory_rows.specs.Moves.{IsReleased, MayRelease, if_translated}
use Rattle.user_memory_rows.specs.Shown.{over, translated}
use Rattle.user_memory.specs.Changes.{HasLess, Settles, never, once}
use Rattle.user_memory.specs.Memory.{Memory, areas_over, table_pins}

-- ---- one area, or none

-- it goes, after its pin where it had one
pub one_released : (is_translated : Bool) (number : ℕ) (first now next : Memory) (before after : FramePool)
    → not is_translated ≡ false
    → HasLess never (once number) first now → Settles first now before after → HasLess (once number) never now next
    → Settles now next after after
    → IsReleased (once number) (if is_translated then once number else never) first next before after
one_released true number first now next before after is less settles less_area settles_area =
    one_gone number first now next before after less settles less_area settles_area
one_released false number first now next before after is less settles less_area settles_area = cc

-- nothing goes
pub released_none : (areas pins : ℕ → ℕ) (m : Memory) (pool : FramePool) → MayRelease areas pins m pool.holds
    → IsReleased never never m m pool pool
released_none areas pins m pool may =
    record { less = less_none m may.invariant; settles = settles_none m pool may.invariant may.only }

if_none : (is_translated : Bool) (n : ℕ) → 0 ≡ if_translated is_translated [] n
if_none true n = refl
if_none false n = refl

pub no_areas_released : (is_translated : Bool) (areas : List Area) (m : Memory) (pool : FramePool) → areas ≡ []
    → MayRelease (over areas) (if_translated is_translated areas) m pool.holds
    → IsReleased (over areas) (if_translated is_translated areas) m m pool pool
no_areas_released is_translated areas m pool none may =
    let P : List Area → Type 0 = λ l. IsReleased (over l) (if_translated is_translated l) m m pool pool in
    subst P (sym none) (released_as never never (over []) (if_translated is_translated []) m m pool pool (λ n. refl)
    (λ n. if_none is_translated n) (released_none (over areas) (if_translated is_translated areas) m pool may))

pub no_pins_released : (areas : List Area) (m : Memory) (pool : FramePool) → areas ≡ []
    → MayRelease never (over areas) m pool.holds → IsReleased never (over areas) m m pool pool
no_pins_released areas m pool none may =
    let P : List Area → Type 0 = λ l. IsReleased never (over l) m m pool pool in
    subst P (sym none) (released_as never never never (over []) m m pool pool (λ n. refl) (λ n. refl)
    (released_none never (over areas) m pool may))

-- ---- counts

-- no more areas are translated than there are
pub few_translated : (objects : List Object) (areas : List Area) (n : ℕ) → translated objects areas n ≤ over areas n
few_translated objects areas n = count_fewer (λ (area : Area). eqb area.memory n
    && has_hwpt objects area.file area.ioas) (λ (area : Area). eqb area.memory n) areas (λ area both.
    (and_true (eqb area.memory n) (has_hwpt objects area.file area.ioas) both).0)

-- the areas that go, and those that stay
pub over_parts : (goes : Area → Bool) (areas : List Area) (n : ℕ)
    → over (filter (λ area. not (goes area)) areas) n + over (filter goes areas) n ≡ over areas n
over_parts goes areas n = count_parts (λ (area : Area). eqb area.memory n) goes areas

pub translated_parts : (objects : List Object) (goes : Area → Bool) (areas : List Area) (n : ℕ)
    → translated objects (filter (λ area. not (goes area)) areas) n
    + translated objects (filter goes areas) n ≡ translated objects areas n
translated_parts objects goes areas n =
    count_parts (λ (area : Area). eqb area.memory n && has_hwpt objects area.file area.ioas) goes areas

-- areas of one address space are all translated, or none is
pub translated_space : (objects : List Object) (file : FileNo) (ioas : ObjId) (goes : Area → Bool) (areas : List Area)
    → ((area : Area) → goes area ≡ true → is_of file ioas area ≡ true)
    → (n : ℕ) → translated objects (filter goes areas) n ≡ if_translated
    (has_hwpt objects file ioas) (filter goes areas) n
translated_space objects file ioas goes areas one n =
    count_within (λ (area : Area). eqb area.memory n && has_hwpt objects area.file area.ioas) goes areas
    ∙ by_table (has_hwpt objects file ioas) refl
  where
    here : (area : Area) → goes area ≡ true → has_hwpt objects area.file area.ioas ≡ has_hwpt objects file ioas
    here area is = let parts = and_true (eqb area.file.0 file.0) (eqb area.ioas.0 ioas.0) (one area is) in sym
        (hwpt_alike objects area.file file area.ioas ioas parts.0 parts.1)

    both : (x : Bool) → (x && true) ≡ x
    both true = refl
    both false = refl

    none : (x : Bool) → (x && false) ≡ false
    none true = refl
    none false = refl

    each : (b : Bool) → has_hwpt objects file ioas ≡ b → (area : Area) (g : Bool) → goes area ≡ g
        → (g && (eqb area.memory n && has_hwpt objects area.file area.ioas)) ≡ (g && (eqb area.memory n && b))
    each b is area true goes_is = ap (λ x. eqb area.memory n && x) (here area goes_is ∙ is)
    each b is area false goes_is = refl

    no_area : (xs : List Area) → count_by (λ (area : Area). goes area && (eqb area.memory n && false)) xs ≡ 0
    no_area xs = count_alike (λ (area : Area). goes area && (eqb area.memory n && false)) (λ (area : Area). false) xs
        (λ area. ap (λ x. goes area && x) (none (eqb area.memory n)) ∙ none (goes area)) ∙ nothing xs
      where
        nothing : (xs : List Area) → count_by (λ (area : Area). false) xs ≡ 0
        nothing [] = refl
        nothing (x ∷ xs) =
            let first : count_by (λ (area : Area). false) (x ∷ xs) ≡ 0 + count_by (λ (area : Area). false) xs =
            count-cons (λ (area : Area). false) x xs in
            let rest = nothing xs in
            omega (arith, first, rest)

    by_table : (b : Bool) → has_hwpt objects file ioas ≡ b
        → count_by (λ (area : Area). goes area && (eqb area.memory n && has_hwpt objects area.file area.ioas))
        areas ≡ if_translated b (filter goes areas) n
    by_table true is =
        count_alike (λ (area : Area). goes area && (eqb area.memory n && has_hwpt objects area.file area.ioas))
        (λ (area : Area). goes area && eqb area.memory n) areas (λ area. each true is area (goes area) refl
        ∙ ap (λ x. goes area && x) (both (eqb area.memory n)))
        ∙ sym (count_within (λ (area : Area). eqb area.memory n) goes areas)
    by_table false is =
        count_alike (λ (area : Area). goes area && (eqb area.memory n && has_hwpt objects area.file area.ioas))
        (λ (area : Area). goes area && (eqb area.memory n && false)) areas
        (λ area. each false is area (goes area) refl)
        ∙ no_area areas

-- one address space has no page table any more
pub table_lost : (objects left : List Object) (areas : List Area) (file : FileNo) (ioas : ObjId)
    → has_hwpt objects file ioas ≡ true → has_hwpt left file ioas ≡ false
    → ((f : FileNo) (i : ObjId) → (eqb f.0 file.0 && eqb i.0 ioas.0) ≡ false → has_hwpt left f i ≡ has_hwpt objects f i)
    → (n : ℕ) → translated left areas n + over (areas_of areas file ioas) n ≡ translated objects areas n
table_lost objects left areas file ioas had lost others n =
    ap (λ k. translated left areas n + k) (count_within (λ (area : Area). eqb area.memory n) (is_of file ioas) areas)
    ∙ sym (count_split (λ (area : Area). eqb area.memory n && has_hwpt objects area.file area.ioas)
    (λ (area : Area). eqb area.memory n && has_hwpt left area.file area.ioas)
    (λ (area : Area). is_of file ioas area && eqb area.memory n) areas
    (λ area. either area (is_of file ioas area) refl) (λ area. apart area (is_of file ioas area) refl))
  where
    had_here : (area : Area) → is_of file ioas area ≡ true → has_hwpt objects area.file area.ioas ≡ true
    had_here area is = let parts = and_true (eqb area.file.0 file.0) (eqb area.ioas.0 ioas.0) is in sym
        (hwpt_alike objects area.file file area.ioas ioas parts.0 parts.1) ∙ had

    lost_here : (area : Area) → is_of file ioas area ≡ true → has_hwpt left area.file area.ioas ≡ false
    lost_here area is = let parts = and_true (eqb area.file.0 file.0) (eqb area.ioas.0 ioas.0) is in sym
        (hwpt_alike left area.file file area.ioas ioas parts.0 parts.1) ∙ lost

    joined : (x : Bool) → (x && true) ≡ ((x && false) || x)
    joined true = refl
    joined false = refl

    alone : (x : Bool) → x ≡ (x || false)
    alone true = refl
    alone false = refl

    never_both : (x : Bool) → ((x && false) && x) ≡ false
    never_both true = refl
    never_both false = refl

    never_one : (x : Bool) → (x && false) ≡ false
    never_one true = refl
    never_one false = refl

    either : (area : Area) (b : Bool) → is_of file ioas area ≡ b
        → (eqb area.memory n && has_hwpt objects area.file area.ioas)
        ≡ ((eqb area.memory n && has_hwpt left area.file area.ioas) || (b && eqb area.memory n))
    either area true is = rw (had_here area is, lost_here area is) (joined (eqb area.memory n))
    either area false is = ap (λ x. eqb area.memory n && x) (sym (others area.file area.ioas is))
        ∙ alone (eqb area.memory n && has_hwpt left area.file area.ioas)

    apart : (area : Area) (b : Bool) → is_of file ioas area ≡ b
        → ((eqb area.memory n && has_hwpt left area.file area.ioas) && (b && eqb area.memory n)) ≡ false
    apart area true is = rw (lost_here area is) (never_both (eqb area.memory n))
    apart area false is = never_one (eqb area.memory n && has_hwpt left area.file area.ioas)

-- ---- memory objects that have an area left

any_over : (areas : List Area) (n : ℕ) → list_any (λ (area : Area). eqb area.memory n) areas ≡ ltb 0 (over areas n)
any_over areas n = any_count (λ (area : Area). eqb area.memory n) areas

filter_same : {X : Type 0} (p q : X → Bool) (xs : List X) → ((x : X) → p x ≡ q x) → filter p xs ≡ filter q xs
filter_same p q [] same = refl
filter_same p q (x ∷ xs) same = rw (same x, filter_same p q xs same) refl

pub objects_left : (goes : Area → Bool) (areas : List Area) (memory : List MemoryObject)
    → filter (λ (m : MemoryObject). list_any (λ (area : Area). eqb area.memory m.number && not (goes area)) areas)
    memory
    ≡ filter (λ (m : MemoryObject). ltb 0 (over (filter (λ area. not (goes area)) areas) m.number)) memory
objects_left goes areas memory =
    filter_same (λ (m : MemoryObject). list_any (λ (area : Area). eqb area.memory m.number && not (goes area)) areas)
    (λ (m : MemoryObject). ltb 0 (over (filter (λ area. not (goes area)) areas) m.number)) memory
    (λ m. any_same (λ (area : Area). eqb area.memory m.number && not (goes area)) (λ (area : Area). not (goes area)
    && eqb area.memory m.number) areas (λ area. turned (eqb area.memory m.number) (not (goes area)))
    ∙ sym (any-filter (λ (area : Area). eqb area.memory m.number) (λ (area : Area). not (goes area)) areas)
    ∙ any_over (filter (λ area. not (goes area)) areas) m.number)
  where
    turned : (a b : Bool) → (a && b) ≡ (b && a)
    turned true true = refl
    turned true false = refl
    turned false true = refl
    turned false false = refl

    any_same : (p q : Area → Bool) (xs : List Area) → ((x : Area) → p x ≡ q x) → list_any p xs ≡ list_any q xs
    any_same p q [] same = refl
    any_same p q (x ∷ xs) same = rw (same x, any_same p q xs same) refl

-- where each of them has one
pub all_have : (areas : List Area) (memory : List MemoryObject)
    → list_all (λ (m : MemoryObject). list_any (λ (area : Area). eqb area.memory m.number) areas) memory ≡ true
    → memory ≡ filter (λ (m : MemoryObject). ltb 0 (over areas m.number)) memory
all_have areas [] each = refl
all_have areas (m ∷ memory) each =
    let parts = and_true (list_any (λ (area : Area). eqb area.memory m.number) areas)
    (list_all (λ (m : MemoryObject). list_any (λ (area : Area). eqb area.memory m.number) areas) memory) each in
    let here : ltb 0 (over areas m.number) ≡ true = sym (any_over areas m.number) ∙ parts.0 in
    rw here (ap (λ l. m ∷ l) (all_have areas memory parts.1))

pub rows_left : (m : Memory) (memory rows : List MemoryObject) (counts : ℕ → ℕ) → memory ≡ rows
    → ((n : ℕ) → areas_over m n ≡ counts n)
    → filter (λ (row : MemoryObject). ltb 0 (counts row.number)) memory ≡ filter
    (λ (row : MemoryObject). not (eqb (areas_over m row.number) 0)) rows
rows_left m memory rows counts same are =
    ap (filter (λ (row : MemoryObject). ltb 0 (counts row.number))) same
    ∙ filter_same (λ (row : MemoryObject). ltb 0 (counts row.number))
    (λ (row : MemoryObject). not (eqb (areas_over m row.number) 0)) rows (λ row. some (counts row.number)
    ∙ ap (λ k. not (eqb k 0)) (sym (are row.number)))
  where
    some : (n : ℕ) → ltb 0 n ≡ not (eqb n 0)
    some n = grind (arith, nat_tests)

-- ---- some after others

zero_plus : (n : ℕ) → 0 + n ≡ n
zero_plus n = omega arith

count_append : {X : Type 0} (p : X → Bool) (xs ys : List X) → count_by p (xs ++ ys) ≡ count_by p xs + count_by p ys
count_append p [] ys = sym (zero_plus (count_by p ys))
count_append p (x ∷ xs) ys =
    let first = count-cons p x (xs ++ ys) in
    let own = count-cons p x xs in
    let rest = count_append p xs ys in
    omega (arith, first, own, rest)

pub over_append : (xs ys : List Area) (n : ℕ) → over (xs ++ ys) n ≡ over xs n + over ys n
over_append xs ys n = count_append (λ (area : Area). eqb area.memory n) xs ys

-- so many have let go, and so many are left that may
pub record AreLeaving (all_areas all_pins left_areas left_pins : ℕ
    → ℕ) (first now : Memory) (before between : FramePool) : Type 0 where
  pub areas_done : ℕ → ℕ
  pub pins_done : ℕ → ℕ
  pub areas_sum : (n : ℕ) → areas_done n + left_areas n ≡ all_areas n
  pub pins_sum : (n : ℕ) → pins_done n + left_pins n ≡ all_pins n
  pub released : IsReleased areas_done pins_done first now before between
  pub may : MayRelease left_areas left_pins now between.holds

pub leaving_first : (areas pins : ℕ → ℕ) (first : Memory) (before : FramePool)
    → MayRelease areas pins first before.holds → AreLeaving areas pins areas pins first first before before
leaving_first areas pins first before may = record {
  areas_done = never;
  pins_done = never;
  areas_sum = λ n. omega arith;
  pins_sum = λ n. omega arith;
  released = released_none areas pins first before may;
  may = may;
}

module _ (all_areas all_pins left_areas left_pins some_areas some_pins rest_areas rest_pins : ℕ
    → ℕ) (first now : Memory) (before between : FramePool)
    (areas_are : (n : ℕ) → left_areas n ≡ some_areas n + rest_areas n) (pins_are : (n : ℕ)
    → left_pins n ≡ some_pins n + rest_pins n)
    (leaving : AreLeaving all_areas all_pins left_areas left_pins first now before between) where
  -- some of them may
  pub may_some : ((n : ℕ) → rest_pins n ≤ rest_areas n) → MayRelease some_areas some_pins now between.holds
  may_some few = record {
    pins = λ n. less (left_pins n) (some_pins n) (rest_pins n) (table_pins now n) (pins_are n) (leaving.may.pins n);
    areas = λ n. fewer (left_areas n) (left_pins n) (some_areas n) (some_pins n) (rest_areas n) (rest_pins n)
        (table_pins now n) (areas_over now n) (areas_are n) (pins_are n) (few n) (leaving.may.areas n);
    backed = leaving.may.backed;
    access = λ page gone.
        let sum = areas_are page.memory in leaving.may.access page (omega (arith, sum, gone));
    invariant = leaving.may.invariant;
    only = leaving.may.only;
  }
    where
      less : (l s r t : ℕ) → l ≡ s + r → l ≤ t → s ≤ t
      less l s r t sum most = omega (arith, sum, most)

      fewer : (la lp sa sp ra rp t o : ℕ) → la ≡ sa + ra → lp ≡ sp + rp → rp ≤ ra → t + la ≤ o + lp → t + sa ≤ o + sp
      fewer la lp sa sp ra rp t o first second few most = omega (arith, first, second, few, most)

  -- they have
  pub leaving_further : (next : Memory) (after : FramePool) → IsReleased some_areas some_pins now next between after
      → AreLeaving all_areas all_pins rest_areas rest_pins first next before after
  leaving_further next after released = record {
    areas_done = λ n. leaving.areas_done n + some_areas n;
    pins_done = λ n. leaving.pins_done n + some_pins n;
    areas_sum = λ n. sum (leaving.areas_done n) (some_areas n) (rest_areas n) (left_areas n) (all_areas n)
        (areas_are n) (leaving.areas_sum n);
    pins_sum = λ n. sum (leaving.pins_done n) (some_pins n) (rest_pins n) (left_pins n) (all_pins n)
        (pins_are n) (leaving.pins_sum n);
    released = released_further leaving.areas_done leaving.pins_done some_areas some_pins first now next before between
        after leaving.released.less released.less leaving.released.settles released.settles;
    may = may_further left_areas left_pins some_areas some_pins rest_areas rest_pins now next between after leaving.may
        areas_are pins_are released.less released.settles;
  }
    where
      sum : (d s r l a : ℕ) → l ≡ s + r → d + l ≡ a → d + s + r ≡ a
      sum d s r l a is all = omega (arith, is, all)

-- all have
pub leaving_last : (all_areas all_pins left_areas left_pins : ℕ → ℕ) (first now : Memory) (before between : FramePool)
    → ((n : ℕ) → left_areas n ≡ 0) → ((n : ℕ) → left_pins n ≡ 0)
    → AreLeaving all_areas all_pins left_areas left_pins first now before between
    → IsReleased all_areas all_pins first now before between
leaving_last all_areas all_pins left_areas left_pins first now before between no_areas no_pins leaving =
    released_as leaving.areas_done leaving.pins_done all_areas all_pins first now before between
    (λ n. done (leaving.areas_done n) (left_areas n) (all_areas n) (no_areas n) (leaving.areas_sum n))
    (λ n. done (leaving.pins_done n) (left_pins n) (all_pins n) (no_pins n) (leaving.pins_sum n))
    leaving.released
  where
    done : (d r a : ℕ) → r ≡ 0 → d + r ≡ a → d ≡ a
    done d r a none sum = omega (arith, none, sum)

-- ---- counts by address spaces

-- the areas of one address space, where the test looks at the address space alone
pub count_space : (Q : FileNo → ObjId → Bool) (file : FileNo) (ioas : ObjId) (areas : List Area) (n : ℕ)
    → count_by (λ (area : Area). eqb area.memory n && Q area.file area.ioas) (areas_of areas file ioas) ≡ over
    (if Q file ioas then areas_of areas file ioas else []) n
count_space Q file ioas [] n = by_test (Q file ioas)
  where
    by_test : (b : Bool) → 0 ≡ over (if b then [] else []) n
    by_test true = refl
    by_test false = refl
count_space Q file ioas (a ∷ areas) n = by_space (is_of file ioas a) refl (count_space Q file ioas areas n)
  where
    here : is_of file ioas a ≡ true → Q a.file a.ioas ≡ Q file ioas
    here is =
        let names = and_true (eqb a.file.0 file.0) (eqb a.ioas.0 ioas.0) is in
        ap (λ (f : FileNo). Q f a.ioas) (file_is a.file file names.0) ∙ ap (Q file) (id_is a.ioas ioas names.1)

    both : (x : Bool) → (x && true) ≡ x
    both true = refl
    both false = refl

    none : (x : Bool) → (x && false) ≡ false
    none true = refl
    none false = refl

    by_space : (b : Bool) → is_of file ioas a ≡ b
        → count_by (λ (area : Area). eqb area.memory n && Q area.file area.ioas) (areas_of areas file ioas) ≡ over
        (if Q file ioas then areas_of areas file ioas else []) n
        → count_by (λ (area : Area). eqb area.memory n && Q area.file area.ioas)
        (cond b (a ∷ areas_of areas file ioas) (areas_of areas file ioas)) ≡ over (if Q file ioas
        then cond b (a ∷ areas_of areas file ioas) (areas_of areas file ioas) else []) n
    by_space false is rest = rest
    by_space true is rest = by_test (Q file ioas) (here is) rest
      where
        by_test : (b : Bool) → Q a.file a.ioas ≡ b
            → count_by (λ (area : Area). eqb area.memory n && Q area.file area.ioas) (areas_of areas file ioas) ≡ over
            (if b then areas_of areas file ioas else []) n
            → count_by (λ (area : Area). eqb area.memory n && Q area.file area.ioas) (a ∷ areas_of areas file ioas)
            ≡ over (if b then a ∷ areas_of areas file ioas else []) n
        by_test true is rest =
            count-cons (λ (area : Area). eqb area.memory n && Q area.file area.ioas) a (areas_of areas file ioas)
            ∙ ap (λ b. cond (eqb a.memory n && b) 1 0
            + count_by (λ (area : Area). eqb area.memory n && Q area.file area.ioas)
            (areas_of areas file ioas)) is
            ∙ ap (λ b. cond b 1 0 + count_by (λ (area : Area). eqb area.memory n && Q area.file area.ioas)
            (areas_of areas file ioas)) (both (eqb a.memory n))
            ∙ ap (λ k. cond (eqb a.memory n) 1 0 + k) rest
            ∙ sym (count-cons (λ (area : Area). eqb area.memory n) a (areas_of areas file ioas))
        by_test false is rest =
            count-cons (λ (area : Area). eqb area.memory n && Q area.file area.ioas) a (areas_of areas file ioas)
            ∙ ap (λ b. cond (eqb a.memory n && b) 1 0
            + count_by (λ (area : Area). eqb area.memory n && Q area.file area.ioas)
            (areas_of areas file ioas)) is
            ∙ ap (λ b. cond b 1 0 + count_by (λ (area : Area). eqb area.memory n && Q area.file area.ioas)
            (areas_of areas file ioas)) (none (eqb a.memory n))
            ∙ zero_plus (count_by (λ (area : Area). eqb area.memory n && Q area.file area.ioas)
            (areas_of areas file ioas))
            ∙ rest

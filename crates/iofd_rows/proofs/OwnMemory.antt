-- Each memory object has an area, and only areas of one file share it.
use Rattle.std.proofs.Common.{◌≡◌, ℕ, Bool, true, false, ◌&&◌, ◌||◌, not, eqb, List, [], ◌∷◌, ◌++◌, map}
use Rattle.std.proofs.Common.{refl, ap, ◌∙◌, arith}
use Rattle.std.specs.List.{filter, list_all, list_any}
use Rattle.std.proofs.lemmas.Bool.Decides.{nat_tests}
use Rattle.std.proofs.lemmas.List.Folds.{list_all-append}
use Rattle.iofd_words.specs.Areas.{lies_before, with_area, with_phase}
use Rattle.iofd_rows.specs.Pinned.{share_in_file, share_in_files}
use Rattle.iofd_words.specs.declared.numbers.FileNo.{FileNo}
use Rattle.iofd_words.specs.declared.rows.Area.{Area}
use Rattle.iofd_words.specs.declared.rows.MemoryObject.{MemoryObject}
use Rattle.iofd_words.specs.declared.rows.Phase.{Phase}
use Rattle.iofd_rows.proofs.Bools.{and_true, both_true, or_false}
use Rattle.iofd_rows.proofs.Each.{of_all, of_each}
use Rattle.iofd_rows.proofs.Found.{all_filter, all_map, all_weaker}
use Rattle.iofd_rows.proofs.Inserted.{all-inserted}
use Rattle.iofd_rows.proofs.ListTests.{all_pass, any-filter, any_of_all, any_weaker, or_left, or_right}
use Rattle.iofd_rows.proofs.PageLists.{any-with_area}

-- some area has this memory object
abbrev pub has_area : List Area → ℕ → Bool
has_area areas n = list_any (λ area. eqb area.memory n) areas

-- each memory object has one
abbrev pub have_areas : List Area → List MemoryObject → Bool
have_areas areas memory = list_all (λ m. has_area areas m.number) memory

-- where some area of a file is over a memory object, each area over it is of that file
pub all_of_file : (areas : List Area) (file : FileNo) (number : ℕ) → share_in_files areas ≡ true
    → list_any (λ (a : Area). eqb a.file.0 file.0 && eqb a.memory number) areas ≡ true
    → list_all (λ (a : Area). not (eqb a.memory number) || eqb a.file.0 file.0) areas ≡ true
all_of_file areas file number shared has =
    of_any areas
    (any_of_all (λ (b : Area). list_all (share_in_file b) areas) (λ (b : Area). eqb b.file.0 file.0
    && eqb b.memory number) (λ b. list_all (λ (a : Area). not (eqb a.memory number)
    || eqb a.file.0 file.0) areas) areas
    (λ b all both. all_weaker (share_in_file b) (λ (a : Area). not (eqb a.memory number) || eqb a.file.0 file.0) areas
    (λ a shares. as_shared a b both shares) all) shared has)
  where
    as_shared : (a b : Area) → (eqb b.file.0 file.0 && eqb b.memory number) ≡ true → share_in_file b a ≡ true
        → (not (eqb a.memory number) || eqb a.file.0 file.0) ≡ true
    as_shared a b both shares = grind (arith, nat_tests)

    of_any : (rows : List Area) → list_any (λ (b : Area). list_all (λ (a : Area). not (eqb a.memory number)
        || eqb a.file.0 file.0) areas) rows ≡ true → list_all (λ (a : Area). not (eqb a.memory number)
        || eqb a.file.0 file.0) areas ≡ true
    of_any [] some = cc
    of_any (b ∷ rows) some =
        either (list_all (λ (a : Area). not (eqb a.memory number) || eqb a.file.0 file.0) areas) some (of_any rows)
      where
        either : (here : Bool) → (here || list_any
            (λ (b : Area). list_all (λ (a : Area). not (eqb a.memory number) || eqb a.file.0 file.0) areas)
            rows) ≡ true → (list_any (λ (b : Area). list_all (λ (a : Area). not (eqb a.memory number)
            || eqb a.file.0 file.0) areas) rows ≡ true → here ≡ true) → here ≡ true
        either true some later = refl
        either false some later = later some

-- ---- one more area

pub all-with_area : (p : Area → Bool) (x : Area) (areas : List Area) → p x ≡ true → list_all p areas ≡ true
    → list_all p (with_area x areas) ≡ true
all-with_area = all-inserted lies_before

-- the memory objects that stand have areas still
pub areas_still : (x : Area) (areas : List Area) (memory : List MemoryObject) → have_areas areas memory ≡ true
    → have_areas (with_area x areas) memory ≡ true
areas_still x areas memory used =
    all_weaker (λ (m : MemoryObject). has_area areas m.number)
    (λ (m : MemoryObject). has_area (with_area x areas) m.number) memory
    (λ m has. any-with_area (λ (a : Area). eqb a.memory m.number) x areas
    ∙ or_right (eqb x.memory m.number) (has_area areas m.number) has) used

-- and one that comes with its area has that
pub areas-with_area : (x : Area) (areas : List Area) (memory : List MemoryObject) (m : MemoryObject)
    → eqb x.memory m.number ≡ true → have_areas areas memory ≡ true
    → have_areas (with_area x areas) (memory ++ m ∷ []) ≡ true
areas-with_area x areas memory m is used =
    list_all-append (λ (m : MemoryObject). has_area (with_area x areas) m.number) memory (m ∷ [])
    ∙ both_true _ _
    (areas_still x areas memory used)
    (both_true _ _ (any-with_area (λ (a : Area). eqb a.memory m.number) x areas
    ∙ or_left (eqb x.memory m.number) (has_area areas m.number) is) refl)

share_with_itself : (a : Area) → share_in_file a a ≡ true
share_with_itself a = or_right (not (eqb a.memory a.memory)) _ (grind (arith, nat_tests))

share_both : (a b : Area) → share_in_file a b ≡ true → share_in_file b a ≡ true
share_both a b is = grind (arith, nat_tests)

-- one that shares its memory object with areas of its file alone
pub shared-with_area : (x : Area) (areas : List Area) → list_all (share_in_file x) areas ≡ true
    → share_in_files areas ≡ true → share_in_files (with_area x areas) ≡ true
shared-with_area x areas of_file shared =
    all-with_area (λ (a : Area). list_all (share_in_file a) (with_area x areas)) x areas
    (all-with_area (share_in_file x) x areas (share_with_itself x) of_file)
    (of_all (λ (a : Area). list_all (share_in_file a) (with_area x areas)) areas
    (λ a within. all-with_area (share_in_file a) x areas
    (share_both x a (of_each (share_in_file x) areas a of_file within))
    (of_each (λ (a : Area). list_all (share_in_file a) areas) areas a shared within)))

-- one whose memory object no other area is over
pub shares_none : (x : Area) (areas : List Area) → has_area areas x.memory ≡ false
    → list_all (share_in_file x) areas ≡ true
shares_none x [] free = refl
shares_none x (a ∷ areas) free =
    let frees = or_false (eqb a.memory x.memory) (has_area areas x.memory) free in
    both_true _ _ (or_left (not (eqb x.memory a.memory)) _ (unlike x.memory a.memory frees.0))
    (shares_none x areas frees.1)
  where
    unlike : (m n : ℕ) → eqb n m ≡ false → not (eqb m n) ≡ true
    unlike m n other = grind (arith, nat_tests)

-- ---- fewer areas

pub shared-filter : (q : Area → Bool) (areas : List Area) → share_in_files areas ≡ true
    → share_in_files (filter q areas) ≡ true
shared-filter q areas shared =
    all_filter (λ (a : Area). list_all (share_in_file a) (filter q areas)) q areas
    (all_weaker (λ (a : Area). list_all (share_in_file a) areas)
    (λ (a : Area). list_all (share_in_file a) (filter q areas)) areas
    (λ a all. all_filter (share_in_file a) q areas all) shared)

pub areas-filter : (goes : Area → Bool) (areas : List Area) (memory : List MemoryObject)
    → have_areas (filter (λ (a : Area). not (goes a)) areas)
    (filter (λ m. list_any (λ (a : Area). eqb a.memory m.number && not (goes a)) areas) memory) ≡ true
areas-filter goes areas memory =
    all_weaker (λ (m : MemoryObject). list_any (λ (a : Area). eqb a.memory m.number && not (goes a)) areas)
    (λ (m : MemoryObject). has_area (filter (λ (a : Area). not (goes a)) areas) m.number)
    (filter (λ m. list_any (λ (a : Area). eqb a.memory m.number && not (goes a)) areas) memory)
    (λ m has. any-filter (λ (a : Area). eqb a.memory m.number) (λ (a : Area). not (goes a)) areas
    ∙ any_weaker (λ (a : Area). eqb a.memory m.number && not (goes a)) (λ (a : Area). not (goes a)
    && eqb a.memory m.number) areas (λ a both. let parts = and_true (eqb a.memory m.number) (not (goes a))
    both in both_true _ _ parts.1 parts.0) has)
    (all_pass (λ (m : MemoryObject). list_any (λ (a : Area). eqb a.memory m.number && not (goes a)) areas) memory)

-- ---- the same areas in other phases

pub has_area-map : (phase : Area → Phase) (areas : List Area) (n : ℕ)
    → has_area (map (λ (a : Area). with_phase (phase a) a) areas) n ≡ has_area areas n
has_area-map phase [] n = refl
has_area-map phase (a ∷ areas) n = ap (λ b. eqb a.memory n || b) (has_area-map phase areas n)

pub shared-map : (phase : Area → Phase) (areas : List Area) → share_in_files areas ≡ true
    → share_in_files (map (λ (a : Area). with_phase (phase a) a) areas) ≡ true
shared-map phase areas shared =
    let moved = λ (a : Area). with_phase (phase a) a in
    all_map (λ (a : Area). list_all (share_in_file a) (map moved areas))
    (λ (a : Area). list_all (share_in_file a) areas) moved areas
    (λ a all. all_map (share_in_file (moved a)) (share_in_file a) moved areas (λ b is. is) all) shared

pub areas-map : (phase : Area → Phase) (areas : List Area) (memory : List MemoryObject) → have_areas areas memory ≡ true
    → have_areas (map (λ (a : Area). with_phase (phase a) a) areas) memory ≡ true
areas-map phase areas memory used =
    all_weaker (λ (m : MemoryObject). has_area areas m.number)
    (λ (m : MemoryObject). has_area (map (λ (a : Area). with_phase (phase a) a) areas) m.number) memory
    (λ m has. has_area-map phase areas m.number ∙ has) used

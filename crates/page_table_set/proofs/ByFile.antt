-- Page tables by rising file: where those of one file stand.
use Rattle.std.proofs.Common.{◌≡◌, ℕ, zero, suc, ◌+◌, ◌-◌, ◌≤◌, ◌<◌, Bool, true, false, cond, ◌&&◌, ◌||◌, eqb, leb}
use Rattle.std.proofs.Common.{ltb, Option, Some, List, [], ◌∷◌, length, take, drop, refl, ap, ◌∙◌, arith, ⊎_elim}
use Rattle.std.specs.List.{AllWithin, filter, find, list_all, list_any, prefix_len, slice_get}
use Rattle.std.specs.List.Sorted.{IsNonDecreasingBy}
use Rattle.std.proofs.lemmas.Bool.{and_parts, cases_Bool}
use Rattle.std.proofs.lemmas.Bool.Decides.{nat_tests}
use Rattle.std.proofs.lemmas.List.Sums.{AllPass-from_list_all}
use Rattle.iofd_rows.proofs.Inserted.{all-inserted}
use Rattle.iofd_words.specs.Objects.{comes_before, is_object}
use Rattle.iofd_words.specs.declared.numbers.FileNo.{FileNo}
use Rattle.iofd_words.specs.declared.numbers.ObjId.{ObjId}
use Rattle.page_table_set.specs.PageTables.{Hwpt, are_by_file, stands_before, with_hwpt}
use Rattle.page_table_set.specs.Removed.{without_hwpt}

abbrev pub file_of : Hwpt → ℕ
file_of h = h.object.file.0

abbrev from_file : ℕ → List Hwpt → Bool
from_file file tables = list_all (λ next. leb file (file_of next)) tables

pub by_file_parts : (h : Hwpt) (tables : List Hwpt) → are_by_file (h ∷ tables) ≡ true
    → (from_file (file_of h) tables ≡ true) × (are_by_file tables ≡ true)
by_file_parts h tables rising = and_parts (from_file (file_of h) tables) (are_by_file tables) rising

pub never_fall : (tables : List Hwpt) → are_by_file tables ≡ true → IsNonDecreasingBy file_of tables
never_fall [] rising i j d up within = absurd (omega (arith, within))
never_fall (h ∷ tables) rising zero zero d up within = omega arith
never_fall (h ∷ tables) rising zero (suc j) d up within =
    let later = AllPass-from_list_all (λ (next : Hwpt). leb (file_of h) (file_of next)) tables
    (by_file_parts h tables rising).0 j d (omega (arith, within)) in
    grind (arith, nat_tests)
never_fall (h ∷ tables) rising (suc i) zero d up within = absurd (omega (arith, up))
never_fall (h ∷ tables) rising (suc i) (suc j) d up within =
    never_fall tables (by_file_parts h tables rising).1 i j d (omega (arith, up)) (omega (arith, within))

pub prefix_len-from_within : (p : Hwpt → Bool) (tables : List Hwpt) (i : ℕ) → i ≤ length tables
    → AllWithin (λ y. p y ≡ true) tables 0 i → AllWithin (λ y. p y ≡ false) tables i (length tables)
    → i ≡ prefix_len p tables
prefix_len-from_within p [] i within passing failing = omega arith
prefix_len-from_within p (h ∷ tables) zero within passing failing =
    let here : p h ≡ false = failing 0 h (omega arith) (omega arith) in
    grind (arith, nat_tests)
prefix_len-from_within p (h ∷ tables) (suc i) within passing failing =
    let here : p h ≡ true = passing 0 h (omega arith) (omega arith) in
    let rest = prefix_len-from_within p tables i (omega arith)
    (λ k d low high. passing (suc k) d (omega arith) (omega arith))
    (λ k d low high. failing (suc k) d (omega arith) (omega arith)) in
    grind (arith, nat_tests)

-- ---- those of one file

abbrev pub below : ℕ → List Hwpt → ℕ
below file tables = prefix_len (λ h. ltb (file_of h) file) tables

abbrev pub until : ℕ → List Hwpt → ℕ
until file tables = prefix_len (λ h. leb (file_of h) file) tables

abbrev pub of_file : ℕ → List Hwpt → List Hwpt
of_file file tables = filter (λ h. eqb (file_of h) file) tables

pub below-until : (file : ℕ) (tables : List Hwpt) → below file tables ≤ until file tables
below-until file [] = omega arith
below-until file (h ∷ tables) =
    let rest = below-until file tables in
    ⊎_elim
    (λ (lower : ltb (file_of h) file ≡ true).
    let here : leb (file_of h) file ≡ true = grind (arith, nat_tests) in
    rw (lower, here) (omega (arith, rest)))
    (λ (reached : ltb (file_of h) file ≡ false). rw reached (omega arith))
    (cases_Bool (ltb (file_of h) file))

-- behind one that isn't lower none is
pub none_below : (file : ℕ) (low : ℕ) (tables : List Hwpt) → from_file low tables ≡ true → file ≤ low
    → below file tables ≡ 0
none_below file low [] from reached = refl
none_below file low (h ∷ tables) from reached =
    let parts = and_parts (leb low (file_of h)) (from_file low tables) from in
    let here : ltb (file_of h) file ≡ false = grind (arith, nat_tests) in
    rw here refl

pub none_of : (file : ℕ) (low : ℕ) (tables : List Hwpt) → from_file low tables ≡ true → file < low
    → of_file file tables ≡ []
none_of file low [] from beyond = refl
none_of file low (h ∷ tables) from beyond =
    let parts = and_parts (leb low (file_of h)) (from_file low tables) from in
    let here : eqb (file_of h) file ≡ false = grind (arith, nat_tests) in
    rw here (none_of file low tables parts.1 beyond)

pub between : (file : ℕ) (tables : List Hwpt) → are_by_file tables ≡ true
    → take (until file tables - below file tables) (drop (below file tables) tables) ≡ of_file file tables
between file [] rising = refl
between file (h ∷ tables) rising =
    let parts = by_file_parts h tables rising in
    let rest = between file tables parts.1 in
    ⊎_elim
    (λ (lower : ltb (file_of h) file ≡ true).
    let here : leb (file_of h) file ≡ true = grind (arith, nat_tests) in
    let other : eqb (file_of h) file ≡ false = grind (arith, nat_tests) in
    let next : 1 + below file tables ≡ suc (below file tables) = omega arith in
    let count : (1 + until file tables) - suc (below file tables) ≡ until file tables - below file tables =
    omega arith in
    rw (lower, here, other, next, count) rest)
    (λ (reached : ltb (file_of h) file ≡ false).
    ⊎_elim
    (λ (here : leb (file_of h) file ≡ true).
    let same : eqb (file_of h) file ≡ true = grind (arith, nat_tests) in
    let first : below file tables ≡ 0 = none_below file (file_of h) tables parts.0 (grind (arith, nat_tests)) in
    let count : (1 + until file tables) - 0 ≡ suc (until file tables - 0) = omega arith in
    rw (reached, here, same, count) (ap (λ list. h ∷ list) (rw first at rest)))
    (λ (beyond : leb (file_of h) file ≡ false).
    let other : eqb (file_of h) file ≡ false = grind (arith, nat_tests) in
    let none = none_of file (file_of h) tables parts.0 (grind (arith, nat_tests)) in
    rw (reached, beyond, other, none) refl)
    (cases_Bool (leb (file_of h) file)))
    (cases_Bool (ltb (file_of h) file))

-- what one of them passes is told by them alone
pub any_of : (file : ℕ) (p : Hwpt → Bool) (tables : List Hwpt)
    → list_any (λ h. eqb (file_of h) file && p h) (of_file file tables)
    ≡ list_any (λ h. eqb (file_of h) file && p h) tables
any_of file p [] = refl
any_of file p (h ∷ tables) =
    let test : Hwpt → Bool = λ x. eqb (file_of x) file && p x in
    let rest = of_file file tables in
    ⊎_elim
    (λ (is : eqb (file_of h) file ≡ true). ap (λ (b : Bool). list_any test (cond b (h ∷ rest) rest)) is
    ∙ ap (λ (b : Bool). test h || b) (any_of file p tables))
    (λ (other : eqb (file_of h) file ≡ false). rw other (any_of file p tables))
    (cases_Bool (eqb (file_of h) file))

pub find_of : (file : ℕ) (p : Hwpt → Bool) (tables : List Hwpt)
    → find (λ h. eqb (file_of h) file && p h) (of_file file tables)
    ≡ find (λ h. eqb (file_of h) file && p h) tables
find_of file p [] = refl
find_of file p (h ∷ tables) =
    let test : Hwpt → Bool = λ x. eqb (file_of x) file && p x in
    let rest = of_file file tables in
    ⊎_elim
    (λ (is : eqb (file_of h) file ≡ true). ap (λ (b : Bool). find test (cond b (h ∷ rest) rest)) is
    ∙ ap (λ (o : Option Hwpt). cond (test h) (Some h) o) (find_of file p tables))
    (λ (other : eqb (file_of h) file ≡ false). rw other (find_of file p tables))
    (cases_Bool (eqb (file_of h) file))

pub first_of : (file : ℕ) (tables : List Hwpt)
    → find (λ h. eqb (file_of h) file) tables ≡ slice_get (of_file file tables) 0
first_of file [] = refl
first_of file (h ∷ tables) =
    ⊎_elim
    (λ (is : eqb (file_of h) file ≡ true). rw is refl)
    (λ (other : eqb (file_of h) file ≡ false). rw other (first_of file tables))
    (cases_Bool (eqb (file_of h) file))

-- ---- changes keep the order

from_lower : (file low : ℕ) (tables : List Hwpt) → from_file low tables ≡ true → file ≤ low
    → from_file file tables ≡ true
from_lower file low [] from lower = refl
from_lower file low (h ∷ tables) from lower =
    let parts = and_parts (leb low (file_of h)) (from_file low tables) from in
    let here : leb file (file_of h) ≡ true = grind (arith, nat_tests) in
    rw here (from_lower file low tables parts.1 lower)

from_with : (file : ℕ) (hwpt : Hwpt) (tables : List Hwpt) → leb file (file_of hwpt) ≡ true
    → from_file file tables ≡ true → from_file file (with_hwpt hwpt tables) ≡ true
from_with file = all-inserted stands_before (λ (next : Hwpt). leb file (file_of next))

pub by_file-with : (hwpt : Hwpt) (tables : List Hwpt) → are_by_file tables ≡ true
    → are_by_file (with_hwpt hwpt tables) ≡ true
by_file-with hwpt [] rising = refl
by_file-with hwpt (h ∷ tables) rising =
    let parts = by_file_parts h tables rising in
    ⊎_elim
    (λ (before : comes_before hwpt.object h.object ≡ true).
    let low : file_of hwpt ≤ file_of h = grind (arith, nat_tests) in
    let here : leb (file_of hwpt) (file_of h) ≡ true = grind (arith, nat_tests) in
    let all = from_lower (file_of hwpt) (file_of h) tables parts.0 low in
    rw (before, here, all) rising)
    (λ (after : comes_before hwpt.object h.object ≡ false).
    let here : leb (file_of h) (file_of hwpt) ≡ true = grind (arith, nat_tests) in
    let all = from_with (file_of h) hwpt tables here parts.0 in
    rw (after, all) (by_file-with hwpt tables parts.1))
    (cases_Bool (comes_before hwpt.object h.object))

from_without : (low : ℕ) (file : FileNo) (id : ObjId) (tables : List Hwpt) → from_file low tables ≡ true
    → from_file low (without_hwpt file id tables) ≡ true
from_without low file id [] from = refl
from_without low file id (h ∷ tables) from =
    let parts = and_parts (leb low (file_of h)) (from_file low tables) from in
    ⊎_elim
    (λ (it : is_object file id h.object ≡ true). rw it parts.1)
    (λ (other : is_object file id h.object ≡ false). rw (other, parts.0) (from_without low file id tables parts.1))
    (cases_Bool (is_object file id h.object))

pub by_file-without : (file : FileNo) (id : ObjId) (tables : List Hwpt) → are_by_file tables ≡ true
    → are_by_file (without_hwpt file id tables) ≡ true
by_file-without file id [] rising = refl
by_file-without file id (h ∷ tables) rising =
    let parts = by_file_parts h tables rising in
    let all = from_without (file_of h) file id tables parts.0 in
    ⊎_elim
    (λ (it : is_object file id h.object ≡ true). rw it parts.1)
    (λ (other : is_object file id h.object ≡ false). rw (other, all) (by_file-without file id tables parts.1))
    (cases_Bool (is_object file id h.object))

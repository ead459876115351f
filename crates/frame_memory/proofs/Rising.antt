-- Users' pages by rising user and page: where one of them stands, and what one more or one less makes of them.
use Rattle.std.proofs.Common.{◌≡◌, ℕ, zero, suc, ◌+◌, Bool, true, false, cond, eqb, not, Option, Some, None, List, []}
use Rattle.std.proofs.Common.{◌∷◌, refl, sym, ap, ◌∙◌, subst, arith, ⊎_elim}
use Rattle.std.specs.List.{filter, find, insert, list_all, remove, slice_get}
use Rattle.std.specs.Option.{IfSome}
use Rattle.std.proofs.lemmas.Bool.{and_parts, cases_Bool}
use Rattle.std.proofs.lemmas.Bool.Decides.{nat_tests}
use Rattle.std.proofs.lemmas.List.Sums.{sum_by-insert}
use Rattle.iofd_words.specs.Frames.{frame_at}
use Rattle.iofd_words.specs.declared.numbers.FrameNo.{FrameNo}
use Rattle.iofd_words.specs.declared.numbers.UserNo.{UserNo}
use Rattle.iofd_words.specs.declared.rows.UserPage.{UserPage}
use Rattle.frame_memory.specs.UserPages.{HasOneMore, are_rising, count_below, is_below, is_page, user_page}
use Rattle.frame_memory.specs.UserPages.{without_page}

-- ---- one before the other

-- what stands before a page stands before all that come after it
below-trans : (user : UserNo) (page : ℕ) (a b : UserPage) → is_below b.user b.page a ≡ true
    → is_below user page b ≡ true → is_below user page a ≡ true
below-trans user page a b first next = grind (arith, nat_tests)

-- a row that stands before a page isn't that page's
below-not_page : (user : UserNo) (page : ℕ) (a : UserPage) → is_below user page a ≡ true → is_page user page a ≡ false
below-not_page user page a below = grind (arith, nat_tests)

-- what comes after a row that doesn't stand before a page neither stands before the page nor is its
after-not_page : (user : UserNo) (page : ℕ) (a b : UserPage) → is_below b.user b.page a ≡ true
    → is_below user page a ≡ false → is_page user page b ≡ false
after-not_page user page a b first reached = grind (arith, nat_tests)

-- ---- where a page stands

-- behind a row that doesn't stand before a page there is no row of that page
pub none_after : (user : UserNo) (page : ℕ) (row : UserPage) (rows : List UserPage)
    → list_all (λ next. is_below next.user next.page row) rows ≡ true → is_below user page row ≡ false
    → find (is_page user page) rows ≡ None
none_after user page row [] after reached = refl
none_after user page row (next ∷ rows) after reached =
    let parts = and_parts (is_below next.user next.page row)
    (list_all (λ other. is_below other.user other.page row) rows) after in
    let not_page = after-not_page user page row next parts.0 reached in
    rw not_page (none_after user page row rows parts.1 reached)

-- the row at the place, if it is the page's
abbrev pub if_page : UserNo → ℕ → Option UserPage → Option UserPage
if_page user page None = None
if_page user page (Some row) = cond (is_page user page row) (Some row) None

pub found_at_place : (user : UserNo) (page : ℕ) (rows : List UserPage) → are_rising rows ≡ true
    → find (is_page user page) rows ≡ if_page user page (slice_get rows (count_below rows user page))
found_at_place user page [] rising = refl
found_at_place user page (row ∷ rows) rising =
    let parts = and_parts (list_all (λ next. is_below next.user next.page row) rows) (are_rising rows) rising in
    ⊎_elim
    (λ (below : is_below user page row ≡ true).
    let not_page = below-not_page user page row below in
    let next : 1 + count_below rows user page ≡ suc (count_below rows user page) = omega arith in
    rw (below, not_page, next) (found_at_place user page rows parts.1))
    (λ (reached : is_below user page row ≡ false).
    let none = none_after user page row rows parts.0 reached in
    rw (reached, none) refl)
    (cases_Bool (is_below user page row))

-- ---- one more

-- an insertion behind the first row, and a removal there
insert_behind : (x : UserPage) (rows : List UserPage) (n : ℕ) (row : UserPage)
    → insert (x ∷ rows) (1 + n) row ≡ x ∷ insert rows n row
insert_behind x rows n row = let next : 1 + n ≡ suc n = omega arith in rw next refl

remove_behind : (x : UserPage) (rows : List UserPage) (n : ℕ) → remove (x ∷ rows) (1 + n) ≡ x ∷ remove rows n
remove_behind x rows n = let next : 1 + n ≡ suc n = omega arith in rw next refl

-- what all rows pass, all rows and one more that passes do
all_inserted : (p : UserPage → Bool) (rows : List UserPage) (n : ℕ) (row : UserPage) → list_all p rows ≡ true
    → p row ≡ true → list_all p (insert rows n row) ≡ true
all_inserted p [] zero row all here = rw here refl
all_inserted p [] (suc n) row all here = rw here refl
all_inserted p (x ∷ rows) zero row all here = rw (here, all) refl
all_inserted p (x ∷ rows) (suc n) row all here =
    let parts = and_parts (p x) (list_all p rows) all in
    let rest = all_inserted p rows n row parts.1 here in
    rw (parts.0, rest) refl

-- a row that neither stands before a page nor is its stands behind it
behind : (row x : UserPage) → is_below row.user row.page x ≡ false → is_page row.user row.page x ≡ false
    → is_below x.user x.page row ≡ true
behind row x reached differ = grind (arith, nat_tests)

all_behind : (row x : UserPage) (rows : List UserPage) → is_below x.user x.page row ≡ true
    → list_all (λ next. is_below next.user next.page x) rows ≡ true
    → list_all (λ next. is_below next.user next.page row) rows ≡ true
all_behind row x [] first all = refl
all_behind row x (next ∷ rows) first all =
    let parts =
    and_parts (is_below next.user next.page x) (list_all (λ other. is_below other.user other.page x) rows) all in
    let here = below-trans next.user next.page row x first parts.0 in
    let rest = all_behind row x rows first parts.1 in
    rw (here, rest) refl

-- where no row passes, the first doesn't, nor a later one
none_parts : (p : UserPage → Bool) (x : UserPage) (rows : List UserPage) → find p (x ∷ rows) ≡ None
    → (p x ≡ false) × (find p rows ≡ None)
none_parts p x rows none = by_test (p x) none
  where
    by_test : (b : Bool) → cond b (Some x) (find p rows) ≡ None → (b ≡ false) × (find p rows ≡ None)
    by_test true is = cc
    by_test false is = (refl, is)

pub rising_more : (row : UserPage) (rows : List UserPage) → are_rising rows ≡ true
    → find (is_page row.user row.page) rows ≡ None
    → are_rising (insert rows (count_below rows row.user row.page) row) ≡ true
rising_more row [] rising absent = refl
rising_more row (x ∷ rows) rising absent =
    let parts = and_parts (list_all (λ next. is_below next.user next.page x) rows) (are_rising rows) rising in
    let others = none_parts (is_page row.user row.page) x rows absent in
    ⊎_elim
    (λ (below : is_below row.user row.page x ≡ true).
    let rest = rising_more row rows parts.1 others.1 in
    let after = all_inserted (λ next. is_below next.user next.page x) rows
    (count_below rows row.user row.page) row parts.0 below in
    rw (below, insert_behind x rows (count_below rows row.user row.page) row, after, rest) refl)
    (λ (reached : is_below row.user row.page x ≡ false).
    let first = behind row x reached others.0 in
    let after = all_behind row x rows first parts.0 in
    rw (reached, first, after, parts.0, parts.1) refl)
    (cases_Bool (is_below row.user row.page x))

-- a row that fails a test is passed over, wherever it stands; one that passes is found where no other passes
pub find_passed : (p : UserPage → Bool) (rows : List UserPage) (n : ℕ) (row : UserPage) → p row ≡ false
    → find p (insert rows n row) ≡ find p rows
find_passed p [] zero row fails = rw fails refl
find_passed p [] (suc n) row fails = rw fails refl
find_passed p (x ∷ rows) zero row fails = rw fails refl
find_passed p (x ∷ rows) (suc n) row fails = ap (λ found. cond (p x) (Some x) found) (find_passed p rows n row fails)

pub find_inserted : (p : UserPage → Bool) (rows : List UserPage) (n : ℕ) (row : UserPage) → p row ≡ true
    → find p rows ≡ None → find p (insert rows n row) ≡ Some row
find_inserted p [] zero row passes none = rw passes refl
find_inserted p [] (suc n) row passes none = rw passes refl
find_inserted p (x ∷ rows) zero row passes none = rw passes refl
find_inserted p (x ∷ rows) (suc n) row passes none =
    let parts = none_parts p x rows none in
    rw parts.0 (find_inserted p rows n row passes parts.1)

-- the frame of what is found
abbrev pub frame_found : Option UserPage → Option FrameNo
frame_found None = None
frame_found (Some row) = Some row.frame

pub frame_at-find : (rows : List UserPage) (user : UserNo) (page : ℕ)
    → frame_at rows user page ≡ frame_found (find (is_page user page) rows)
frame_at-find rows user page = by_cases (find (is_page user page) rows)
  where
    by_cases : (o : Option UserPage) → elim o [ Some p ↦ Some p.frame | None ↦ None ] ≡ frame_found o
    by_cases None = refl
    by_cases (Some row) = refl

-- the page of the row
pub same_page : (user : UserNo) (page : ℕ) (row : UserPage) (rows : List UserPage) → is_page user page row ≡ true
    → find (is_page row.user row.page) rows ≡ find (is_page user page) rows
same_page user page row rows is =
    let parts = and_parts (eqb row.user.0 user.0) (eqb row.page page) is in
    let users : row.user.0 ≡ user.0 = search (parts.0, arith, nat_tests) in
    let pages : row.page ≡ page = search (parts.1, arith, nat_tests) in
    rw (users, pages) refl

pub one_more : (rows : List UserPage) (n : ℕ) (row : UserPage) → find (is_page row.user row.page) rows ≡ None
    → HasOneMore rows (insert rows n row) row
one_more rows n row absent = record {
  absent = frame_at-find rows row.user row.page ∙ ap frame_found absent;
  frames = λ user page. frame_at-find (insert rows n row) user page ∙ ⊎_elim
      (λ (here : is_page user page row ≡ true).
      let none = sym (same_page user page row rows here) ∙ absent in
      rw here (ap frame_found (find_inserted (is_page user page) rows n row here none)))
      (λ (other : is_page user page row ≡ false).
      rw other (ap frame_found (find_passed (is_page user page) rows n row other) ∙ sym (frame_at-find rows user page)))
      (cases_Bool (is_page user page row));
  counts = λ test. sum_by-insert (λ r. cond (test r) 1 0) rows n row;
}

-- ---- one less

none_kept : (p : UserPage → Bool) (rows : List UserPage) → find p rows ≡ None → filter (λ r. not (p r)) rows ≡ rows
none_kept p [] none = refl
none_kept p (x ∷ rows) none =
    let parts = none_parts p x rows none in
    rw parts.0 (ap (λ rest. x ∷ rest) (none_kept p rows parts.1))

pub none_left : (p : UserPage → Bool) (rows : List UserPage) → find p (filter (λ r. not (p r)) rows) ≡ None
none_left p [] = refl
none_left p (x ∷ rows) =
    ⊎_elim (λ (yes : p x ≡ true). rw yes (none_left p rows))
    (λ (no : p x ≡ false). rw (no, no) (none_left p rows)) (cases_Bool (p x))

some_at_place : (user : UserNo) (page : ℕ) (o : Option UserPage) (row : UserPage) → if_page user page o ≡ Some row
    → (o ≡ Some row) × (is_page user page row ≡ true)
some_at_place user page None row is = cc
some_at_place user page (Some x) row is = by_test (is_page user page x) refl is
  where
    by_test : (b : Bool) → is_page user page x ≡ b → cond b (Some x) None ≡ Some row
        → (Some x ≡ Some row) × (is_page user page row ≡ true)
    by_test true here found = let same : x ≡ row = cc in (found, rw same at here)
    by_test false here found = cc

-- the row of a page that is there stands behind those below the page
pub row_there : (user : UserNo) (page : ℕ) (rows : List UserPage) (row : UserPage) → are_rising rows ≡ true
    → find (is_page user page) rows ≡ Some row → (slice_get rows (count_below rows user page) ≡ Some row)
    × (is_page user page row ≡ true)
row_there user page rows row rising found =
    some_at_place user page (slice_get rows (count_below rows user page)) row
    (sym (found_at_place user page rows rising) ∙ found)

pub removed : (user : UserNo) (page : ℕ) (rows : List UserPage) (row : UserPage) → are_rising rows ≡ true
    → find (is_page user page) rows ≡ Some row → remove rows (count_below rows user page) ≡ without_page rows user page
removed user page [] row rising found = cc
removed user page (x ∷ rows) row rising found =
    let parts = and_parts (list_all (λ next. is_below next.user next.page x) rows) (are_rising rows) rising in
    ⊎_elim
    (λ (below : is_below user page x ≡ true).
    let other = below-not_page user page x below in
    let later : find (is_page user page) rows ≡ Some row = rw other at found in
    let rest = removed user page rows row parts.1 later in
    rw (below, other, remove_behind x rows (count_below rows user page)) (ap (λ xs. x ∷ xs) rest))
    (λ (reached : is_below user page x ≡ false).
    let none = none_after user page x rows parts.0 reached in
    rw reached (by_test (is_page user page x) (rw none at found) (none_kept (is_page user page) rows none)))
    (cases_Bool (is_below user page x))
  where
    by_test : (b : Bool) → cond b (Some x) None ≡ Some row → filter (λ r. not (is_page user page r)) rows ≡ rows
        → rows ≡ cond (not b) (x ∷ filter (λ r. not (is_page user page r)) rows)
        (filter (λ r. not (is_page user page r)) rows)
    by_test true is kept = sym kept
    by_test false is kept = cc

put_back : (rows : List UserPage) (n : ℕ) (row : UserPage) → slice_get rows n ≡ Some row
    → insert (remove rows n) n row ≡ rows
put_back [] n row is = cc
put_back (x ∷ rows) zero row is = let same : x ≡ row = cc in ap (λ r. r ∷ rows) (sym same)
put_back (x ∷ rows) (suc n) row is = ap (λ xs. x ∷ xs) (put_back rows n row is)

pub one_less : (user : UserNo) (page : ℕ) (rows : List UserPage) (row : UserPage) → are_rising rows ≡ true
    → find (is_page user page) rows ≡ Some row → HasOneMore (remove rows (count_below rows user page)) rows row
one_less user page rows row rising found =
    let there = row_there user page rows row rising found in
    let n = count_below rows user page in
    let absent = same_page user page row (remove rows n) there.1
    ∙ ap (find (is_page user page)) (removed user page rows row rising found)
    ∙ none_left (is_page user page) rows in
    let P : List UserPage → Type 0 = λ xs. HasOneMore (remove rows n) xs row in
    subst P (put_back rows n row there.0) (one_more (remove rows n) n row absent)

all_kept : (p q : UserPage → Bool) (rows : List UserPage) → list_all p rows ≡ true → list_all p (filter q rows) ≡ true
all_kept p q [] all = refl
all_kept p q (x ∷ rows) all =
    let parts = and_parts (p x) (list_all p rows) all in
    let rest = all_kept p q rows parts.1 in
    ⊎_elim (λ (yes : q x ≡ true). rw (yes, parts.0, rest) refl)
    (λ (no : q x ≡ false). rw (no, rest) refl) (cases_Bool (q x))

pub rising_less : (q : UserPage → Bool) (rows : List UserPage) → are_rising rows ≡ true
    → are_rising (filter q rows) ≡ true
rising_less q [] rising = refl
rising_less q (x ∷ rows) rising =
    let parts = and_parts (list_all (λ next. is_below next.user next.page x) rows) (are_rising rows) rising in
    let rest = rising_less q rows parts.1 in
    let after = all_kept (λ next. is_below next.user next.page x) q rows parts.0 in
    ⊎_elim (λ (yes : q x ≡ true). rw (yes, after, rest) refl)
    (λ (no : q x ≡ false). rw (no, rest) refl) (cases_Bool (q x))

-- the pages without one that is there have its row less
pub page_removed : (user : UserNo) (page : ℕ) (rows : List UserPage) → are_rising rows ≡ true
    → IfSome (find (is_page user page) rows) (λ row. HasOneMore (without_page rows user page) rows row)
page_removed user page rows rising = by_cases (find (is_page user page) rows) refl
  where
    by_cases : (o : Option UserPage) → find (is_page user page) rows ≡ o
        → IfSome o (λ row. HasOneMore (without_page rows user page) rows row)
    by_cases None is = tt
    by_cases (Some row) is =
        let P : List UserPage → Type 0 = λ xs. HasOneMore xs rows row in
        subst P (removed user page rows row rising is) (one_less user page rows row rising is)

-- what is found passes
find_passes : (p : UserPage → Bool) (rows : List UserPage) (row : UserPage) → find p rows ≡ Some row → p row ≡ true
find_passes p [] row is = cc
find_passes p (x ∷ rows) row is =
    ⊎_elim
    (λ (passes : p x ≡ true). let same : Some x ≡ Some row = rw passes at is in let one :
    x ≡ row = cc in rw one at passes)
    (λ (fails : p x ≡ false). let later : find p rows ≡ Some row = rw fails at is in find_passes p rows row later)
    (cases_Bool (p x))

-- the row of a page is told by its frame
row_of_page : (user : UserNo) (page : ℕ) (row : UserPage) → is_page user page row ≡ true
    → row ≡ user_page user page row.frame
row_of_page user page row is =
    let parts = and_parts (eqb row.user.0 user.0) (eqb row.page page) is in
    let users : row.user.0 ≡ user.0 = search (parts.0, arith, nat_tests) in
    let pages : row.page ≡ page = search (parts.1, arith, nat_tests) in
    λ i. record { user = record { 0 = users i }; page = pages i; frame = row.frame }

pub less_by_frame : (user : UserNo) (page : ℕ) (rows new : List UserPage)
    → IfSome (find (is_page user page) rows) (λ row. HasOneMore new rows row)
    → IfSome (frame_at rows user page) (λ frame. HasOneMore new rows (user_page user page frame))
less_by_frame user page rows new less =
    let P : Option FrameNo → Type 0 = λ o. IfSome o (λ frame. HasOneMore new rows (user_page user page frame)) in
    subst P (sym (frame_at-find rows user page))
    (by_cases (find (is_page user page) rows) (λ row is. find_passes (is_page user page) rows row is) less)
  where
    by_cases : (o : Option UserPage) → ((row : UserPage) → o ≡ Some row → is_page user page row ≡ true)
        → IfSome o (λ row. HasOneMore new rows row)
        → IfSome (frame_found o) (λ frame. HasOneMore new rows (user_page user page frame))
    by_cases None passes one = tt
    by_cases (Some row) passes one =
        let Q : UserPage → Type 0 = λ r. HasOneMore new rows r in
        subst Q (row_of_page user page row (passes row refl)) one

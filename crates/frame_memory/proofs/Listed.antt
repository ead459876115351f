-- What the pages of a map are, told by what it finds at each key.
use Rattle.std.proofs.Common.{◌≡◌, ℕ, zero, suc, Bool, true, false, cond, eqb, not, Option, Some, None, List, []}
use Rattle.std.proofs.Common.{◌∷◌, length, refl, sym, ap, ◌∙◌, subst, arith, ⊎_elim}
use Rattle.std.specs.List.{AllByRecursion, IsDistinct, filter, find, insert, list_all}
use Rattle.std.specs.Prelude.{Result, Ok, Err}
use Rattle.std.specs.Result.{IsOk, OnOk}
use Rattle.std.specs.Map.{keys_of, lookup}
use Rattle.std.proofs.lemmas.Bool.{and_parts, cases_Bool}
use Rattle.std.proofs.lemmas.Bool.Decides.{nat_tests}
use Rattle.std.proofs.lemmas.Map.Keys.{IsDistinct-cons, IsDistinct-head, IsDistinct-tail}
use Rattle.iofd_words.specs.Frames.{frame_at}
use Rattle.iofd_words.specs.declared.numbers.FrameNo.{FrameNo}
use Rattle.iofd_words.specs.declared.numbers.UserNo.{UserNo}
use Rattle.iofd_words.specs.declared.rows.UserPage.{UserPage}
use Rattle.frame_memory.specs.PageFrames.{is_same, pages_of}
use Rattle.frame_memory.specs.UserPages.{are_rising, count_below, is_below, is_page, user_page, with_page, without_page}
use Rattle.frame_memory.proofs.Rising.{find_inserted, find_passed, frame_at-find, frame_found, none_after, none_left}
use Rattle.frame_memory.proofs.Rising.{rising_less, rising_more, same_page}

abbrev pub Entries : Type 0
Entries = List ((ℕ × ℕ) × FrameNo)

-- the row of an entry
abbrev row_of : (ℕ × ℕ) × FrameNo → UserPage
row_of entry = user_page (record { 0 = entry.0.0 }) entry.0.1 entry.1

-- the key of a page
abbrev key_of : UserNo → ℕ → ℕ × ℕ
key_of user page = (user.0, page)

-- ---- keys

flip : (k q : ℕ × ℕ) → is_same k q ≡ is_same q k
flip k q = grind (arith, nat_tests)

same_key : (k q : ℕ × ℕ) → is_same k q ≡ true → k ≡ q
same_key k q same =
    let parts = and_parts (eqb k.0 q.0) (eqb k.1 q.1) same in
    let first : k.0 ≡ q.0 = search (parts.0, arith, nat_tests) in
    let second : k.1 ≡ q.1 = search (parts.1, arith, nat_tests) in
    λ i. (first i, second i)

-- a key that differs from all isn't found
pub not_among : (k : ℕ × ℕ) (es : Entries) → AllByRecursion (λ q. is_same k q ≡ false) (keys_of es)
    → lookup (is_same k) es ≡ None
not_among k [] all = refl
not_among k (e ∷ es) all = rw all.0 (not_among k es all.1)

pub differs : (k : ℕ × ℕ) (es : Entries) → lookup (is_same k) es ≡ None
    → AllByRecursion (λ q. is_same k q ≡ false) (keys_of es)
differs k [] none = tt
differs k (e ∷ es) none = by_test (is_same k e.0) refl none (differs k es)
  where
    by_test : (b : Bool) → is_same k e.0 ≡ b → cond b (Some e.1) (lookup (is_same k) es) ≡ None
        → (lookup (is_same k) es ≡ None → AllByRecursion (λ q. is_same k q ≡ false) (keys_of es))
        → AllByRecursion (λ q. is_same k q ≡ false) (keys_of (e ∷ es))
    by_test true is found others = cc
    by_test false is later others = (is, others later)

-- ---- what is found among the pages

-- the row that a frame makes
abbrev pub row_found : UserNo → ℕ → Option FrameNo → Option UserPage
row_found user page None = None
row_found user page (Some frame) = Some (user_page user page frame)

pub find_page : (es : Entries) → IsDistinct is_same (keys_of es) → (user : UserNo) (page : ℕ)
    → find (is_page user page) (pages_of es) ≡ row_found user page (lookup (is_same (key_of user page)) es)
find_page [] distinct user page = refl
find_page (e ∷ es) distinct user page =
    let rest = find_page es (IsDistinct-tail is_same e.0 (keys_of es) distinct) user page in
    let row = row_of e in
    let place = count_below (pages_of es) row.user row.page in
    let tests : is_page user page row ≡ is_same (key_of user page) e.0 = flip e.0 (key_of user page) in
    ⊎_elim
    (λ (here : is_same (key_of user page) e.0 ≡ true).
    let same : key_of user page ≡ e.0 = same_key (key_of user page) e.0 here in
    let others = not_among e.0 es (IsDistinct-head is_same e.0 (keys_of es) distinct) in
    let none : find (is_page user page) (pages_of es) ≡ None =
    rest ∙ ap (λ k. row_found user page (lookup (is_same k) es)) same ∙ ap (row_found user page) others in
    find_inserted (is_page user page) (pages_of es) place row (tests ∙ here) none
    ∙ sym (ap (λ (k : ℕ × ℕ). Some (user_page (record { 0 = k.0 }) k.1 e.1)) same)
    ∙ sym (ap (λ (b : Bool). row_found user page (cond b (Some e.1) (lookup (is_same (key_of user page)) es))) here))
    (λ (other : is_same (key_of user page) e.0 ≡ false).
    find_passed (is_page user page) (pages_of es) place row (tests ∙ other)
    ∙ rest
    ∙ sym (ap (λ (b : Bool). row_found user page (cond b (Some e.1) (lookup (is_same (key_of user page)) es))) other))
    (cases_Bool (is_same (key_of user page) e.0))

pub frame_of_page : (es : Entries) → IsDistinct is_same (keys_of es) → (user : UserNo) (page : ℕ)
    → frame_at (pages_of es) user page ≡ lookup (is_same (key_of user page)) es
frame_of_page es distinct user page =
    frame_at-find (pages_of es) user page ∙ ap frame_found (find_page es distinct user page)
    ∙ by_cases (lookup (is_same (key_of user page)) es)
  where
    by_cases : (o : Option FrameNo) → frame_found (row_found user page o) ≡ o
    by_cases None = refl
    by_cases (Some frame) = refl

pub rising_pages : (es : Entries) → IsDistinct is_same (keys_of es) → are_rising (pages_of es) ≡ true
rising_pages [] distinct = refl
rising_pages (e ∷ es) distinct =
    let row = row_of e in
    let rest = IsDistinct-tail is_same e.0 (keys_of es) distinct in
    let others = not_among e.0 es (IsDistinct-head is_same e.0 (keys_of es) distinct) in
    rising_more row (pages_of es) (rising_pages es rest) (find_page es rest row.user row.page
    ∙ ap (row_found row.user row.page) others)

-- ---- rising pages are told by what is found among them

-- of two rows the first stands before the second, behind it, or is of the same page
is_first : (row : UserPage) → is_page row.user row.page row ≡ true
is_first row = grind (arith, nat_tests)

after_both : (row x : UserPage) → is_below row.user row.page x ≡ false → is_page row.user row.page x ≡ false
    → is_below x.user x.page row ≡ true
after_both row x reached differ = grind (arith, nat_tests)

not_below_first : (x y : UserPage) → is_below y.user y.page x ≡ true → is_below x.user x.page y ≡ false
not_below_first x y below = grind (arith, nat_tests)

not_same_behind : (x y : UserPage) → is_below y.user y.page x ≡ true → is_page x.user x.page y ≡ false
not_same_behind x y below = grind (arith, nat_tests)

not_below_itself : (row : UserPage) → is_below row.user row.page row ≡ false
not_below_itself row = grind (arith, nat_tests)

-- a row that stands before the first of others isn't found among them
before_all : (x y : UserPage) (ys : List UserPage) → are_rising (y ∷ ys) ≡ true → is_below y.user y.page x ≡ true
    → find (is_page x.user x.page) (y ∷ ys) ≡ None
before_all x y ys rising below =
    let parts = and_parts (list_all (λ next. is_below next.user next.page y) ys) (are_rising ys) rising in
    rw (not_same_behind x y below) (none_after x.user x.page y ys parts.0 (not_below_first x y below))

found_first : (x : UserPage) (xs : List UserPage) → find (is_page x.user x.page) (x ∷ xs) ≡ Some x
found_first x xs = rw (is_first x) refl

abbrev FindSame : List UserPage → List UserPage → Type 0
FindSame xs ys = (user : UserNo) (page : ℕ) → find (is_page user page) xs ≡ find (is_page user page) ys

-- where the first rows are of one page, they are one row
same_first : (x y : UserPage) (xs ys : List UserPage) → FindSame (x ∷ xs) (y ∷ ys) → is_page x.user x.page y ≡ true
    → x ≡ y
same_first x y xs ys same here =
    let there : find (is_page x.user x.page) (y ∷ ys) ≡ Some y = rw here refl in
    let one : Some x ≡ Some y = sym (found_first x xs) ∙ same x.user x.page ∙ there in
    cc

-- behind one first row the same is found
same_behind : (x : UserPage) (xs ys : List UserPage) → are_rising (x ∷ xs) ≡ true → are_rising (x ∷ ys) ≡ true
    → FindSame (x ∷ xs) (x ∷ ys) → FindSame xs ys
same_behind x xs ys rising others same user page =
    let first = and_parts (list_all (λ next. is_below next.user next.page x) xs) (are_rising xs) rising in
    let second = and_parts (list_all (λ next. is_below next.user next.page x) ys) (are_rising ys) others in
    ⊎_elim
    (λ (here : is_page user page x ≡ true).
    let none : (zs : List UserPage) → list_all (λ next. is_below next.user next.page x) zs ≡ true
    → find (is_page user page) zs ≡ None = λ zs after.
    sym (same_page user page x zs here) ∙ none_after x.user x.page x zs after (not_below_itself x) in
    none xs first.0 ∙ sym (none ys second.0))
    (λ (other : is_page user page x ≡ false).
    sym (ap (λ (b : Bool). cond b (Some x) (find (is_page user page) xs)) other)
    ∙ same user page
    ∙ ap (λ (b : Bool). cond b (Some x) (find (is_page user page) ys)) other)
    (cases_Bool (is_page user page x))

pub same_pages : (xs ys : List UserPage) → are_rising xs ≡ true → are_rising ys ≡ true → FindSame xs ys → xs ≡ ys
same_pages [] [] rising others same = refl
same_pages [] (y ∷ ys) rising others same =
    let none : None ≡ Some y = same y.user y.page ∙ found_first y ys in
    cc
same_pages (x ∷ xs) [] rising others same =
    let none : Some x ≡ None = sym (found_first x xs) ∙ same x.user x.page in
    cc
same_pages (x ∷ xs) (y ∷ ys) rising others same =
    ⊎_elim
    (λ (below : is_below y.user y.page x ≡ true).
    let none : Some x ≡ None = sym (found_first x xs) ∙ same x.user x.page ∙ before_all x y ys others below in
    cc)
    (λ (reached : is_below y.user y.page x ≡ false).
    ⊎_elim
    (λ (here : is_page y.user y.page x ≡ true).
    let one : y ≡ x = same_first y x ys xs (λ user page. sym (same user page)) here in
    let tails = same_tails (sym one) rising others same (same_pages xs ys) in
    ap (λ z. z ∷ xs) (sym one) ∙ ap (λ zs. y ∷ zs) tails)
    (λ (differ : is_page y.user y.page x ≡ false).
    let none : Some y ≡ None =
    sym (found_first y ys) ∙ sym (same y.user y.page) ∙ before_all y x xs rising (after_both y x reached differ) in
    cc)
    (cases_Bool (is_page y.user y.page x)))
    (cases_Bool (is_below y.user y.page x))
  where
    same_tails : x ≡ y → are_rising (x ∷ xs) ≡ true → are_rising (y ∷ ys) ≡ true → FindSame (x ∷ xs) (y ∷ ys)
        → (are_rising xs ≡ true → are_rising ys ≡ true → FindSame xs ys → xs ≡ ys) → xs ≡ ys
    same_tails one rises rise finds behind =
        let P : UserPage → Type 0 = λ z. are_rising (z ∷ ys) ≡ true → FindSame (x ∷ xs) (z ∷ ys) → xs ≡ ys in
        subst P one
        (λ r f. behind
        (and_parts (list_all (λ next. is_below next.user next.page x) xs) (are_rising xs) rises).1
        (and_parts (list_all (λ next. is_below next.user next.page x) ys) (are_rising ys) r).1
        (same_behind x xs ys rises r f))
        rise finds

-- ---- maps that find the same, one more, or one less

pub same_map : (es fs : Entries) → IsDistinct is_same (keys_of es) → IsDistinct is_same (keys_of fs)
    → ((q : ℕ × ℕ) → lookup (is_same q) fs ≡ lookup (is_same q) es) → pages_of fs ≡ pages_of es
same_map es fs old new same =
    same_pages (pages_of fs) (pages_of es) (rising_pages fs new) (rising_pages es old)
    (λ user page. find_page fs new user page ∙ ap (row_found user page) (same (key_of user page))
    ∙ sym (find_page es old user page))

pub one_added : (es fs : Entries) (user : UserNo) (page : ℕ) (frame : FrameNo) → IsDistinct is_same (keys_of es)
    → IsDistinct is_same (keys_of fs) → lookup (is_same (key_of user page)) es ≡ None
    → ((q : ℕ × ℕ) → lookup (is_same q) fs ≡ cond (is_same (key_of user page) q) (Some frame) (lookup (is_same q) es))
    → pages_of fs ≡ with_page (pages_of es) user page frame
one_added es fs user page frame old new absent updated =
    let k = key_of user page in
    same_map ((k, frame) ∷ es) fs (IsDistinct-cons is_same k (keys_of es) (differs k es absent) old) new (λ q. updated q
    ∙ ap (λ (b : Bool). cond b (Some frame) (lookup (is_same q) es)) (flip k q))

-- what fails a test is found as before when those that pass have gone
find_left : (p q : UserPage → Bool) (rows : List UserPage) → ((row : UserPage) → p row ≡ true → q row ≡ false)
    → find p (filter (λ row. not (q row)) rows) ≡ find p rows
find_left p q [] apart = refl
find_left p q (x ∷ rows) apart =
    let rest = find_left p q rows apart in
    ⊎_elim
    (λ (gone : q x ≡ true).
    let other : p x ≡ false =
    ⊎_elim (λ (yes : p x ≡ true). let no = apart x yes in cc) (λ (no : p x ≡ false). no) (cases_Bool (p x)) in
    rw (gone, other) rest)
    (λ (stays : q x ≡ false). rw stays (ap (λ found. cond (p x) (Some x) found) rest))
    (cases_Bool (q x))

-- a row isn't of two pages
apart_pages : (user other : UserNo) (page at : ℕ) (row : UserPage)
    → is_same (key_of user page) (key_of other at) ≡ false → is_page other at row ≡ true → is_page user page row ≡ false
apart_pages user other page at row differ here = grind (arith, nat_tests)

find_without : (rows : List UserPage) (user other : UserNo) (page at : ℕ)
    → find (is_page other at) (without_page rows user page) ≡ cond (is_same (key_of user page) (key_of other at)) None
    (find (is_page other at) rows)
find_without rows user other page at =
    ⊎_elim
    (λ (here : is_same (key_of user page) (key_of other at) ≡ true).
    let same : key_of user page ≡ key_of other at = same_key (key_of user page) (key_of other at) here in
    let P : ℕ × ℕ → Type 0 = λ k. find (is_page (record { 0 = k.0 }) k.1) (without_page rows user page) ≡ None in
    subst P same (none_left (is_page user page) rows)
    ∙ sym (ap (λ (b : Bool). cond b None (find (is_page other at) rows)) here))
    (λ (differ : is_same (key_of user page) (key_of other at) ≡ false).
    find_left (is_page other at) (is_page user page) rows (λ row here. apart_pages user other page at row differ here)
    ∙ sym (ap (λ (b : Bool). cond b None (find (is_page other at) rows)) differ))
    (cases_Bool (is_same (key_of user page) (key_of other at)))

pub one_removed : (es fs : Entries) (user : UserNo) (page : ℕ) → IsDistinct is_same (keys_of es)
    → IsDistinct is_same (keys_of fs) → ((q : ℕ × ℕ)
    → lookup (is_same q) fs ≡ cond (is_same (key_of user page) q) None (lookup (is_same q) es))
    → pages_of fs ≡ without_page (pages_of es) user page
one_removed es fs user page old new updated =
    let k = key_of user page in
    same_pages (pages_of fs) (without_page (pages_of es) user page)
    (rising_pages fs new)
    (rising_less (λ row. not (is_page user page row)) (pages_of es) (rising_pages es old))
    (λ other at.
    find_page fs new other at
    ∙ ap (row_found other at) (updated (key_of other at))
    ∙ passed other at (is_same k (key_of other at)) (lookup (is_same (key_of other at)) es)
    ∙ ap (λ (o : Option UserPage). cond (is_same k (key_of other at)) None o) (sym (find_page es old other at))
    ∙ sym (find_without (pages_of es) user other page at))
  where
    passed : (other : UserNo) (at : ℕ) (b : Bool) (o : Option FrameNo)
        → row_found other at (cond b None o) ≡ cond b None (row_found other at o)
    passed other at true o = refl
    passed other at false o = refl

-- ---- all pages

length_inserted : (rows : List UserPage) (n : ℕ) (row : UserPage) → length (insert rows n row) ≡ suc (length rows)
length_inserted [] zero row = refl
length_inserted [] (suc n) row = refl
length_inserted (x ∷ rows) zero row = refl
length_inserted (x ∷ rows) (suc n) row = ap suc (length_inserted rows n row)

pub length_pages : (es : Entries) → length (pages_of es) ≡ length es
length_pages [] = refl
length_pages (e ∷ es) =
    let row = row_of e in
    length_inserted (pages_of es) (count_below (pages_of es) row.user row.page) row ∙ ap suc (length_pages es)

-- ---- small steps

pub from_ok : {X Y : Type 0} (r : Result X Y) (P : Type 0) → IsOk r → OnOk r P → P
from_ok (Ok x) P ok said = said
from_ok (Err y) P ok said = cc

-- a page that has no frame isn't there
pub not_found : (rows : List UserPage) (user : UserNo) (page : ℕ) → frame_at rows user page ≡ None
    → find (is_page user page) rows ≡ None
not_found rows user page absent = by_cases (find (is_page user page) rows) (sym (frame_at-find rows user page) ∙ absent)
  where
    by_cases : (o : Option UserPage) → frame_found o ≡ None → o ≡ None
    by_cases None none = refl
    by_cases (Some row) none = cc

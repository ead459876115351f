-- The first and the last leaving area, in rows and in those of them that a span meets.
use Rattle.std.proofs.Common.{◌≡◌, ◌∙◌, ℕ, ◌+◌, ◌≤◌, Bool, true, false, not, ◌||◌, min, ltb, Option, Some, None, List}
use Rattle.std.proofs.Common.{[], ◌∷◌, ◌++◌, length, take, drop, map, cond, refl, sym, ap, append-nil, append_assoc}
use Rattle.std.proofs.Common.{⊎_elim, if◌then◌else◌}
use Rattle.std.specs.List.{between, filter, find, prefix_len}
use Rattle.std.specs.Option.{option_or}
use Rattle.std.proofs.lemmas.Bool.{cases_Bool}
use Rattle.std.proofs.lemmas.List.Edits.{split_between}
use Rattle.std.proofs.lemmas.List.Folds.{find-append, list_any-append}
use Rattle.iofd_words.specs.Bounds.{Bounds}
use Rattle.iofd_words.specs.Span.{lies_in}
use Rattle.iofd_words.specs.declared.rows.Area.{Area}
use Rattle.area_map_rows.specs.Areas.{AreApartFrom, areas_within}
use Rattle.area_map_rows.specs.Rows.{in_rows, AreRows, LeaveIn, end_of, has_leaving, last_leaving, leaves}
use Rattle.area_map_rows.proofs.RowsChanged.{changed_between, leave_each}

-- ---- lists

-- of areas of which none is leaving, none is found
pub none_found : (xs : List Area) → has_leaving xs ≡ false → find leaves xs ≡ None
none_found [] none = refl
none_found (x ∷ xs) none =
    ⊎_elim (λ (is : leaves x ≡ true). let some = rw is at none in cc)
    (λ (live : leaves x ≡ false). rw live (none_found xs (rw live at none))) (cases_Bool (leaves x))

pub none_last : (xs : List Area) → has_leaving xs ≡ false → last_leaving xs ≡ None
none_last [] none = refl
none_last (x ∷ xs) none =
    ⊎_elim (λ (is : leaves x ≡ true). let some = rw is at none in cc)
    (λ (live : leaves x ≡ false). rw (live, none_last xs (rw live at none)) refl) (cases_Bool (leaves x))

-- ---- rows behind one another

or_found : (a b c : Option Area) → option_or (option_or a b) c ≡ option_or a (option_or b c)
or_found None b c = refl
or_found (Some x) b c = refl

last_append : (xs ys : List Area) → last_leaving (xs ++ ys) ≡ option_or (last_leaving ys) (last_leaving xs)
last_append [] ys = sym (or_none (last_leaving ys))
  where
    or_none : (found : Option Area) → option_or found None ≡ found
    or_none None = refl
    or_none (Some a) = refl
last_append (x ∷ xs) ys =
    ap (λ found. option_or found (if leaves x then Some x else None)) (last_append xs ys)
    ∙ or_found (last_leaving ys) (last_leaving xs) (if leaves x then Some x else None)

-- one more at the end
pub last_more : (xs : List Area) (x : Area)
    → last_leaving (xs ++ x ∷ []) ≡ (if leaves x then Some x else last_leaving xs)
last_more xs x = last_append xs (x ∷ []) ∙ by_test (leaves x)
  where
    by_test : (p : Bool) → option_or (cond p (Some x) None) (last_leaving xs) ≡ cond p (Some x) (last_leaving xs)
    by_test true = refl
    by_test false = refl

some_last : (xs : List Area) (other : Option Area) → has_leaving xs ≡ true
    → option_or (last_leaving xs) other ≡ last_leaving xs
some_last [] other some = cc
some_last (x ∷ xs) other some =
    ⊎_elim
    (λ (behind : has_leaving xs ≡ true).
    let here = some_last xs (if leaves x then Some x else None) behind in
    rw here (some_last xs other behind))
    (λ (none : has_leaving xs ≡ false).
    let here = or_false (leaves x) (rw none at some) in
    rw (here, none_last xs none) refl)
    (cases_Bool (has_leaving xs))
  where
    or_false : (a : Bool) → (a || false) ≡ true → a ≡ true
    or_false true some = refl
    or_false false some = some

in_more : (rows : List (List Area)) (row : List Area) → in_rows (rows ++ row ∷ []) ≡ in_rows rows ++ row
in_more [] row = append-nil row
in_more (r ∷ rows) row = ap (λ areas. r ++ areas) (in_more rows row) ∙ sym (append_assoc r (in_rows rows) row)

-- the last row has one, or none
pub last_row : (rows : List (List Area)) (row : List Area) → has_leaving row ≡ true
    → last_leaving (in_rows (rows ++ row ∷ [])) ≡ last_leaving row
last_row rows row some =
    ap last_leaving (in_more rows row) ∙ last_append (in_rows rows) row
    ∙ some_last row (last_leaving (in_rows rows)) some

pub last_before : (rows : List (List Area)) (row : List Area) → has_leaving row ≡ false
    → last_leaving (in_rows (rows ++ row ∷ [])) ≡ last_leaving (in_rows rows)
last_before rows row none =
    ap last_leaving (in_more rows row) ∙ last_append (in_rows rows) row
    ∙ ap (λ found. option_or found (last_leaving (in_rows rows))) (none_last row none)

-- the first row that has one
some_first : (xs : List Area) (other : Option Area) → has_leaving xs ≡ true
    → option_or (find leaves xs) other ≡ find leaves xs
some_first [] other some = cc
some_first (x ∷ xs) other some =
    ⊎_elim
    (λ (is : leaves x ≡ true). rw is refl)
    (λ (live : leaves x ≡ false). rw live (some_first xs other (rw live at some)))
    (cases_Bool (leaves x))

behind : (row : List Area) (rows : List (List Area)) → has_leaving row ≡ false
    → find leaves (in_rows (row ∷ rows)) ≡ find leaves (in_rows rows)
behind row rows none =
    find-append leaves row (in_rows rows)
    ∙ ap (λ found. option_or found (find leaves (in_rows rows))) (none_found row none)

pub first_some : (rows : List (List Area)) (row : List Area) → find has_leaving rows ≡ Some row
    → find leaves row ≡ find leaves (in_rows rows)
first_some [] row found = cc
first_some (r ∷ rows) row found =
    ⊎_elim
    (λ (some : has_leaving r ≡ true).
    let same : r ≡ row = injective (rw some at found) in
    ap (find leaves) (sym same)
    ∙ sym (find-append leaves r (in_rows rows) ∙ some_first r (find leaves (in_rows rows)) some))
    (λ (none : has_leaving r ≡ false). first_some rows row (rw none at found) ∙ sym (behind r rows none))
    (cases_Bool (has_leaving r))
  where
    injective : Some r ≡ Some row → r ≡ row
    injective same = cc

pub first_none : (rows : List (List Area)) → find has_leaving rows ≡ None → None ≡ find leaves (in_rows rows)
first_none [] found = refl
first_none (r ∷ rows) found =
    ⊎_elim
    (λ (some : has_leaving r ≡ true). let other = rw some at found in cc)
    (λ (none : has_leaving r ≡ false). first_none rows (rw none at found) ∙ sym (behind r rows none))
    (cases_Bool (has_leaving r))

-- ---- the rows that a span meets, where all leaving areas lie in it

abbrev live_alone : List Area → List Area
live_alone areas = filter (λ a. not (leaves a)) areas

none_within : (span : Bounds) (row : List Area) → LeaveIn (Some span) row → areas_within span row ≡ []
    → live_alone row ≡ row
none_within span [] leave none = refl
none_within span (x ∷ row) leave none =
    ⊎_elim
    (λ (inside : lies_in x.span span ≡ true). let some = rw inside at none in cc)
    (λ (outside : lies_in x.span span ≡ false).
    let rest = none_within span row leave.1 (rw outside at none) in
    ⊎_elim
    (λ (is : leaves x ≡ true). let inside = leave.0 is in cc)
    (λ (live : leaves x ≡ false). rw (live, rest) refl)
    (cases_Bool (leaves x)))
    (cases_Bool (lies_in x.span span))

none_alone : (row : List Area) → has_leaving (live_alone row) ≡ false
none_alone [] = refl
none_alone (x ∷ row) =
    ⊎_elim (λ (is : leaves x ≡ true). rw is (none_alone row))
    (λ (live : leaves x ≡ false). rw (live, live, none_alone row) refl) (cases_Bool (leaves x))

none_in_rows : (rows : List (List Area)) → has_leaving (in_rows (map live_alone rows)) ≡ false
none_in_rows [] = refl
none_in_rows (row ∷ rows) =
    list_any-append leaves (live_alone row) (in_rows (map live_alone rows))
    ∙ rw (none_alone row, none_in_rows rows) refl

has_none : (xs ys : List Area) → has_leaving (xs ++ ys) ≡ false → (has_leaving xs ≡ false) × (has_leaving ys ≡ false)
has_none [] ys none = (refl, none)
has_none (x ∷ xs) ys none =
    ⊎_elim (λ (is : leaves x ≡ true). let some = rw is at none in cc)
    (λ (live : leaves x ≡ false). let rest = has_none xs ys (rw live at none) in (rw live rest.0, rest.1))
    (cases_Bool (leaves x))

in_both : (rows others : List (List Area)) → in_rows (rows ++ others) ≡ in_rows rows ++ in_rows others
in_both [] others = refl
in_both (row ∷ rows) others =
    ap (λ areas. row ++ areas) (in_both rows others) ∙ sym (append_assoc row (in_rows rows) (in_rows others))

-- of the rows before them and behind them none has a leaving area
pub record AreAlone (from to : ℕ) (rows : List (List Area)) : Type 0 where
  pub before : has_leaving (in_rows (take from rows)) ≡ false
  pub behind : has_leaving (in_rows (drop to rows)) ≡ false

pub alone : (span : Bounds) (rows : List (List Area)) (from to : ℕ)
    → AreRows rows → AreApartFrom 0 (in_rows rows) → LeaveIn (Some span) (in_rows rows)
    → from ≤ prefix_len (λ (row : List Area). ltb (end_of row) span.first) rows
    → min (prefix_len (λ (row : List Area). ltb (end_of row) span.last) rows + 1) (length rows) ≤ to → from ≤ to
    → AreAlone from to rows
alone span rows from to each apart leave low high order =
    let is = changed_between span live_alone (LeaveIn (Some span)) (none_within span) rows from to each apart
    (leave_each (Some span) rows leave) low high order in
    let front : List (List Area) = take from rows in
    let mid : List (List Area) = map live_alone (between from to rows) in
    let back : List (List Area) = drop to rows in
    let none = ap (λ (all : List (List Area)). has_leaving (in_rows all)) is ∙ none_in_rows rows in
    let parted = has_none (in_rows front) (in_rows (mid ++ back))
    (ap has_leaving (sym (in_both front (mid ++ back))) ∙ none) in
    let rest = has_none (in_rows mid) (in_rows back) (ap has_leaving (sym (in_both mid back)) ∙ parted.1) in
    record { before = parted.0; behind = rest.1 }

parts : (rows : List (List Area)) (from to : ℕ) → from ≤ to
    → in_rows rows ≡ in_rows (take from rows) ++ (in_rows (between from to rows) ++ in_rows (drop to rows))
parts rows from to order =
    ap in_rows (split_between rows from to order) ∙ in_both (take from rows) (between from to rows ++ drop to rows)
    ∙ ap (λ areas. in_rows (take from rows) ++ areas) (in_both (between from to rows) (drop to rows))

or_none : (found : Option Area) → option_or found None ≡ found
or_none None = refl
or_none (Some a) = refl

pub first_between : (rows : List (List Area)) (from to : ℕ) → from ≤ to → AreAlone from to rows
    → find leaves (in_rows (between from to rows)) ≡ find leaves (in_rows rows)
first_between rows from to order alone =
    let front : List Area = in_rows (take from rows) in
    let mid : List Area = in_rows (between from to rows) in
    let back : List Area = in_rows (drop to rows) in
    sym (ap (find leaves) (parts rows from to order) ∙ find-append leaves front (mid ++ back)
    ∙ ap (λ found. option_or found (find leaves (mid ++ back))) (none_found front alone.before)
    ∙ find-append leaves mid back ∙ ap (λ found. option_or (find leaves mid) found) (none_found back alone.behind)
    ∙ or_none (find leaves mid))

pub last_between : (rows : List (List Area)) (from to : ℕ) → from ≤ to → AreAlone from to rows
    → last_leaving (in_rows (between from to rows)) ≡ last_leaving (in_rows rows)
last_between rows from to order alone =
    let front : List Area = in_rows (take from rows) in
    let mid : List Area = in_rows (between from to rows) in
    let back : List Area = in_rows (drop to rows) in
    sym (ap last_leaving (parts rows from to order) ∙ last_append front (mid ++ back)
    ∙ ap (λ found. option_or (last_leaving (mid ++ back)) found) (none_last front alone.before)
    ∙ or_none (last_leaving (mid ++ back)) ∙ last_append mid back
    ∙ ap (λ found. option_or found (last_leaving mid)) (none_last back alone.behind))

-- What is done to the rows that a span meets is done to all, where the others stay as they are.
use Rattle.std.proofs.Common.{◌≡◌, ℕ, suc, zero, ◌+◌, ◌-◌, ◌<◌, ◌≤◌, min, true, false, ltb, Option, Some, List, [], ◌∷◌}
use Rattle.std.proofs.Common.{◌++◌, length, take, drop, map, refl, sym, ap, ◌∙◌, arith, ⊎_elim}
use Rattle.std.specs.List.{prefix_len}
use Rattle.std.proofs.lemmas.Bool.{cases_lt, cases_Bool}
use Rattle.std.proofs.lemmas.Bool.Decides.{nat_tests}
use Rattle.std.proofs.lemmas.List.{map-append, drop-drop, drop-map}
use Rattle.std.proofs.lemmas.List.Edits.{split_between}
use Rattle.std.specs.List.{between}
use borrow.Rule.Slice.PartMut.{put_mid}
use Rattle.iofd_words.specs.Bounds.{Bounds}
use Rattle.iofd_words.specs.Span.{lies_in}
use Rattle.iofd_words.specs.declared.numbers.DeviceNo.{DeviceNo}
use Rattle.iofd_words.specs.declared.rows.Area.{Area}
use Rattle.iofd_words.specs.declared.rows.Phase.{Phase}
use Rattle.iofd_words.specs.declared.rows.Phase.TheVariants.{Live, Leaving}
use Rattle.iofd_words.specs.Areas.{paid}
use Rattle.area_map_rows.specs.declared.marking.Change.{Change}
use Rattle.area_map_rows.specs.declared.marking.Change.TheVariants.{Leave, Pay, SetTries}
use Rattle.area_map_rows.specs.Areas.{AreApartFrom, areas_within, areas_outside, changed, marked, without_debt, tried}
use Rattle.area_map_rows.specs.Rows.{in_rows, AreRows, end_of, is_leaving, LeaveIn, ChangesIn}
use Rattle.area_map_rows.proofs.Within.{filter_from}
use Rattle.area_map_rows.proofs.Rows.{apart_left, apart_right, end-above}
use Rattle.area_map_rows.proofs.RowsWithin.{filter_below}

-- each row has the property
abbrev pub EachRow : (List Area → Type 0) → List (List Area) → Type 0
EachRow Q [] = Unit {0}
EachRow Q (row ∷ rows) = Q row × EachRow Q rows

-- what stays as it is where none of the areas lies in the span
abbrev pub Stays : Bounds → (List Area → List Area) → (List Area → Type 0) → Type 0
Stays span h Q = (row : List Area) → Q row → areas_within span row ≡ [] → h row ≡ row

stays_before : (span : Bounds) (h : List Area → List Area) (Q : List Area → Type 0) → Stays span h Q
    → (low : ℕ) (rows : List (List Area)) (f : ℕ)
    → AreRows rows → AreApartFrom low (in_rows rows) → EachRow Q rows
    → f ≤ prefix_len (λ (row : List Area). ltb (end_of row) span.first) rows → map h (take f rows) ≡ take f rows
stays_before span h Q stays low rows zero each apart all few = refl
stays_before span h Q stays low [] (suc f) each apart all few = refl
stays_before span h Q stays low (row ∷ rows) (suc f) each apart all few =
    ⊎_elim
    (λ (below : end_of row < span.first).
    let next : prefix_len (λ (r : List Area). ltb (end_of r) span.first) (row ∷ rows) ≡ suc
    (prefix_len (λ (r : List Area). ltb (end_of r) span.first) rows) = grind (arith, nat_tests) in
    let none = filter_below (λ a. lies_in a.span span) span.first (λ a ordered ended. grind (arith, nat_tests)) low row
    (apart_left low row (in_rows rows) apart) below in
    let here = stays row all.0 none in
    let rest = stays_before span h Q stays (end_of row + 1) rows f each.2
    (apart_right low row (in_rows rows) each.0 apart) all.1 (omega (arith, few, next)) in
    rw (here, rest) refl)
    (λ (reached : span.first ≤ end_of row).
    let here : prefix_len (λ (r : List Area). ltb (end_of r) span.first) (row ∷ rows) ≡ 0 = grind (arith, nat_tests) in
    absurd (omega (arith, few, here)))
    (cases_lt (end_of row) span.first)

-- from an address behind the span on
stays_from : (span : Bounds) (h : List Area → List Area) (Q : List Area → Type 0) → Stays span h Q
    → (low : ℕ) (rows : List (List Area))
    → AreRows rows → AreApartFrom low (in_rows rows) → EachRow Q rows → span.last < low → map h rows ≡ rows
stays_from span h Q stays low [] each apart all behind = refl
stays_from span h Q stays low (row ∷ rows) each apart all behind =
    let own = apart_left low row (in_rows rows) apart in
    let above = end-above low row each.0 own in
    let none = filter_from (λ a. lies_in a.span span) low row own (λ b after ordered. grind (arith, nat_tests)) in
    let here = stays row all.0 none in
    let rest = stays_from span h Q stays (end_of row + 1) rows each.2
    (apart_right low row (in_rows rows) each.0 apart) all.1 (omega arith) in
    rw (here, rest) refl

stays_behind : (span : Bounds) (h : List Area → List Area) (Q : List Area → Type 0) → Stays span h Q
    → (low : ℕ) (rows : List (List Area)) (t : ℕ)
    → AreRows rows → AreApartFrom low (in_rows rows) → EachRow Q rows
    → min (prefix_len (λ (row : List Area). ltb (end_of row) span.last) rows + 1) (length rows) ≤ t
    → map h (drop t rows) ≡ drop t rows
stays_behind span h Q stays low [] zero each apart all past = refl
stays_behind span h Q stays low [] (suc t) each apart all past = refl
stays_behind span h Q stays low (row ∷ rows) zero each apart all past = absurd (omega (arith, past))
stays_behind span h Q stays low (row ∷ rows) (suc t) each apart all past =
    let others = apart_right low row (in_rows rows) each.0 apart in
    ⊎_elim
    (λ (below : end_of row < span.last).
    let next : prefix_len (λ (r : List Area). ltb (end_of r) span.last) (row ∷ rows) ≡ suc
    (prefix_len (λ (r : List Area). ltb (end_of r) span.last) rows) = grind (arith, nat_tests) in
    stays_behind span h Q stays (end_of row + 1) rows t each.2 others all.1 (omega (arith, past, next)))
    (λ (reached : span.last ≤ end_of row). sym (drop-map h t rows)
    ∙ ap (drop t) (stays_from span h Q stays (end_of row + 1) rows each.2 others all.1 (omega arith)))
    (cases_lt (end_of row) span.last)

-- what is done to the rows that the span may meet is done to all
pub changed_between : (span : Bounds) (h : List Area → List Area) (Q : List Area → Type 0) → Stays span h Q
    → (rows : List (List Area)) (from to : ℕ)
    → AreRows rows → AreApartFrom 0 (in_rows rows) → EachRow Q rows
    → from ≤ prefix_len (λ (row : List Area). ltb (end_of row) span.first) rows
    → min (prefix_len (λ (row : List Area). ltb (end_of row) span.last) rows + 1) (length rows) ≤ to → from ≤ to
    → take from rows ++ (map h (between from to rows) ++ drop to rows) ≡ map h rows
changed_between span h Q stays rows from to each apart all low high order =
    let before = stays_before span h Q stays 0 rows from each apart all low in
    let behind = stays_behind span h Q stays 0 rows to each apart all high in
    let parts = split_between rows from to order in
    let whole : map h rows ≡ map h (take from rows ++ (between from to rows ++ drop to rows)) = ap (map h) parts in
    let first = map-append h (take from rows) (between from to rows ++ drop to rows) in
    let second = map-append h (between from to rows) (drop to rows) in
    sym (whole ∙ first ∙ ap (λ zs. zs ++ map h (between from to rows ++ drop to rows)) before
    ∙ ap (λ zs. take from rows ++ zs) (second ∙ ap (λ zs. map h (between from to rows) ++ zs) behind))

pub changed_mid : (span : Bounds) (h : List Area → List Area) (Q : List Area → Type 0) → Stays span h Q
    → (rows mid : List (List Area)) (from to : ℕ)
    → AreRows rows → AreApartFrom 0 (in_rows rows) → EachRow Q rows
    → from ≤ prefix_len (λ (row : List Area). ltb (end_of row) span.first) rows
    → min (prefix_len (λ (row : List Area). ltb (end_of row) span.last) rows + 1) (length rows) ≤ to → from ≤ to
    → mid ≡ map h (between from to rows)
    → put_mid from (to - from) rows mid ≡ map h rows
changed_mid span h Q stays rows mid from to each apart all low high order mid_is =
    let behind = drop-drop (to - from) from rows in
    let same : from + (to - from) ≡ to = omega (arith, order) in
    rw (mid_is, behind, same) (changed_between span h Q stays rows from to each apart all low high order)

-- ---- what stays

pub always : (rows : List (List Area)) → EachRow (λ _. Unit {0}) rows
always [] = tt
always (row ∷ rows) = (tt, always rows)

-- where none lies in the span, what changes none outside it changes nothing
map_stays : (f : Area → Area) (span : Bounds) → ((a : Area) → lies_in a.span span ≡ false → f a ≡ a) → (row : List Area)
    → areas_within span row ≡ [] → map f row ≡ row
map_stays f span same [] none = refl
map_stays f span same (x ∷ row) none =
    ⊎_elim (λ (inside : lies_in x.span span ≡ true). let some = rw inside at none in cc)
    (λ (outside : lies_in x.span span ≡ false). rw (
      same x outside,
      map_stays f span same row (rw outside at none),
    ) refl)
    (cases_Bool (lies_in x.span span))

outside_stays : (span : Bounds) (row : List Area) → areas_within span row ≡ [] → areas_outside span row ≡ row
outside_stays span [] none = refl
outside_stays span (x ∷ row) none =
    ⊎_elim (λ (inside : lies_in x.span span ≡ true). let some = rw inside at none in cc)
    (λ (outside : lies_in x.span span ≡ false). let rest = rw outside at none in rw outside
    (ap (λ zs. x ∷ zs) (outside_stays span row rest)))
    (cases_Bool (lies_in x.span span))

pub live_paid : (device : DeviceNo) (phase : Phase) → is_leaving phase ≡ false → paid device phase ≡ phase
live_paid device Live live = refl
live_paid device (Leaving owed tries) live = cc

paid_stays : (span : Bounds) (device : DeviceNo) (row : List Area) → LeaveIn (Some span) row
    → areas_within span row ≡ [] → map (without_debt device) row ≡ row
paid_stays span device [] leave none = refl
paid_stays span device (x ∷ row) leave none =
    ⊎_elim (λ (inside : lies_in x.span span ≡ true). let some = rw inside at none in cc)
    (λ (outside : lies_in x.span span ≡ false).
    let rest = paid_stays span device row leave.1 (rw outside at none) in
    let live : is_leaving x.phase ≡ false = ⊎_elim (λ (is : is_leaving x.phase ≡ true). let inside = leave.0 is in cc)
    (λ (is : is_leaving x.phase ≡ false). is) (cases_Bool (is_leaving x.phase)) in
    let same = live_paid device x.phase live in
    rw (same, rest) refl)
    (cases_Bool (lies_in x.span span))

pub outside_between : (span : Bounds) → Stays span (areas_outside span) (λ _. Unit {0})
outside_between span row all none = outside_stays span row none

pub changed_stays : (change : Change) (span : Bounds) → Stays span (map (changed change span)) (ChangesIn change span)
changed_stays (Leave owed) span row all none = map_stays (marked span owed) span (λ a outside. rw outside refl) row none
changed_stays (Pay device) span row leave none = paid_stays span device row leave none
changed_stays (SetTries tries) span row all none =
    map_stays (tried span tries) span (λ a outside. rw outside refl) row none

leave_left : (span : Option Bounds) (xs ys : List Area) → LeaveIn span (xs ++ ys) → LeaveIn span xs
leave_left span [] ys leave = tt
leave_left span (x ∷ xs) ys leave = (leave.0, leave_left span xs ys leave.1)

leave_right : (span : Option Bounds) (xs ys : List Area) → LeaveIn span (xs ++ ys) → LeaveIn span ys
leave_right span [] ys leave = leave
leave_right span (x ∷ xs) ys leave = leave_right span xs ys leave.1

pub leave_each : (span : Option Bounds) (rows : List (List Area)) → LeaveIn span (in_rows rows)
    → EachRow (LeaveIn span) rows
leave_each span [] leave = tt
leave_each span (row ∷ rows) leave =
    (leave_left span row (in_rows rows) leave, leave_each span rows (leave_right span row (in_rows rows) leave))

pub changes_each : (change : Change) (span : Bounds) (rows : List (List Area)) → ChangesIn change span (in_rows rows)
    → EachRow (ChangesIn change span) rows
changes_each (Leave owed) span rows all = always rows
changes_each (Pay device) span rows leave = leave_each (Some span) rows leave
changes_each (SetTries tries) span rows all = always rows

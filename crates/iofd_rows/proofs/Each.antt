-- What holds of each row of a list, said of any row that is in it.
use Rattle.std.proofs.Common.{◌≡◌, Bool, true, false, cond, ◌||◌, Some, List, [], ◌∷◌, map, refl, ap, sym, ◌∙◌, ◌⊎◌}
use Rattle.std.proofs.Common.{inl, inr, ⊎_elim}
use Rattle.std.specs.List.{filter, find, list_all, list_any}
use Rattle.iofd_words.specs.Areas.{lies_before, with_area}
use Rattle.iofd_words.specs.Attachments.{has_lower_device, with_attachment}
use Rattle.iofd_words.specs.Objects.{comes_before, with_object}
use Rattle.iofd_words.specs.Sorted.{inserted}
use Rattle.iofd_words.specs.declared.rows.Area.{Area}
use Rattle.iofd_words.specs.declared.rows.Attachment.{Attachment}
use Rattle.iofd_words.specs.declared.rows.Object.{Object}
use Rattle.iofd_rows.proofs.Bools.{and_true, both_true}

-- the row is in the list
abbrev pub IsIn : {X : Type 0} → List X → X → Type 0
IsIn [] x = ⊥
IsIn (y ∷ ys) x = (y ≡ x) ⊎ IsIn ys x

-- ---- tests of all rows

pub of_each : {X : Type 0} (p : X → Bool) (xs : List X) (x : X) → list_all p xs ≡ true → IsIn xs x → p x ≡ true
of_each p [] x all within = absurd within
of_each p (y ∷ ys) x all (inl same) = ap p (sym same) ∙ (and_true (p y) (list_all p ys) all).0
of_each p (y ∷ ys) x all (inr later) = of_each p ys x (and_true (p y) (list_all p ys) all).1 later

pub of_all : {X : Type 0} (p : X → Bool) (xs : List X) → ((x : X) → IsIn xs x → p x ≡ true) → list_all p xs ≡ true
of_all p [] each = refl
of_all p (y ∷ ys) each = both_true _ _ (each y (inl refl)) (of_all p ys (λ x later. each x (inr later)))

pub of_any : {X : Type 0} (p : X → Bool) (xs : List X) (x : X) → IsIn xs x → p x ≡ true → list_any p xs ≡ true
of_any p [] x within passes = absurd within
of_any p (y ∷ ys) x (inl same) passes = let here : p y ≡ true = ap p same ∙ passes in rw here refl
of_any p (y ∷ ys) x (inr later) passes = either (p y) (of_any p ys x later passes)
  where
    either : (b : Bool) → list_any p ys ≡ true → (b || list_any p ys) ≡ true
    either true rest = refl
    either false rest = rest

-- ---- where a row is

-- what is found is in the list, and passes
pub in_found : {X : Type 0} (p : X → Bool) (xs : List X) (x : X) → find p xs ≡ Some x → IsIn xs x × (p x ≡ true)
in_found p [] x found = cc
in_found p (y ∷ ys) x found = by_test (p y) refl found (λ later. in_found p ys x later)
  where
    by_test : (b : Bool) → p y ≡ b → cond b (Some y) (find p ys) ≡ Some x
        → (find p ys ≡ Some x → IsIn ys x × (p x ≡ true)) → ((y ≡ x) ⊎ IsIn ys x) × (p x ≡ true)
    by_test true passes found later = let same : y ≡ x = cc in (inl same, ap p (sym same) ∙ passes)
    by_test false passes found later = let rest = later found in (inr rest.0, rest.1)

pub in_filter : {X : Type 0} (q : X → Bool) (xs : List X) (x : X) → IsIn (filter q xs) x → IsIn xs x × (q x ≡ true)
in_filter q [] x within = absurd within
in_filter q (y ∷ ys) x within = by_test (q y) refl within (λ later. in_filter q ys x later)
  where
    by_test : (b : Bool) → q y ≡ b → IsIn (cond b (y ∷ filter q ys) (filter q ys)) x
        → (IsIn (filter q ys) x → IsIn ys x × (q x ≡ true)) → ((y ≡ x) ⊎ IsIn ys x) × (q x ≡ true)
    by_test true passes (inl same) later = (inl same, ap q (sym same) ∙ passes)
    by_test true passes (inr rest) later = let both = later rest in (inr both.0, both.1)
    by_test false passes rest later = let both = later rest in (inr both.0, both.1)

pub in_map : {X Y : Type 0} (h : X → Y) (xs : List X) (y : Y) → IsIn (map h xs) y → (x : X) × IsIn xs x × (h x ≡ y)
in_map h [] y within = absurd within
in_map h (x ∷ xs) y (inl same) = (x, inl refl, same)
in_map h (x ∷ xs) y (inr later) = let rest = in_map h xs y later in (rest.0, inr rest.1, rest.2)

-- ---- one more row

module _ {X : Type 0} (before : X → X → Bool) where
  pub in_inserted : (row : X) (rows : List X) (x : X) → IsIn (inserted before row rows) x
      → (row ≡ x) ⊎ IsIn rows x
  in_inserted row [] x within = within
  in_inserted row (r ∷ rows) x within = by_order (before row r) within (in_inserted row rows x)
    where
      by_order : (b : Bool) → IsIn (cond b (row ∷ r ∷ rows) (r ∷ inserted before row rows)) x
          → (IsIn (inserted before row rows) x → (row ≡ x) ⊎ IsIn rows x)
          → (row ≡ x) ⊎ ((r ≡ x) ⊎ IsIn rows x)
      by_order true within later = within
      by_order false (inl same) later = inr (inl same)
      by_order false (inr rest) later =
          ⊎_elim (λ (new : row ≡ x). inl new) (λ (old : IsIn rows x). inr (inr old)) (later rest)

  pub inserted_in : (row : X) (rows : List X) (x : X) → (row ≡ x) ⊎ IsIn rows x
      → IsIn (inserted before row rows) x
  inserted_in row [] x within = within
  inserted_in row (r ∷ rows) x within = by_order (before row r) within (inserted_in row rows x)
    where
      by_order : (b : Bool) → (row ≡ x) ⊎ ((r ≡ x) ⊎ IsIn rows x)
          → ((row ≡ x) ⊎ IsIn rows x → IsIn (inserted before row rows) x)
          → IsIn (cond b (row ∷ r ∷ rows) (r ∷ inserted before row rows)) x
      by_order true within rest = within
      by_order false (inl new) rest = inr (rest (inl new))
      by_order false (inr (inl same)) rest = inl same
      by_order false (inr (inr later)) rest = inr (rest (inr later))

pub in_with_object : (object : Object) (objects : List Object) (x : Object) → IsIn (with_object object objects) x
    → (object ≡ x) ⊎ IsIn objects x
in_with_object = in_inserted comes_before

pub area_added : (area : Area) (areas : List Area) → IsIn (with_area area areas) area
area_added area areas = inserted_in lies_before area areas area (inl refl)

pub in_with_area : (area : Area) (areas : List Area) (x : Area) → IsIn (with_area area areas) x
    → (area ≡ x) ⊎ IsIn areas x
in_with_area = in_inserted lies_before

pub in_with_attachment : (attachment : Attachment) (attachments : List Attachment) (x : Attachment)
    → IsIn (with_attachment attachment attachments) x → (attachment ≡ x) ⊎ IsIn attachments x
in_with_attachment = in_inserted has_lower_device

-- ---- the first row that passes

-- it stays the first where it isn't taken away
pub found_kept : {X : Type 0} (p q : X → Bool) (xs : List X) (x : X) → find p xs ≡ Some x → q x ≡ true
    → find p (filter q xs) ≡ Some x
found_kept p q [] x found kept = cc
found_kept p q (y ∷ ys) x found kept = by_tests (p y) (q y) refl refl found (λ later. found_kept p q ys x later kept)
  where
    by_tests : (a b : Bool) → p y ≡ a → q y ≡ b → cond a (Some y) (find p ys) ≡ Some x
        → (find p ys ≡ Some x → find p (filter q ys) ≡ Some x)
        → find p (cond b (y ∷ filter q ys) (filter q ys)) ≡ Some x
    by_tests true true is here found later = rw is found
    by_tests true false is here found later = let same : y ≡ x = cc in let other = ap q same in cc
    by_tests false true is here found later = rw is (later found)
    by_tests false false is here found later = later found

-- what passes is kept
pub in_kept : {X : Type 0} (q : X → Bool) (xs : List X) (x : X) → IsIn xs x → q x ≡ true → IsIn (filter q xs) x
in_kept q [] x within passes = absurd within
in_kept q (y ∷ ys) x within passes = by_test (q y) refl within (λ later. in_kept q ys x later passes)
  where
    by_test : (b : Bool) → q y ≡ b → IsIn (y ∷ ys) x → (IsIn ys x → IsIn (filter q ys) x)
        → IsIn (cond b (y ∷ filter q ys) (filter q ys)) x
    by_test true is (inl same) later = inl same
    by_test true is (inr rest) later = inr (later rest)
    by_test false is (inl same) later = let clash = ap q same in cc
    by_test false is (inr rest) later = later rest

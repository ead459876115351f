-- Each page table has an id of its own.
use Rattle.std.proofs.Common.{◌≡◌, ◌⊎◌, inl, inr, Bool, true, false, cond, not, Some, None, List, [], ◌∷◌, map, refl}
use Rattle.std.proofs.Common.{ap, sym, ◌∙◌, arith}
use Rattle.std.specs.List.{list_any}
use Rattle.std.proofs.lemmas.Bool.Decides.{nat_tests}
use Rattle.iofd_rows.proofs.Bools.{and_true, both_false, both_true, clash, not_false, not_true, or_false}
use Rattle.iofd_rows.proofs.Each.{IsIn, of_any}
use Rattle.iofd_rows.proofs.Inserted.{map-inserted}
use Rattle.iofd_rows.proofs.OwnIds.{own_ids-with_object}
use Rattle.iofd_rows.specs.Ids.{have_own_ids}
use Rattle.iofd_words.specs.Objects.{comes_before, is_object, with_object}
use Rattle.iofd_words.specs.declared.numbers.FileNo.{FileNo}
use Rattle.iofd_words.specs.declared.numbers.ObjId.{ObjId}
use Rattle.iofd_words.specs.declared.rows.Object.{Object}
use Rattle.page_table_set.specs.PageTables.{Hwpt, hwpt_of, with_hwpt}
use Rattle.page_table_set.specs.Removed.{without_hwpt}

abbrev pub objects : List Hwpt → List Object
objects tables = map (λ h. h.object) tables

pub is_object-sym : (a b : Object) → is_object a.file a.id b ≡ is_object b.file b.id a
is_object-sym a b = grind (arith, nat_tests)

pub is_object-same : (a : Object) → is_object a.file a.id a ≡ true
is_object-same a = grind (arith, nat_tests)

in_objects : (tables : List Hwpt) (x : Hwpt) → IsIn tables x → IsIn (objects tables) x.object
in_objects [] x within = absurd within
in_objects (t ∷ tables) x (inl same) = inl (ap (λ (h : Hwpt). h.object) same)
in_objects (t ∷ tables) x (inr later) = inr (in_objects tables x later)

-- none of a list in which no object passes
none_in : (p : Object → Bool) (tables : List Hwpt) → list_any p (objects tables) ≡ false → (x : Hwpt) → IsIn tables x
    → p x.object ≡ false
none_in p tables none x within = by_test (p x.object) refl
  where
    by_test : (b : Bool) → p x.object ≡ b → b ≡ false
    by_test false is = refl
    by_test true is = absurd (clash (list_any p (objects tables)) none
        (of_any p (objects tables) x.object (in_objects tables x within) is))

-- the first's isn't that of a later one
pub own_parts : (t : Hwpt) (tables : List Hwpt) → have_own_ids (objects (t ∷ tables)) ≡ true
    → (list_any (is_object t.object.file t.object.id) (objects tables) ≡ false) × (have_own_ids (objects tables) ≡ true)
own_parts t tables own =
    let parts = and_true (not (list_any (is_object t.object.file t.object.id) (objects tables)))
    (have_own_ids (objects tables)) own in
    (not_true _ parts.0, parts.1)

pub first_alone : (t : Hwpt) (tables : List Hwpt) → have_own_ids (objects (t ∷ tables)) ≡ true → (x : Hwpt)
    → IsIn tables x → is_object t.object.file t.object.id x.object ≡ false
first_alone t tables own x within =
    none_in (is_object t.object.file t.object.id) tables (own_parts t tables own).0 x within

-- two of one id are the same one
pub the_only : (tables : List Hwpt) → have_own_ids (objects tables) ≡ true → (a b : Hwpt) → IsIn tables a
    → IsIn tables b → is_object a.object.file a.object.id b.object ≡ true → a ≡ b
the_only [] own a b in_a in_b same = absurd in_a
the_only (t ∷ tables) own a b in_a in_b same =
    by_place in_a in_b (λ one other. the_only tables (own_parts t tables own).1 a b one other same)
  where
    by_place : (t ≡ a) ⊎ IsIn tables a → (t ≡ b) ⊎ IsIn tables b → (IsIn tables a → IsIn tables b → a ≡ b) → a ≡ b
    by_place (inl first) (inl second) later = sym first ∙ second
    by_place (inl first) (inr there) later =
        absurd (clash (is_object t.object.file t.object.id b.object) (first_alone t tables own b there)
        (ap (λ (h : Hwpt). is_object h.object.file h.object.id b.object) first ∙ same))
    by_place (inr there) (inl second) later =
        absurd (clash (is_object t.object.file t.object.id a.object) (first_alone t tables own a there)
        (is_object-sym t.object a.object ∙ ap (λ (h : Hwpt). is_object a.object.file a.object.id h.object)
        second ∙ same))
    by_place (inr one) (inr other) later = later one other

-- ---- one more

pub objects-with_hwpt : (h : Hwpt) (tables : List Hwpt)
    → objects (with_hwpt h tables) ≡ with_object h.object (objects tables)
objects-with_hwpt = map-inserted (λ (h : Hwpt). h.object) comes_before

pub own_with : (h : Hwpt) (tables : List Hwpt) → have_own_ids (objects tables) ≡ true
    → list_any (is_object h.object.file h.object.id) (objects tables) ≡ false
    → have_own_ids (objects (with_hwpt h tables)) ≡ true
own_with h tables own none =
    ap (λ (rows : List Object). have_own_ids rows) (objects-with_hwpt h tables)
    ∙ own_ids-with_object h.object (objects tables) none own

-- ---- one less

any_without : (p : Object → Bool) (file : FileNo) (id : ObjId) (tables : List Hwpt)
    → list_any p (objects tables) ≡ false → list_any p (objects (without_hwpt file id tables)) ≡ false
any_without p file id [] none = refl
any_without p file id (t ∷ tables) none = let parts =
    or_false (p t.object) (list_any p (objects tables)) none in by_test (is_object file id t.object) parts
    (any_without p file id tables parts.1)
  where
    by_test : (b : Bool) → (p t.object ≡ false) × (list_any p (objects tables) ≡ false)
        → list_any p (objects (without_hwpt file id tables)) ≡ false
        → list_any p (objects (cond b tables (t ∷ without_hwpt file id tables))) ≡ false
    by_test true parts rest = parts.1
    by_test false parts rest = both_false _ _ parts.0 rest

pub own_without : (file : FileNo) (id : ObjId) (tables : List Hwpt) → have_own_ids (objects tables) ≡ true
    → have_own_ids (objects (without_hwpt file id tables)) ≡ true
own_without file id [] own = refl
own_without file id (t ∷ tables) own =
    by_test (is_object file id t.object) (own_without file id tables (own_parts t tables own).1)
  where
    by_test : (b : Bool) → have_own_ids (objects (without_hwpt file id tables)) ≡ true
        → have_own_ids (objects (cond b tables (t ∷ without_hwpt file id tables))) ≡ true
    by_test true rest = (own_parts t tables own).1
    by_test false rest = both_true _ _ (not_false _
        (any_without (is_object t.object.file t.object.id) file id tables (own_parts t tables own).0)) rest

other_id : (file : FileNo) (id : ObjId) (a b : Object) → is_object file id a ≡ true → is_object a.file a.id b ≡ false
    → is_object file id b ≡ false
other_id file id a b here apart = grind (arith, nat_tests)

-- what is left was there, and has another id
pub in_without : (file : FileNo) (id : ObjId) (tables : List Hwpt) → have_own_ids (objects tables) ≡ true → (x : Hwpt)
    → IsIn (without_hwpt file id tables) x → IsIn tables x × (is_object file id x.object ≡ false)
in_without file id [] own x within = absurd within
in_without file id (t ∷ tables) own x within =
    by_test (is_object file id t.object) refl within
    (λ rest. in_without file id tables (own_parts t tables own).1 x rest)
  where
    by_test : (b : Bool) → is_object file id t.object ≡ b → IsIn (cond b tables (t ∷ without_hwpt file id tables)) x
        → (IsIn (without_hwpt file id tables) x → IsIn tables x × (is_object file id x.object ≡ false))
        → ((t ≡ x) ⊎ IsIn tables x) × (is_object file id x.object ≡ false)
    by_test true is rest later = (inr rest, other_id file id t.object x.object is (first_alone t tables own x rest))
    by_test false is (inl same) later = (inl same, ap (λ (h : Hwpt). is_object file id h.object) (sym same) ∙ is)
    by_test false is (inr rest) later = let both = later rest in (inr both.0, both.1)

-- where none is found all are left, each of another id
pub none_found : (file : FileNo) (id : ObjId) (tables : List Hwpt) → hwpt_of tables file id ≡ None
    → without_hwpt file id tables ≡ tables
none_found file id [] none = refl
none_found file id (t ∷ tables) none = by_test (is_object file id t.object) none (none_found file id tables)
  where
    by_test : (b : Bool) → cond b (Some t) (hwpt_of tables file id) ≡ None
        → (hwpt_of tables file id ≡ None → without_hwpt file id tables ≡ tables)
        → cond b tables (t ∷ without_hwpt file id tables) ≡ t ∷ tables
    by_test true none rest = cc
    by_test false none rest = ap (λ (l : List Hwpt). t ∷ l) (rest none)

pub not_found : (file : FileNo) (id : ObjId) (tables : List Hwpt) → hwpt_of tables file id ≡ None → (x : Hwpt)
    → IsIn tables x → is_object file id x.object ≡ false
not_found file id [] none x within = absurd within
not_found file id (t ∷ tables) none x within =
    by_test (is_object file id t.object) refl none within (λ rest there. not_found file id tables rest x there)
  where
    by_test : (b : Bool) → is_object file id t.object ≡ b → cond b (Some t) (hwpt_of tables file id) ≡ None
        → (t ≡ x) ⊎ IsIn tables x
        → (hwpt_of tables file id ≡ None → IsIn tables x → is_object file id x.object ≡ false)
        → is_object file id x.object ≡ false
    by_test true is none place later = cc
    by_test false is none (inl same) later = ap (λ (h : Hwpt). is_object file id h.object) (sym same) ∙ is
    by_test false is none (inr rest) later = later none rest

-- Marked pages, the newest last in a vector, and the newest first in the definitions' rows.
use Rattle.std.proofs.Common.{◌≡◌, ℕ, Bool, true, false, ◌||◌, cond, not, eqb, List, [], ◌∷◌, ◌++◌, reverse, refl, sym}
use Rattle.std.proofs.Common.{ap, ◌∙◌, ◌≤◌, append-nil, drop, length, map, take}
use Rattle.std.proofs.lemmas.Grind.{reverse_onto}
use Rattle.std.proofs.lemmas.List.{drop_all, length-map, take_all, take_at}
use Rattle.std.proofs.lemmas.List.Elements.{filter-append}
use Rattle.std.proofs.lemmas.List.Folds.{list_any-append}
use Rattle.std.specs.List.{filter, list_any}
use Rattle.iofd_words.specs.Bounds.{Bounds}
use Rattle.iofd_words.specs.Dirty.{TrackedTable, has_mark, is_tracked_as}
use Rattle.iofd_words.specs.DirtyWords.{is_page_of}
use Rattle.iofd_words.specs.declared.numbers.FileNo.{FileNo}
use Rattle.iofd_words.specs.declared.numbers.ObjId.{ObjId}
use Rattle.journal_audit_world.specs.Tracked.{without_pages}

or_turned : (a b : Bool) → (a || (b || false)) ≡ (b || a)
or_turned true true = refl
or_turned true false = refl
or_turned false true = refl
or_turned false false = refl

pub any_reversed : {X : Type 0} (p : X → Bool) (xs : List X) → list_any p (reverse xs) ≡ list_any p xs
any_reversed p [] = refl
any_reversed p (x ∷ xs) =
    ap (λ (l : List _). list_any p l) (reverse_onto xs x [])
    ∙ list_any-append p (reverse xs) (x ∷ [])
    ∙ ap (λ b. b || (p x || false)) (any_reversed p xs)
    ∙ or_turned (list_any p xs) (p x)

pub filter_reversed : {X : Type 0} (p : X → Bool) (xs : List X) → reverse (filter p xs) ≡ filter p (reverse xs)
filter_reversed p [] = refl
filter_reversed p (x ∷ xs) =
    by_test (p x) (filter_reversed p xs)
    ∙ sym (filter-append p (reverse xs) (x ∷ []))
    ∙ ap (λ (l : List _). filter p l) (sym (reverse_onto xs x []))
  where
    by_test : (b : Bool) → reverse (filter p xs) ≡ filter p (reverse xs)
        → reverse (cond b (x ∷ filter p xs) (filter p xs)) ≡ filter p (reverse xs) ++ cond b (x ∷ []) []
    by_test true same = reverse_onto (filter p xs) x [] ∙ ap (λ (l : List _). l ++ x ∷ []) same
    by_test false same = same ∙ sym (append-nil (filter p (reverse xs)))

-- each row changed in its place
pub each_changed : {X : Type 0} (f : X → X) (xs zs ys : List X) (len i : ℕ) → zs ≡ xs → length zs ≡ len
    → length zs ≤ i → ys ≡ map f (take i zs) ++ drop i zs → take len (ys ++ drop (length ys) xs) ≡ map f xs
each_changed f xs zs ys len i same count past is =
    let whole : ys ≡ map f zs =
    is
    ∙ ap (λ (l : List _). map f (take i zs) ++ l) (drop_all i zs past)
    ∙ append-nil (map f (take i zs))
    ∙ ap (λ (l : List _). map f l) (take_all i zs past) in
    take_at ys (drop (length ys) xs) len (ap (λ (l : List _). length l) whole ∙ length-map zs f ∙ count)
    ∙ whole
    ∙ ap (λ (l : List _). map f l) same

-- ---- a row

pub pages_cleared : (file : FileNo) (hwpt : ObjId) (span : Bounds) (table : TrackedTable) (items : List ℕ)
    → is_tracked_as file hwpt table ≡ true → table.pages ≡ reverse items
    → (let new : TrackedTable = record table { pages = reverse (filter (λ page. not (is_page_of span page)) items) }
    in new)
    ≡ without_pages file hwpt span table
pages_cleared file hwpt span table items is pages =
    rw (is, pages, filter_reversed (λ page. not (is_page_of span page)) items) refl

-- the marks of a row, as they stand in its vector
pub has_marked : (file : FileNo) (hwpt : ObjId) (n : ℕ) (table : TrackedTable) (items : List ℕ)
    → is_tracked_as file hwpt table ≡ true → table.pages ≡ reverse items
    → has_mark file hwpt n table ≡ list_any (λ page. eqb page n) items
has_marked file hwpt n table items is pages =
    rw (is, pages) (any_reversed (λ page. eqb page n) items)

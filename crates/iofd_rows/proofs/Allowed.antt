-- The allowed ranges of an address space, after rows came or went.
use Rattle.std.proofs.Common.{◌≡◌, ℕ, Bool, true, false, cond, ◌&&◌, not, eqb, Option, Some, None, List, [], ◌∷◌, ◌++◌}
use Rattle.std.proofs.Common.{refl, ap, ◌∙◌, arith}
use Rattle.std.proofs.lemmas.Bool.Decides.{nat_tests}
use Rattle.std.specs.List.{filter, list_any}
use Rattle.iofd_words.specs.Allowed.{AllowedRanges, allowed_of, is_allowed_in, with_allowed, without_allowed}
use Rattle.iofd_words.specs.Bounds.{Bounds}
use Rattle.iofd_words.specs.Ranges.{meets_some}
use Rattle.iofd_words.specs.declared.numbers.FileNo.{FileNo}
use Rattle.iofd_words.specs.declared.numbers.ObjId.{ObjId}
use Rattle.iofd_rows.proofs.Bools.{both_false, clash, or_false}
use Rattle.iofd_rows.proofs.Found.{find-filter}

abbrev spans_of : Option AllowedRanges → List Bounds
spans_of o = elim o [ Some ranges ↦ ranges.spans | None ↦ [] ]

-- those of an address space whose rows stay
pub allowed_kept : (keeps : AllowedRanges → Bool) (rows : List AllowedRanges) (f : FileNo) (i : ObjId)
    → ((row : AllowedRanges) → is_allowed_in f i row ≡ true → keeps row ≡ true)
    → allowed_of (filter keeps rows) f i ≡ allowed_of rows f i
allowed_kept keeps rows f i stays = ap spans_of (find-filter (is_allowed_in f i) keeps rows (none rows))
  where
    here : (b : Bool) (row : AllowedRanges) → is_allowed_in f i row ≡ b → (b && not (keeps row)) ≡ false
    here true row is = rw (stays row is) refl
    here false row is = refl

    none : (rows : List AllowedRanges) → list_any (λ row. is_allowed_in f i row && not (keeps row)) rows ≡ false
    none [] = refl
    none (row ∷ rows) = both_false _ _ (here (is_allowed_in f i row) row refl) (none rows)

-- and whose rows go
pub allowed_gone : (keeps : AllowedRanges → Bool) (rows : List AllowedRanges) (f : FileNo) (i : ObjId)
    → ((row : AllowedRanges) → is_allowed_in f i row ≡ true → keeps row ≡ false)
    → allowed_of (filter keeps rows) f i ≡ []
allowed_gone keeps [] f i goes = refl
allowed_gone keeps (row ∷ rows) f i goes =
    by_tests (keeps row) refl (is_allowed_in f i row) refl (allowed_gone keeps rows f i goes)
  where
    by_tests : (k : Bool) → keeps row ≡ k → (b : Bool) → is_allowed_in f i row ≡ b
        → allowed_of (filter keeps rows) f i ≡ []
        → allowed_of (cond k (row ∷ filter keeps rows) (filter keeps rows)) f i ≡ []
    by_tests true kept true is rest = absurd (clash (keeps row) (goes row is) kept)
    by_tests true kept false is rest = rw (allowed_of, is) rest
    by_tests false kept b is rest = rest

-- whether an address space is this one
abbrev pub is_of_space : FileNo → ObjId → FileNo → ObjId → Bool
is_of_space file ioas f i = eqb f.0 file.0 && eqb i.0 ioas.0

-- an address space without its ranges has none, and each other one those that it had
pub allowed_without : (file : FileNo) (ioas : ObjId) (rows : List AllowedRanges) (f : FileNo) (i : ObjId)
    → allowed_of (without_allowed file ioas rows) f i ≡ cond (is_of_space file ioas f i) [] (allowed_of rows f i)
allowed_without file ioas rows f i = by_space (is_of_space file ioas f i) refl
  where
    goes : (a b : ℕ) → (eqb f.0 file.0 && eqb i.0 ioas.0) ≡ true → (eqb a f.0 && eqb b i.0) ≡ true
        → not (eqb a file.0 && eqb b ioas.0) ≡ false
    goes a b here is = grind (arith, nat_tests)

    stays : (a b : ℕ) → (eqb f.0 file.0 && eqb i.0 ioas.0) ≡ false → (eqb a f.0 && eqb b i.0) ≡ true
        → not (eqb a file.0 && eqb b ioas.0) ≡ true
    stays a b here is = grind (arith, nat_tests)

    by_space : (b : Bool) → is_of_space file ioas f i ≡ b
        → allowed_of (without_allowed file ioas rows) f i ≡ cond b [] (allowed_of rows f i)
    by_space true here = allowed_gone _ rows f i (λ row is. goes row.file.0 row.ioas.0 here is)
    by_space false here = allowed_kept _ rows f i (λ row is. stays row.file.0 row.ioas.0 here is)

-- an address space has the ranges that it was given, and each other one those that it had
pub allowed_with : (file : FileNo) (ioas : ObjId) (spans : List Bounds) (rows : List AllowedRanges) (f : FileNo)
    (i : ObjId) → allowed_of (with_allowed file ioas spans rows) f i ≡ cond (is_of_space file ioas f i)
    spans (allowed_of rows f i)
allowed_with file ioas spans rows f i = by_space (is_of_space file ioas f i) refl
  where
    flipped : (a b c d : ℕ) (t : Bool) → (eqb b a && eqb d c) ≡ t → (eqb a b && eqb c d) ≡ t
    flipped a b c d t is = grind (arith, nat_tests)

    by_space : (b : Bool) → is_of_space file ioas f i ≡ b
        → allowed_of (with_allowed file ioas spans rows) f i ≡ cond b spans (allowed_of rows f i)
    by_space true here = rw (allowed_of, flipped file.0 f.0 ioas.0 i.0 true here) refl
    by_space false here =
        let rest = allowed_without file ioas rows f i ∙ ap (λ b. cond b [] (allowed_of rows f i)) here in
        rw (allowed_of, flipped file.0 f.0 ioas.0 i.0 false here) rest

-- the address spaces of a closed file have none
pub allowed_closed : (file : FileNo) (rows : List AllowedRanges) (f : FileNo) (i : ObjId)
    → allowed_of (filter (λ (row : AllowedRanges). not (eqb row.file.0 file.0)) rows) f i ≡ cond (eqb f.0 file.0)
    [] (allowed_of rows f i)
allowed_closed file rows f i = by_file (eqb f.0 file.0) refl
  where
    goes : (a b : ℕ) → eqb f.0 file.0 ≡ true → (eqb a f.0 && eqb b i.0) ≡ true → not (eqb a file.0) ≡ false
    goes a b here is = grind (arith, nat_tests)

    stays : (a b : ℕ) → eqb f.0 file.0 ≡ false → (eqb a f.0 && eqb b i.0) ≡ true → not (eqb a file.0) ≡ true
    stays a b here is = grind (arith, nat_tests)

    by_file : (b : Bool) → eqb f.0 file.0 ≡ b
        → allowed_of (filter (λ (row : AllowedRanges). not (eqb row.file.0 file.0)) rows) f i ≡ cond b
        [] (allowed_of rows f i)
    by_file true here = allowed_gone _ rows f i (λ row is. goes row.file.0 row.ioas.0 here is)
    by_file false here = allowed_kept _ rows f i (λ row is. stays row.file.0 row.ioas.0 here is)

-- spans that are clear of bars are clear of others that each such span is clear of
pub spans_clear : (bars others : List Bounds) (spans : List Bounds)
    → ((span : Bounds) → meets_some bars span ≡ false → meets_some others span ≡ false)
    → list_any (meets_some bars) spans ≡ false → list_any (meets_some others) spans ≡ false
spans_clear bars others [] clears none = refl
spans_clear bars others (span ∷ spans) clears none =
    let parts = or_false (meets_some bars span) (list_any (meets_some bars) spans) none in
    both_false _ _ (clears span parts.0) (spans_clear bars others spans clears parts.1)

-- where a row comes behind the others, of which the one of its address space goes, that address space has its ranges,
-- and each other one those that it had
pub allowed_set : (file : FileNo) (ioas : ObjId) (spans : List Bounds) (rows : List AllowedRanges)
    (f : FileNo) (i : ObjId)
    → allowed_of (without_allowed file ioas rows ++ record { file = file; ioas = ioas; spans = spans } ∷ []) f i ≡ cond
    (is_of_space file ioas f i) spans (allowed_of rows f i)
allowed_set file ioas spans [] f i = alone (is_of_space file ioas f i) refl
  where
    flipped : (a b c d : ℕ) (t : Bool) → (eqb b a && eqb d c) ≡ t → (eqb a b && eqb c d) ≡ t
    flipped a b c d t is = grind (arith, nat_tests)

    alone : (b : Bool) → is_of_space file ioas f i ≡ b
        → allowed_of (record { file = file; ioas = ioas; spans = spans } ∷ []) f i ≡ cond b spans []
    alone true here = rw (allowed_of, flipped file.0 f.0 ioas.0 i.0 true here) refl
    alone false other = rw (allowed_of, flipped file.0 f.0 ioas.0 i.0 false other) refl
allowed_set file ioas spans (row ∷ rows) f i =
    by_tests (is_allowed_in file ioas row) refl (is_allowed_in f i row) refl (is_of_space file ioas f i) refl
    (allowed_set file ioas spans rows f i)
  where
    last : AllowedRanges
    last = record { file = file; ioas = ioas; spans = spans }

    both : (a b : ℕ) → (eqb a file.0 && eqb b ioas.0) ≡ true → (eqb a f.0 && eqb b i.0) ≡ true
        → (eqb f.0 file.0 && eqb i.0 ioas.0) ≡ true
    both a b one other = grind (arith, nat_tests)

    same : (a b : ℕ) → (eqb f.0 file.0 && eqb i.0 ioas.0) ≡ true → (eqb a f.0 && eqb b i.0) ≡ true
        → (eqb a file.0 && eqb b ioas.0) ≡ true
    same a b here one = grind (arith, nat_tests)

    by_tests : (goes : Bool) → is_allowed_in file ioas row ≡ goes → (its : Bool) → is_allowed_in f i row ≡ its
        → (here : Bool) → is_of_space file ioas f i ≡ here
        → allowed_of (without_allowed file ioas rows ++ last ∷ []) f i ≡ cond (is_of_space file ioas f i)
        spans (allowed_of rows f i)
        → allowed_of (cond (not goes) (row ∷ without_allowed file ioas rows) (without_allowed file ioas rows) ++ last
        ∷ []) f i ≡ cond here spans (allowed_of (row ∷ rows) f i)
    by_tests true goes true its true here rest = rest ∙ ap (λ b. cond b spans (allowed_of rows f i)) here
    by_tests true goes true its false here rest =
        absurd (clash (is_of_space file ioas f i) here (both row.file.0 row.ioas.0 goes its))
    by_tests true goes false its here is rest =
        rw (allowed_of, its) (rest ∙ ap (λ b. cond b spans (allowed_of rows f i)) is)
    by_tests false goes true its true here rest =
        absurd (clash (is_allowed_in file ioas row) goes (same row.file.0 row.ioas.0 here its))
    by_tests false goes true its false here rest = rw (allowed_of, its) refl
    by_tests false goes false its here is rest =
        rw (allowed_of, its) (rest ∙ ap (λ b. cond b spans (allowed_of rows f i)) is)

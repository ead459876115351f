-- Which row of an event's table refused it: one of the cause that was told.
use Rattle.std.proofs.Common.{◌≡◌, ℕ, zero, suc, Bool, true, false, cond, ◌&&◌, ◌||◌, not, Some, List, [], ◌∷◌, refl}
use Rattle.std.proofs.Common.{ap, ◌∙◌}
use Rattle.std.specs.List.{list_any}
use Rattle.iofd_words.specs.FirstTrue.{first_true}
use Rattle.iofd_words.specs.declared.refusal.Cause.{Cause}
use Rattle.iofd_rows.proofs.Bools.{and_true, clash, not_true}
use Rattle.iofd_runs.proofs.Runs.{test_at}

-- a cause, and a test of causes that it passes
module _ (told : Cause) (is_told : Cause → Bool) (itself : is_told told ≡ true) where
  -- some row that passes was true
  pub some_row : (rows : List (Cause × Bool)) → first_true rows ≡ Some told
      → list_any (λ row. is_told row.0 && row.1) rows ≡ true
  some_row [] none = cc
  some_row ((name, test) ∷ rows) is = by_test test is (some_row rows)
    where
      by_test : (b : Bool) → cond b (Some name) (first_true rows) ≡ Some told
          → (first_true rows ≡ Some told → list_any (λ row. is_told row.0 && row.1) rows ≡ true)
          → ((is_told name && b) || list_any (λ row. is_told row.0 && row.1) rows) ≡ true
      by_test true found later =
          let same : name ≡ told = cc in
          let here : is_told name ≡ true = ap is_told same ∙ itself in
          rw here refl
      by_test false found later = either (is_told name) (later found)
        where
          either : (a : Bool) → list_any (λ row. is_told row.0 && row.1) rows ≡ true
              → ((a && false) || list_any (λ row. is_told row.0 && row.1) rows) ≡ true
          either true rest = rest
          either false rest = rest

  -- the row at this place and those before it have other causes
  abbrev pub are_other : List (Cause × Bool) → ℕ → Bool
  are_other [] place = true
  are_other (row ∷ rows) zero = not (is_told row.0)
  are_other (row ∷ rows) (suc place) = not (is_told row.0) && are_other rows place

  -- so it didn't refuse
  pub row_passed : (rows : List (Cause × Bool)) (place : ℕ) → first_true rows ≡ Some told
      → are_other rows place ≡ true → test_at rows place ≡ false
  row_passed [] place is other = refl
  row_passed (row ∷ rows) place is other =
      by_test (λ at found others. row_passed rows at found others) row.0 row.1 place is other
    where
      refused : (name : Cause) → name ≡ told → not (is_told name) ≡ true → ⊥
      refused name same other = clash (is_told name) (not_true _ other) (ap is_told same ∙ itself)

      by_test : ((at : ℕ) → first_true rows ≡ Some told → are_other rows at ≡ true → test_at rows at ≡ false)
          → (name : Cause) (test : Bool) (at : ℕ)
          → cond test (Some name) (first_true rows) ≡ Some told → are_other ((name, test) ∷ rows) at ≡ true
          → test_at ((name, test) ∷ rows) at ≡ false
      by_test later name true zero found other = let same : name ≡ told = cc in absurd (refused name same other)
      by_test later name true (suc at) found other = let same : name ≡ told =
          cc in absurd (refused name same (and_true (not (is_told name)) (are_other rows at) other).0)
      by_test later name false zero found other = refl
      by_test later name false (suc at) found other =
          later at found (and_true (not (is_told name)) (are_other rows at) other).1

-- A user's pages: their frames are the pool's, and there are no more of them than pages.
use Rattle.std.proofs.Common.{◌≡◌, ℕ, suc, ◌+◌, ◌<◌, Bool, true, false, ◌&&◌, Option, Some, None, List, []}
use Rattle.std.proofs.Common.{◌∷◌, ◌∙◌, ap, arith, cond, eqb, ltb, length, refl}
use Rattle.std.specs.Prelude.{is_some}
use Rattle.std.specs.List.{cons_option, filter_map, find, list_all, range_with_len}
use Rattle.std.proofs.lemmas.Bool.Decides.{nat_tests}
use Rattle.std.proofs.lemmas.List.FromFn.{length-range_with_len}
use Rattle.iofd_words.specs.Frames.{frame_at, has_pages}
use Rattle.iofd_words.specs.declared.numbers.FrameNo.{FrameNo}
use Rattle.iofd_words.specs.declared.numbers.UserNo.{UserNo}
use Rattle.iofd_words.specs.declared.rows.UserPage.{UserPage}
use Rattle.frame_memory.specs.UserPages.{are_within}
use Rattle.pinned_pages.proofs.Bools.{and_true}
use Rattle.pinned_pages.specs.Pages.{frames_now}

-- the frame of a row is one of the pool's, where each row's is
pub within_pool : (holds : List ℕ) (rows : List UserPage) (user : UserNo) (page : ℕ) (frame : FrameNo)
    → are_within rows holds ≡ true → frame_at rows user page ≡ Some frame → frame.0 < length holds
within_pool holds [] user page frame within is = cc
within_pool holds (row ∷ rows) user page frame within is =
    let parts = and_true (ltb row.frame.0 (length holds)) (are_within rows holds) within in
    by_test (eqb row.user.0 user.0 && eqb row.page page) is (below parts.0)
    (within_pool holds rows user page frame parts.1)
  where
    below : ltb row.frame.0 (length holds) ≡ true → row.frame.0 < length holds
    below is = search (is, arith, nat_tests)

    of_some : row.frame ≡ frame → row.frame.0 < length holds → frame.0 < length holds
    of_some same below = rw same at below

    by_test : (b : Bool) → elim (cond b (Some row)
        (find (λ (p : UserPage). eqb p.user.0 user.0 && eqb p.page page) rows)) [
          | Some p ↦ Some p.frame
          | None ↦ None
        ] ≡ Some frame → row.frame.0 < length holds → (frame_at rows user page ≡ Some frame
        → frame.0 < length holds) → frame.0 < length holds
    by_test true here below later = let same : row.frame ≡ frame = cc in of_some same below
    by_test false here below later = later here

-- ---- and their number

made : {X : Type 0} (h : ℕ → Option X) (indexes : List ℕ) → list_all (λ i. is_some (h i)) indexes ≡ true
    → length (filter_map h indexes) ≡ length indexes
made h [] all = refl
made {X = X} h (i ∷ indexes) all = by_some (h i) all (made h indexes)
  where
    by_some : (o : Option X) → (is_some o && list_all (λ j. is_some (h j)) indexes) ≡ true
        → (list_all (λ j. is_some (h j)) indexes ≡ true → length (filter_map h indexes) ≡ length indexes)
        → length (cons_option o (filter_map h indexes)) ≡ suc (length indexes)
    by_some (Some x) is rest = ap suc (rest is)
    by_some None is rest = cc

-- where all are there, each has its frame
pub all_framed : (rows : List UserPage) (user : UserNo) (page count : ℕ)
    → has_pages (frame_at rows) user page count ≡ true → length (frames_now rows user page count) ≡ count
all_framed rows user page count all =
    made (λ i. frame_at rows user (page + i)) (range_with_len 0 count) all ∙ length-range_with_len 0 count

-- The rows of an UNMAP's refusals.
use Rattle.std.proofs.Common.{◌≡◌, ℕ, ◌<◌, Bool, true, false, ◌&&◌, not, eqb, Some, List, [], ◌∷◌, refl, sym, subst}
use Rattle.std.proofs.Common.{arith}
use Rattle.std.proofs.lemmas.Bool.Decides.{nat_tests}
use Rattle.iofd_words.specs.Areas.{areas_meet, is_cut, is_everything, unmapped_span}
use Rattle.iofd_words.specs.Bounds.{Bounds}
use Rattle.iofd_refusals.specs.Checks.{unmap_checks}
use Rattle.iofd_words.specs.FirstTrue.{first_true}
use Rattle.iofd_words.specs.Objects.{has_ioas}
use Rattle.iofd_words.specs.Pages.{is_above_sum}
use Rattle.iofd_words.specs.View.{View}
use Rattle.iofd_words.specs.declared.event.UnmapRequest.{UnmapRequest}
use Rattle.iofd_words.specs.declared.numbers.FileNo.{FileNo}
use Rattle.iofd_words.specs.declared.refusal.Cause.TheVariants as cause
use Rattle.iofd_words.specs.declared.rows.Area.{Area}

-- as the row of the length asks for it
pub some_length : (length : ℕ) → 0 < length → eqb length 0 ≡ false
some_length length more = search (more, arith, nat_tests)

pub no_length : (length : ℕ) → (0 < length → false ≡ true) → eqb length 0 ≡ true
no_length length none = by_test (eqb length 0) refl
  where
    by_test : (b : Bool) → eqb length 0 ≡ b → eqb length 0 ≡ true
    by_test true is = is
    by_test false is =
        let more : 0 < length = search (is, arith, nat_tests) in
        let never : false ≡ true = none more in
        cc

-- the one that refuses it, and those that ask for the areas, each where none before it holds
module _ (v : View) (file : FileNo) (request : UnmapRequest) where
  pub closed_row : v.is_open file ≡ false → Some cause.Id ≡ first_true (unmap_checks v file request)
  unfolding unmap_checks
  closed_row closed = rw closed refl

  module _ (opened : v.is_open file ≡ true) where
    pub sum_row : is_above_sum request.iova.0 request.length ≡ true
        → Some cause.Sum ≡ first_true (unmap_checks v file request)
    unfolding unmap_checks
    sum_row above = rw (opened, above) refl

    module _ (sum : is_above_sum request.iova.0 request.length ≡ false) where
      pub empty_row : eqb request.length 0 ≡ true → Some cause.Align ≡ first_true (unmap_checks v file request)
      unfolding unmap_checks
      empty_row empty = rw (opened, sum, empty) refl

      module _ (some : eqb request.length 0 ≡ false) where
        pub space_row : has_ioas v.objects file request.ioas ≡ false
            → Some cause.Id ≡ first_true (unmap_checks v file request)
        unfolding unmap_checks
        space_row absent = rw (opened, sum, some, absent) refl

        module _ (there : has_ioas v.objects file request.ioas ≡ true) where
          pub rows_behind : (span : Bounds) (areas : List Area) → span ≡ unmapped_span request
              → v.areas_of file request.ioas ≡ areas → first_true (unmap_checks v file request) ≡ first_true (
              (cause.Span, not (is_everything request) && not (areas_meet span areas))
              ∷ (cause.Span, is_cut span areas)
              ∷ [])
          unfolding unmap_checks
          rows_behind span areas spans here =
              subst (λ (those : List Area). first_true (unmap_checks v file request) ≡ first_true (
              (cause.Span, not (is_everything request) && not (areas_meet span those))
              ∷ (cause.Span, is_cut span those)
              ∷ [])) here
              (subst (λ (one : Bounds). first_true (unmap_checks v file request) ≡ first_true (
              (cause.Span, not (is_everything request) && not (areas_meet one (v.areas_of file request.ioas)))
              ∷ (cause.Span, is_cut one (v.areas_of file request.ioas))
              ∷ [])) (sym spans) (rw (opened, sum, some, there) refl))

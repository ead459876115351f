-- The rows of a MAP's refusals.
use Rattle.std.proofs.Common.{◌≡◌, ◌≢◌, ℕ, true, false, ◌&&◌, ◌||◌, not, eqb, Some, [], ◌∷◌, ◌++◌, refl, arith}
use Rattle.std.proofs.lemmas.Bool.Decides.{nat_tests}
use Rattle.iofd_refusals.specs.Checks.{lacks_mapped_frames, lacks_mapped_page, map_checks, passes_limit_mapped}
use Rattle.iofd_words.specs.FirstTrue.{first_true}
use Rattle.iofd_words.specs.Objects.{has_ioas}
use Rattle.iofd_words.specs.Pages.{is_above_sum, is_above_user, is_whole}
use Rattle.iofd_words.specs.Rights.{is_fixed, is_readable, is_writeable}
use Rattle.iofd_words.specs.View.{View}
use Rattle.iofd_words.specs.declared.event.MapRequest.{MapRequest}
use Rattle.iofd_words.specs.declared.numbers.FileNo.{FileNo}
use Rattle.iofd_words.specs.declared.refusal.Cause.TheVariants as cause
use Rattle.event_map.specs.Place.{place_checks}

-- as a row asks for it
pub some_length : (length : ℕ) → length ≢ 0 → eqb length 0 ≡ false
some_length length nonzero = search (nonzero, arith, nat_tests)

-- the one that refuses it, and those that ask for the areas, each where none before it holds
module _ (v : View) (file : FileNo) (request : MapRequest) where
  pub closed_row : v.is_open file ≡ false → Some cause.Id ≡ first_true (map_checks v file request)
  unfolding map_checks
  closed_row closed = rw closed refl

  module _ (opened : v.is_open file ≡ true) where
    pub right_row : (is_readable request.flags || is_writeable request.flags) ≡ false
        → Some cause.NoRight ≡ first_true (map_checks v file request)
    unfolding map_checks
    right_row rightless = rw (opened, rightless) refl

    module _ (right : (is_readable request.flags || is_writeable request.flags) ≡ true) where
      pub user_sum_row : is_above_sum request.user_va request.length ≡ true
          → Some cause.Sum ≡ first_true (map_checks v file request)
      unfolding map_checks
      user_sum_row above = rw (opened, right, above) refl

      module _ (user_sum : is_above_sum request.user_va request.length ≡ false) where
        pub sum_row : (is_fixed request.flags && is_above_sum request.iova.0 request.length) ≡ true
            → Some cause.Sum ≡ first_true (map_checks v file request)
        unfolding map_checks
        sum_row above = rw (opened, right, user_sum, above) refl

        module _ (sum : (is_fixed request.flags && is_above_sum request.iova.0 request.length) ≡ false) where
          pub empty_row : eqb request.length 0 ≡ true → Some cause.Align ≡ first_true (map_checks v file request)
          unfolding map_checks
          empty_row empty = rw (opened, right, user_sum, sum, empty) refl

          module _ (some : eqb request.length 0 ≡ false) where
            pub whole_row : (is_whole request.length && is_whole request.user_va) ≡ false
                → Some cause.Align ≡ first_true (map_checks v file request)
            unfolding map_checks
            whole_row cut = rw (opened, right, user_sum, sum, some, cut) refl

            module _ (whole : (is_whole request.length && is_whole request.user_va) ≡ true) where
              pub starts_row : (is_fixed request.flags && not (is_whole request.iova.0)) ≡ true
                  → Some cause.Align ≡ first_true (map_checks v file request)
              unfolding map_checks
              starts_row within = rw (opened, right, user_sum, sum, some, whole, within) refl

              module _ (starts : (is_fixed request.flags && not (is_whole request.iova.0)) ≡ false) where
                pub user_row : is_above_user request.user_va request.length ≡ true
                    → Some cause.Absent ≡ first_true (map_checks v file request)
                unfolding map_checks
                user_row above = rw (opened, right, user_sum, sum, some, whole, starts, above) refl

                module _ (in_user : is_above_user request.user_va request.length ≡ false) where
                  pub space_row : has_ioas v.objects file request.ioas ≡ false
                      → Some cause.Id ≡ first_true (map_checks v file request)
                  unfolding map_checks
                  space_row absent = rw (opened, right, user_sum, sum, some, whole, starts, in_user, absent) refl

                  pub rows_behind : has_ioas v.objects file request.ioas ≡ true
                      → first_true (map_checks v file request) ≡ first_true (
                      place_checks v file request
                      ++ (cause.Absent, lacks_mapped_page v file request)
                      ∷ (cause.Account, passes_limit_mapped v file request)
                      ∷ (cause.Frames, lacks_mapped_frames v file request)
                      ∷ [])
                  unfolding map_checks
                  rows_behind there = rw (opened, right, user_sum, sum, some, whole, starts, in_user, there) refl

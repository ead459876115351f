-- What a COPY asks of the memory object under its source.
use Rattle.std.proofs.Common.{◌≡◌, ℕ, Bool, true, false, ◌&&◌, ◌||◌, not, eqb, is_none, Option, Some, None, List, []}
use Rattle.std.proofs.Common.{◌∷◌, ◌++◌, length, refl, sym, ◌∙◌, ap}
use Rattle.std.specs.List.{filter, list_any}
use Rattle.iofd_refusals.specs.Checks.{copy_checks, is_source_writable, lacks_copied_page, lacks_mapped_frames}
use Rattle.iofd_refusals.specs.Checks.{newly_copied, passes_limit, passes_limit_copied, source_of}
use Rattle.iofd_words.specs.Copies.{is_writable, placed_as}
use Rattle.iofd_words.specs.Files.{user_of}
use Rattle.iofd_words.specs.FirstTrue.{first_true}
use Rattle.iofd_words.specs.Objects.{has_hwpt, has_ioas}
use Rattle.iofd_words.specs.Pages.{is_above_sum, is_whole}
use Rattle.iofd_words.specs.Pins.{ObjectPage, unpinned_pages}
use Rattle.iofd_words.specs.Rights.{is_fixed, is_readable, is_writeable}
use Rattle.iofd_words.specs.View.{View}
use Rattle.iofd_words.specs.declared.event.CopyRequest.{CopyRequest}
use Rattle.iofd_words.specs.declared.numbers.FileNo.{FileNo}
use Rattle.iofd_words.specs.declared.refusal.Cause.TheVariants as cause
use Rattle.iofd_words.specs.declared.rows.Area.{Area}
use Rattle.event_map.specs.Place.{place_checks}
use Rattle.event_map.specs.Sources.{number_of}
use Rattle.user_memory_rows.proofs.ObjectOf.{lacks_one, pages_of_one}
use Rattle.server_state.specs.Seen.{seen}
use Rattle.server_state.specs.declared.state.State.{State}
use Rattle.user_memory.specs.Invariant.{ObjectsTell}
use Rattle.user_memory.specs.Memory.{lacks_page, new_pages}

-- ---- by the number of the source's memory object

module _ (v : View) (file : FileNo) (request : CopyRequest) (number : ℕ)
    (is : number_of (source_of v file request) ≡ Some number) where
  pub newly_is : newly_copied v file request ≡ unpinned_pages v.pinned_frame
      (filter (λ m. eqb m.number number) v.memory)
  newly_is = by_source (source_of v file request) is
    where
      by_source : (o : Option Area) → number_of o ≡ Some number
          → elim o as (λ _. List ObjectPage) [
            | Some source ↦ unpinned_pages v.pinned_frame
                (filter (λ m. eqb m.number source.memory) v.memory)
            | None ↦ []
          ] ≡ unpinned_pages v.pinned_frame (filter (λ m. eqb m.number number) v.memory)
      by_source None named = cc
      by_source (Some source) named = let same : source.memory ≡ number =
          cc in ap (λ (n : ℕ). unpinned_pages v.pinned_frame (filter (λ m. eqb m.number n) v.memory)) same

  pub writable_is : is_source_writable v file request ≡ is_writable v.memory number
  writable_is = by_source (source_of v file request) is
    where
      by_source : (o : Option Area) → number_of o ≡ Some number
          → elim o as (λ _. Bool) [
            | Some source ↦ is_writable v.memory source.memory
            | None ↦ false
          ] ≡ is_writable v.memory number
      by_source None named = cc
      by_source (Some source) named = let same : source.memory ≡ number = cc in ap (is_writable v.memory) same

-- ---- what is kept tells the same

module _ {A : Type 0} (s : State A) (file : FileNo) (request : CopyRequest) (number : ℕ)
    (is : number_of (source_of (seen s) file request) ≡ Some number) (told : ObjectsTell s.memory.objects)
    (translated : has_hwpt (seen s).objects file request.dst_ioas ≡ true) where
  pub lacks_told : lacks_page s.memory number ≡ lacks_copied_page (seen s) file request
  lacks_told =
      lacks_one s.memory number told
      ∙ ap (λ pages. list_any (λ page. is_none ((seen s).frame_now page)) pages)
      (sym (newly_is (seen s) file request number is))
      ∙ ap (λ b. b && list_any (λ page. is_none ((seen s).frame_now page)) (newly_copied (seen s) file request))
      (sym translated)

  pub limit_told : passes_limit (seen s) (user_of s.config file) (new_pages s.memory number)
      ≡ passes_limit_copied (seen s) file request
  limit_told =
      ap (passes_limit (seen s) (user_of s.config file)) (pages_of_one s.memory number told
      ∙ ap (λ pages. length pages) (sym (newly_is (seen s) file request number is)))
      ∙ ap (λ b. b && passes_limit (seen s) (user_of s.config file) (length (newly_copied (seen s) file request)))
      (sym translated)

-- ---- the rows of its refusals

-- the one that refuses it, and those behind the one of the source, each where none before it holds
module _ (v : View) (file : FileNo) (request : CopyRequest) where
  pub closed_row : v.is_open file ≡ false → Some cause.Id ≡ first_true (copy_checks v file request)
  unfolding copy_checks
  closed_row closed = rw closed refl

  module _ (opened : v.is_open file ≡ true) where
    pub right_row : (is_readable request.flags || is_writeable request.flags) ≡ false
        → Some cause.NoRight ≡ first_true (copy_checks v file request)
    unfolding copy_checks
    right_row rightless = rw (opened, rightless) refl

    module _ (right : (is_readable request.flags || is_writeable request.flags) ≡ true) where
      pub source_sum_row : is_above_sum request.src_iova.0 request.length ≡ true
          → Some cause.Sum ≡ first_true (copy_checks v file request)
      unfolding copy_checks
      source_sum_row above = rw (opened, right, above) refl

      module _ (source_sum : is_above_sum request.src_iova.0 request.length ≡ false) where
        pub sum_row : (is_fixed request.flags && is_above_sum request.dst_iova.0 request.length) ≡ true
            → Some cause.Sum ≡ first_true (copy_checks v file request)
        unfolding copy_checks
        sum_row above = rw (opened, right, source_sum, above) refl

        module _ (sum : (is_fixed request.flags && is_above_sum request.dst_iova.0 request.length) ≡ false) where
          pub empty_row : eqb request.length 0 ≡ true → Some cause.Align ≡ first_true (copy_checks v file request)
          unfolding copy_checks
          empty_row empty = rw (opened, right, source_sum, sum, empty) refl

          module _ (some : eqb request.length 0 ≡ false) where
            pub whole_row : (is_whole request.length && is_whole request.src_iova.0) ≡ false
                → Some cause.Align ≡ first_true (copy_checks v file request)
            unfolding copy_checks
            whole_row cut = rw (opened, right, source_sum, sum, some, cut) refl

            module _ (whole : (is_whole request.length && is_whole request.src_iova.0) ≡ true) where
              pub starts_row : (is_fixed request.flags && not (is_whole request.dst_iova.0)) ≡ true
                  → Some cause.Align ≡ first_true (copy_checks v file request)
              unfolding copy_checks
              starts_row within = rw (opened, right, source_sum, sum, some, whole, within) refl

              module _ (starts : (is_fixed request.flags && not (is_whole request.dst_iova.0)) ≡ false) where
                pub target_row : has_ioas v.objects file request.dst_ioas ≡ false
                    → Some cause.Id ≡ first_true (copy_checks v file request)
                unfolding copy_checks
                target_row absent = rw (opened, right, source_sum, sum, some, whole, starts, absent) refl

                module _ (target : has_ioas v.objects file request.dst_ioas ≡ true) where
                  pub source_row : has_ioas v.objects file request.src_ioas ≡ false
                      → Some cause.Id ≡ first_true (copy_checks v file request)
                  unfolding copy_checks
                  source_row absent =
                      rw (opened, right, source_sum, sum, some, whole, starts, target, absent) refl

                  module _ (source : has_ioas v.objects file request.src_ioas ≡ true) where
                    pub span_row : is_none (source_of v file request) ≡ true
                        → Some cause.Span ≡ first_true (copy_checks v file request)
                    unfolding copy_checks
                    span_row nowhere =
                        rw (opened, right, source_sum, sum, some, whole, starts, target, source, nowhere) refl

                    pub rows_behind : is_none (source_of v file request) ≡ false
                        → first_true (copy_checks v file request) ≡ first_true (
                        (cause.Rights, is_writeable request.flags && not (is_source_writable v file request))
                        ∷ place_checks v file (placed_as request)
                        ++ (cause.Absent, lacks_copied_page v file request)
                        ∷ (cause.Account, passes_limit_copied v file request)
                        ∷ (cause.Frames, lacks_mapped_frames v file (placed_as request))
                        ∷ [])
                    unfolding copy_checks
                    rows_behind found =
                        rw (opened, right, source_sum, sum, some, whole, starts, target, source, found) refl

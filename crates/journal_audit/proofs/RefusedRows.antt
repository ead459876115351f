-- The rows of MAP and COPY, part after part.
use Rattle.std.proofs.Common.{◌≡◌, Bool, true, false, cond, ◌&&◌, eqb, Some, None, List, [], ◌∷◌}
use Rattle.std.proofs.Common.{◌++◌, refl, sym, ap, ◌∙◌}
use Rattle.iofd_rows.proofs.Bools.{or_false}
use Rattle.iofd_runs.proofs.Runs.{tests_false}
use Rattle.iofd_refusals.specs.Checks.{copy_checks, lacks_mapped_frames, map_checks}
use Rattle.iofd_words.specs.Copies.{placed_as}
use Rattle.iofd_words.specs.FirstTrue.{first_true}
use Rattle.iofd_words.specs.Pages.{is_above_sum}
use Rattle.iofd_words.specs.Rights.{is_fixed}
use Rattle.iofd_words.specs.View.{View}
use Rattle.iofd_words.specs.declared.event.CopyRequest.{CopyRequest}
use Rattle.iofd_words.specs.declared.event.MapRequest.{MapRequest}
use Rattle.iofd_words.specs.declared.numbers.FileNo.{FileNo}
use Rattle.iofd_words.specs.declared.refusal.Cause.{Cause}
use Rattle.iofd_words.specs.declared.refusal.Cause.TheVariants as cause
use Rattle.journal_audit.specs.Rows.{copy_pages, copy_source, copy_words, frame_rows, map_pages, map_words}
use Rattle.journal_audit.specs.Rows.{place_rows}

-- ---- rows after rows

passed_first : {C : Type 0} (xs ys : List (C × Bool)) → first_true xs ≡ None → first_true (xs ++ ys) ≡ first_true ys
passed_first [] ys none = refl
passed_first (row ∷ xs) ys none = by_test row.1 none (passed_first xs ys)
  where
    by_test : (b : Bool) → cond b (Some row.0) (first_true xs) ≡ None
        → (first_true xs ≡ None → first_true (xs ++ ys) ≡ first_true ys)
        → cond b (Some row.0) (first_true (xs ++ ys)) ≡ first_true ys
    by_test true none rest = cc
    by_test false none rest = rest none

refused_first : {C : Type 0} (xs ys : List (C × Bool)) (x : C) → first_true xs ≡ Some x
    → first_true (xs ++ ys) ≡ Some x
refused_first [] ys x some = cc
refused_first (row ∷ xs) ys x some = by_test row.1 some (refused_first xs ys x)
  where
    by_test : (b : Bool) → cond b (Some row.0) (first_true xs) ≡ Some x
        → (first_true xs ≡ Some x → first_true (xs ++ ys) ≡ Some x)
        → cond b (Some row.0) (first_true (xs ++ ys)) ≡ Some x
    by_test true some rest = some
    by_test false some rest = rest some

-- a part that tells a cause, where those before it tell none
part_refuses : {C : Type 0} (before part rest : List (C × Bool)) (x : C) → first_true before ≡ None
    → first_true part ≡ Some x → Some x ≡ first_true (before ++ (part ++ rest))
part_refuses before part rest x none some =
    sym (passed_first before (part ++ rest) none ∙ refused_first part rest x some)

parts_pass : {C : Type 0} (a b : List (C × Bool)) → first_true a ≡ None → first_true b ≡ None
    → first_true (a ++ b) ≡ None
parts_pass a b first second = passed_first a b first ∙ second

-- ---- MAP

module _ (v : View) (file : FileNo) (request : MapRequest) where
  pub map_by_words : (x : Cause) → first_true (map_words v file request) ≡ Some x
      → Some x ≡ first_true (map_checks v file request)
  unfolding map_checks map_words place_rows map_pages frame_rows
  map_by_words x some = part_refuses [] (map_words v file request)
      (place_rows v file request ++ (map_pages v file request ++ frame_rows v file request)) x refl some

  module _ (words : first_true (map_words v file request) ≡ None) where
    pub map_by_place : (x : Cause) → first_true (place_rows v file request) ≡ Some x
        → Some x ≡ first_true (map_checks v file request)
    unfolding map_checks map_words place_rows map_pages frame_rows
    map_by_place x some = part_refuses (map_words v file request) (place_rows v file request)
        (map_pages v file request ++ frame_rows v file request) x words some

    -- its length isn't 0, and fixed addresses end by 2^64
    pub map_some : eqb request.length 0 ≡ false
    unfolding map_words
    map_some = (or_false _ _ (tests_false (map_words v file request) 3 words)).0

    pub map_sum : (is_fixed request.flags && is_above_sum request.iova.0 request.length) ≡ false
    unfolding map_words
    map_sum = (or_false _ _ (tests_false (map_words v file request) 2 words)).1

    module _ (place : first_true (place_rows v file request) ≡ None) where
      pub map_by_pages : (x : Cause) → first_true (map_pages v file request) ≡ Some x
          → Some x ≡ first_true (map_checks v file request)
      unfolding map_checks map_words place_rows map_pages frame_rows
      map_by_pages x some = part_refuses (map_words v file request ++ place_rows v file request)
          (map_pages v file request) (frame_rows v file request) x
          (parts_pass (map_words v file request) (place_rows v file request) words place) some

      pub map_by_frames : (b : Bool) → first_true (map_pages v file request) ≡ None
          → b ≡ lacks_mapped_frames v file request
          → cond b (Some cause.Frames) None ≡ first_true (map_checks v file request)
      unfolding map_checks map_words place_rows map_pages frame_rows
      map_by_frames b pages is =
          ap (λ (x : Bool). cond x (Some cause.Frames) None) is
          ∙ sym (passed_first (map_words v file request ++ (place_rows v file request ++ map_pages v file request))
          (frame_rows v file request)
          (parts_pass (map_words v file request) (place_rows v file request ++ map_pages v file request) words
          (parts_pass (place_rows v file request) (map_pages v file request) place pages)))

-- ---- COPY

module _ (v : View) (file : FileNo) (request : CopyRequest) where
  pub copy_by_words : (x : Cause) → first_true (copy_words v file request) ≡ Some x
      → Some x ≡ first_true (copy_checks v file request)
  unfolding copy_checks copy_words copy_source place_rows copy_pages frame_rows
  copy_by_words x some = part_refuses [] (copy_words v file request)
      (copy_source v file request ++ (place_rows v file (placed_as request)
      ++ (copy_pages v file request ++ frame_rows v file (placed_as request)))) x refl some

  module _ (words : first_true (copy_words v file request) ≡ None) where
    pub copy_by_source : (x : Cause) → first_true (copy_source v file request) ≡ Some x
        → Some x ≡ first_true (copy_checks v file request)
    unfolding copy_checks copy_words copy_source place_rows copy_pages frame_rows
    copy_by_source x some = part_refuses (copy_words v file request) (copy_source v file request)
        (place_rows v file (placed_as request)
        ++ (copy_pages v file request ++ frame_rows v file (placed_as request))) x words some

    pub copy_some : eqb request.length 0 ≡ false
    unfolding copy_words
    copy_some = (or_false _ _ (tests_false (copy_words v file request) 3 words)).0

    pub copy_sum : (is_fixed request.flags && is_above_sum request.dst_iova.0 request.length) ≡ false
    unfolding copy_words
    copy_sum = (or_false _ _ (tests_false (copy_words v file request) 2 words)).1

    module _ (source : first_true (copy_source v file request) ≡ None) where
      pub copy_by_place : (x : Cause) → first_true (place_rows v file (placed_as request)) ≡ Some x
          → Some x ≡ first_true (copy_checks v file request)
      unfolding copy_checks copy_words copy_source place_rows copy_pages frame_rows
      copy_by_place x some = part_refuses (copy_words v file request ++ copy_source v file request)
          (place_rows v file (placed_as request)) (copy_pages v file request ++ frame_rows v file (placed_as request)) x
          (parts_pass (copy_words v file request) (copy_source v file request) words source) some

      module _ (place : first_true (place_rows v file (placed_as request)) ≡ None) where
        before : first_true (copy_words v file request
            ++ (copy_source v file request ++ place_rows v file (placed_as request))) ≡ None
        before = parts_pass (copy_words v file request)
            (copy_source v file request ++ place_rows v file (placed_as request)) words
            (parts_pass (copy_source v file request) (place_rows v file (placed_as request)) source place)

        pub copy_by_pages : (x : Cause) → first_true (copy_pages v file request) ≡ Some x
            → Some x ≡ first_true (copy_checks v file request)
        unfolding copy_checks copy_words copy_source place_rows copy_pages frame_rows
        copy_by_pages x some = part_refuses (copy_words v file request
            ++ (copy_source v file request ++ place_rows v file (placed_as request)))
            (copy_pages v file request) (frame_rows v file (placed_as request)) x before some

        pub copy_by_frames : (b : Bool) → first_true (copy_pages v file request) ≡ None
            → b ≡ lacks_mapped_frames v file (placed_as request)
            → cond b (Some cause.Frames) None ≡ first_true (copy_checks v file request)
        unfolding copy_checks copy_words copy_source place_rows copy_pages frame_rows
        copy_by_frames b pages is =
            ap (λ (x : Bool). cond x (Some cause.Frames) None) is
            ∙ sym (passed_first ((copy_words v file request
            ++ (copy_source v file request ++ place_rows v file (placed_as request))) ++ copy_pages v file request)
            (frame_rows v file (placed_as request))
            (parts_pass (copy_words v file request
            ++ (copy_source v file request ++ place_rows v file (placed_as request)))
            (copy_pages v file request) before pages))

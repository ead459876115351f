-- What is known of an area whose place nothing refuses, be it a MAP's or a COPY's.
use Rattle.std.proofs.Common.{◌≡◌, ℕ, ◌+◌, ◌*◌, ◌<◌, ◌≤◌, ◌/◌, ◌%◌, Bool, true, false, cond, ◌||◌, not, ltb, Some, sym}
use Rattle.std.proofs.Common.{◌∙◌, arith}
use Rattle.std.proofs.lemmas.Bool.Decides.{nat_tests}
use Rattle.iofd_refusals.specs.Checks.{mapped_start, tables_to_map, unusable_in}
use Rattle.iofd_words.specs.Bounds.{Bounds}
use Rattle.iofd_words.specs.Ranges.{meets_some}
use Rattle.iofd_words.specs.Rights.{is_readable, is_writeable, rights_of}
use Rattle.iofd_words.specs.Span.{is_whole_pages, size_of, span_from}
use Rattle.iofd_words.specs.declared.event.MapRequest.{MapRequest}
use Rattle.iofd_words.specs.declared.numbers.FileNo.{FileNo}
use Rattle.frame_memory.specs.Pool.{free_count}
use Rattle.event_map.proofs.StartTold.{lacks_there, place_usable, place_whole, start_told}
use Rattle.event_map.specs.Place.{IsPlace}
use Rattle.server_state.specs.Seen.{seen}
use Rattle.server_state.specs.declared.state.State.{State}
use Rattle.iofd_runs.proofs.NotRefused.{PlacePassed}

module _ {A : Type 0} (s : State A) (file : FileNo) (request : MapRequest) (rows : PlacePassed (seen s) file request)
  where
    -- the rights are to read, to write or both
    pub good_rights : (0 < (rights_of request.flags).0) × ((rights_of request.flags).0 < 4)
    good_rights = of_flags (is_readable request.flags) (is_writeable request.flags) rows.right
      where
        of_flags : (reads writes : Bool) → not (reads || writes) ≡ false → (0 < cond reads 1 0 + cond writes 2 0)
            × (cond reads 1 0 + cond writes 2 0 < 4)
        of_flags true true some = (omega arith, omega arith)
        of_flags true false some = (omega arith, omega arith)
        of_flags false true some = (omega arith, omega arith)
        of_flags false false some = cc

    -- the memory object has the size of the span
    pub sized : (first : ℕ) → request.length / 4096 * 4096 ≡ size_of (span_from first request.length)
    sized first =
        let whole = rows.whole in
        let length : request.length % 4096 ≡ 0 = search (whole, arith, nat_tests) in
        let is = rows.some in
        let more : 0 < request.length = search (is, arith, nat_tests) in
        omega (arith, length, more)

    -- where the span is found there are frames for the tables that it lacks
    module _ (span : Bounds) (place : IsPlace (seen s) file request span) where
      pub span_whole : is_whole_pages span ≡ true
      span_whole = place_whole (seen s) file request span place rows.some rows.whole rows.whole_iova

      pub span_usable : meets_some (unusable_in (seen s) file request.ioas) span ≡ false
      span_usable = place_usable (seen s) file request span place rows.usable

      pub frames_enough : tables_to_map (seen s) file request.ioas span ≤ free_count s.pool.holds
      frames_enough =
          let start : mapped_start (seen s) file request ≡ Some span.first =
          start_told (seen s) file request (Some span) rows.sum rows.space place in
          let few : ltb (free_count s.pool.holds) (tables_to_map (seen s) file request.ioas span) ≡ false =
          sym (lacks_there (seen s) file request span place start) ∙ rows.frames in
          search (few, arith, nat_tests)

-- The refusals of MAP and COPY in parts: first what the request's words say, then of where the area comes to lie, and
-- at last of its pages and of frames for tables.
use Rattle.std.specs.Prelude.{Bool, ◌==◌, ◌&&◌, ◌||◌, not, is_none, List, [], ◌∷◌}
use Rattle.iofd_words.specs.Areas.{has_no_room}
use Rattle.iofd_refusals.specs.Checks.{is_outside_usable, is_source_writable, lacks_choice, lacks_copied_page}
use Rattle.iofd_refusals.specs.Checks.{lacks_mapped_frames, lacks_mapped_page, overlaps, passes_limit_copied}
use Rattle.iofd_refusals.specs.Checks.{passes_limit_mapped, source_of}
use Rattle.iofd_words.specs.Objects.{has_ioas}
use Rattle.iofd_words.specs.Pages.{is_above_sum, is_above_user, is_whole}
use Rattle.iofd_words.specs.Rights.{is_fixed, is_readable, is_writeable}
use Rattle.iofd_words.specs.View.{View}
use Rattle.iofd_words.specs.declared.event.CopyRequest.{CopyRequest}
use Rattle.iofd_words.specs.declared.event.MapRequest.{MapRequest}
use Rattle.iofd_words.specs.declared.numbers.FileNo.{FileNo}
use Rattle.iofd_words.specs.declared.refusal.Cause.{Cause}
use Rattle.iofd_words.specs.declared.refusal.Cause.TheVariants as cause

-- ---- of where the area comes to lie, for both

unfoldable pub place_rows : View → FileNo → MapRequest → List (Cause × Bool)
place_rows v file request =
    (cause.Reserved, is_outside_usable v file request)
    ∷ (cause.Overlap, overlaps v file request)
    ∷ (cause.Full, has_no_room (v.areas_of file request.ioas) || lacks_choice v file request)
    ∷ []

unfoldable pub frame_rows : View → FileNo → MapRequest → List (Cause × Bool)
frame_rows v file request = (cause.Frames, lacks_mapped_frames v file request) ∷ []

-- ---- MAP

unfoldable pub map_words : View → FileNo → MapRequest → List (Cause × Bool)
map_words v file request =
    (cause.Id, not (v.is_open file))
    ∷ (cause.NoRight, not (is_readable request.flags || is_writeable request.flags))
    ∷ (
      cause.Sum,
      is_above_sum request.user_va request.length
          || (is_fixed request.flags && is_above_sum request.iova.0 request.length),
    )
    ∷ (cause.Align, request.length == 0 || not (is_whole request.length && is_whole request.user_va))
    ∷ (cause.Align, is_fixed request.flags && not (is_whole request.iova.0))
    ∷ (cause.Absent, is_above_user request.user_va request.length)
    ∷ (cause.Id, not (has_ioas v.objects file request.ioas))
    ∷ []

unfoldable pub map_pages : View → FileNo → MapRequest → List (Cause × Bool)
map_pages v file request =
    (cause.Absent, lacks_mapped_page v file request)
    ∷ (cause.Account, passes_limit_mapped v file request)
    ∷ []

-- ---- COPY

unfoldable pub copy_words : View → FileNo → CopyRequest → List (Cause × Bool)
copy_words v file request =
    (cause.Id, not (v.is_open file))
    ∷ (cause.NoRight, not (is_readable request.flags || is_writeable request.flags))
    ∷ (
      cause.Sum,
      is_above_sum request.src_iova.0 request.length
          || (is_fixed request.flags && is_above_sum request.dst_iova.0 request.length),
    )
    ∷ (cause.Align, request.length == 0 || not (is_whole request.length && is_whole request.src_iova.0))
    ∷ (cause.Align, is_fixed request.flags && not (is_whole request.dst_iova.0))
    ∷ (cause.Id, not (has_ioas v.objects file request.dst_ioas))
    ∷ (cause.Id, not (has_ioas v.objects file request.src_ioas))
    ∷ []

unfoldable pub copy_source : View → FileNo → CopyRequest → List (Cause × Bool)
copy_source v file request =
    (cause.Span, is_none (source_of v file request))
    ∷ (cause.Rights, is_writeable request.flags && not (is_source_writable v file request))
    ∷ []

unfoldable pub copy_pages : View → FileNo → CopyRequest → List (Cause × Bool)
copy_pages v file request =
    (cause.Absent, lacks_copied_page v file request)
    ∷ (cause.Account, passes_limit_copied v file request)
    ∷ []

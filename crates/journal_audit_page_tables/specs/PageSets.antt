-- Pages that are found at the cost of a logarithm.
use Rattle.std.specs.Prelude.{ℕ, ◌==◌, ◌&&◌, Option, Some, None, if◌then◌else◌}
use Rattle.std.specs.BTreeMap.{BTreeMap, get_by}
use Rattle.std.specs.Ordering.{nat_cmp, ordering_then}
use Rattle.iofd_words.specs.declared.numbers.FrameNo.{FrameNo}
use Rattle.iofd_words.specs.declared.numbers.UserNo.{UserNo}
use Rattle.iofd_words.specs.declared.rows.UserPage.{UserPage}

-- the frame under a user and a page
abbrev pub frame_in : BTreeMap (ℕ × ℕ) FrameNo → UserNo → ℕ → Option FrameNo
frame_in index user page = get_by (λ key. ordering_then (nat_cmp user.0 key.0) (nat_cmp page key.1)) index

abbrev pub or_else : Option FrameNo → Option FrameNo → Option FrameNo
or_else (Some frame) other = Some frame
or_else None other = other

-- the row's frame, if it is this page's
abbrev pub frame_of_row : UserPage → UserNo → ℕ → Option FrameNo
frame_of_row row user page = if row.user.0 == user.0 && row.page == page then Some row.frame else None

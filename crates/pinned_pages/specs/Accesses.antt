-- What pins by accesses make of a memory object. A pin by an access stands on each page of a run: so many pages from a
-- first one on.
use Rattle.std.specs.Prelude.{ℕ, ◌≡◌, ◌+◌, Bool, ◌==◌, ◌&&◌, not, Option, None, List, [], ◌∷◌}
use Rattle.std.specs.Prelude.{is_none, is_some, if◌then◌else◌}
use Rattle.std.specs.List.{count_by, filter_map, list_all, range_with_len}
use Rattle.iofd_words.specs.FirstTrue.{first_true}
use Rattle.iofd_words.specs.declared.numbers.FrameNo.{FrameNo}
use Rattle.iofd_words.specs.declared.refusal.Cause.{Cause}
use Rattle.iofd_words.specs.declared.refusal.Cause.TheVariants as cause
use Rattle.iofd_words.specs.declared.rows.UserPage.{UserPage}
use Rattle.mem_account.specs.Accounts.{has_room}
use Rattle.mem_account.specs.declared.Account.{Account}
use Rattle.pinned_pages.specs.Access.{is_in}
use Rattle.pinned_pages.specs.Pages.{ObjectPages, access_pins, frame_now, frame_of, is_pinned, or_else, unless}

-- each page of the run is pinned, or in its user's memory
abbrev pub run_is_present : ObjectPages → List UserPage → ℕ → ℕ → Bool
run_is_present pages rows first count =
    list_all (λ index. is_some (or_else (frame_of pages index) (frame_now pages rows index)))
    (range_with_len first count)

-- the frames of the run's pages that nothing pins, and how many these are
abbrev pub run_frames : ObjectPages → List UserPage → ℕ → ℕ → List FrameNo
run_frames pages rows first count =
    filter_map (λ index. unless (frame_of pages index) (frame_now pages rows index)) (range_with_len first count)

abbrev pub run_count : ObjectPages → ℕ → ℕ → ℕ
run_count pages first count = count_by (λ index. is_none (frame_of pages index)) (range_with_len first count)

-- how many of its pages no access pins: for each a row comes
abbrev pub run_rows : ObjectPages → ℕ → ℕ → ℕ
run_rows pages first count = count_by (λ index. access_pins pages index == 0) (range_with_len first count)

-- why an access doesn't pin them: the first cause that applies
abbrev pub access_refusal : ObjectPages → List UserPage → List Account → ℕ → ℕ → Option Cause
access_refusal pages rows accounts first count = first_true (
    (cause.Absent, not (run_is_present pages rows first count))
    ∷ (cause.Account, not (has_room accounts pages.user.0 (run_count pages first count)))
    ∷ [])

-- one pin by an access more stands on each page of the run. A page that something pins keeps its frame, and one that
-- nothing pins has the frame that it is in its user's memory now.
pub record IsAccessPinned (first count : ℕ) (rows : List UserPage) (old new : ObjectPages) : Type 0 where
  pub same : new ≡ record old { access = new.access }
  pub pins : (index : ℕ) → access_pins new index
      ≡ access_pins old index + (if is_in first count index then 1 else 0)
  pub frames : (index : ℕ) → frame_of new index
      ≡ (if is_in first count index then or_else (frame_of old index) (frame_now old rows index)
      else frame_of old index)

-- one stands on each less. A page that something still pins keeps its frame, and what nothing pins has none.
pub record IsAccessReleased (first count : ℕ) (old new : ObjectPages) : Type 0 where
  pub same : new ≡ record old { access = new.access }
  pub pins : (index : ℕ) → access_pins new index + (if is_in first count index then 1 else 0)
      ≡ access_pins old index
  pub frames : (index : ℕ) → frame_of new index ≡ (if is_pinned new index then frame_of old index else None)

-- nothing but its last pin by an access pins the page
abbrev pub is_last : ObjectPages → ℕ → Bool
is_last pages index = pages.table_pins == 0 && access_pins pages index == 1

-- the frames of the run's pages that nothing pins after it, and how many these are
abbrev pub gone_frames : ObjectPages → ℕ → ℕ → List FrameNo
gone_frames pages first count =
    filter_map (λ index. if is_last pages index then frame_of pages index else None) (range_with_len first count)

abbrev pub gone_count : ObjectPages → ℕ → ℕ → ℕ
gone_count pages first count = count_by (is_last pages) (range_with_len first count)

-- The frame that a user's new page gets.
use Rattle.std.specs.Prelude.{ℕ, Option, Some, None, List, find}
use Rattle.std.specs.List.{range_with_len}
use Rattle.iofd_words.specs.Frames.{is_free}
use Rattle.iofd_words.specs.declared.numbers.FrameNo.{FrameNo}
use Rattle.iofd_words.specs.declared.rows.Pin.{Pin}
use Rattle.iofd_words.specs.declared.rows.TableFrame.{TableFrame}
use Rattle.iofd_words.specs.declared.rows.UserPage.{UserPage}

-- the least frame of the pool that nobody reaches
abbrev pub free_frame : ℕ → List UserPage → List Pin → List TableFrame → Option FrameNo
free_frame pool pages pins tables =
    elim (find (is_free pool pages pins tables) (range_with_len 0 pool))
    [ Some frame ↦ Some (record { 0 = frame }) | None ↦ None ]

-- Which spans access pins have, and how many of them an access object holds.
use Rattle.std.specs.Prelude.{◌≡◌, ◌≤◌, ◌^◌, ◌&&◌, Bool, true, nat_le, nat_lt}
use Rattle.std.specs.List.{count_by, list_all}
use Rattle.iofd_words.specs.Pins.{is_of_access, most_pins}
use Rattle.iofd_words.specs.Span.{is_whole_pages}
use Rattle.iofd_words.specs.World.{World}
use Rattle.iofd_words.specs.declared.numbers.FileNo.{FileNo}
use Rattle.iofd_words.specs.declared.numbers.ObjId.{ObjId}
use Rattle.iofd_words.specs.declared.rows.AccessPin.{AccessPin}

-- whole pages, at least one, below 2^64
abbrev pub is_fitting_pin : AccessPin → Bool
is_fitting_pin pin =
    is_whole_pages pin.span && nat_le pin.span.first pin.span.last && nat_lt pin.span.last (2 ^ 64)

pub record AccessPinsFit (w : World) : Type 0 where
  pub spans : list_all is_fitting_pin w.access_pins ≡ true
  -- an access object holds no more than it may
  pub few : (file : FileNo) (access : ObjId) → count_by (is_of_access file access) w.access_pins ≤ most_pins

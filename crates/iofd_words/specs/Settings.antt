-- What a server is opened with. `Limits` says within which limits.
use Rattle.std.specs.Prelude.{ℕ, Bool, ◌&&◌, nat_le, nat_lt, List, length}
use Rattle.std.specs.List.{list_all}
use Rattle.iofd_words.specs.Bounds.{Bounds}
use Rattle.iofd_words.specs.Span.{is_whole_pages}
use Rattle.iofd_words.specs.declared.numbers.SourceId.{SourceId}
use Rattle.iofd_words.specs.declared.numbers.UserNo.{UserNo}
use Rattle.iofd_words.specs.declared.width.Width.{Width}

-- a device: its source id, the width of its addresses, its x86 mark and its reserved spans
pub record DeviceSettings : Type 0 where
  pub source : SourceId
  pub width : Width
  pub x86 : Bool
  pub reserved : List Bounds

-- the frames of the pool; the page limits of the users, from user 1 on; the users of the files, from file 1
-- on; the devices, from device 1 on; the number of passes
pub record Settings : Type 0 where
  pub pool : ℕ
  pub users : List ℕ
  pub files : List UserNo
  pub devices : List DeviceSettings
  pub passes : ℕ

abbrev pub is_between : ℕ → ℕ → ℕ → Bool
is_between low high n = nat_le low n && nat_le n high

-- a reserved span is of whole pages
abbrev pub is_reserved_span : Bounds → Bool
is_reserved_span span = nat_lt span.first span.last && is_whole_pages span

-- a device has at most 16 of them
abbrev pub is_device_in_limits : DeviceSettings → Bool
is_device_in_limits device = nat_le (length device.reserved) 16 && list_all is_reserved_span device.reserved

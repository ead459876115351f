-- The settings that a C program asks for.
use Rattle.std.specs.Prelude.{◌==◌, ◌&&◌, ◌||◌, ℕ, nat_le, Bool, not, List, length, filter, map}
use Rattle.std.specs.Prelude.{is_none, if◌then◌else◌}
use Rattle.std.specs.List.{enumerate_from, list_all}
use Rattle.iofd_words.specs.Bounds.{Bounds}
use Rattle.iofd_words.specs.Limits.{first_outside}
use Rattle.iofd_words.specs.Settings.{DeviceSettings, Settings, is_between}
use Rattle.iofd_words.specs.declared.numbers.UserNo.{UserNo}
use Rattle.iofd_words.specs.declared.width.Width.TheVariants.{Bits39, Bits48, Bits57}
use Rattle.shared_iommufd.specs.Limits as server
use Rattle.iommufd_c.specs.declared.configuring.DeviceRow.{DeviceRow}
use Rattle.iommufd_c.specs.declared.reserving.ReservedRow.{ReservedRow}

-- its width is one that there is
abbrev pub is_row : DeviceRow → Bool
is_row row = (row.width == 39) || (row.width == 48) || (row.width == 57)

-- it is a span, of one of so many devices
abbrev pub is_reserved_row : ℕ → ReservedRow → Bool
is_reserved_row devices row = is_between 1 devices row.device && nat_le row.first row.last

-- each device's width is one that there is, and each reserved row a span of one of the devices
abbrev pub are_rows : List DeviceRow → List ReservedRow → Bool
are_rows devices reserved = list_all is_row devices && list_all (is_reserved_row (length devices)) reserved

abbrev pub span_of : ReservedRow → Bounds
span_of row = record { first = row.first; last = row.last }

-- the rows that name this device
abbrev pub rows_for : List ReservedRow → ℕ → List ReservedRow
rows_for rows device = filter (λ row. row.device == device) rows

-- their spans, in the order of the rows
abbrev pub reserved_for : List ReservedRow → ℕ → List Bounds
reserved_for rows device = map span_of (rows_for rows device)

-- the device of the row, with these reserved spans
abbrev pub device_settings : DeviceRow → List Bounds → DeviceSettings
device_settings row reserved = record {
  source = record { 0 = row.source };
  width = if row.width == 39 then Bits39 else if row.width == 48 then Bits48 else Bits57;
  x86 = not (row.x86 == 0);
  reserved = reserved;
}

-- the devices of the rows, counted from 1, each with the spans that are reserved for its number
abbrev pub devices_of_rows : List ReservedRow → List DeviceRow → List DeviceSettings
devices_of_rows reserved rows =
    map (λ numbered. device_settings numbered.1 (reserved_for reserved numbered.0)) (enumerate_from 1 rows)

abbrev pub user_of : ℕ → UserNo
user_of user = record { 0 = user }

abbrev pub settings_of_rows : ℕ → List ℕ → List ℕ → List DeviceRow → List ReservedRow → ℕ → Settings
settings_of_rows pool users files devices reserved passes = record {
  pool = pool;
  users = users;
  files = map user_of files;
  devices = devices_of_rows reserved devices;
  passes = passes;
}

-- Nothing that a server is opened with is outside its limits: each device's width is one that there is, and each
-- reserved row a span of a device; the settings; the lanes, and the pages of a port's cache.
abbrev pub are_in_limits : Bool → Settings → ℕ → ℕ → Bool
are_in_limits are_rows settings lanes cache =
    are_rows && is_none (first_outside settings) && is_none (server.first_outside lanes cache)

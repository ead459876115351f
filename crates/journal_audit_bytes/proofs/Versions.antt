-- What is a head of version 1 is one of version 2, but for the mark, and a record of version 1 is one of version 2.
use Rattle.std.proofs.Common.{◌≡◌, ℕ, Some, List, [], ◌∷◌, ◌++◌, refl}
use Rattle.std.specs.List.{AllByRecursion}
use Rattle.iofd_words.specs.Settings.{DeviceSettings, Settings}
use Rattle.iofd_words.specs.Width.{bits_of}
use Rattle.iofd_words.specs.declared.width.Width.{Width}
use Rattle.iofd_words.specs.declared.width.Width.TheVariants.{Bits39, Bits48, Bits57}
use Rattle.journal_audit_bytes.specs.Head.{DeviceFits, SpellsHead, settings_spelled}
use Rattle.journal_audit_bytes.specs.Format.{Raw, Row, Spells, SpellsTagged, Tagged, dirty_event_rows, dirty_reply_rows}
use Rattle.journal_audit_bytes.specs.Format.{event_rows, reply_rows}
use Rattle.journal_audit_bytes.specs.Version.{mark, width_of}
use Rattle.journal_audit_bytes.specs.declared.version.Version.TheVariants.{One, Two}
use Rattle.journal_audit_bytes.proofs.Tags.{with_more}

two_has_each : (width : Width) → width_of Two (bits_of width) ≡ Some width
two_has_each Bits39 = refl
two_has_each Bits48 = refl
two_has_each Bits57 = refl

device_in_two : (device : DeviceSettings) → DeviceFits One device → DeviceFits Two device
device_in_two device fits = record {
  source = fits.source;
  width = two_has_each device.width;
  reserved = fits.reserved;
}

devices_in_two : (devices : List DeviceSettings) → AllByRecursion (λ device. DeviceFits One device) devices
    → AllByRecursion (λ device. DeviceFits Two device) devices
devices_in_two [] fits = tt
devices_in_two (device ∷ devices) fits = (device_in_two device fits.0, devices_in_two devices fits.1)

pub head_in_two : (s : Settings) (text : List ℕ) → SpellsHead One s text
    → SpellsHead Two s (mark Two ++ settings_spelled s)
head_in_two s text h = record {
  within = h.within;
  pool_fits = h.pool_fits;
  users_fit = h.users_fit;
  files_fit = h.files_fit;
  devices_fit = (h.devices_fit.0, devices_in_two s.devices h.devices_fit.1);
  passes_fit = h.passes_fit;
  bytes_are = refl;
}

-- ---- records

tagged_in_more : (rows more : List Row) (t : Tagged) (text : List ℕ) → SpellsTagged rows t text
    → SpellsTagged (rows ++ more) t text
tagged_in_more rows more t text s = record {
  row = s.row;
  known = with_more rows more t.tag s.row s.known;
  tag_fits = s.tag_fits;
  numbers_fit = s.numbers_fit;
  list_fits = s.list_fits;
  allowed = s.allowed;
  bytes_are = s.bytes_are;
}

pub record_in_two : (passes : ℕ) (r : Raw) (text : List ℕ) → Spells One passes r text → Spells Two passes r text
record_in_two passes r text s = record {
  pass = s.pass;
  pass_fits = s.pass_fits;
  event = s.event;
  event_is = tagged_in_more event_rows dirty_event_rows r.event s.event s.event_is;
  reply = s.reply;
  reply_is = tagged_in_more reply_rows dirty_reply_rows r.reply s.reply s.reply_is;
  taken_fit = s.taken_fit;
  given_fit = s.given_fit;
  bytes_are = s.bytes_are;
}

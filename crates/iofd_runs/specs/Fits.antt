-- Where areas begin, how long they are and which rights they give, in which order attachments stand, and that rows name
-- frames, files and devices that there are.
use Rattle.std.specs.Prelude.{◌≡◌, ◌^◌, Bool, true, ◌&&◌, nat_le, nat_lt, List, [], ◌∷◌}
use Rattle.std.specs.List.{list_all}
use Rattle.iofd_words.specs.Files.{is_device, is_open}
use Rattle.iofd_words.specs.Pages.{is_whole}
use Rattle.iofd_words.specs.Settings.{Settings}
use Rattle.iofd_words.specs.Span.{size_of}
use Rattle.iofd_words.specs.World.{World}
use Rattle.iofd_words.specs.declared.rows.Area.{Area}
use Rattle.iofd_words.specs.declared.rows.Attachment.{Attachment}
use Rattle.iofd_words.specs.declared.rows.ObjectKind.{ObjectKind}
use Rattle.iofd_words.specs.declared.rows.ObjectKind.TheVariants as kind

-- the area has whole pages, and no more bytes than a user's memory
abbrev pub is_of_pages : Area → Bool
is_of_pages area = is_whole (size_of area.span) && nat_le (size_of area.span) (2 ^ 48)

-- the area begins at a page
abbrev pub begins_at_page : Area → Bool
begins_at_page area = is_whole area.span.first

-- the area gives some right, and none but to read and to write
abbrev pub has_rights : Area → Bool
has_rights area = nat_lt 0 area.rights.0 && nat_lt area.rights.0 4

-- each attachment's device is below those of the later ones
abbrev pub devices_rise : List Attachment → Bool
devices_rise [] = true
devices_rise (a ∷ attachments) = list_all (λ b. nat_lt a.device.0 b.device.0) attachments && devices_rise attachments

-- a device that is bound is one of the settings; an object of another kind is no device
abbrev pub is_known_device : Settings → ObjectKind → Bool
is_known_device settings kind.Ioas = true
is_known_device settings (kind.Hwpt ioas width automatic) = true
is_known_device settings (kind.Device device) = is_device settings device
is_known_device settings (kind.Access attached) = true

pub record RowsFit (w : World) : Type 0 where
  pub pages : list_all is_of_pages w.areas ≡ true
  pub starts : list_all begins_at_page w.areas ≡ true
  pub rights : list_all has_rights w.areas ≡ true
  pub rise : devices_rise w.attachments ≡ true
  -- the frames of user pages and of pins are frames of the pool
  pub user_frames : list_all (λ p. nat_lt p.frame.0 w.settings.pool) w.user_pages ≡ true
  pub pin_frames : list_all (λ pin. nat_lt pin.frame.0 w.settings.pool) w.pins ≡ true
  -- each object is of a file that is there and isn't closed, and a bound device is one of the settings
  pub known : list_all (λ object. is_open w.settings w.closed object.file
      && is_known_device w.settings object.kind) w.objects ≡ true
  -- the attached devices are of the settings
  pub attached : list_all (λ a. is_device w.settings a.device) w.attachments ≡ true

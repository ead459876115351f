-- The pins that come with the first page table of an address space.
use Rattle.std.specs.Prelude.{Bool, List, [], if◌then◌else◌}
use Rattle.std.specs.List.{filter_map}
use Rattle.iofd_words.specs.Areas.{all_paid}
use Rattle.iofd_words.specs.Attachments.{with_attachment}
use Rattle.iofd_refusals.specs.Checks.{newly_pinned}
use Rattle.iofd_words.specs.Objects.{has_hwpt, with_object}
use Rattle.iofd_words.specs.Pins.{pin_now}
use Rattle.iofd_words.specs.View.{view}
use Rattle.iofd_words.specs.World.{World}
use Rattle.iofd_words.specs.declared.numbers.DeviceNo.{DeviceNo}
use Rattle.iofd_words.specs.declared.numbers.FileNo.{FileNo}
use Rattle.iofd_words.specs.declared.numbers.ObjId.{ObjId}
use Rattle.iofd_words.specs.declared.rows.ObjectKind.TheVariants as kind
use Rattle.iofd_words.specs.declared.rows.Pin.{Pin}
use Rattle.iofd_words.specs.declared.width.Width.{Width}

-- those of its pages that aren't pinned yet, at the frames that they have now; none where it has a page table
abbrev pub first_pins : World → FileNo → ObjId → List Pin
first_pins w file ioas =
    if has_hwpt w.objects file ioas then []
    else filter_map (pin_now w.memory w.user_pages) (newly_pinned (view w) file ioas)

-- with a page table more
abbrev pub with_table : World → FileNo → ObjId → ObjId → Width → Bool → World
with_table w file ioas id width automatic =
    record w {
      objects = with_object (record { file = file; id = id; kind = kind.Hwpt ioas width automatic }) w.objects;
    }

-- the device translates by the page table, and owes no area a flush
abbrev pub with_device : World → DeviceNo → FileNo → ObjId → World
with_device w device file hwpt =
    record w {
      attachments = with_attachment (record { device = device; file = file; hwpt = hwpt }) w.attachments;
      areas = all_paid device w.areas;
    }

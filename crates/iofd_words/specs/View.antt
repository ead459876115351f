-- What the refusals and the policy ask of a world. A server that keeps a world in a way of its own gives the same
-- answers. What has no order in the subject (pins, users' pages, frames) is looked up, and never compared as a list.
use Rattle.std.specs.Prelude.{ℕ, Bool, Option, List}
use Rattle.iofd_words.specs.Allowed.{allowed_of}
use Rattle.iofd_words.specs.Areas as area
use Rattle.iofd_words.specs.Bounds.{Bounds}
use Rattle.iofd_words.specs.Dirty as dirty
use Rattle.iofd_words.specs.Files as file
use Rattle.iofd_words.specs.Frames as frame
use Rattle.iofd_words.specs.Objects as object
use Rattle.iofd_words.specs.Pins as pin
use Rattle.iofd_words.specs.Pins.{ObjectPage}
use Rattle.iofd_words.specs.Settings.{Settings}
use Rattle.iofd_words.specs.TablePlaces as places
use Rattle.iofd_words.specs.TablePlaces.{TablePlace}
use Rattle.iofd_words.specs.World.{World}
use Rattle.iofd_words.specs.declared.fault.AccessKind.{AccessKind}
use Rattle.iofd_words.specs.declared.numbers.DeviceNo.{DeviceNo}
use Rattle.iofd_words.specs.declared.numbers.FileNo.{FileNo}
use Rattle.iofd_words.specs.declared.numbers.FrameNo.{FrameNo}
use Rattle.iofd_words.specs.declared.numbers.ObjId.{ObjId}
use Rattle.iofd_words.specs.declared.numbers.UserNo.{UserNo}
use Rattle.iofd_words.specs.declared.rows.AccessPin.{AccessPin}
use Rattle.iofd_words.specs.declared.rows.Area.{Area}
use Rattle.iofd_words.specs.declared.rows.Attachment.{Attachment}
use Rattle.iofd_words.specs.declared.rows.MemoryObject.{MemoryObject}
use Rattle.iofd_words.specs.declared.rows.Object.{Object}

pub record View : Type 0 where
  pub settings : Settings
  -- the file is there and isn't closed
  pub is_open : FileNo → Bool
  pub objects : List Object
  -- the object by which a device is bound to a file
  pub binding_of : DeviceNo → Option Object
  pub attachments : List Attachment
  -- the areas of an address space
  pub areas_of : FileNo → ObjId → List Area
  -- the ranges that it allows to chosen addresses; none allows all
  pub allowed_of : FileNo → ObjId → List Bounds
  pub memory : List MemoryObject
  -- the frame of a page in a user's memory
  pub frame_at : UserNo → ℕ → Option FrameNo
  -- the frame that a page of a memory object has in its user's memory now
  pub frame_now : ObjectPage → Option FrameNo
  -- the frame at which a page of a memory object is pinned
  pub pinned_frame : ObjectPage → Option FrameNo
  -- the access object of this id holds a pin
  pub holds_pin : FileNo → ObjId → Bool
  -- as many as it may
  pub has_most_pins : FileNo → ObjId → Bool
  -- one that equals this
  pub is_held : AccessPin → Bool
  -- one that covers the page at an address, and is for such an access
  pub is_covered : FileNo → ObjId → ℕ → AccessKind → Bool
  -- one that has an address in common with the span
  pub meets_pin : FileNo → ObjId → Bounds → Bool
  -- how many pinned pages a user has
  pub held_by : UserNo → ℕ
  -- how many frames nobody reaches
  pub free_count : ℕ
  -- the page table of this id has this table
  pub has_table : FileNo → ObjId → TablePlace → Bool
  -- the pages that devices write through the page table of this id are tracked
  pub tracks : FileNo → ObjId → Bool

-- what they read of this world
abbrev pub view : World → View
view w =
    record {
      settings = w.settings;
      is_open = file.is_open w.settings w.closed;
      objects = w.objects;
      binding_of = object.binding_of w.objects;
      attachments = w.attachments;
      areas_of = area.areas_of w.areas;
      allowed_of = allowed_of w.allowed;
      memory = w.memory;
      frame_at = frame.frame_at w.user_pages;
      frame_now = pin.frame_now w.memory w.user_pages;
      pinned_frame = pin.pinned_frame w.pins;
      holds_pin = pin.holds_pin w.access_pins;
      has_most_pins = pin.has_most_pins w.access_pins;
      is_held = pin.is_held w.access_pins;
      is_covered = pin.is_covered w.access_pins;
      meets_pin = pin.meets_pin w.access_pins;
      held_by = pin.held_by (pin.pinned_frame w.pins) w.memory;
      free_count = frame.free_count w.settings.pool w.user_pages w.pins w.table_frames;
      has_table = places.has_table w.table_frames;
      tracks = dirty.tracks w.tracked;
    }

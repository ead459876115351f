-- The world: lists of rows, as the events have left them.
use Rattle.std.specs.Prelude.{List, []}
use Rattle.iofd_words.specs.Allowed.{AllowedRanges}
use Rattle.iofd_words.specs.Dirty.{TrackedTable}
use Rattle.iofd_words.specs.Frames.{FrameWrite}
use Rattle.iofd_words.specs.Settings.{Settings}
use Rattle.iofd_words.specs.declared.numbers.FileNo.{FileNo}
use Rattle.iofd_words.specs.declared.rows.AccessPin.{AccessPin}
use Rattle.iofd_words.specs.declared.rows.Area.{Area}
use Rattle.iofd_words.specs.declared.rows.Attachment.{Attachment}
use Rattle.iofd_words.specs.declared.rows.MemoryObject.{MemoryObject}
use Rattle.iofd_words.specs.declared.rows.Object.{Object}
use Rattle.iofd_words.specs.declared.rows.Pin.{Pin}
use Rattle.iofd_words.specs.declared.rows.TableFrame.{TableFrame}
use Rattle.iofd_words.specs.declared.rows.UserPage.{UserPage}

pub record World : Type 0 where
  -- what it was opened with
  pub settings : Settings
  -- the files that were closed
  pub closed : List FileNo
  -- by rising file, and then by rising id
  pub objects : List Object
  -- by rising number
  pub memory : List MemoryObject
  -- those of an address space by rising start
  pub areas : List Area
  -- of the address spaces that allow only some addresses
  pub allowed : List AllowedRanges
  -- the pages of the users' memory
  pub user_pages : List UserPage
  -- a row for each pinned page
  pub pins : List Pin
  -- by rising device
  pub attachments : List Attachment
  -- the pages that access objects have pinned
  pub access_pins : List AccessPin
  -- the frames that hold the tables of page tables
  pub table_frames : List TableFrame
  -- the page tables whose written pages are tracked
  pub tracked : List TrackedTable
  -- what was written into frames, newest first
  pub writes : List FrameWrite

-- all frames are free, all files open and empty
abbrev pub opening : Settings → World
opening settings =
    record {
      settings = settings;
      closed = [];
      objects = [];
      memory = [];
      areas = [];
      allowed = [];
      user_pages = [];
      pins = [];
      attachments = [];
      access_pins = [];
      table_frames = [];
      tracked = [];
      writes = [];
    }

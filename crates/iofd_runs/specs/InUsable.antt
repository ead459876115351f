-- Where areas and allowed ranges lie: in addresses that can be used.
use Rattle.std.specs.Prelude.{◌≡◌, Bool, true, false, not}
use Rattle.std.specs.List.{list_all, list_any}
use Rattle.iofd_words.specs.Allowed.{allowed_of}
use Rattle.iofd_words.specs.Ranges.{meets_some}
use Rattle.iofd_words.specs.Usable.{unusable}
use Rattle.iofd_words.specs.World.{World}
use Rattle.iofd_words.specs.declared.numbers.FileNo.{FileNo}
use Rattle.iofd_words.specs.declared.numbers.ObjId.{ObjId}
use Rattle.iofd_words.specs.declared.rows.Area.{Area}

-- the area lies in addresses that its address space can use
abbrev pub is_in_usable : World → Area → Bool
is_in_usable w area = not (meets_some (unusable w.settings w.objects w.attachments area.file area.ioas) area.span)

pub record AreasUsable (w : World) : Type 0 where
  -- each area does
  pub usable : list_all (is_in_usable w) w.areas ≡ true
  -- each range that an address space allows does
  pub ranges : (file : FileNo) (ioas : ObjId)
      → list_any (meets_some (unusable w.settings w.objects w.attachments file ioas))
      (allowed_of w.allowed file ioas) ≡ false

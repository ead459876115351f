-- How many rows there are: a file has so many objects at most, an address space so many areas, and a page is covered by
-- access pins so often.
use Rattle.std.specs.Prelude.{◌≤◌, ◌==◌, ◌&&◌, ℕ, List, sum_by}
use Rattle.std.specs.List.{count_by}
use Rattle.iofd_words.specs.Areas.{is_of}
use Rattle.iofd_words.specs.Pins.{ObjectPage, covers_page}
use Rattle.iofd_words.specs.World.{World}
use Rattle.iofd_words.specs.declared.numbers.FileNo.{FileNo}
use Rattle.iofd_words.specs.declared.numbers.ObjId.{ObjId}
use Rattle.iofd_words.specs.declared.rows.AccessPin.{AccessPin}
use Rattle.iofd_words.specs.declared.rows.Area.{Area}
use Rattle.iofd_words.specs.declared.rows.Object.{Object}

pub record RowsFew (w : World) : Type 0 where
  pub objects : (file : FileNo) → count_by (λ object. object.file.0 == file.0) w.objects ≤ 65535
  pub areas : (file : FileNo) (ioas : ObjId) → count_by (is_of file ioas) w.areas ≤ 65535

-- how often access pins cover the page: once for each pin and each area in which it does
abbrev pub times_covered : List Object → List Area → List AccessPin → ObjectPage → ℕ
times_covered objects areas access_pins page =
    sum_by (λ pin. count_by (λ area. area.memory == page.memory && covers_page objects page.index pin area) areas)
    access_pins

-- Tables that a page table lacks, gathered place after place.
use Rattle.std.specs.Prelude.{◌≡◌, ℕ, ◌==◌, ◌&&◌, ◌||◌, Bool, List, ◌++◌, map}
use Rattle.std.specs.List.{list_any}
use Rattle.iofd_words.specs.TablePlaces.{TablePlace, has_table, is_place, lacking}
use Rattle.iofd_words.specs.Tables.{MissingTable}
use Rattle.iofd_words.specs.declared.numbers.FileNo.{FileNo}
use Rattle.iofd_words.specs.declared.numbers.ObjId.{ObjId}
use Rattle.iofd_words.specs.declared.rows.TableFrame.{TableFrame}
use Rattle.journal_audit_tables.specs.Missing.{missing_at}

-- of which page table, by level and first address which tables are there or were found, and those that were found
pub record Gathered : Type 0 where
  pub file : FileNo
  pub hwpt : ObjId
  pub known : List (ℕ × ℕ)
  pub found : List MissingTable

abbrev pub is_known : List (ℕ × ℕ) → TablePlace → Bool
is_known keys place = list_any (λ key. place.level == key.0 && place.first == key.1) keys

-- of these places those that weren't known are found, each once, and all are known then
pub record Adds (old new : Gathered) (places : List TablePlace) : Type 0 where
  pub file : new.file ≡ old.file
  pub hwpt : new.hwpt ≡ old.hwpt
  pub found : new.found ≡ old.found ++ map (missing_at old.file old.hwpt) (lacking (is_known old.known) places)
  pub known : (other : TablePlace)
      → is_known new.known other ≡ (is_known old.known other || list_any (λ place. is_place place other) places)

-- what was found so far are the tables at these places that the page table hasn't, and it and these are known
pub record Lacks (tables : List TableFrame) (file : FileNo) (hwpt : ObjId) (g : Gathered)
    (places : List TablePlace) : Type 0 where
  pub of_file : g.file ≡ file
  pub of_hwpt : g.hwpt ≡ hwpt
  pub found : g.found ≡ map (missing_at file hwpt) (lacking (has_table tables file hwpt) places)
  pub known : (other : TablePlace) → is_known g.known other
      ≡ (has_table tables file hwpt other || list_any (λ place. is_place place other) places)

-- The tables that pages ask of a page table, those of some pages and then those of more.
use Rattle.std.proofs.Common.{◌≡◌, ℕ, ◌-◌, ◌≤◌, Bool, true, false, cond, ◌&&◌, ◌||◌, List, [], ◌∷◌, ◌++◌, length}
use Rattle.std.proofs.Common.{map, refl, ap, sym, ◌∙◌, arith}
use Rattle.std.specs.List.{filter, flat_map}
use Rattle.std.proofs.lemmas.Bool.{eq-eqb}
use Rattle.std.proofs.lemmas.Grind.{flat_map-append}
use Rattle.std.proofs.lemmas.List.{length-map, map-append}
use Rattle.std.proofs.lemmas.List.Elements.{filter-append}
use Rattle.std.proofs.lemmas.List.Folds.{list_any-append}
use Rattle.frame_memory.specs.Pool.{free_count}
use Rattle.page_table_set.proofs.Missing.{missing_at}
use Rattle.page_table_set.specs.OverSpans.{frames_for, with_missing}
use Rattle.iofd_rows.proofs.Bools.{both_true}
use Rattle.iofd_words.specs.Levels.{levels_of}
use Rattle.iofd_words.specs.TablePlaces.{TablePlace, has_table, is_live, is_place, is_table_of, lacking, live_pages}
use Rattle.iofd_words.specs.TablePlaces.{pages_in, place_of, places_from, places_of, root_place}
use Rattle.iofd_words.specs.Tables.{in_frames}
use Rattle.iofd_words.specs.declared.numbers.FrameNo.{FrameNo}
use Rattle.iofd_words.specs.declared.rows.Area.{Area}
use Rattle.iofd_words.specs.declared.rows.Object.{Object}
use Rattle.iofd_words.specs.declared.rows.TableFrame.{TableFrame}
use Rattle.iofd_words.specs.declared.width.Width.{Width}
use Rattle.page_table_spans.proofs.Lacking.{are_with, lacking_append, lacking_same}
use Rattle.page_table_spans.proofs.LeastFrames.{length_least}
use Rattle.hwpt_device.specs.Filling.{tables_for}

-- ---- rows of tables in frames

module _ (object : Object) where
  -- the row of a table of it
  own_row : (place p : TablePlace) (frame : FrameNo)
      → (is_table_of object.file object.id (record {
        file = object.file;
        hwpt = object.id;
        level = place.level;
        first = record { 0 = place.first };
        frame = frame;
      })
      && is_place (place_of (record {
        file = object.file;
        hwpt = object.id;
        level = place.level;
        first = record { 0 = place.first };
        frame = frame;
      })) p) ≡ is_place place p
  own_row place p frame =
      let one = eq-eqb object.file.0 object.file.0 refl in
      let two = eq-eqb object.id.0 object.id.0 refl in
      rw (one, two) refl

  new_rows : (places : List TablePlace) (fs : List FrameNo) (p : TablePlace) → length places ≡ length fs
      → has_table (in_frames (map (missing_at object) places) fs) object.file object.id p ≡ are_with places p
  new_rows [] [] p same = refl
  new_rows [] (f ∷ fs) p same = absurd (omega (arith, same))
  new_rows (place ∷ places) [] p same = absurd (omega (arith, same))
  new_rows (place ∷ places) (f ∷ fs) p same =
      ap (λ (b : Bool). b || has_table (in_frames (map (missing_at object) places) fs) object.file object.id p)
      (own_row place p f)
      ∙ ap (λ (b : Bool). is_place place p || b) (new_rows places fs p (omega (arith, same)))

  -- with rows for these tables it has them, too
  pub has_more : (frames : List TableFrame) (places : List TablePlace) (fs : List FrameNo) (p : TablePlace)
      → length places ≡ length fs
      → has_table (frames ++ in_frames (map (missing_at object) places) fs) object.file object.id
      p ≡ (has_table frames object.file object.id p || are_with places p)
  has_more frames places fs p same =
      list_any-append (λ (table : TableFrame). is_table_of object.file object.id table && is_place (place_of table) p)
      frames (in_frames (map (missing_at object) places) fs)
      ∙ ap (λ (b : Bool). has_table frames object.file object.id p || b) (new_rows places fs p same)

-- ---- pages, and then more pages

its_place : (place : TablePlace) → is_place place place ≡ true
its_place place =
    both_true _ _ (eq-eqb place.level place.level refl) (eq-eqb place.first place.first refl)

-- the first of the tables is there then
first_there : (has : TablePlace → Bool) (place : TablePlace) (places : List TablePlace)
    → (has place || are_with (lacking has (place ∷ places)) place) ≡ true
first_there has place places = by_test (has place)
  where
    by_test : (b : Bool)
        → (b || are_with (cond b (lacking has places)
        (place ∷ lacking (λ other. has other || is_place place other) places)) place) ≡ true
    by_test true = refl
    by_test false = ap (λ (b : Bool). b || are_with (lacking (λ other. has other || is_place place other) places) place)
        (its_place place)

module _ (frames : List TableFrame) (object : Object) (width : Width) (pages more : List ℕ) (holds : List ℕ)
    (few : length (tables_for frames object width pages) ≤ free_count holds) where
  abbrev has : TablePlace → Bool
  has = has_table frames object.file object.id

  abbrev first : List TablePlace
  first = lacking has (places_of width pages)

  abbrev then : TablePlace → Bool
  then = has_table (with_missing frames (tables_for frames object width pages) holds) object.file object.id

  abbrev below : List ℕ → List TablePlace
  below ps = flat_map (places_from (levels_of width - 1)) ps

  long : length first ≡ length (frames_for (tables_for frames object width pages) holds)
  long = sym (length-map first (missing_at object))
      ∙ sym (length_least holds (length (tables_for frames object width pages)) few)

  then_has : (p : TablePlace) → then p ≡ (has p || are_with first p)
  then_has p = has_more object frames first (frames_for (tables_for frames object width pages) holds) p long

  root_then : then (root_place width) ≡ true
  root_then = then_has (root_place width) ∙ first_there has (root_place width) (below pages)

  later : lacking then (places_of width more) ≡ lacking (λ p. has p || are_with first p) (below more)
  later =
      ap (λ (b : Bool). cond b (lacking then (below more))
      (root_place width ∷ lacking (λ other. then other || is_place (root_place width) other) (below more)))
      root_then
      ∙ lacking_same then (λ p. has p || are_with first p) (below more) then_has

  -- more pages ask for what the first ones left out
  pub tables_in_turn : tables_for frames object width (pages ++ more) ≡ tables_for frames object width pages
      ++ tables_for (with_missing frames (tables_for frames object width pages) holds) object width more
  tables_in_turn =
      ap (λ (ps : List TablePlace). map (missing_at object) (lacking has (root_place width ∷ ps)))
      (flat_map-append (places_from (levels_of width - 1)) pages more)
      ∙ ap (map (missing_at object)) (lacking_append has (places_of width pages) (below more)
      ∙ ap (λ (ps : List TablePlace). first ++ ps) (sym later))
      ∙ map-append (missing_at object) first (lacking then (places_of width more))

-- the pages of areas, and of more areas
pub live_in_turn : (areas more : List Area) → live_pages (areas ++ more) ≡ live_pages areas ++ live_pages more
live_in_turn areas more =
    ap (flat_map (λ (a : Area). pages_in a.span)) (filter-append (λ (a : Area). is_live a.phase) areas more)
    ∙ flat_map-append (λ (a : Area). pages_in a.span) (filter (λ (a : Area). is_live a.phase) areas)
    (filter (λ (a : Area). is_live a.phase) more)

-- A page table comes: where it is the first one of its address space, the pages of that are pinned.
use Rattle.std.proofs.Common.{◌≡◌, ℕ, Bool, true, false, cond, ◌&&◌, ◌||◌, eqb, is_none, List, [], ◌∷◌, ◌++◌, map}
use Rattle.std.proofs.Common.{refl, sym, ap, ◌∙◌, arith}
use Rattle.std.specs.List.{filter, filter_map, flat_map, list_any, range_with_len}
use Rattle.std.proofs.lemmas.Bool.Decides.{nat_tests}
use Rattle.std.proofs.lemmas.List.Elements.{filter-append}
use Rattle.iofd_rows.proofs.ListTests.{alike, any-filter, or_right}
use Rattle.iofd_rows.proofs.PageTables.{hwpt-with_object}
use Rattle.iofd_runs.proofs.Accessed.{accessed_objects, each_held}
use Rattle.iofd_runs.proofs.AttachedPages.{had_before}
use Rattle.iofd_runs.proofs.HoldersStay.{more_accesses}
use Rattle.iofd_steps.specs.After.{settle}
use Rattle.iofd_words.specs.Areas.{areas_of, is_of}
use Rattle.iofd_refusals.specs.Checks.{newly_pinned}
use Rattle.iofd_words.specs.Objects.{has_hwpt, is_fresh, with_object}
use Rattle.iofd_words.specs.Pins.{ObjectPage, is_accessed, is_pinned, is_translated, pages_of, pin_now, pinned_frame}
use Rattle.iofd_words.specs.Pins.{unpinned_pages}
use Rattle.iofd_words.specs.View.{view}
use Rattle.iofd_words.specs.World.{World}
use Rattle.iofd_words.specs.declared.numbers.FileNo.{FileNo}
use Rattle.iofd_words.specs.declared.numbers.ObjId.{ObjId}
use Rattle.iofd_words.specs.declared.rows.Area.{Area}
use Rattle.iofd_words.specs.declared.rows.MemoryObject.{MemoryObject}
use Rattle.iofd_words.specs.declared.rows.Object.{Object}
use Rattle.iofd_words.specs.declared.rows.ObjectKind.TheVariants as kind
use Rattle.iofd_words.specs.declared.rows.Pin.{Pin}
use Rattle.iofd_words.specs.declared.width.Width.{Width}
use Rattle.journal_audit_maps.proofs.SettledMore.{settle_more}
use Rattle.journal_audit_page_tables.specs.Pinning.{first_pins, with_table}
use Rattle.journal_audit_world.proofs.Swapped.{any_alike, any_or}
use Rattle.journal_audit_world.specs.Kept.{IsKept}
use Rattle.journal_audit_world.specs.Unwritten.{unwritten}

-- ---- pages of some memory objects

pub never_kept : {X : Type 0} (xs : List X) → filter (λ x. false) xs ≡ []
never_kept [] = refl
never_kept (x ∷ xs) = never_kept xs

-- pages of the memory object of this number
abbrev pages_at : ℕ → List ℕ → List ObjectPage
pages_at number indexes = map (λ i. record { memory = number; index = i }) indexes

module _ (over : ℕ → Bool) (q : ObjectPage → Bool) where
  abbrev kept : List ObjectPage → List ObjectPage
  kept pages = filter (λ page. over page.memory) pages

  all_stay : (number : ℕ) → over number ≡ true → (indexes : List ℕ)
      → kept (filter q (pages_at number indexes)) ≡ filter q (pages_at number indexes)
  all_stay number passes [] = refl
  all_stay number passes (i ∷ indexes) = by_page _ _ (all_stay number passes indexes)
    where
      by_page : (b : Bool) (pages : List ObjectPage) → kept pages ≡ pages
          → kept (cond b (record { memory = number; index = i } ∷ pages) pages)
          ≡ cond b (record { memory = number; index = i } ∷ pages) pages
      by_page true pages rest = rw (passes, rest) refl
      by_page false pages rest = rest

  none_stays : (number : ℕ) → over number ≡ false → (indexes : List ℕ)
      → kept (filter q (pages_at number indexes)) ≡ []
  none_stays number fails [] = refl
  none_stays number fails (i ∷ indexes) = by_page _ _ (none_stays number fails indexes)
    where
      by_page : (b : Bool) (pages : List ObjectPage) → kept pages ≡ []
          → kept (cond b (record { memory = number; index = i } ∷ pages) pages) ≡ []
      by_page true pages rest = rw (fails, rest) refl
      by_page false pages rest = rest

  -- pages of which the memory objects pass are the pages of those that pass
  objects_kept : (memory : List MemoryObject)
      → kept (filter q (flat_map pages_of memory))
      ≡ filter q (flat_map pages_of (filter (λ m. over m.number) memory))
  objects_kept [] = refl
  objects_kept (m ∷ memory) =
      ap kept (filter-append q (pages_of m) (flat_map pages_of memory))
      ∙ filter-append (λ (page : ObjectPage). over page.memory) (filter q (pages_of m))
      (filter q (flat_map pages_of memory))
      ∙ ap (λ (pages : List ObjectPage). kept (filter q (pages_of m)) ++ pages) (objects_kept memory)
      ∙ by_test (over m.number) refl (filter (λ m. over m.number) memory)
    where
      by_test : (b : Bool) → over m.number ≡ b → (left : List MemoryObject)
          → kept (filter q (pages_of m)) ++ filter q (flat_map pages_of left)
          ≡ filter q (flat_map pages_of (cond b (m ∷ left) left))
      by_test true passes left =
          ap (λ (pages : List ObjectPage). pages ++ filter q (flat_map pages_of left))
          (all_stay m.number passes (range_with_len 0 m.count))
          ∙ sym (filter-append q (pages_of m) (flat_map pages_of left))
      by_test false fails left =
          ap (λ (pages : List ObjectPage). pages ++ filter q (flat_map pages_of left))
          (none_stays m.number fails (range_with_len 0 m.count))

-- ---- which pages are to be pinned

module _ (at : ℕ) (w : World) (file : FileNo) (ioas id : ObjId) (width : Width) (automatic : Bool) (kept : IsKept at w)
    (fresh : is_fresh w.objects file id ≡ true) where
  abbrev table : Object
  table = record { file = file; id = id; kind = kind.Hwpt ioas width automatic }

  abbrev left : List Object
  left = with_object table w.objects

  abbrev over : ℕ → Bool
  over n = list_any (λ (area : Area). eqb area.memory n) (areas_of w.areas file ioas)

  accessed : (page : ObjectPage) → is_accessed left w.areas w.access_pins page
      ≡ is_accessed w.objects w.areas w.access_pins page
  accessed page =
      accessed_objects w.objects left w.areas w.access_pins page (more_accesses w table fresh refl).holders
      (each_held w.objects w.areas w.access_pins kept.pins.held)

  -- those of its address space
  translated_more : (n : ℕ) → is_translated left w.areas n ≡ (is_translated w.objects w.areas n || over n)
  translated_more n =
      any_alike (λ (a : Area). eqb a.memory n && has_hwpt left a.file a.ioas)
      (λ (a : Area). (eqb a.memory n && has_hwpt w.objects a.file a.ioas) || (is_of file ioas a && eqb a.memory n))
      w.areas
      (λ a. ap (λ b. eqb a.memory n && b) (hwpt-with_object table w.objects a.file a.ioas)
      ∙ apart (eqb a.memory n) (has_hwpt w.objects a.file a.ioas) (eqb file.0 a.file.0) (eqb ioas.0 a.ioas.0)
      (eqb a.file.0 file.0) (eqb a.ioas.0 ioas.0) (turned file.0 a.file.0) (turned ioas.0 a.ioas.0))
      ∙ any_or (λ (a : Area). eqb a.memory n && has_hwpt w.objects a.file a.ioas)
      (λ (a : Area). is_of file ioas a && eqb a.memory n) w.areas
      ∙ ap (λ b. is_translated w.objects w.areas n || b)
      (sym (any-filter (λ (a : Area). eqb a.memory n) (is_of file ioas) w.areas))
    where
      turned : (m n : ℕ) → eqb m n ≡ eqb n m
      turned m n = grind (arith, nat_tests)

      apart : (names was of_file of_space same_file same_space : Bool) → of_file ≡ same_file → of_space ≡ same_space
          → (names && ((of_file && of_space) || was)) ≡ ((names && was) || ((same_file && same_space) && names))
      apart names was of_file of_space same_file same_space f s =
          ap (λ b. names && ((b && of_space) || was)) f ∙ ap (λ b. names && ((same_file && b) || was)) s
          ∙ table_of names was (same_file && same_space)
        where
          table_of : (names was same : Bool) → (names && (same || was)) ≡ ((names && was) || (same && names))
          table_of true true true = refl
          table_of true true false = refl
          table_of true false true = refl
          table_of true false false = refl
          table_of false was true = refl
          table_of false was false = refl

  -- none more where it has one already
  translated_same : has_hwpt w.objects file ioas ≡ true → (n : ℕ)
      → is_translated left w.areas n ≡ is_translated w.objects w.areas n
  translated_same had n =
      any_alike (λ (a : Area). eqb a.memory n && has_hwpt left a.file a.ioas)
      (λ (a : Area). eqb a.memory n && has_hwpt w.objects a.file a.ioas) w.areas
      (λ a. ap (λ b. eqb a.memory n && b)
      (alike (has_hwpt left a.file a.ioas) (has_hwpt w.objects a.file a.ioas)
      (λ has. had_before w.objects file ioas id width automatic a.file a.ioas had has)
      (λ has. hwpt-with_object table w.objects a.file a.ioas ∙ or_right _ _ has)))

  shifted : (t a o : Bool) → ((t || o) || a) ≡ ((t || a) || o)
  shifted true a o = refl
  shifted false true true = refl
  shifted false true false = refl
  shifted false false true = refl
  shifted false false false = refl

  plain : (b : Bool) → b ≡ (b || false)
  plain true = refl
  plain false = refl

  abbrev pub with_pins : List Pin → World
  with_pins pins = record (with_table w file ioas id width automatic) { pins = w.pins ++ pins }

  settled_first : settle w (with_table w file ioas id width automatic)
      ≡ with_pins (filter_map (pin_now w.memory w.user_pages) (newly_pinned (view w) file ioas))
  settled_first =
      settle_more at w (with_table w file ioas id width automatic) (λ page. over page.memory) kept.pins refl
      (λ page listed. ap (λ b. is_translated left w.areas page.memory || b) (accessed page)
      ∙ ap (λ b. b || is_accessed w.objects w.areas w.access_pins page) (translated_more page.memory)
      ∙ shifted (is_translated w.objects w.areas page.memory) (is_accessed w.objects w.areas w.access_pins page)
      (over page.memory))
      ∙ ap (λ (pages : List ObjectPage). with_pins (filter_map (pin_now w.memory w.user_pages) pages))
      (objects_kept over (λ (page : ObjectPage). is_none (pinned_frame w.pins page)) w.memory)

  settled_more : has_hwpt w.objects file ioas ≡ true → settle w (with_table w file ioas id width automatic)
      ≡ with_pins []
  settled_more had =
      settle_more at w (with_table w file ioas id width automatic) (λ page. false) kept.pins refl
      (λ page listed. ap (λ b. is_translated left w.areas page.memory || b) (accessed page)
      ∙ ap (λ b. b || is_accessed w.objects w.areas w.access_pins page) (translated_same had page.memory)
      ∙ plain (is_pinned w.objects w.areas w.access_pins page))
      ∙ ap (λ (pages : List ObjectPage). with_pins (filter_map (pin_now w.memory w.user_pages) pages))
      (never_kept (unpinned_pages (pinned_frame w.pins) w.memory))

  pub table_settled : settle w (with_table w file ioas id width automatic) ≡ with_pins (first_pins w file ioas)
  table_settled = by_test (has_hwpt w.objects file ioas) refl
    where
      by_test : (b : Bool) → has_hwpt w.objects file ioas ≡ b
          → settle w (with_table w file ioas id width automatic) ≡ with_pins (cond b []
          (filter_map (pin_now w.memory w.user_pages) (newly_pinned (view w) file ioas)))
      by_test true had = settled_more had
      by_test false none = settled_first

  -- the pins first, and then the page table
  pub table_made : (v : World) (objects : List Object) → v ≡ record w { pins = w.pins ++ first_pins w file ioas }
      → objects ≡ with_object table v.objects
      → unwritten (record v { objects = objects })
      ≡ unwritten (settle w (with_table w file ioas id width automatic))
  table_made v objects v_is objects_are =
      ap (λ (rows : List Object). unwritten (record v { objects = rows })) objects_are
      ∙ ap (λ (x : World). unwritten (record x { objects = with_object table x.objects })) v_is
      ∙ ap (λ (x : World). unwritten x) (sym table_settled)

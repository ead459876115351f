-- The areas of a file's address spaces, counted in the table and in the world, and the loop over them as the file goes.
use Rattle.std.proofs.Common.{◌≡◌, ℕ, ◌+◌, ◌≤◌, Bool, true, false, cond, ◌&&◌, ◌||◌, not, eqb, Some, None, List, []}
use Rattle.std.proofs.Common.{◌∷◌, ◌++◌, map, refl, sym, ◌∙◌, ap, arith}
use Rattle.std.specs.Prelude.{if◌then◌else◌}
use Rattle.std.specs.List.{count_by, filter, find, flat_map, list_all, list_any}
use Rattle.std.proofs.lemmas.Bool.Decides.{nat_tests}
use Rattle.frame_memory.specs.Pool.{FramePool}
use Rattle.iofd_rows.proofs.Bools.{and_true, not_true}
use Rattle.iofd_rows.proofs.Named.{file_is, id_is}
use Rattle.iofd_rows.specs.Ids.{have_own_ids}
use Rattle.iofd_words.specs.Areas.{areas_of, is_of}
use Rattle.iofd_words.specs.Objects.{has_hwpt, is_object}
use Rattle.iofd_words.specs.declared.numbers.FileNo.{FileNo}
use Rattle.iofd_words.specs.declared.numbers.ObjId.{ObjId}
use Rattle.iofd_words.specs.declared.rows.Area.{Area}
use Rattle.iofd_words.specs.declared.rows.Object.{Object}
use Rattle.server_state.proofs.SpacesGone.{areas_elsewhere, areas_here}
use Rattle.server_state.specs.Held.{areas_at, areas_in, object_of}
use Rattle.event_destroy.specs.FileAreas.{areas_of_rows, translated_of}
use Rattle.server_state.specs.Spaces.{is_space}
use Rattle.server_state.specs.declared.held.Held.{Held}
use Rattle.server_state.specs.declared.held.Held.TheVariants as held
use Rattle.user_memory_rows.proofs.Counts.{count_alike, count_parts, count_within}
use Rattle.user_memory_rows.proofs.Gone.{AreLeaving, count_space, leaving_further, may_some, over_append}
use Rattle.user_memory_rows.specs.Moves.{IsReleased, MayRelease, if_translated}
use Rattle.user_memory_rows.specs.Shown.{over, translated}
use Rattle.object_table.specs.Table.{Row, is_at, is_of_file}
use Rattle.user_memory.specs.Changes.{never}
use Rattle.user_memory.specs.Memory.{Memory}

-- ---- lists of areas

itself : (n : ℕ) → eqb n n ≡ true
itself n = grind (arith, nat_tests)

no_area : (p : Area → Bool) (areas : List Area) → ((f : FileNo) (i : ObjId) → areas_of areas f i ≡ [])
    → count_by p areas ≡ 0
no_area p [] none = refl
no_area p (a ∷ areas) none = absurd (never_here (is_of a.file a.ioas a) (itself_of a) (none a.file a.ioas))
  where
    itself_of : (a : Area) → is_of a.file a.ioas a ≡ true
    itself_of a = rw (itself a.file.0, itself a.ioas.0) refl

    never_here : (b : Bool) → b ≡ true → cond b (a ∷ areas_of areas a.file a.ioas) (areas_of areas a.file a.ioas) ≡ []
        → ⊥
    never_here true is none = cc
    never_here false is none = cc

module _ {A : Type 0} where
  -- ---- the areas of the world, by the table's rows

  -- the areas of the objects that pass a test on their names
  abbrev chosen : (FileNo → ObjId → Bool) → List (Row (Held A)) → List Area
  chosen Q rows = flat_map (λ row. if Q row.file row.id then areas_in row.value else []) rows

  none_at : (rows : List (Row (Held A))) (file : FileNo) (id : ObjId)
      → list_any (is_object file id) (map object_of rows) ≡ false → areas_at rows file id ≡ []
  none_at [] file id none = refl
  none_at (row ∷ rows) file id none = by_test (is_at file id row) none (λ later. none_at rows file id later)
    where
      by_test : (b : Bool) → (b || list_any (is_object file id) (map object_of rows)) ≡ false
          → (list_any (is_object file id) (map object_of rows) ≡ false → areas_at rows file id ≡ [])
          → elim (cond b (Some row) (find (is_at file id) rows)) as (λ _. List Area)
          [ Some r ↦ areas_in r.value | None ↦ [] ] ≡ []
      by_test true none later = cc
      by_test false none later = later none

  rows_counted : (Q : FileNo → ObjId → Bool) (n : ℕ) (areas : List Area) (rows : List (Row (Held A)))
      → have_own_ids (map object_of rows) ≡ true
      → ((f : FileNo) (i : ObjId) → areas_of areas f i ≡ areas_at rows f i)
      → count_by (λ (area : Area). eqb area.memory n && Q area.file area.ioas) areas ≡ over (chosen Q rows) n
  rows_counted Q n areas [] unique same =
      no_area (λ (area : Area). eqb area.memory n && Q area.file area.ioas) areas same
  rows_counted Q n areas (row ∷ rows) unique same =
      let parts = and_true (not (list_any (is_object row.file row.id) (map object_of rows)))
      (have_own_ids (map object_of rows)) unique in
      let none = none_at rows row.file row.id (not_true _ parts.0) in
      let rest = rows_counted Q n (filter (λ area. not (is_of row.file row.id area)) areas) rows parts.1
      (λ f i. left none f i (is_space row.file row.id f i) refl) in
      let split =
      count_parts (λ (area : Area). eqb area.memory n && Q area.file area.ioas) (is_of row.file row.id) areas in
      let space = count_space Q row.file row.id areas n
      ∙ ap (λ (l : List Area). over (if Q row.file row.id then l else []) n) (same row.file row.id ∙ here) in
      let sum = over_append (if Q row.file row.id then areas_in row.value else []) (chosen Q rows) n in
      added _ _ _ _ _ _ split rest space sum
    where
      added : (s g a c h t : ℕ) → s + g ≡ a → s ≡ c → g ≡ h → t ≡ h + c → a ≡ t
      added s g a c h t split rest space sum = omega (arith, split, rest, space, sum)

      here : areas_at (row ∷ rows) row.file row.id ≡ areas_in row.value
      here = by_test (is_at row.file row.id row) own
        where
          own : is_at row.file row.id row ≡ true
          own = rw (itself row.file.0, itself row.id.0) refl

          by_test : (b : Bool) → b ≡ true → elim (cond b (Some row) (find (is_at row.file row.id) rows))
              as (λ _. List Area) [ Some r ↦ areas_in r.value | None ↦ [] ] ≡ areas_in row.value
          by_test true is = refl
          by_test false is = cc

      turned : (f g m n : ℕ) → (eqb f g && eqb m n) ≡ false → (eqb g f && eqb n m) ≡ false
      turned f g m n fails = grind (arith, nat_tests)

      others : (f : FileNo) (i : ObjId) → is_space row.file row.id f i ≡ false
          → areas_at (row ∷ rows) f i ≡ areas_at rows f i
      others f i other =
          let not_at : is_at f i row ≡ false = turned f.0 row.file.0 i.0 row.id.0 other in rw (not_at, areas_at) refl

      left : areas_at rows row.file row.id ≡ [] → (f : FileNo) (i : ObjId) (b : Bool) → is_space row.file row.id f i ≡ b
          → areas_of (filter (λ area. not (is_of row.file row.id area)) areas) f i ≡ areas_at rows f i
      left none f i true is =
          let names = and_true (eqb f.0 row.file.0) (eqb i.0 row.id.0) is in
          rw (file_is f row.file names.0, id_is i row.id names.1) (areas_here areas row.file row.id ∙ sym none)
      left none f i false is = areas_elsewhere areas row.file row.id f i is ∙ same f i ∙ others f i is

  -- ---- those of one file

  all_of_file : (rows : List (Row (Held A))) (file : FileNo)
      → areas_of_rows (filter (is_of_file file) rows) ≡ chosen (λ f i. eqb f.0 file.0) rows
  all_of_file [] file = refl
  all_of_file (row ∷ rows) file = by_file (is_of_file file row) (all_of_file rows file)
    where
      by_file : (b : Bool) → areas_of_rows (filter (is_of_file file) rows) ≡ chosen (λ f i. eqb f.0 file.0) rows
          → areas_of_rows (cond b (row ∷ filter (is_of_file file) rows) (filter (is_of_file file) rows)) ≡ (if b
          then areas_in row.value else []) ++ chosen (λ f i. eqb f.0 file.0) rows
      by_file true rest = ap (λ l. areas_in row.value ++ l) rest
      by_file false rest = rest

  translated_of_file : (objects : List Object) (rows : List (Row (Held A))) (file : FileNo)
      → translated_of objects (filter (is_of_file file) rows) ≡ chosen (λ f i. eqb f.0 file.0
      && has_hwpt objects f i) rows
  translated_of_file objects [] file = refl
  translated_of_file objects (row ∷ rows) file = by_file (is_of_file file row) (translated_of_file objects rows file)
    where
      by_file : (b : Bool) → translated_of objects (filter (is_of_file file) rows) ≡ chosen (λ f i. eqb f.0 file.0
          && has_hwpt objects f i) rows
          → translated_of objects (cond b (row ∷ filter (is_of_file file) rows) (filter (is_of_file file) rows)) ≡ (if b
          && has_hwpt objects row.file row.id then areas_in row.value else []) ++ chosen (λ f i. eqb f.0 file.0
          && has_hwpt objects f i) rows
      by_file true rest = ap (λ l. (if has_hwpt objects row.file row.id then areas_in row.value else []) ++ l) rest
      by_file false rest = rest

  module _ (areas : List Area) (rows : List (Row (Held A))) (file : FileNo)
      (unique : have_own_ids (map object_of rows) ≡ true) (same : (f : FileNo) (i : ObjId)
      → areas_of areas f i ≡ areas_at rows f i) where
    pub file_over : (n : ℕ) → over (filter (λ (area : Area). eqb area.file.0 file.0) areas) n ≡ over
        (areas_of_rows (filter (is_of_file file) rows)) n
    file_over n =
        count_within (λ (area : Area). eqb area.memory n) (λ (area : Area). eqb area.file.0 file.0) areas
        ∙ count_alike (λ (area : Area). eqb area.file.0 file.0 && eqb area.memory n) (λ (area : Area). eqb area.memory n
        && eqb area.file.0 file.0) areas (λ area. turned (eqb area.file.0 file.0) (eqb area.memory n))
        ∙ rows_counted (λ f i. eqb f.0 file.0) n areas rows unique same
        ∙ ap (λ l. over l n) (sym (all_of_file rows file))
      where
        turned : (a b : Bool) → (a && b) ≡ (b && a)
        turned true true = refl
        turned true false = refl
        turned false true = refl
        turned false false = refl

    pub file_translated : (objects : List Object) (n : ℕ)
        → translated objects (filter (λ (area : Area). eqb area.file.0 file.0) areas) n ≡ over
        (translated_of objects (filter (is_of_file file) rows)) n
    file_translated objects n =
        count_within (λ (area : Area). eqb area.memory n && has_hwpt objects area.file area.ioas)
        (λ (area : Area). eqb area.file.0 file.0) areas
        ∙ count_alike (λ (area : Area). eqb area.file.0 file.0
        && (eqb area.memory n && has_hwpt objects area.file area.ioas)) (λ (area : Area). eqb area.memory n
        && (eqb area.file.0 file.0 && has_hwpt objects area.file area.ioas)) areas
        (λ area. turned (eqb area.file.0 file.0) (eqb area.memory n) (has_hwpt objects area.file area.ioas))
        ∙ rows_counted (λ f i. eqb f.0 file.0 && has_hwpt objects f i) n areas rows unique same
        ∙ ap (λ l. over l n) (sym (translated_of_file objects rows file))
      where
        turned : (a b c : Bool) → (a && (b && c)) ≡ (b && (a && c))
        turned true b c = refl
        turned false true c = refl
        turned false false c = refl

  -- ---- the loop over them

  -- some of the file's objects have let go of what their areas are over, and the others may
  pub record AreClosing (objects : List Object) (file : FileNo) (all left : List (Row (Held A))) (first now : Memory)
      (before between : FramePool) : Type 0 where
    pub of_file : list_all (is_of_file file) left ≡ true
    pub leaving : AreLeaving (over (areas_of_rows all)) (over (translated_of objects all)) (over (areas_of_rows left))
        (over (translated_of objects left)) first now before between

  few_of : (objects : List Object) (rows : List (Row (Held A))) (n : ℕ)
      → over (translated_of objects rows) n ≤ over (areas_of_rows rows) n
  few_of objects [] n = omega arith
  few_of objects (row ∷ rows) n =
      let rest = few_of objects rows n in
      let all = over_append (areas_in row.value) (areas_of_rows rows) n in
      let some = over_append (if has_hwpt objects row.file row.id then areas_in row.value else [])
      (translated_of objects rows) n in
      let own = fewer (has_hwpt objects row.file row.id) in
      omega (arith, rest, all, some, own)
    where
      fewer : (b : Bool) → over (if b then areas_in row.value else []) n ≤ over (areas_in row.value) n
      fewer true = omega arith
      fewer false = omega arith

  module _ (objects : List Object) (file : FileNo) (all left rest : List (Row (Held A))) (row : Row (Held A))
      (first now : Memory) (before between : FramePool) (is : left ≡ row ∷ rest)
      (closing : AreClosing objects file all left first now before between) where
    -- the object is of the file
    of_both : (is_of_file file row ≡ true) × (list_all (is_of_file file) rest ≡ true)
    of_both = and_true (is_of_file file row) (list_all (is_of_file file) rest) (sym (ap (list_all (is_of_file file)) is)
        ∙ closing.of_file)

    -- an address space
    module _ (areas : List Area) (is_translated : Bool) (own : areas ≡ areas_in row.value)
        (table : is_translated ≡ has_hwpt objects file row.id) where
      areas_are : (n : ℕ) → over (areas_of_rows left) n ≡ over areas n + over (areas_of_rows rest) n
      areas_are n = ap (λ l. over (areas_of_rows l) n) is ∙ over_append (areas_in row.value) (areas_of_rows rest) n
          ∙ ap (λ l. over l n + over (areas_of_rows rest) n) (sym own)

      pins_are : (n : ℕ) → over (translated_of objects left) n ≡ if_translated is_translated areas n
          + over (translated_of objects rest) n
      pins_are n =
          ap (λ l. over (translated_of objects l) n) is
          ∙ over_append (if has_hwpt objects row.file row.id then areas_in row.value else [])
          (translated_of objects rest) n
          ∙ ap (λ b. over (if b then areas_in row.value else []) n + over (translated_of objects rest) n)
          (ap (λ (f : FileNo). has_hwpt objects f row.id) (file_is row.file file of_both.0) ∙ sym table)
          ∙ ap (λ l. over (if is_translated then l else []) n + over (translated_of objects rest) n) (sym own)
          ∙ ap (λ k. k + over (translated_of objects rest) n) (by_table is_translated)
        where
          by_table : (b : Bool) → over (if b then areas else []) n ≡ if_translated b areas n
          by_table true = refl
          by_table false = refl

      pub space_may : MayRelease (over areas) (if_translated is_translated areas) now between.holds
      space_may =
          may_some (over (areas_of_rows all)) (over (translated_of objects all)) (over (areas_of_rows left))
          (over (translated_of objects left)) (over areas) (if_translated is_translated areas)
          (over (areas_of_rows rest)) (over (translated_of objects rest)) first now before between
          areas_are pins_are closing.leaving (few_of objects rest)

      pub space_gone : (next : Memory) (after : FramePool)
          → IsReleased (over areas) (if_translated is_translated areas) now next between after
          → AreClosing objects file all rest first next before after
      space_gone next after released = record {
        of_file = of_both.1;
        leaving =
            leaving_further (over (areas_of_rows all)) (over (translated_of objects all)) (over (areas_of_rows left))
            (over (translated_of objects left)) (over areas) (if_translated is_translated areas)
            (over (areas_of_rows rest)) (over (translated_of objects rest)) first now before between
            areas_are pins_are closing.leaving next after released;
      }

    -- another object
    pub other_passed : ((areas : _) → row.value ≡ held.Ioas areas → ⊥)
        → AreClosing objects file all rest first now before between
    other_passed other = record {
      of_file = of_both.1;
      leaving = record {
        areas_done = closing.leaving.areas_done;
        pins_done = closing.leaving.pins_done;
        areas_sum = λ n. ap (λ k. closing.leaving.areas_done n + k) (sym (over_same n)) ∙ closing.leaving.areas_sum n;
        pins_sum = λ n. ap (λ k. closing.leaving.pins_done n + k) (sym (pins_same n)) ∙ closing.leaving.pins_sum n;
        released = closing.leaving.released;
        may = record {
          pins = λ n. let same = pins_same n in let most = closing.leaving.may.pins n in omega (arith, same, most);
          areas = λ n. let same = pins_same n in let others =
              over_same n in let most = closing.leaving.may.areas n in omega (arith, same, others, most);
          access = λ page gone.
              let others = over_same page.memory in closing.leaving.may.access page (omega (arith, others, gone));
          backed = closing.leaving.may.backed;
          invariant = closing.leaving.may.invariant;
          only = closing.leaving.may.only;
        };
      };
    }
      where
        no_areas : (h : Held A) → ((areas : _) → h ≡ held.Ioas areas → ⊥) → areas_in h ≡ []
        no_areas (held.Ioas areas) never = absurd (never areas refl)
        no_areas (held.Hwpt ioas width automatic) never = refl
        no_areas (held.Device device) never = refl
        no_areas (held.Access attached) never = refl

        empty : areas_in row.value ≡ []
        empty = no_areas row.value other

        over_same : (n : ℕ) → over (areas_of_rows left) n ≡ over (areas_of_rows rest) n
        over_same n = ap (λ l. over (areas_of_rows l) n) is ∙ ap (λ l. over (l ++ areas_of_rows rest) n) empty

        pins_same : (n : ℕ) → over (translated_of objects left) n ≡ over (translated_of objects rest) n
        pins_same n = ap (λ l. over (translated_of objects l) n) is
            ∙ ap (λ (l : List Area). over ((if has_hwpt objects row.file row.id then l else [])
            ++ translated_of objects rest) n) empty ∙ by_table (has_hwpt objects row.file row.id)
          where
            by_table : (b : Bool) → over ((if b then [] else []) ++ translated_of objects rest) n ≡ over
                (translated_of objects rest) n
            by_table true = refl
            by_table false = refl

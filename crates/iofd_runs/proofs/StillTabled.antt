-- What an event leaves of the tables: where it makes no page table and no live area, none is missing after it; where it
-- takes no page table away, each row stays with its page table. Then its record takes and gives no frames.
use Rattle.std.proofs.Common.{length, ◌≡◌, ℕ, ◌-◌, map, Bool, true, false, ◌&&◌, ◌||◌, not, eqb, Option}
use Rattle.std.proofs.Common.{Some, None, List, [], ◌∷◌, refl, ap, sym, ◌∙◌, ⊎_elim, subst}
use Rattle.std.specs.List.{filter, flat_map, list_all, list_any}
use Rattle.std.proofs.lemmas.List.Folds.{list_all-append}
use Rattle.iofd_steps.specs.After.{changed}
use Rattle.iofd_steps.specs.Answers.{Answers}
use Rattle.iofd_words.specs.Areas.{all_paid, areas_of, is_of, paid, with_phase}
use Rattle.iofd_words.specs.Levels.{levels_of}
use Rattle.iofd_words.specs.Objects.{is_hwpt, kind_of, with_object, with_access}
use Rattle.iofd_words.specs.TablePlaces.{TablePlace, has_table, is_live, is_place, is_table_of, live_pages, pages_in}
use Rattle.iofd_words.specs.TablePlaces.{place_of, places_from}
use Rattle.iofd_words.specs.Tables.{MovesTables, are_rising, is_among, is_orphan, kept_tables, may_go, missing_tables}
use Rattle.iofd_words.specs.World.{World}
use Rattle.iofd_words.specs.declared.event.Event.{Event}
use Rattle.iofd_words.specs.declared.numbers.DeviceNo.{DeviceNo}
use Rattle.iofd_words.specs.declared.numbers.FileNo.{FileNo}
use Rattle.iofd_words.specs.declared.numbers.FrameNo.{FrameNo}
use Rattle.iofd_words.specs.declared.numbers.ObjId.{ObjId}
use Rattle.iofd_words.specs.declared.reply.Reply.{Reply}
use Rattle.iofd_words.specs.declared.rows.Area.{Area}
use Rattle.iofd_words.specs.declared.rows.Object.{Object}
use Rattle.iofd_words.specs.declared.rows.ObjectKind.{ObjectKind}
use Rattle.iofd_words.specs.declared.rows.ObjectKind.TheVariants as kind
use Rattle.iofd_words.specs.declared.rows.Phase.{Phase}
use Rattle.iofd_words.specs.declared.rows.TableFrame.{TableFrame}
use Rattle.iofd_rows.specs.Ids.{have_own_ids}
use Rattle.iofd_rows.proofs.Bools.{and_true, both_true}
use Rattle.iofd_rows.proofs.Each.{IsIn, in_filter, in_map, in_with_object, of_all, of_each}
use Rattle.iofd_rows.proofs.Found.{all_weaker}
use Rattle.iofd_rows.proofs.ListTests.{any-filter, any_of_all, or_left}
use Rattle.iofd_rows.proofs.Named.{file_is, id_is, kind_only}
use Rattle.iofd_rows.proofs.Accesses.{in_reattached}
use Rattle.iofd_runs.proofs.MissingTables.{all_needed, has_needed, is_owned, needed_places, none_missing}
use Rattle.iofd_runs.proofs.OwnIds.{unused}
use Rattle.iofd_runs.proofs.SameTables.{same_tables}
use Rattle.iofd_runs.specs.Tabled.{AreTabled}
use Rattle.iofd_runs.proofs.Moves.{AreasMove, Fewer, FewerAreas, More, ObjectsMove, OneArea, OtherPhases, Same}
use Rattle.iofd_runs.proofs.Moves.{SameAreas, changed_moves, Reattached}
use Rattle.iofd_runs.proofs.TableEvents.{HwptsStay, paid_live, stay_same, stay_with, no_access, stay_reattached}
pub use Rattle.iofd_runs.proofs.TableEvents.{MakesNone, TakesNone, finds_table, leaves_table}
pub use Rattle.iofd_rows.proofs.Each.{in_kept}

-- ---- what is in lists

pub all-flat_map : {X Y : Type 0} (p : Y → Bool) (f : X → List Y) (xs : List X)
    → list_all p (flat_map f xs) ≡ list_all (λ x. list_all p (f x)) xs
all-flat_map p f [] = refl
all-flat_map p f (x ∷ xs) =
    list_all-append p (f x) (flat_map f xs) ∙ ap (λ b. list_all p (f x) && b) (all-flat_map p f xs)

-- ---- no page table and no live area comes

-- the page tables on the left are among the objects
abbrev pub HwptsIn : List Object → List Object → Type 0
HwptsIn objects left = (o : Object) → IsIn left o → is_hwpt o.kind ≡ true → IsIn objects o

-- each live area on the left was live before
abbrev pub LiveIn : List Area → List Area → Type 0
LiveIn areas left = (area : Area) → IsIn left area → is_live area.phase ≡ true
    → (old : Area) × IsIn areas old × (is_live old.phase ≡ true) × (old.file ≡ area.file) × (old.ioas ≡ area.ioas)
    × (old.span ≡ area.span)

-- what holds of each page of the live areas of an address space
abbrev pub on_pages : (ℕ → Bool) → FileNo → ObjId → List Area → Bool
on_pages p file ioas areas = list_all p (live_pages (areas_of areas file ioas))

pub each_area : (p : ℕ → Bool) (file : FileNo) (ioas : ObjId) (areas : List Area) (area : Area)
    → on_pages p file ioas areas ≡ true → IsIn areas area → is_of file ioas area ≡ true → is_live area.phase ≡ true
    → list_all p (pages_in area.span) ≡ true
each_area p file ioas areas area all within of live =
    of_each (λ (a : Area). list_all p (pages_in a.span))
    (filter (λ (a : Area). is_live a.phase) (areas_of areas file ioas)) area
    (sym (all-flat_map p (λ (a : Area). pages_in a.span)
    (filter (λ (a : Area). is_live a.phase) (areas_of areas file ioas))) ∙ all)
    (in_kept (λ (a : Area). is_live a.phase) (areas_of areas file ioas) area
    (in_kept (is_of file ioas) areas area within of) live)

still_on_pages : (p : ℕ → Bool) (file : FileNo) (ioas : ObjId) (areas left : List Area) → LiveIn areas left
    → on_pages p file ioas areas ≡ true → on_pages p file ioas left ≡ true
still_on_pages p file ioas areas left lived all =
    all-flat_map p (λ (a : Area). pages_in a.span) (filter (λ (a : Area). is_live a.phase) (areas_of left file ioas))
    ∙ of_all (λ (a : Area). list_all p (pages_in a.span))
    (filter (λ (a : Area). is_live a.phase) (areas_of left file ioas)) each
  where
    each : (area : Area) → IsIn (filter (λ (a : Area). is_live a.phase) (areas_of left file ioas)) area
        → list_all p (pages_in area.span) ≡ true
    each area within =
        let live = in_filter (λ (a : Area). is_live a.phase) (areas_of left file ioas) area within in
        let of = in_filter (is_of file ioas) left area live.0 in
        let (old, was, was_live, same_file, same_ioas, same_span) = lived area of.0 live.1 in
        let was_of : is_of file ioas old ≡ true = rw (same_file, same_ioas) of.1 in
        rw (← same_span) (each_area p file ioas areas old all was was_of was_live)

pub still_none_missing : (objects left : List Object) (areas others : List Area) (tables : List TableFrame)
    → HwptsIn objects left → LiveIn areas others → missing_tables objects areas tables ≡ []
    → missing_tables left others tables ≡ []
still_none_missing objects left areas others tables hwpts lived none =
    none_missing left others tables (of_all (has_needed others tables) left (λ o within. by_kind o o.kind refl within))
  where
    by_kind : (o : Object) (k : ObjectKind) → o.kind ≡ k → IsIn left o
        → list_all (has_table tables o.file o.id) (needed_places others o.file k) ≡ true
    by_kind o kind.Ioas is within = refl
    by_kind o (kind.Device device) is within = refl
    by_kind o (kind.Access attached) is within = refl
    by_kind o (kind.Hwpt ioas width automatic) is within =
        let had : list_all (has_table tables o.file o.id)
        (needed_places areas o.file (kind.Hwpt ioas width automatic)) ≡ true =
        subst (λ k. list_all (has_table tables o.file o.id) (needed_places areas o.file k) ≡ true) is
        (of_each (has_needed areas tables) objects o (all_needed objects areas tables none)
        (hwpts o within (ap is_hwpt is)))
        in
        let parts = and_true (has_table tables o.file o.id _)
        (list_all (has_table tables o.file o.id)
        (flat_map (places_from (levels_of width - 1)) (live_pages (areas_of areas o.file ioas)))) had in
        let p = λ (page : ℕ). list_all (has_table tables o.file o.id) (places_from (levels_of width - 1) page) in
        both_true _ _ parts.0
        (all-flat_map (has_table tables o.file o.id) (places_from (levels_of width - 1))
        (live_pages (areas_of others o.file ioas))
        ∙ still_on_pages p o.file ioas areas others lived
        (sym (all-flat_map (has_table tables o.file o.id) (places_from (levels_of width - 1))
        (live_pages (areas_of areas o.file ioas))) ∙ parts.1))

-- ---- areas

pub live_same : (areas : List Area) → LiveIn areas areas
live_same areas area within live = (area, within, live, refl, refl, refl)

pub live_fewer : (q : Area → Bool) (areas : List Area) → LiveIn areas (filter q areas)
live_fewer q areas area within live = (area, (in_filter q areas area within).0, live, refl, refl, refl)

-- phases change, and none becomes live
live_phases : (phase : Area → Phase) (areas : List Area)
    → ((area : Area) → is_live (phase area) ≡ true → is_live area.phase ≡ true)
    → LiveIn areas (map (λ area. with_phase (phase area) area) areas)
live_phases phase areas lived area within live =
    let (old, was, is) = in_map (λ area. with_phase (phase area) area) areas area within in
    let lives : is_live (phase old) ≡ true = ap (λ (a : Area). is_live a.phase) is ∙ live in (
      old,
      was,
      lived old lives,
      ap (λ (a : Area). a.file) is,
      ap (λ (a : Area). a.ioas) is,
      ap (λ (a : Area). a.span) is,
    )

pub live_paid : (device : DeviceNo) (areas : List Area) → LiveIn areas (all_paid device areas)
live_paid device areas =
    live_phases (λ area. paid device area.phase) areas (λ area live. paid_live device area.phase live)

-- ---- objects

pub hwpts_same : (objects : List Object) → HwptsIn objects objects
hwpts_same objects o within is = within

pub hwpts_fewer : (q : Object → Bool) (objects : List Object) → HwptsIn objects (filter q objects)
hwpts_fewer q objects o within is = (in_filter q objects o within).0

-- an object of another kind comes
pub hwpts_other : (object : Object) (objects : List Object) → is_hwpt object.kind ≡ false
    → HwptsIn objects (with_object object objects)
hwpts_other object objects other o within is =
    ⊎_elim (λ (same : object ≡ o). let clash = ap (λ (x : Object). is_hwpt x.kind) same in absurd
    (false_true (sym other ∙ clash ∙ is))) (λ (old : IsIn objects o). old) (in_with_object
    object objects o within)
  where
    false_true : false ≡ true → ⊥
    false_true is = cc

-- an access object is attached or detached
pub hwpts_reattached : (file : FileNo) (id : ObjId) (attached : Option ObjId) (objects : List Object)
    → HwptsIn objects (with_access file id attached objects)
hwpts_reattached file id attached objects o within is =
    in_reattached file id attached objects o (no_access o.kind is) within

-- ---- after an event that makes no page table and no live area

-- none is missing after it
pub none_after : {A : Type 0} → (at : ℕ) (w : World) (e : Event A) (answer : Reply) → MakesNone w e
    → missing_tables w.objects w.areas w.table_frames ≡ []
    → missing_tables (changed at w e answer).objects (changed at w e answer).areas w.table_frames ≡ []
none_after at w e answer makes none =
    still_none_missing w.objects (changed at w e answer).objects w.areas (changed at w e answer).areas w.table_frames
    (hwpts (changed at w e answer) (changed_moves at w e answer).objects)
    (lived (changed at w e answer) (changed_moves at w e answer).areas) none
  where
    hwpts : (new : World) → ObjectsMove w e answer new → HwptsIn w.objects new.objects
    hwpts new (Same is) = rw is (hwpts_same w.objects)
    hwpts new (Fewer stays stay bound is) = rw is (hwpts_fewer stays w.objects)
    hwpts new (Reattached file id attached is) = rw is (hwpts_reattached file id attached w.objects)
    hwpts new (More object fresh admitted other is) = rw is (hwpts_other object w.objects (other makes))

    lived : (new : World) → AreasMove at w e answer new → LiveIn w.areas new.areas
    lived new (SameAreas is same) = rw is (live_same w.areas)
    lived new (FewerAreas goes by is left free) = rw is (live_fewer (λ (a : Area). not (goes a)) w.areas)
    lived new (OtherPhases phase lives is same) = rw is (live_phases phase w.areas lives)
    lived new (OneArea number file request iova passed lies never alike is under) = absurd (never makes)

-- by the kind of its page table
pub orphan_is : (objects : List Object) (table : TableFrame) (o : Option ObjectKind)
    → kind_of objects table.file table.hwpt ≡ o
    → is_orphan objects table ≡ elim o [ Some kind ↦ not (is_hwpt kind) | None ↦ true ]
orphan_is objects table o is =
    ap (λ (o : Option ObjectKind). elim o [ Some kind ↦ not (is_hwpt kind) | None ↦ true ]) is

-- nor once the rows of page tables that are gone, and no others, have given their frames
pub none_kept : (left : List Object) (areas : List Area) (given : List FrameNo) (tables : List TableFrame)
    → have_own_ids left ≡ true
    → list_all (λ table. is_orphan left table || not (is_among given table.frame)) tables ≡ true
    → missing_tables left areas tables ≡ [] → missing_tables left areas (kept_tables given tables) ≡ []
none_kept left areas given tables own only none =
    none_missing left areas (kept_tables given tables)
    (of_all (has_needed areas (kept_tables given tables)) left (λ o within. by_kind o o.kind refl within))
  where
    by_kind : (o : Object) (k : ObjectKind) → o.kind ≡ k → IsIn left o
        → list_all (has_table (kept_tables given tables) o.file o.id) (needed_places areas o.file k) ≡ true
    by_kind o kind.Ioas is within = refl
    by_kind o (kind.Device device) is within = refl
    by_kind o (kind.Access attached) is within = refl
    by_kind o (kind.Hwpt ioas width automatic) is within =
        all_weaker (has_table tables o.file o.id) (has_table (kept_tables given tables) o.file o.id)
        (needed_places areas o.file (kind.Hwpt ioas width automatic)) kept
        (subst (λ k. list_all (has_table tables o.file o.id) (needed_places areas o.file k) ≡ true) is
        (of_each (has_needed areas tables) left o (all_needed left areas tables none) within))
      where
        found : kind_of left o.file o.id ≡ Some (kind.Hwpt ioas width automatic)
        found = kind_only left o own within ∙ ap Some is

        stays : (table : TableFrame) → (is_orphan left table || not (is_among given table.frame)) ≡ true
            → is_table_of o.file o.id table ≡ true → not (is_among given table.frame) ≡ true
        stays table orphan of =
            let names = and_true (eqb table.file.0 o.file.0) (eqb table.hwpt.0 o.id.0) of in
            let here = ap (λ f. kind_of left f table.hwpt) (file_is table.file o.file names.0)
            ∙ ap (kind_of left o.file) (id_is table.hwpt o.id names.1) ∙ found in
            sym (ap (λ b. b || not (is_among given table.frame)) (orphan_is left table _ here)) ∙ orphan

        kept : (place : TablePlace) → has_table tables o.file o.id place ≡ true
            → has_table (kept_tables given tables) o.file o.id place ≡ true
        kept place has =
            any-filter (λ (table : TableFrame). is_table_of o.file o.id table && is_place (place_of table) place)
            (λ (table : TableFrame). not (is_among given table.frame)) tables
            ∙ any_of_all (λ (table : TableFrame). is_orphan left table || not (is_among given table.frame))
            (λ (table : TableFrame). is_table_of o.file o.id table && is_place (place_of table) place)
            (λ (table : TableFrame). not (is_among given table.frame)
            && (is_table_of o.file o.id table && is_place (place_of table) place)) tables
            (λ table orphan passes. both_true _ _ (stays table orphan
            (and_true (is_table_of o.file o.id table) (is_place (place_of table) place) passes).0) passes)
            only has

-- ---- after an event that takes no page table away

pub still_owned : (objects left : List Object) (tables : List TableFrame) → HwptsStay objects left
    → list_all (is_owned objects) tables ≡ true → list_all (is_owned left) tables ≡ true
still_owned objects left tables stay all =
    all_weaker (is_owned objects) (is_owned left) tables
    (λ table own. by_kind table (kind_of objects table.file table.hwpt) refl own) all
  where
    not_not : (b : Bool) → not (not b) ≡ true → b ≡ true
    not_not true is = refl
    not_not false is = is

    by_kind : (table : TableFrame) (o : Option ObjectKind) → kind_of objects table.file table.hwpt ≡ o
        → not (elim o [ Some kind ↦ not (is_hwpt kind) | None ↦ true ]) ≡ true → is_owned left table ≡ true
    by_kind table (Some k) is own =
        ap not (orphan_is left table (Some k) (stay table.file table.hwpt k (not_not _ own) is)) ∙ own
    by_kind table None is own = cc

-- each row is of a page table that is there after it
pub owned_after : {A : Type 0} → (at : ℕ) (w : World) (e : Event A) (answer : Reply) → Answers w e answer
    → TakesNone w e → list_all (is_owned w.objects) w.table_frames ≡ true
    → list_all (is_owned (changed at w e answer).objects) w.table_frames ≡ true
owned_after at w e answer answers takes all =
    still_owned w.objects (changed at w e answer).objects w.table_frames
    (by_move (changed at w e answer) (changed_moves at w e answer).objects) all
  where
    by_move : (new : World) → ObjectsMove w e answer new → HwptsStay w.objects new.objects
    by_move new (Same is) = rw is (stay_same w.objects)
    by_move new (Fewer stays stay bound is) = rw is (stay takes)
    by_move new (Reattached file id attached is) = rw is (stay_reattached file id attached w.objects)
    by_move new (More object fresh admitted other is) =
        rw is (stay_with object w.objects (unused w.objects object.file object.id (fresh answers)))

-- ---- then no frames move

pub none_given : (tables : List TableFrame) → kept_tables [] tables ≡ tables
none_given [] = refl
none_given (table ∷ tables) = ap (λ rest. table ∷ rest) (none_given tables)

pub moves_none : {A : Type 0} → (w left : World) (e : Event A) (answer : Reply)
    → missing_tables left.objects left.areas left.table_frames ≡ [] → left.table_frames ≡ w.table_frames
    → list_all (is_owned left.objects) w.table_frames ≡ true → MovesTables w left e answer [] []
moves_none w left e answer none same owned =
    record {
      enough = sym (ap length (ap (missing_tables left.objects left.areas) (none_given left.table_frames) ∙ none));
      free = refl;
      different = refl;
      gone = all_weaker (is_owned left.objects) (λ table. is_owned left.objects table || is_among [] table.frame)
          w.table_frames (λ table own. or_left _ _ own) owned;
      may = refl;
      rising = refl;
    }

pub stays_tabled : {A : Type 0} → (at : ℕ) (w : World) (e : Event A) (answer : Reply) → Answers w e answer
    → MakesNone w e → TakesNone w e → AreTabled w → MovesTables w (changed at w e answer) e answer [] []
stays_tabled at w e answer answers makes takes tabled =
    let same = same_tables at w e answer in
    let none = none_after at w e answer makes tabled.needed in
    moves_none w (changed at w e answer) e answer
    (ap (missing_tables (changed at w e answer).objects (changed at w e answer).areas) same ∙ none) same
    (owned_after at w e answer answers takes tabled.owned)

-- where page tables go, the frames of their rows alone are given back
pub moves_given : {A : Type 0} → (w left : World) (e : Event A) (answer : Reply) (given : List FrameNo)
    → have_own_ids left.objects ≡ true → missing_tables left.objects left.areas left.table_frames ≡ []
    → left.table_frames ≡ w.table_frames
    → list_all (λ table. is_owned left.objects table || is_among given table.frame) w.table_frames ≡ true
    → list_all (λ table. is_orphan left.objects table || not (is_among given table.frame)) w.table_frames ≡ true
    → list_all (λ frame. list_any (λ table. eqb table.frame.0 frame.0
    && (is_orphan left.objects table || may_go left e answer table)) w.table_frames) given ≡ true
    → are_rising given ≡ true → MovesTables w left e answer [] given
moves_given w left e answer given own none same gone only may rising =
    record {
      enough = sym (ap length (none_kept left.objects left.areas given left.table_frames own (rw same only) none));
      free = refl;
      different = refl;
      gone = gone;
      may = may;
      rising = rising;
    }

-- Which tables are missing: none where each that is needed has a row, and none any more once the missing ones have
-- frames.
use Rattle.std.proofs.Common.{◌≡◌, Bool, true, false, cond, ◌&&◌, ◌||◌, ◌++◌, not, eqb, Some, None, List, [], ◌∷◌}
use Rattle.std.proofs.Common.{length, map, refl, ap, sym, ◌∙◌, arith, inl, inr}
use Rattle.std.specs.List.{list_all, list_any}
use Rattle.std.proofs.lemmas.Bool.Decides.{nat_tests}
use Rattle.std.proofs.lemmas.List.Folds.{list_any-append, list_all-append}
use Rattle.iofd_words.specs.Areas.{areas_of}
use Rattle.iofd_words.specs.Objects.{is_hwpt, kind_of}
use Rattle.iofd_words.specs.TablePlaces.{TablePlace, has_table, is_place, is_table_of, lacking, live_pages, place_of}
use Rattle.iofd_words.specs.TablePlaces.{places_of}
use Rattle.iofd_words.specs.Tables.{MissingTable, in_frames, is_among, is_orphan, kept_tables, missing_of}
use Rattle.iofd_words.specs.Tables.{missing_of_kind, missing_tables}
use Rattle.iofd_words.specs.declared.numbers.FileNo.{FileNo}
use Rattle.iofd_words.specs.declared.numbers.FrameNo.{FrameNo}
use Rattle.iofd_words.specs.declared.numbers.ObjId.{ObjId}
use Rattle.iofd_words.specs.declared.rows.Area.{Area}
use Rattle.iofd_words.specs.declared.rows.Object.{Object}
use Rattle.iofd_words.specs.declared.rows.ObjectKind.{ObjectKind}
use Rattle.iofd_words.specs.declared.rows.ObjectKind.TheVariants as kind
use Rattle.iofd_words.specs.declared.rows.TableFrame.{TableFrame}
use Rattle.iofd_rows.specs.Ids.{have_own_ids}
use Rattle.iofd_rows.proofs.Bools.{and_true, both_true}
use Rattle.iofd_rows.proofs.Each.{IsIn, of_all, of_any}
use Rattle.iofd_rows.proofs.ListTests.{or_left, or_right}
use Rattle.iofd_rows.proofs.Named.{kind_only}
use Rattle.iofd_rows.proofs.Unusable.{any-flat_map}

-- ---- tables that aren't there, of a list

pub none_lacking : (has : TablePlace → Bool) (places : List TablePlace) → list_all has places ≡ true
    → lacking has places ≡ []
none_lacking has [] all = refl
none_lacking has (place ∷ places) all =
    let parts = and_true (has place) (list_all has places) all in
    rw parts.0 (none_lacking has places parts.1)

pub all_there : (has : TablePlace → Bool) (places : List TablePlace) → lacking has places ≡ []
    → list_all has places ≡ true
all_there has [] none = refl
all_there has (place ∷ places) none = by_test (has place) none (all_there has places)
  where
    by_test : (b : Bool) → cond b (lacking has places)
        (place ∷ lacking (λ other. has other || is_place place other) places) ≡ []
        → (lacking has places ≡ [] → list_all has places ≡ true) → (b && list_all has places) ≡ true
    by_test true rest later = later rest
    by_test false rest later = cc

place_itself : (place : TablePlace) → is_place place place ≡ true
place_itself place = grind (arith, nat_tests)

-- one that isn't there is in the list of those
pub in_lacking : (has : TablePlace → Bool) (places : List TablePlace) (p : TablePlace) → IsIn places p → has p ≡ false
    → list_any (λ q. is_place q p) (lacking has places) ≡ true
in_lacking has [] p within isnt = absurd within
in_lacking has (place ∷ places) p within isnt =
    by_test (has place) refl within (λ later. in_lacking has places p later isnt)
    (λ later same. in_lacking (λ other. has other || is_place place other) places p later (rw (isnt, same) refl))
  where
    rest : List TablePlace
    rest = lacking (λ other. has other || is_place place other) places

    by_place : (b : Bool) → is_place place p ≡ b → (is_place place p ≡ false → list_any (λ q. is_place q p) rest ≡ true)
        → (b || list_any (λ q. is_place q p) rest) ≡ true
    by_place true same later = refl
    by_place false same later = later same

    by_test : (b : Bool) → has place ≡ b → IsIn (place ∷ places) p
        → (IsIn places p → list_any (λ q. is_place q p) (lacking has places) ≡ true)
        → (IsIn places p → is_place place p ≡ false → list_any (λ q. is_place q p) rest ≡ true)
        → list_any (λ q. is_place q p) (cond b (lacking has places) (place ∷ rest)) ≡ true
    by_test true is (inl same) there other = let clash = ap has same in cc
    by_test true is (inr later) there other = there later
    by_test false is (inl same) there other = or_left _ _ (ap (is_place place) (sym same) ∙ place_itself place)
    by_test false is (inr later) there other = by_place (is_place place p) refl (other later)

-- ---- of page tables

-- the tables that an object needs
abbrev pub needed_places : List Area → FileNo → ObjectKind → List TablePlace
needed_places areas file kind.Ioas = []
needed_places areas file (kind.Hwpt ioas width automatic) = places_of width (live_pages (areas_of areas file ioas))
needed_places areas file (kind.Device device) = []
needed_places areas file (kind.Access attached) = []

abbrev pub missing_at : FileNo → ObjId → TablePlace → MissingTable
missing_at file id place = record { file = file; hwpt = id; place = place }

pub missing_is : (areas : List Area) (tables : List TableFrame) (o : Object)
    → missing_of areas tables o ≡ map (missing_at o.file o.id)
    (lacking (has_table tables o.file o.id) (needed_places areas o.file o.kind))
missing_is areas tables o = by_kind o.kind
  where
    by_kind : (k : ObjectKind) → missing_of_kind areas tables o.file o.id k ≡ map (missing_at o.file o.id)
        (lacking (has_table tables o.file o.id) (needed_places areas o.file k))
    by_kind kind.Ioas = refl
    by_kind (kind.Hwpt ioas width automatic) = refl
    by_kind (kind.Device device) = refl
    by_kind (kind.Access attached) = refl

-- it has each of them
abbrev pub has_needed : List Area → List TableFrame → Object → Bool
has_needed areas tables o = list_all (has_table tables o.file o.id) (needed_places areas o.file o.kind)

map_empty : {X Y : Type 0} (h : X → Y) (xs : List X) → map h xs ≡ [] → xs ≡ []
map_empty h [] none = refl
map_empty h (x ∷ xs) none = cc

pub none_missing_of : (areas : List Area) (tables : List TableFrame) (o : Object) → has_needed areas tables o ≡ true
    → missing_of areas tables o ≡ []
none_missing_of areas tables o has =
    missing_is areas tables o ∙ ap (map (missing_at o.file o.id))
    (none_lacking (has_table tables o.file o.id) (needed_places areas o.file o.kind) has)

there_of : (areas : List Area) (tables : List TableFrame) (o : Object) → missing_of areas tables o ≡ []
    → has_needed areas tables o ≡ true
there_of areas tables o none =
    all_there (has_table tables o.file o.id) (needed_places areas o.file o.kind)
    (map_empty (missing_at o.file o.id) _ (sym (missing_is areas tables o) ∙ none))

pub append_empty : {X : Type 0} (xs ys : List X) → (xs ++ ys) ≡ [] → (xs ≡ []) × (ys ≡ [])
append_empty [] ys none = (refl, none)
append_empty (x ∷ xs) ys none = cc

pub none_missing : (objects : List Object) (areas : List Area) (tables : List TableFrame)
    → list_all (has_needed areas tables) objects ≡ true → missing_tables objects areas tables ≡ []
none_missing [] areas tables all = refl
none_missing (o ∷ objects) areas tables all =
    let parts = and_true (has_needed areas tables o) (list_all (has_needed areas tables) objects) all in
    rw (none_missing_of areas tables o parts.0) (none_missing objects areas tables parts.1)

pub all_needed : (objects : List Object) (areas : List Area) (tables : List TableFrame)
    → missing_tables objects areas tables ≡ [] → list_all (has_needed areas tables) objects ≡ true
all_needed [] areas tables none = refl
all_needed (o ∷ objects) areas tables none =
    let parts = append_empty (missing_of areas tables o) (missing_tables objects areas tables) none in
    both_true _ _ (there_of areas tables o parts.0) (all_needed objects areas tables parts.1)

-- ---- the missing ones in frames

-- the missing table is that of this name
abbrev names : FileNo → ObjId → TablePlace → MissingTable → Bool
names file id place m = (eqb m.file.0 file.0 && eqb m.hwpt.0 id.0) && is_place m.place place

has_in_frames : (missing : List MissingTable) (frames : List FrameNo) (file : FileNo) (id : ObjId) (place : TablePlace)
    → length frames ≡ length missing → has_table (in_frames missing frames) file id place ≡ list_any
    (names file id place) missing
has_in_frames [] frames file id place enough = refl
has_in_frames (m ∷ missing) [] file id place enough = cc
has_in_frames (m ∷ missing) (frame ∷ frames) file id place enough =
    ap (λ b. names file id place m || b) (has_in_frames missing frames file id place (omega (arith, enough)))

named_in_map : (file : FileNo) (id : ObjId) (place : TablePlace) (places : List TablePlace)
    → list_any (λ q. is_place q place) places ≡ true
    → list_any (names file id place) (map (missing_at file id) places) ≡ true
named_in_map file id place [] some = cc
named_in_map file id place (p ∷ places) some =
    let own : (eqb file.0 file.0 && eqb id.0 id.0) ≡ true = grind (arith, nat_tests) in
    by_test (is_place p place) own some (named_in_map file id place places)
  where
    by_test : (b : Bool) → (eqb file.0 file.0 && eqb id.0 id.0) ≡ true
        → (b || list_any (λ q. is_place q place) places) ≡ true
        → (list_any (λ q. is_place q place) places ≡ true
        → list_any (names file id place) (map (missing_at file id) places) ≡ true)
        → (((eqb file.0 file.0 && eqb id.0 id.0) && b)
        || list_any (names file id place) (map (missing_at file id) places)) ≡ true
    by_test true own some later = rw own refl
    by_test false own some later = or_right _ _ (later some)

-- with a frame for each, each page table has what it needs
pub tables_come : (objects : List Object) (areas : List Area) (tables : List TableFrame) (taken : List FrameNo)
    → length taken ≡ length (missing_tables objects areas tables)
    → missing_tables objects areas (tables ++ in_frames (missing_tables objects areas tables) taken) ≡ []
tables_come objects areas tables taken enough =
    none_missing objects areas (tables ++ new)
    (of_all (has_needed areas (tables ++ new)) objects
    (λ o within. of_all (has_table (tables ++ new) o.file o.id) (needed_places areas o.file o.kind)
    (λ place needed. has o place within needed)))
  where
    new : List TableFrame
    new = in_frames (missing_tables objects areas tables) taken

    by_old : (o : Object) (place : TablePlace) → IsIn objects o → IsIn (needed_places areas o.file o.kind) place
        → (b : Bool) → has_table tables o.file o.id place ≡ b → (b || has_table new o.file o.id place) ≡ true
    by_old o place within needed true is = refl
    by_old o place within needed false is =
        let among = in_lacking (has_table tables o.file o.id) (needed_places areas o.file o.kind) place needed is in
        let own = ap (list_any (names o.file o.id place)) (missing_is areas tables o)
        ∙ named_in_map o.file o.id place (lacking (has_table tables o.file o.id)
        (needed_places areas o.file o.kind)) among in
        has_in_frames (missing_tables objects areas tables) taken o.file o.id place enough
        ∙ any-flat_map (names o.file o.id place) (missing_of areas tables) objects
        ∙ of_any (λ other. list_any (names o.file o.id place) (missing_of areas tables other)) objects o within own

    has : (o : Object) (place : TablePlace) → IsIn objects o → IsIn (needed_places areas o.file o.kind) place
        → has_table (tables ++ new) o.file o.id place ≡ true
    has o place within needed =
        list_any-append (λ (table : TableFrame). is_table_of o.file o.id table
        && is_place (place_of table) place) tables new
        ∙ by_old o place within needed (has_table tables o.file o.id place) refl

-- ---- each row is of a page table that is there

abbrev pub is_owned : List Object → TableFrame → Bool
is_owned objects table = not (is_orphan objects table)

-- by an object's name alone
abbrev owned_as : List Object → FileNo → ObjId → Bool
owned_as objects file id = not (elim (kind_of objects file id) [ Some kind ↦ not (is_hwpt kind) | None ↦ true ])

owned_frames : (objects : List Object) (missing : List MissingTable) (frames : List FrameNo)
    → list_all (λ m. owned_as objects m.file m.hwpt) missing ≡ true
    → list_all (is_owned objects) (in_frames missing frames) ≡ true
owned_frames objects [] frames all = refl
owned_frames objects (m ∷ missing) [] all = refl
owned_frames objects (m ∷ missing) (frame ∷ frames) all =
    let parts =
    and_true (owned_as objects m.file m.hwpt) (list_all (λ m. owned_as objects m.file m.hwpt) missing) all in
    both_true _ _ parts.0 (owned_frames objects missing frames parts.1)

all_same : (objects : List Object) (file : FileNo) (id : ObjId) (places : List TablePlace)
    → owned_as objects file id ≡ true → list_all (λ m. owned_as objects m.file m.hwpt)
    (map (missing_at file id) places) ≡ true
all_same objects file id [] own = refl
all_same objects file id (p ∷ places) own = both_true _ _ own (all_same objects file id places own)

missing_owned : (objects left : List Object) (areas : List Area) (tables : List TableFrame)
    → ((o : Object) → IsIn left o → kind_of objects o.file o.id ≡ Some o.kind)
    → list_all (λ m. owned_as objects m.file m.hwpt) (missing_tables left areas tables) ≡ true
missing_owned objects [] areas tables named = refl
missing_owned objects (o ∷ left) areas tables named =
    list_all-append (λ m. owned_as objects m.file m.hwpt) (missing_of areas tables o) (missing_tables left areas tables)
    ∙ both_true _ _ (by_kind o.kind (named o (inl refl)))
    (missing_owned objects left areas tables (λ other later. named other (inr later)))
  where
    by_kind : (k : ObjectKind) → kind_of objects o.file o.id ≡ Some k
        → list_all (λ m. owned_as objects m.file m.hwpt) (missing_of_kind areas tables o.file o.id k) ≡ true
    by_kind kind.Ioas is = refl
    by_kind (kind.Hwpt ioas width automatic) is = all_same objects o.file o.id _ (rw is refl)
    by_kind (kind.Device device) is = refl
    by_kind (kind.Access attached) is = refl

pub new_owned : (objects : List Object) (areas : List Area) (tables : List TableFrame) (taken : List FrameNo)
    → have_own_ids objects ≡ true → list_all (is_owned objects)
    (in_frames (missing_tables objects areas tables) taken) ≡ true
new_owned objects areas tables taken own =
    owned_frames objects (missing_tables objects areas tables) taken
    (missing_owned objects objects areas tables (λ o within. kind_only objects o own within))

pub kept_owned : (objects : List Object) (given : List FrameNo) (tables : List TableFrame)
    → list_all (λ table. is_owned objects table || is_among given table.frame) tables ≡ true
    → list_all (is_owned objects) (kept_tables given tables) ≡ true
kept_owned objects given [] gone = refl
kept_owned objects given (table ∷ tables) gone =
    let parts = and_true (is_owned objects table || is_among given table.frame)
    (list_all (λ t. is_owned objects t || is_among given t.frame) tables) gone in
    by_test (is_among given table.frame) parts.0 (kept_owned objects given tables parts.1)
  where
    by_test : (b : Bool) → (is_owned objects table || b) ≡ true
        → list_all (is_owned objects) (kept_tables given tables) ≡ true
        → list_all (is_owned objects) (cond (not b) (table ∷ kept_tables given tables) (kept_tables given tables))
        ≡ true
    by_test true here rest = rest
    by_test false here rest = both_true _ _ (or_none (is_owned objects table) here) rest
      where
        or_none : (p : Bool) → (p || false) ≡ true → p ≡ true
        or_none true is = refl
        or_none false is = is

-- The tables that page tables lack, and the frames that they get, some and then others.
use Rattle.std.proofs.Common.{◌≡◌, ◌≢◌, ℕ, zero, suc, ◌+◌, ◌-◌, ◌<◌, ◌≤◌, Bool, true, false, cond, drop, not, ◌&&◌}
use Rattle.std.proofs.Common.{◌||◌, eqb, Option, Some, None, List, [], ◌∷◌, ◌++◌, append-nil, get_or, set, length}
use Rattle.std.proofs.Common.{length-append, map, take, refl, ap, sym, ◌∙◌, ⊎_elim, arith}
use Rattle.std.specs.Option.{option_map_or}
use Rattle.std.specs.List.{flat_map, list_all, sum_by}
use Rattle.std.proofs.lemmas.Bool.{cases_eq, eq-eqb, ne_eqb}
use Rattle.std.proofs.lemmas.Grind.{flat_map-append}
use Rattle.std.proofs.lemmas.List.{append_assoc, get_or-set_other, length-map, take-append-drop}
use Rattle.std.proofs.lemmas.List.Concat.{flat_map-cons, length-flat_map}
use Rattle.std.proofs.lemmas.List.Elements.{filter-append}
use Rattle.std.proofs.lemmas.List.Folds.{list_all-append}
use Rattle.std.proofs.lemmas.List.Sums.{sum_by-cons}
use Rattle.iofd_rows.proofs.Bools.{and_true, both_true, clash, not_false, not_true, or_false}
use Rattle.iofd_words.specs.Bounds.{Bounds}
use Rattle.iofd_words.specs.Objects.{is_object}
use Rattle.iofd_words.specs.TablePlaces.{TablePlace, has_table, is_table_of, pages_in, places_of}
use Rattle.iofd_words.specs.Tables.{MissingTable, in_frames}
use Rattle.iofd_words.specs.declared.numbers.FileNo.{FileNo}
use Rattle.iofd_words.specs.declared.numbers.FrameNo.{FrameNo}
use Rattle.iofd_words.specs.declared.numbers.ObjId.{ObjId}
use Rattle.iofd_words.specs.declared.rows.Object.{Object}
use Rattle.iofd_words.specs.declared.rows.TableFrame.{TableFrame}
use Rattle.frame_memory.specs.Pool.{free_count, least_free}
use Rattle.page_table_spans.proofs.Lacking.{lacking_same}
use Rattle.page_table_spans.proofs.LeastFrames.{are_frames, held_in_turn, least_in_turn, length_least}
use Rattle.page_table_spans.specs.Spans.{held_once, rows_in}
use Rattle.page_table_spans.specs.Spans as spans
use Rattle.page_table_words.proofs.Frames.{least_frames_more, least_is, no_frames}
use Rattle.page_table_words.proofs.Lookups.{cases_Option}
use Rattle.page_table_words.specs.Rows.{TableRow}
use Rattle.page_table_words.specs.Taken.{least_frames}
use Rattle.page_table_set.proofs.Kept.{rows_have}
use Rattle.page_table_set.proofs.Needed.{over_one, over_same}
use Rattle.page_table_set.proofs.OwnIds.{is_object-sym}
use Rattle.page_table_set.proofs.Partly.{is_among}
use Rattle.page_table_set.specs.OverSpans.{frames_for, hwpts_over, is_over, missing_in, places_lacked, tables_lacked}
use Rattle.page_table_set.specs.OverSpans.{tables_missing, tables_needed, with_missing}
use Rattle.page_table_set.specs.PageTables.{Hwpt, row_of, rows_of}

-- ---- the tables of one page table

-- a table of it that is missing
abbrev pub missing_at : Object → TablePlace → MissingTable
missing_at object place = record { file = object.file; hwpt = object.id; place = place }

its_own : (object : Object) (table : TableFrame) → table.file ≡ object.file → table.hwpt ≡ object.id
    → is_table_of object.file object.id table ≡ true
its_own object table file id =
    let one : eqb table.file.0 object.file.0 ≡ true =
    eq-eqb table.file.0 object.file.0 (ap (λ (f : FileNo). f.0) file) in
    let two : eqb table.hwpt.0 object.id.0 ≡ true = eq-eqb table.hwpt.0 object.id.0 (ap (λ (i : ObjId). i.0) id) in
    both_true _ _ one two

pub frames_own : (object : Object) (places : List TablePlace) (fs : List FrameNo)
    → list_all (is_table_of object.file object.id) (in_frames (map (missing_at object) places) fs) ≡ true
frames_own object [] fs = refl
frames_own object (p ∷ places) [] = refl
frames_own object (p ∷ places) (f ∷ fs) =
    both_true _ _ (its_own object (record {
      file = object.file;
      hwpt = object.id;
      level = p.level;
      first = record { 0 = p.first };
      frame = f;
    }) refl refl) (frames_own object places fs)

pub rows_of_missing : (object : Object) (places : List TablePlace) (fs : List FrameNo)
    → map row_of (in_frames (map (missing_at object) places) fs) ≡ rows_in places fs
rows_of_missing object [] fs = refl
rows_of_missing object (p ∷ places) [] = refl
rows_of_missing object (p ∷ places) (f ∷ fs) =
    ap (λ (l : List TableRow). record { level = p.level; first = p.first; frame = f } ∷ l)
    (rows_of_missing object places fs)

-- what it lacks is told by its own rows
pub missing_same : (a b : List TableFrame) (span : Bounds) (h : Hwpt) → rows_of a h.object ≡ rows_of b h.object
    → missing_in a span h ≡ missing_in b span h
missing_same a b span h same =
    ap (map (missing_at h.object))
    (lacking_same (has_table a h.object.file h.object.id) (has_table b h.object.file h.object.id)
    (places_of h.table.width (pages_in span))
    (λ place. rows_have a h.object.file h.object.id place ∙ ap (λ (rows : List TableRow). spans.has_row rows place) same
    ∙ sym (rows_have b h.object.file h.object.id place)))

-- ---- those of several

pub missing_counted : (frames : List TableFrame) (file : FileNo) (ioas : ObjId) (span : Bounds) (tables : List Hwpt)
    → length (tables_missing frames file ioas span tables) ≡ tables_needed frames file ioas span tables
missing_counted frames file ioas span tables = counted (hwpts_over file ioas tables)
  where
    same : (l : List Hwpt) → sum_by (λ h. length (missing_in frames span h)) l ≡ sum_by (tables_lacked frames span) l
    same [] = refl
    same (h ∷ l) =
        sum_by-cons (λ x. length (missing_in frames span x)) h l
        ∙ ap (λ (n : ℕ). n + sum_by (λ x. length (missing_in frames span x)) l)
        (length-map (places_lacked frames span h) (missing_at h.object))
        ∙ ap (λ (n : ℕ). tables_lacked frames span h + n) (same l)
        ∙ sym (sum_by-cons (tables_lacked frames span) h l)

    counted : (l : List Hwpt) → length (flat_map (missing_in frames span) l) ≡ sum_by (tables_lacked frames span) l
    counted l = length-flat_map (missing_in frames span) l ∙ same l

module _ (frames : List TableFrame) (file : FileNo) (ioas : ObjId) (span : Bounds) (tables : List Hwpt) where
  -- some of them are no more than all
  pub missing_few : (n : ℕ) → length (tables_missing frames file ioas span (take n tables)) ≤ length
      (tables_missing frames file ioas span tables)
  missing_few n =
      let parts =
      ap (λ (l : List Hwpt). length (tables_missing frames file ioas span l)) (sym (take-append-drop n tables))
      ∙ ap (λ (l : List Hwpt). length (flat_map (missing_in frames span) l))
      (filter-append (λ (h : Hwpt). is_over file ioas h.object) (take n tables) (drop n tables))
      ∙ ap (λ (l : List MissingTable). length l)
      (flat_map-append (missing_in frames span) (hwpts_over file ioas (take n tables))
      (hwpts_over file ioas (drop n tables)))
      ∙ length-append (tables_missing frames file ioas span (take n tables))
      (tables_missing frames file ioas span (drop n tables)) in
      omega (arith, parts)

  module _ (n : ℕ) (d : Hwpt) (within : n < length tables) where
    -- one page table more
    pub missing_more : is_over file ioas (get_or tables n d).object ≡ true
        → tables_missing frames file ioas span (take (n + 1) tables) ≡ tables_missing frames file ioas span
        (take n tables) ++ missing_in frames span (get_or tables n d)
    missing_more over =
        ap (flat_map (missing_in frames span)) (over_one tables n d within file ioas over)
        ∙ flat_map-append (missing_in frames span) (hwpts_over file ioas (take n tables)) (get_or tables n d ∷ [])
        ∙ ap (λ (l : List MissingTable). tables_missing frames file ioas span (take n tables) ++ l)
        (flat_map-cons (missing_in frames span) (get_or tables n d) []
        ∙ append-nil (missing_in frames span (get_or tables n d)))

    pub missing_still : is_over file ioas (get_or tables n d).object ≡ false
        → tables_missing frames file ioas span (take (n + 1) tables) ≡ tables_missing frames file
        ioas span (take n tables)
    missing_still other = ap (flat_map (missing_in frames span)) (over_same tables n d within file ioas other)

-- ---- rows of others

-- each of these is another page table's
abbrev are_others : Object → List MissingTable → Bool
are_others object missing = list_all (λ m. not (eqb m.file.0 object.file.0 && eqb m.hwpt.0 object.id.0)) missing

no_row : (object : Object) (missing : List MissingTable) (fs : List FrameNo) → are_others object missing ≡ true
    → rows_of (in_frames missing fs) object ≡ []
no_row object [] fs all = refl
no_row object (m ∷ missing) [] all = refl
no_row object (m ∷ missing) (f ∷ fs) all =
    let parts =
    and_true (not (eqb m.file.0 object.file.0 && eqb m.hwpt.0 object.id.0)) (are_others object missing) all in
    rw (not_true (eqb m.file.0 object.file.0 && eqb m.hwpt.0 object.id.0) parts.0) (no_row object missing fs parts.1)

pub rows_of_others : (frames : List TableFrame) (file : FileNo) (ioas : ObjId) (span : Bounds) (done : List Hwpt)
    (object : Object) (fs : List FrameNo)
    → is_among done object ≡ false → rows_of (in_frames (tables_missing frames file ioas span done) fs) object ≡ []
rows_of_others frames file ioas span done object fs apart =
    no_row object (tables_missing frames file ioas span done) fs (all done apart)
  where
    one : (h : Hwpt) (places : List TablePlace) → is_object h.object.file h.object.id object ≡ false
        → are_others object (map (missing_at h.object) places) ≡ true
    one h [] other = refl
    one h (p ∷ places) other = both_true _ _ (not_false _ (is_object-sym object h.object ∙ other)) (one h places other)

    all : (l : List Hwpt) → is_among l object ≡ false
        → are_others object (tables_missing frames file ioas span l) ≡ true
    all [] apart = refl
    all (h ∷ l) apart =
        let parts = or_false (is_object h.object.file h.object.id object) (is_among l object) apart in
        by_test (is_over file ioas h.object) (one h (places_lacked frames span h) parts.0) (all l parts.1)
      where
        by_test : (b : Bool) → are_others object (missing_in frames span h) ≡ true
            → are_others object (tables_missing frames file ioas span l) ≡ true
            → are_others object (flat_map (missing_in frames span)
            (cond b (h ∷ hwpts_over file ioas l) (hwpts_over file ioas l))) ≡ true
        by_test true first rest =
            ap (are_others object) (flat_map-cons (missing_in frames span) h (hwpts_over file ioas l))
            ∙ list_all-append (λ (m : MissingTable). not (eqb m.file.0 object.file.0 && eqb m.hwpt.0 object.id.0))
            (missing_in frames span h) (tables_missing frames file ioas span l)
            ∙ both_true _ _ first rest
        by_test false first rest = rest

-- ---- their frames

none_left : (holds : List ℕ) (n : ℕ) → least_free holds ≡ None → least_frames holds n ≡ []
unfolding least_frames
none_left holds zero none = refl
none_left holds (suc n) none =
    ap (λ (o : Option ℕ). option_map_or (λ (f : ℕ). record { 0 = f } ∷ least_frames (set holds f 1) n) o []) none

pub least_are_free : (holds : List ℕ) (n frame : ℕ) → are_frames (least_frames holds n) frame ≡ true
    → get_or holds frame 0 ≡ 0
least_are_free holds zero frame named = absurd
    (clash (are_frames (least_frames holds 0) frame)
    (ap (λ (fs : List FrameNo). are_frames fs frame) (no_frames holds 0 refl)) named)
least_are_free holds (suc n) frame named =
    ⊎_elim
    (λ (none : least_free holds ≡ None). absurd
    (clash (are_frames (least_frames holds (suc n)) frame)
    (ap (λ (fs : List FrameNo). are_frames fs frame) (none_left holds (suc n) none)) named))
    (λ (some : (f : ℕ) × (least_free holds ≡ Some f)). by_frame some.0 some.1
    (least_are_free (set holds some.0 1) n frame))
    (cases_Option (least_free holds))
  where
    by_frame : (f : ℕ) → least_free holds ≡ Some f
        → (are_frames (least_frames (set holds f 1) n) frame ≡ true → get_or (set holds f 1) frame 0 ≡ 0)
        → get_or holds frame 0 ≡ 0
    by_frame f least later =
        let is = least_is holds f least in
        let first : FrameNo = record { 0 = f } in
        let less : suc n - 1 ≡ n = omega arith in
        let parts : (eqb f frame || are_frames (least_frames (set holds f 1) n) frame) ≡ true =
        ap (λ (k : ℕ). eqb f frame || are_frames (least_frames (set holds f 1) k) frame) (sym less)
        ∙ ap (λ (fs : List FrameNo). are_frames fs frame)
        (sym (least_frames_more holds (suc n) first (omega arith) least))
        ∙ named in
        ⊎_elim
        (λ (it : f ≡ frame). ap (λ (k : ℕ). get_or holds k 0) (sym it) ∙ is.1)
        (λ (other : f ≢ frame).
        sym (get_or-set_other holds f frame 1 0 (λ same. other (sym same)))
        ∙ later (ap (λ (b : Bool). b || are_frames (least_frames (set holds f 1) n) frame) (sym (ne_eqb f frame other))
        ∙ parts))
        (cases_eq f frame)

pub in_frames_in_turn : (a b : List MissingTable) (fs gs : List FrameNo) → length a ≡ length fs
    → in_frames (a ++ b) (fs ++ gs) ≡ in_frames a fs ++ in_frames b gs
in_frames_in_turn [] b [] gs same = refl
in_frames_in_turn [] b (f ∷ fs) gs same = absurd (omega (arith, same))
in_frames_in_turn (m ∷ a) b [] gs same = absurd (omega (arith, same))
in_frames_in_turn (m ∷ a) b (f ∷ fs) gs same =
    ap (λ (l : List TableFrame). record {
      file = m.file;
      hwpt = m.hwpt;
      level = m.place.level;
      first = record { 0 = m.place.first };
      frame = f;
    } ∷ l)
    (in_frames_in_turn a b fs gs (omega (arith, same)))

module _ (holds : List ℕ) (a b : List MissingTable) where
  abbrev held : List ℕ
  held = held_once holds (frames_for a holds)

  pub frames_in_turn : frames_for (a ++ b) holds ≡ frames_for a holds ++ frames_for b held
  frames_in_turn = ap (least_frames holds) (length-append a b) ∙ least_in_turn holds (length a) (length b)

  pub held_more : held_once holds (frames_for (a ++ b) holds) ≡ held_once held (frames_for b held)
  held_more = ap (held_once holds) frames_in_turn ∙ held_in_turn holds (frames_for a holds) (frames_for b held)

  pub missing_in_turn : (frames : List TableFrame) → length a ≤ free_count holds
      → with_missing (with_missing frames a holds) b held ≡ with_missing frames (a ++ b) holds
  missing_in_turn frames few =
      append_assoc frames (in_frames a (frames_for a holds)) (in_frames b (frames_for b held))
      ∙ ap (λ (l : List TableFrame). frames ++ l)
      (sym (in_frames_in_turn a b (frames_for a holds) (frames_for b held) (sym (length_least holds (length a) few))))
      ∙ ap (λ (fs : List FrameNo). frames ++ in_frames (a ++ b) fs) (sym frames_in_turn)

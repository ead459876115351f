-- The least free frames, some and then others.
use Rattle.std.proofs.Common.{◌≡◌, ◌≢◌, ℕ, zero, suc, ◌+◌, ◌-◌, ◌<◌, ◌≤◌, Bool, true, false, cond, eqb, ◌||◌, Option}
use Rattle.std.proofs.Common.{Some, None, List, [], ◌∷◌, ◌++◌, length, get_or, set, refl, sym, ◌∙◌, ap, ⊎_elim, arith}
use Rattle.std.specs.List.{list_any}
use Rattle.std.specs.Option.{option_map_or}
use Rattle.std.proofs.lemmas.Bool.{cases_Bool, cases_eq, eq-eqb, false≢true, ne_eqb, or_cases, or_parts}
use Rattle.std.proofs.lemmas.Grind.{same_number_lists}
use Rattle.std.proofs.lemmas.List.{get_or-set_other, get_or-set_same, length-set}
use Rattle.std.proofs.lemmas.List.Folds.{list_any-append}
use Rattle.iofd_words.specs.declared.numbers.FrameNo.{FrameNo}
use Rattle.iofd_words.specs.Levels.{levels_of}
use Rattle.iofd_words.specs.TablePlaces.{TablePlace}
use Rattle.frame_memory.specs.Pool.{FramePool, free_count, least_free}
use Rattle.page_table_words.specs.Mapped.{Becomes}
use Rattle.page_table_words.specs.Rows.{MappedPage, TableRow}
use Rattle.page_table_words.specs.Stands.{TableRoot, TableStands}
use Rattle.page_table_words.specs.Taken.{least_frames, names}
use Rattle.page_table_words.proofs.Frames.{free_taken, least_frames_more, no_frames, some_least}
use Rattle.page_table_words.proofs.Lookups.{cases_Option}
use Rattle.page_table_words.proofs.Releasing.{named_held}
use Rattle.page_table_spans.specs.Spans.{held_once, rows_in}

pub length_least : (holds : List ℕ) (n : ℕ) → n ≤ free_count holds → length (least_frames holds n) ≡ n
length_least holds zero few = ap (λ (fs : List FrameNo). length fs) (no_frames holds 0 refl)
length_least holds (suc n) few =
    let found = some_least holds (omega (arith, few)) in
    let frame : FrameNo = record { 0 = found.0 } in
    let fewer = free_taken holds found.0 found.1 in
    let less : suc n - 1 ≡ n = omega arith in
    ap (λ (fs : List FrameNo). length fs) (least_frames_more holds (suc n) frame (omega arith) found.1)
    ∙ ap (λ (k : ℕ). suc (length (least_frames (set holds found.0 1) k))) less
    ∙ ap suc (length_least (set holds found.0 1) n (omega (arith, fewer, few)))

-- ---- some and then others

none_left : (holds : List ℕ) (n : ℕ) → least_free holds ≡ None → least_frames holds n ≡ []
unfolding least_frames
none_left holds zero none = refl
none_left holds (suc n) none =
    ap (λ (o : Option ℕ). option_map_or (λ (f : ℕ). record { 0 = f } ∷ least_frames (set holds f 1) n) o []) none

pub least_in_turn : (holds : List ℕ) (m n : ℕ)
    → least_frames holds (m + n) ≡ least_frames holds m ++ least_frames (held_once holds (least_frames holds m)) n
least_in_turn holds zero n =
    let none = no_frames holds 0 refl in
    let same : 0 + n ≡ n = omega arith in
    ap (least_frames holds) same ∙ ap (λ (fs : List FrameNo). fs ++ least_frames (held_once holds fs) n) (sym none)
least_in_turn holds (suc m) n =
    ⊎_elim
    (λ (none : least_free holds ≡ None).
    none_left holds (suc m + n) none ∙ sym (none_left holds n none)
    ∙ ap (λ (fs : List FrameNo). fs ++ least_frames (held_once holds fs) n) (sym (none_left holds (suc m) none)))
    (λ (some : (f : ℕ) × (least_free holds ≡ Some f)).
    let frame : FrameNo = record { 0 = some.0 } in
    let less : suc m + n - 1 ≡ m + n = omega arith in
    let fewer : suc m - 1 ≡ m = omega arith in
    let first = least_frames_more holds (suc m) frame (omega arith) some.1
    ∙ ap (λ (k : ℕ). frame ∷ least_frames (set holds some.0 1) k) fewer in
    least_frames_more holds (suc m + n) frame (omega arith) some.1
    ∙ ap (λ (k : ℕ). frame ∷ least_frames (set holds some.0 1) k) less
    ∙ ap (λ (fs : List FrameNo). frame ∷ fs) (least_in_turn (set holds some.0 1) m n)
    ∙ ap (λ (fs : List FrameNo). fs ++ least_frames (held_once holds fs) n) (sym first))
    (cases_Option (least_free holds))

pub held_in_turn : (holds : List ℕ) (fs gs : List FrameNo)
    → held_once holds (fs ++ gs) ≡ held_once (held_once holds fs) gs
held_in_turn holds [] gs = refl
held_in_turn holds (f ∷ fs) gs = held_in_turn (set holds f.0 1) fs gs

-- ---- which holds there are then

pub length_held : (holds : List ℕ) (fs : List FrameNo) → length (held_once holds fs) ≡ length holds
length_held holds [] = refl
length_held holds (f ∷ fs) = length_held (set holds f.0 1) fs ∙ length-set holds f.0 1

abbrev pub are_frames : List FrameNo → ℕ → Bool
are_frames fs frame = list_any (λ f. eqb f.0 frame) fs

holds_of : (holds : List ℕ) (fs : List FrameNo) (frame : ℕ) → frame < length holds
    → get_or (held_once holds fs) frame 0 ≡ cond (are_frames fs frame) 1 (get_or holds frame 0)
holds_of holds [] frame within = refl
holds_of holds (f ∷ fs) frame within =
    holds_of (set holds f.0 1) fs frame (let same = length-set holds f.0 1 in omega (arith, same, within))
    ∙ ⊎_elim
    (λ (it : f.0 ≡ frame).
    ap (λ (h : ℕ). cond (are_frames fs frame) 1 h) (ap (λ (n : ℕ). get_or (set holds n 1) frame 0) it
    ∙ get_or-set_same holds frame 1 0 within)
    ∙ either (are_frames fs frame) ∙ ap (λ (b : Bool). cond (b || are_frames fs frame) 1 (get_or holds frame 0))
    (sym (eq-eqb f.0 frame it)))
    (λ (other : f.0 ≢ frame).
    ap (λ (h : ℕ). cond (are_frames fs frame) 1 h) (get_or-set_other holds f.0 frame 1 0 (λ same. other (sym same)))
    ∙ ap (λ (b : Bool). cond (b || are_frames fs frame) 1 (get_or holds frame 0)) (sym (ne_eqb f.0 frame other)))
    (cases_eq f.0 frame)
  where
    either : (b : Bool) → ◌≡◌ {A = ℕ} (cond b 1 1) 1
    either true = refl
    either false = refl

-- the frames that tables in frames name
pub names_in : (places : List TablePlace) (fs : List FrameNo) (frame : ℕ) → length places ≡ length fs
    → names (rows_in places fs) frame ≡ are_frames fs frame
names_in [] [] frame same = refl
names_in [] (f ∷ fs) frame same = absurd (omega (arith, same))
names_in (p ∷ ps) [] frame same = absurd (omega (arith, same))
names_in (p ∷ ps) (f ∷ fs) frame same =
    ap (λ (b : Bool). (eqb f.0 frame) || b) (names_in ps fs frame (omega (arith, same)))

-- tables that take the least free frames hold each once, and no other hold is another
pub held_after : (old new : FramePool) (table : TableRoot) (rows : List TableRow) (pages after : List MappedPage)
    (places : List TablePlace) (fs : List FrameNo) → TableStands old table rows pages → length places ≡ length fs
    → Becomes old new table (rows ++ rows_in places fs) after → new.holds ≡ held_once old.holds fs
held_after old new table rows pages after places fs stands same becomes =
    same_number_lists new.holds (held_once old.holds fs) (becomes.others.count ∙ sym (length_held old.holds fs))
    (λ frame within. by_name frame (let count = becomes.others.count in omega (arith, within, count))
    (names (rows ++ rows_in places fs) frame) refl)
  where
    named : (frame : ℕ) → names (rows ++ rows_in places fs) frame ≡ (names rows frame || are_frames fs frame)
    named frame = list_any-append (λ (row : TableRow). eqb row.frame.0 frame) rows (rows_in places fs)
        ∙ ap (λ (b : Bool). names rows frame || b) (names_in places fs frame same)

    by_name : (frame : ℕ) → frame < length old.holds → (b : Bool) → names (rows ++ rows_in places fs) frame ≡ b
        → get_or new.holds frame 0 ≡ get_or (held_once old.holds fs) frame 0
    by_name frame within false not_it =
        let parts = or_parts _ _ (sym (named frame) ∙ not_it) in
        becomes.others.holds frame not_it ∙ sym (holds_of old.holds fs frame within
        ∙ ap (λ (b : Bool). cond b 1 (get_or old.holds frame 0)) parts.1)
    by_name frame within true it =
        named_held new (levels_of table.width) table.root (rows ++ rows_in places fs) after becomes.stands frame it
        ∙ sym
        (holds_of old.holds fs frame within
        ∙ ⊎_elim
        (λ (new_one : are_frames fs frame ≡ true). ap (λ (b : Bool). cond b 1 (get_or old.holds frame 0)) new_one)
        (λ (old_one : are_frames fs frame ≡ false).
        ap (λ (b : Bool). cond b 1 (get_or old.holds frame 0)) old_one
        ∙ ⊎_elim (λ (is : names rows frame ≡ true). named_held old (levels_of table.width) table.root
        rows pages stands frame is)
        (λ (is : are_frames fs frame ≡ true). absurd (false≢true (sym old_one ∙ is)))
        (or_cases (names rows frame) (are_frames fs frame) (sym (named frame) ∙ it)))
        (cases_Bool (are_frames fs frame)))

-- Each step keeps that no frame is that of two tables: only free frames are taken, and each of them once.
use Rattle.std.proofs.Common.{◌≡◌, ℕ, Bool, true, false, cond, ◌||◌, ◌++◌, not, eqb, ltb, None, List, [], ◌∷◌, refl}
use Rattle.std.proofs.Common.{◌∙◌, arith}
use Rattle.std.specs.List.{filter, list_all, list_any}
use Rattle.std.proofs.lemmas.Bool.Decides.{nat_tests}
use Rattle.std.proofs.lemmas.List.Folds.{list_any-append}
use Rattle.iofd_steps.specs.After.{changed}
use Rattle.iofd_steps.specs.Answers.{Answers}
use Rattle.iofd_refusals.specs.Checks.{refusal}
use Rattle.iofd_words.specs.Frames.{is_free, is_reached}
use Rattle.iofd_words.specs.Settings.{Settings}
use Rattle.iofd_words.specs.Tables.{MissingTable, MovesTables, are_different, in_frames, is_among, kept_tables}
use Rattle.iofd_words.specs.Tables.{missing_tables, with_tables}
use Rattle.iofd_words.specs.World.{World, opening}
use Rattle.iofd_words.specs.declared.event.Event.{Event}
use Rattle.iofd_words.specs.declared.numbers.FrameNo.{FrameNo}
use Rattle.iofd_words.specs.declared.reply.Reply.{Reply}
use Rattle.iofd_words.specs.declared.rows.Pin.{Pin}
use Rattle.iofd_words.specs.declared.rows.TableFrame.{TableFrame}
use Rattle.iofd_words.specs.declared.rows.UserPage.{UserPage}
use Rattle.iofd_rows.proofs.Bools.{and_true, both_false, both_true, not_false, not_true, or_false}
use Rattle.iofd_rows.proofs.Each.{IsIn, in_filter, of_all, of_each}
use Rattle.iofd_rows.proofs.Found.{all_filter}
use Rattle.iofd_rows.proofs.Unusable.{each_not, none_of}
use Rattle.iofd_runs.proofs.SameTables.{same_tables}
use Rattle.journal_audit_world.specs.Kept.{tables_differ}

-- ---- none and each not

none_all : {X : Type 0} (p : X → Bool) (xs : List X) → not (list_any p xs) ≡ true → list_all (λ x. not (p x)) xs ≡ true
none_all p xs none = of_all (λ x. not (p x)) xs (λ x within. not_false (p x) (each_not p xs x (not_true _ none) within))

all_none : {X : Type 0} (p : X → Bool) (xs : List X) → list_all (λ x. not (p x)) xs ≡ true → not (list_any p xs) ≡ true
all_none p xs all = not_false _ (none_of p xs (λ x within. not_true (p x) (of_each (λ x. not (p x)) xs x all within)))

-- ---- rows in frames

rows_in : (q : FrameNo → Bool) (missing : List MissingTable) (frames : List FrameNo) → list_all q frames ≡ true
    → list_all (λ (table : TableFrame). q table.frame) (in_frames missing frames) ≡ true
rows_in q [] frames all = refl
rows_in q (m ∷ missing) [] all = refl
rows_in q (m ∷ missing) (frame ∷ frames) all =
    let parts = and_true (q frame) (list_all q frames) all in
    both_true _ _ parts.0 (rows_in q missing frames parts.1)

new_differ : (missing : List MissingTable) (frames : List FrameNo) → are_different frames ≡ true
    → tables_differ (in_frames missing frames) ≡ true
new_differ [] frames different = refl
new_differ (m ∷ missing) [] different = refl
new_differ (m ∷ missing) (frame ∷ frames) different =
    let parts = and_true (not (is_among frames frame)) (are_different frames) different in
    let others = rows_in (λ f. not (eqb f.0 frame.0)) missing frames
    (none_all (λ (f : FrameNo). eqb f.0 frame.0) frames parts.0) in
    both_true _ _ (all_none (λ (table : TableFrame). eqb table.frame.0 frame.0) (in_frames missing frames) others)
    (new_differ missing frames parts.1)

fewer_differ : (keeps : TableFrame → Bool) (tables : List TableFrame) → tables_differ tables ≡ true
    → tables_differ (filter keeps tables) ≡ true
fewer_differ keeps [] differ = refl
fewer_differ keeps (table ∷ tables) differ =
    let parts = and_true (not (list_any (λ (other : TableFrame). eqb other.frame.0 table.frame.0) tables))
    (tables_differ tables) differ in
    let others = all_filter (λ (other : TableFrame). not (eqb other.frame.0 table.frame.0)) keeps tables
    (none_all (λ (other : TableFrame). eqb other.frame.0 table.frame.0) tables parts.0) in
    by_test (keeps table) (all_none (λ (other : TableFrame). eqb other.frame.0 table.frame.0) (filter keeps tables)
    others) (fewer_differ keeps tables parts.1)
  where
    by_test : (b : Bool) → not (list_any (λ (other : TableFrame). eqb other.frame.0 table.frame.0)
        (filter keeps tables)) ≡ true → tables_differ (filter keeps tables) ≡ true
        → tables_differ (cond b (table ∷ filter keeps tables) (filter keeps tables)) ≡ true
    by_test true first rest = both_true _ _ first rest
    by_test false first rest = rest

both_differ : (tables new : List TableFrame) → tables_differ tables ≡ true → tables_differ new ≡ true
    → list_all (λ (table : TableFrame). not (list_any (λ (other : TableFrame). eqb other.frame.0 table.frame.0) new))
    tables ≡ true → tables_differ (tables ++ new) ≡ true
both_differ [] new first second apart = second
both_differ (table ∷ tables) new first second apart =
    let parts = and_true (not (list_any (λ (other : TableFrame). eqb other.frame.0 table.frame.0) tables))
    (tables_differ tables) first in
    let aparts = and_true (not (list_any (λ (other : TableFrame). eqb other.frame.0 table.frame.0) new))
    (list_all (λ (t : TableFrame). not (list_any (λ (other : TableFrame). eqb other.frame.0 t.frame.0) new)) tables)
    apart in
    both_true _ _ (not_false _ (list_any-append (λ (other : TableFrame). eqb other.frame.0 table.frame.0) tables new
    ∙ both_false _ _ (not_true _ parts.0) (not_true _ aparts.0))) (both_differ tables new parts.1 second aparts.1)

-- ---- a step

-- it holds of a world
abbrev pub TablesDiffer : World → Type 0
TablesDiffer w = tables_differ w.table_frames ≡ true

pub opening_differ : (settings : Settings) → TablesDiffer (opening settings)
opening_differ settings = refl

flipped : (a b : ℕ) → eqb a b ≡ false → eqb b a ≡ false
flipped a b is = grind (arith, nat_tests)

-- a free frame is none of a table
not_a_table : (w : World) (frame : ℕ) → is_free w.settings.pool w.user_pages w.pins w.table_frames frame ≡ true
    → list_any (λ (table : TableFrame). eqb table.frame.0 frame) w.table_frames ≡ false
not_a_table w frame free =
    (or_false (list_any (λ (p : UserPage). eqb p.frame.0 frame) w.user_pages
    || list_any (λ (pin : Pin). eqb pin.frame.0 frame) w.pins)
    (list_any (λ (table : TableFrame). eqb table.frame.0 frame) w.table_frames)
    (not_true _ (and_true (ltb frame w.settings.pool) (not (is_reached w.user_pages w.pins w.table_frames frame))
    free).1)).1

pub keeps_differ : {A : Type 0} → (at : ℕ) (w : World) (e : Event A) (answer : Reply) (taken given : List FrameNo)
    → refusal w e ≡ None → Answers w e answer → MovesTables w (changed at w e answer) e answer taken given
    → TablesDiffer w → TablesDiffer (with_tables taken given (changed at w e answer))
unfolding with_tables
keeps_differ at w e answer taken given none answers moves differ =
    rw (same_tables at w e answer) (both_differ kept new
    (fewer_differ (λ (t : TableFrame). not (is_among given t.frame)) w.table_frames differ)
    (new_differ missing taken moves.different)
    (of_all (λ (table : TableFrame). not (list_any (λ (other : TableFrame). eqb other.frame.0 table.frame.0) new)) kept
    (λ table within. all_none (λ (other : TableFrame). eqb other.frame.0 table.frame.0) new
    (rows_in (λ f. not (eqb f.0 table.frame.0)) missing taken
    (of_all (λ (f : FrameNo). not (eqb f.0 table.frame.0)) taken (λ frame held. not_false _ (apart table within frame
    (of_each (λ (f : FrameNo). is_free w.settings.pool w.user_pages w.pins w.table_frames f.0) taken frame moves.free
    held))))))))
  where
    kept : List TableFrame
    kept = kept_tables given w.table_frames

    missing : List MissingTable
    missing = missing_tables (changed at w e answer).objects (changed at w e answer).areas kept

    new : List TableFrame
    new = in_frames missing taken

    apart : (table : TableFrame) → IsIn kept table → (frame : FrameNo)
        → is_free w.settings.pool w.user_pages w.pins w.table_frames frame.0 ≡ true → eqb frame.0 table.frame.0 ≡ false
    apart table within frame free = flipped table.frame.0 frame.0
        (each_not (λ (t : TableFrame). eqb t.frame.0 frame.0) w.table_frames table (not_a_table w frame.0 free)
        (in_filter (λ (t : TableFrame). not (is_among given t.frame)) w.table_frames table within).0)

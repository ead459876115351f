-- Users' pages come by a UserMap alone, a free frame at a page that the user hasn't, and go by a UserUnmap.
use Rattle.std.proofs.Common.{◌≡◌, ◌<◌, ℕ, ◌*◌, ◌/◌, ◌^◌, Bool, true, false, ◌&&◌, ◌||◌, not, eqb, leb, ltb, is_some}
use Rattle.std.proofs.Common.{Option, Some, None, List, [], ◌∷◌, ◌++◌, refl, sym, ◌∙◌, subst, arith}
use Rattle.std.specs.List.{filter, find, list_all, list_any}
use Rattle.std.proofs.Math.Nat.{div-lt_iff_lt-mul}
use Rattle.std.proofs.lemmas.Bool.Decides.{nat_tests}
use Rattle.iofd_steps.specs.After.{changed}
use Rattle.iofd_words.specs.Frames.{frame_at, is_free}
use Rattle.iofd_words.specs.Pages.{is_whole}
use Rattle.iofd_steps.specs.Run.{IsRun, world_of}
use Rattle.iofd_words.specs.Record.{Record}
use Rattle.iofd_words.specs.Settings.{Settings}
use Rattle.iofd_words.specs.Tables.{with_tables}
use Rattle.iofd_words.specs.View.{view}
use Rattle.iofd_words.specs.World.{World, opening}
use Rattle.iofd_words.specs.declared.numbers.FrameNo.{FrameNo}
use Rattle.iofd_words.specs.declared.numbers.UserNo.{UserNo}
use Rattle.iofd_words.specs.declared.reply.Reply.{Reply}
use Rattle.iofd_words.specs.declared.rows.UserPage.{UserPage}
use Rattle.iofd_rows.proofs.Bools.{and_true, both_true, or_false}
use Rattle.iofd_rows.proofs.Found.{all_filter}
use Rattle.iofd_runs.proofs.NotRefused.{UserMapPassed}
use Rattle.iofd_runs.proofs.OwnIds.{any_found}
use Rattle.iofd_runs.proofs.Runs.{run_keeps}
use Rattle.iofd_runs.proofs.Moves.{FewerPages, MemoryMoves, OnePage, SameMemory, Written, changed_moves}
use Rattle.iofd_promises.proofs.Lists.{all_apart, apart-filter, apart-more}
use Rattle.iofd_steps.specs.Answers.{Answers}
use Rattle.iofd_refusals.specs.Checks.{refusal}
use Rattle.iofd_words.specs.declared.event.Event.{Event}

-- what holds of the users' pages where it holds with one more and of those that a filter keeps
module _ (P : List UserPage → Type 0)
    (adds : (w : World) (user : UserNo) (va : ℕ) (frame : FrameNo) → UserMapPassed (view w) user va
    → is_free w.settings.pool w.user_pages w.pins w.table_frames frame.0 ≡ true → P w.user_pages
    → P (w.user_pages ++ record { user = user; page = va / 4096; frame = frame } ∷ []))
    (drops : (stays : UserPage → Bool) (pages : List UserPage) → P pages → P (filter stays pages)) where
  pages_by : {A : Type 0} (w : World) (e : Event A) (answer : Reply) (new : World) → MemoryMoves w e answer new
      → refusal w e ≡ None → Answers w e answer → P w.user_pages → P new.user_pages
  pages_by w e answer new (SameMemory is same) none answers p = subst P (sym is) p
  pages_by w e answer new (OnePage user va frame passed free told is less) none answers p =
      subst P (sym is) (adds w user va frame (passed none) (free answers) p)
  pages_by w e answer new (FewerPages stays is same) none answers p =
      subst P (sym is) (drops stays w.user_pages p)
  pages_by w e answer new (Written written is) none answers p = subst P (sym is) p

  pub pages_of_run : {A : Type 0} (settings : Settings) (records : List (Record A)) → IsRun settings records → P []
      → P (world_of settings records).user_pages
  unfolding IsRun world_of with_tables
  pages_of_run settings records run none =
      run_keeps (λ w. P w.user_pages) (λ w taken given p. p)
      (λ at w e answer none answers p. pages_by w e answer (changed at w e answer)
      (changed_moves at w e answer).memory none answers p) 0 (opening settings) records run none

-- ---- two rows of one page, or of one frame

abbrev pub same_page : UserPage → UserPage → Bool
same_page a b = eqb a.user.0 b.user.0 && eqb a.page b.page

abbrev pub same_frame : UserPage → UserPage → Bool
same_frame a b = eqb a.frame.0 b.frame.0

-- a page that a look-up doesn't find has no row
not_mapped : (pages : List UserPage) (user : UserNo) (page : ℕ) → is_some (frame_at pages user page) ≡ false
    → list_any (λ (p : UserPage). eqb p.user.0 user.0 && eqb p.page page) pages ≡ false
not_mapped pages user page none = any_found (λ (p : UserPage). eqb p.user.0 user.0 && eqb p.page page) pages
    ∙ by_found (find (λ (p : UserPage). eqb p.user.0 user.0 && eqb p.page page) pages) none
  where
    by_found : (o : Option UserPage) → is_some {T = FrameNo} (elim o [ Some p ↦ Some p.frame | None ↦ None ]) ≡ false
        → is_some o ≡ false
    by_found None none = refl
    by_found (Some p) none = cc

pub pages_apart : {A : Type 0} (settings : Settings) (records : List (Record A)) → IsRun settings records
    → all_apart same_page (world_of settings records).user_pages ≡ true
pages_apart settings records run =
    pages_of_run (λ pages. all_apart same_page pages ≡ true)
    (λ w user va frame passed free apart. apart-more same_page w.user_pages (record {
      user = user;
      page = va / 4096;
      frame = frame;
    }) (not_mapped w.user_pages user (va / 4096) passed.unmapped) apart)
    (λ stays pages apart. apart-filter same_page stays pages apart) settings records run refl

free_of_users : (w : World) (frame : FrameNo)
    → is_free w.settings.pool w.user_pages w.pins w.table_frames frame.0 ≡ true
    → list_any (λ (p : UserPage). eqb p.frame.0 frame.0) w.user_pages ≡ false
free_of_users w frame free = grind (arith, nat_tests)

pub frames_apart : {A : Type 0} (settings : Settings) (records : List (Record A)) → IsRun settings records
    → all_apart same_frame (world_of settings records).user_pages ≡ true
frames_apart settings records run =
    pages_of_run (λ pages. all_apart same_frame pages ≡ true)
    (λ w user va frame passed free apart. apart-more same_frame w.user_pages (record {
      user = user;
      page = va / 4096;
      frame = frame;
    }) (free_of_users w frame free) apart)
    (λ stays pages apart. apart-filter same_frame stays pages apart) settings records run refl

-- ---- below 2^48 bytes

abbrev pub is_low : UserPage → Bool
is_low page = ltb page.page (2 ^ 36)

low_page : (va : ℕ) → (not (is_whole va) || leb (2 ^ 48) va) ≡ false → va / 4096 < 2 ^ 36
low_page va aligned =
    let parts = or_false (not (is_whole va)) (leb (2 ^ 48) va) aligned in
    let below : va < 2 ^ 36 * 4096 = search (parts.1, arith, nat_tests) in
    (div-lt_iff_lt-mul {k = 4096} {x = va} {y = 2 ^ 36} (omega arith)).1 below

all_more : (p : UserPage → Bool) (pages : List UserPage) (page : UserPage) → p page ≡ true → list_all p pages ≡ true
    → list_all p (pages ++ page ∷ []) ≡ true
all_more p [] page here all = both_true _ _ here refl
all_more p (x ∷ pages) page here all =
    let parts = and_true (p x) (list_all p pages) all in both_true _ _ parts.0 (all_more p pages page here parts.1)

pub pages_low : {A : Type 0} (settings : Settings) (records : List (Record A)) → IsRun settings records
    → list_all is_low (world_of settings records).user_pages ≡ true
pages_low settings records run =
    pages_of_run (λ pages. list_all is_low pages ≡ true)
    (λ w user va frame passed free all. let low = low_page va passed.aligned in all_more is_low w.user_pages
    (record { user = user; page = va / 4096; frame = frame }) (search (low, arith, nat_tests)) all)
    (λ stays pages all. all_filter is_low stays pages all) settings records run refl

-- A closed file has no rows, stays closed, and is refused.
use Rattle.std.proofs.Common.{◌≡◌, ◌≢◌, ◌<◌, ℕ, zero, suc, Bool, true, false, cond, ◌&&◌, not, eqb, is_some, Option}
use Rattle.std.proofs.Common.{Some, None, List, [], ◌∷◌, ◌++◌, length, refl, ap, sym, ◌∙◌, subst, arith, ◌⊎◌, inl, inr}
use Rattle.std.specs.List.{list_any}
use Rattle.std.proofs.lemmas.Bool.Decides.{nat_tests}
use Rattle.std.proofs.lemmas.Option.{slice_get_past}
use Rattle.iofd_steps.specs.After.{changed}
use Rattle.iofd_words.specs.Allowed.{AllowedRanges, with_allowed}
use Rattle.iofd_refusals.specs.Checks.{allow_iovas_checks, bind_checks, close_checks, copy_checks, destroy_checks}
use Rattle.iofd_refusals.specs.Checks.{hwpt_alloc_checks, ioas_alloc_checks, map_checks, refusal, unbind_checks}
use Rattle.iofd_refusals.specs.Checks.{unmap_checks, access_create_checks, access_attach_checks, access_detach_checks}
use Rattle.iofd_refusals.specs.Checks.{access_pin_checks, access_unpin_checks, access_write_checks}
use Rattle.iofd_refusals.specs.Checks.{dirty_checks, dirty_enable_checks}
use Rattle.iofd_words.specs.Files.{is_open, user_of}
use Rattle.iofd_words.specs.FirstTrue.{first_true}
use Rattle.iofd_steps.specs.Run.{IsRun, world_of}
use Rattle.iofd_words.specs.Record.{Record}
use Rattle.iofd_words.specs.Settings.{Settings}
use Rattle.iofd_words.specs.Tables.{with_tables}
use Rattle.iofd_words.specs.View.{view}
use Rattle.iofd_words.specs.World.{World, opening}
use Rattle.iofd_words.specs.declared.event.Event.{Event}
use Rattle.iofd_words.specs.declared.event.Event.TheVariants as event
use Rattle.iofd_words.specs.declared.numbers.FileNo.{FileNo}
use Rattle.iofd_words.specs.declared.refusal.Cause.{Cause}
use Rattle.iofd_words.specs.declared.refusal.Cause.TheVariants as cause
use Rattle.iofd_words.specs.declared.rows.Object.{Object}
use Rattle.iofd_rows.proofs.Bools.{and_true, clash, not_true}
use Rattle.iofd_rows.proofs.Each.{IsIn, in_filter, of_any, of_each}
use Rattle.iofd_rows.proofs.Named.{object_of_kind}
use Rattle.iofd_rows.proofs.Owed.{each_owed}
use Rattle.iofd_runs.specs.Fits.{RowsFit, is_known_device}
use Rattle.iofd_runs.proofs.Accessed.{EachHeld}
use Rattle.iofd_runs.proofs.KeepsDebts.{IsSound}
use Rattle.iofd_runs.proofs.Known.{is_known}
use Rattle.iofd_runs.proofs.Runs.{run_keeps}
use Rattle.iofd_promises.specs.Closing.{HasNothing, IsGone, file_named}
use Rattle.iofd_promises.proofs.Lists.{any_last}
use Rattle.iofd_runs.proofs.Moves.{Closes, FilesMove, StayOpen, changed_moves, AllowedMove, SameAllowed, FewerAllowed}
use Rattle.iofd_runs.proofs.Moves.{Allows}
use Rattle.iofd_promises.proofs.Rows.{within}

-- ---- rows of open files

abbrev is_closed : List FileNo → FileNo → Bool
is_closed closed file = list_any (λ (f : FileNo). eqb f.0 file.0) closed

opened : (settings : Settings) (closed : List FileNo) (file : FileNo) → is_open settings closed file ≡ true
    → is_closed closed file ≡ false
opened settings closed file is =
    not_true _ (and_true (is_some (user_of settings file)) (not (is_closed closed file)) is).1

-- a row of a file that isn't closed is of no closed one
of_another : (closed : List FileNo) (file other : FileNo) → is_closed closed other ≡ false → IsIn closed file
    → other.0 ≢ file.0
of_another closed file other open_still there same =
    let here : eqb file.0 other.0 ≡ true = search (same, arith, nat_tests) in
    clash _ open_still (of_any (λ (f : FileNo). eqb f.0 other.0) closed file there here)

abbrev pub AllowedOpen : World → Type 0
AllowedOpen w = (row : AllowedRanges) → IsIn w.allowed row → is_closed w.closed row.file ≡ false

keeps_allowed : {A : Type 0} (w : World) (e : Event A) (new : World) → FilesMove w new → AllowedMove w e new
    → refusal w e ≡ None → AllowedOpen w → AllowedOpen new
keeps_allowed w e new (Closes file closed objects allowed) move none open_all row there =
    let (old, stays) = in_filter (λ (r : AllowedRanges). not (eqb r.file.0 file.0)) w.allowed row
    (rw allowed at there) in
    let apart = not_true _ stays in
    let other : eqb file.0 row.file.0 ≡ false = search (apart, arith, nat_tests) in
    rw closed (any_last (λ (f : FileNo). eqb f.0 row.file.0) w.closed file (open_all row old) other)
keeps_allowed w e new (StayOpen closed) (SameAllowed is) none open_all row there =
    rw closed (open_all row (rw is at there))
keeps_allowed w e new (StayOpen closed) (FewerAllowed stays gone is) none open_all row there =
    rw closed (open_all row (in_filter stays w.allowed row (rw is at there)).0)
keeps_allowed w e new (StayOpen closed) (Allows file ioas ranges passed alike is) none open_all row there =
    rw closed (by_place (rw is at there))
  where
    by_place : IsIn (with_allowed file ioas ranges w.allowed) row → is_closed w.closed row.file ≡ false
    by_place (inl same) = subst (λ (r : AllowedRanges). is_closed w.closed r.file ≡ false) same
        (opened w.settings w.closed file (passed none).opened)
    by_place (inr later) = open_all row (in_filter _ w.allowed row later).0

pub allowed_open : {A : Type 0} (settings : Settings) (records : List (Record A)) → IsRun settings records
    → AllowedOpen (world_of settings records)
unfolding IsRun world_of with_tables
allowed_open settings records run =
    run_keeps AllowedOpen (λ w taken given open_all. open_all)
    (λ at w e answer none answers open_all. keeps_allowed w e (changed at w e answer)
    (changed_moves at w e answer).files (changed_moves at w e answer).allowed none open_all) 0 (opening settings)
    records run (λ row there. absurd there)

pub has_nothing : (w : World) (file : FileNo) → RowsFit w → IsSound w → EachHeld w.objects w.areas w.access_pins
    → AllowedOpen w → IsIn w.closed file → HasNothing w file
has_nothing w file fits sound held open_all there = record {
  objects = λ object has. of_objects object (within w.objects object has);
  areas = λ area has. by_object area.file (object_of_kind w.objects area.file area.ioas _
      ((each_owed w sound.debts).in_spaces area (within w.areas area has)));
  attachments = λ a has. by_object a.file (object_of_kind w.objects a.file a.hwpt _
      ((each_owed w sound.debts).tables a (within w.attachments a has)).table);
  allowed = λ row has. of_another w.closed file row.file (open_all row (within w.allowed row has)) there;
  access_pins = λ pin has. by_object pin.file (object_of_kind w.objects pin.file pin.access _
      (held pin (within w.access_pins pin has)).attached);
}
  where
    of_objects : (object : Object) → IsIn w.objects object → object.file.0 ≢ file.0
    of_objects object has = of_another w.closed file object.file
        (opened w.settings w.closed object.file (and_true (is_open w.settings w.closed object.file)
        (is_known_device w.settings object.kind)
        (of_each (is_known w.settings w.closed) w.objects object fits.known has)).0) there

    by_object : {P Q R : Object → Type 0} (own : FileNo) → (object : Object) × P object × IsIn w.objects object
        × (object.file ≡ own) × Q object × R object → own.0 ≢ file.0
    by_object own found same = of_objects found.0 found.2 (ap (λ (f : FileNo). f.0) found.3 ∙ same)

-- ---- closed files

pub stays_closed : (w new : World) (file : FileNo) → FilesMove w new → IsIn w.closed file → IsIn new.closed file
stays_closed w new file (StayOpen closed) there =
    subst (λ (files : List FileNo). IsIn files file) (sym closed) there
stays_closed w new file (Closes other closed objects allowed) there =
    subst (λ (files : List FileNo). IsIn files file) (sym closed) (in_more w.closed there)
  where
    in_more : (files : List FileNo) → IsIn files file → IsIn (files ++ other ∷ []) file
    in_more [] there = absurd there
    in_more (f ∷ files) (inl same) = inl same
    in_more (f ∷ files) (inr later) = inr (in_more files later)

-- ---- commands

gone_closed : (w : World) (file : FileNo) → IsGone w file → is_open w.settings w.closed file ≡ false
gone_closed w file (inl closed) = by_user (is_some (user_of w.settings file))
  where
    itself : eqb file.0 file.0 ≡ true
    itself = search (arith, nat_tests)

    by_user : (b : Bool) → (b && not (is_closed w.closed file)) ≡ false
    by_user true = ap not (of_any (λ (f : FileNo). eqb f.0 file.0) w.closed file (within w.closed file closed) itself)
    by_user false = refl
gone_closed w file (inr unknown) = ap (λ (b : Bool). b && not (is_closed w.closed file)) (by_number file.0 refl unknown)
  where
    by_number : (n : ℕ) → file.0 ≡ n → (file.0 ≡ 0) ⊎ (length w.settings.files < file.0)
        → is_some (user_of w.settings file) ≡ false
    by_number zero is unknown = rw is refl
    by_number (suc n) is (inl none) = absurd (omega (arith, is, none))
    by_number (suc n) is (inr above) =
        let past = slice_get_past w.settings.files n (omega (arith, is, above)) in rw (is, past) refl

abbrev first_row : List (Cause × Bool) → Option (Cause × Bool)
first_row [] = None
first_row (row ∷ rows) = Some row

-- a table whose first row asks whether the file is open
refuses : (w : World) (f file : FileNo) (rows : List (Cause × Bool)) → (let o : Option FileNo = Some f in o) ≡ Some file
    → is_open w.settings w.closed file ≡ false → first_row rows ≡ Some (cause.Id, not (is_open w.settings w.closed f))
    → first_true rows ≡ Some cause.Id
refuses w f file [] is gone first = cc
refuses w f file (row ∷ rows) is gone first =
    let same : f ≡ file = cc in
    let row_is : row ≡ (cause.Id, not (is_open w.settings w.closed f)) = cc in
    let gone_too : not (is_open w.settings w.closed f) ≡ true = ap not (ap (is_open w.settings w.closed) same ∙ gone) in
    ap (λ (r : Cause × Bool). cond r.1 (Some r.0) (first_true rows)) row_is
    ∙ ap (λ (b : Bool). cond b (Some cause.Id) (first_true rows)) gone_too

refuses_gone : {A : Type 0} → (w : World) (e : Event A) (file : FileNo) → file_named e ≡ Some file
    → is_open w.settings w.closed file ≡ false → refusal w e ≡ Some cause.Id
unfolding ioas_alloc_checks allow_iovas_checks map_checks copy_checks unmap_checks hwpt_alloc_checks destroy_checks
    close_checks bind_checks unbind_checks access_create_checks access_attach_checks access_detach_checks
    access_pin_checks access_unpin_checks access_write_checks dirty_enable_checks dirty_checks
refuses_gone w (event.IoasAlloc f) file is gone = refuses w f file (ioas_alloc_checks (view w) f) is gone refl
refuses_gone w (event.AllowIovas f ioas ranges) file is gone =
    refuses w f file (allow_iovas_checks (view w) f ioas ranges) is gone refl
refuses_gone w (event.Map f request) file is gone = refuses w f file (map_checks (view w) f request) is gone refl
refuses_gone w (event.Copy f request) file is gone = refuses w f file (copy_checks (view w) f request) is gone refl
refuses_gone w (event.Unmap f request) file is gone = refuses w f file (unmap_checks (view w) f request) is gone refl
refuses_gone w (event.HwptAlloc f request) file is gone =
    refuses w f file (hwpt_alloc_checks (view w) f request) is gone refl
refuses_gone w (event.Destroy f id) file is gone = refuses w f file (destroy_checks (view w) f id) is gone refl
refuses_gone w (event.Close f) file is gone = refuses w f file (close_checks (view w) f) is gone refl
refuses_gone w (event.Bind f device) file is gone = refuses w f file (bind_checks (view w) f device) is gone refl
refuses_gone w (event.Unbind f id) file is gone = refuses w f file (unbind_checks (view w) f id) is gone refl
refuses_gone w (event.AccessCreate f) file is gone = refuses w f file (access_create_checks (view w) f) is gone refl
refuses_gone w (event.AccessAttach f id ioas) file is gone =
    refuses w f file (access_attach_checks (view w) f id ioas) is gone refl
refuses_gone w (event.AccessDetach f id) file is gone =
    refuses w f file (access_detach_checks (view w) f id) is gone refl
refuses_gone w (event.AccessPin f id request) file is gone =
    refuses w f file (access_pin_checks (view w) f id request) is gone refl
refuses_gone w (event.AccessUnpin f id request) file is gone =
    refuses w f file (access_unpin_checks (view w) f id request) is gone refl
refuses_gone w (event.AccessWrite f id iova bytes) file is gone =
    refuses w f file (access_write_checks (view w) f id iova bytes) is gone refl
refuses_gone w (event.DirtyEnable f hwpt on) file is gone =
    refuses w f file (dirty_enable_checks (view w) f hwpt) is gone refl
refuses_gone w (event.DirtyClear f request) file is gone =
    refuses w f file (dirty_checks (view w) f request) is gone refl
refuses_gone w e file is gone = cc

pub gone_refused : {A : Type 0} → (w : World) (e : Event A) (file : FileNo) → file_named e ≡ Some file → IsGone w file
    → refusal w e ≡ Some cause.Id
gone_refused w e file is gone = refuses_gone w e file is (gone_closed w file gone)

-- An event of one file leaves the rows of each other file as they are.
use Rattle.std.proofs.Common.{◌≡◌, ◌≢◌, ℕ, Bool, true, false, cond, ◌&&◌, ◌||◌, not, eqb, Option, Some, None, List, []}
use Rattle.std.proofs.Common.{◌∷◌, ◌++◌, map, sym, ◌∙◌, refl, ap, sym, ◌∙◌, arith}
use Rattle.std.specs.Prelude.{is_none}
use Rattle.std.specs.List.{filter, list_all, list_any}
use Rattle.std.proofs.lemmas.Bool.{eqb-true, true≢false}
use Rattle.std.proofs.lemmas.Bool.Decides.{nat_tests}
use Rattle.iofd_steps.specs.After.{changed, copy_changes, map_changes, hwpt_changes}
use Rattle.iofd_steps.specs.After.{settle, without_areas, attached, detached, joined, goes_with, tracked_without}
use Rattle.iofd_steps.specs.After.{mapped_area, with_hwpt}
use Rattle.iofd_words.specs.Allowed.{AllowedRanges, with_allowed, without_allowed}
use Rattle.iofd_words.specs.Areas.{all_paid, lies_before, owed_by, paid, is_touched, leaving, with_area, with_phase}
use Rattle.iofd_words.specs.Areas.{tried, touched_tries}
use Rattle.iofd_words.specs.Attachments.{attachment_of, devices_of, has_lower_device, with_attachment}
use Rattle.iofd_words.specs.Attachments.{without_attachment}
use Rattle.iofd_refusals.specs.Checks.{refusal}
use Rattle.iofd_words.specs.Copies.{placed_as}
use Rattle.iofd_words.specs.DeviceSet.{without_device}
use Rattle.iofd_words.specs.Dirty.{TrackedTable, is_tracked_as, marked_by, reported_span, with_mark}
use Rattle.iofd_words.specs.Dirty.{with_tracking, without_marks, without_tracked}
use Rattle.iofd_words.specs.DirtyWords.{is_page_of}
use Rattle.iofd_words.specs.Files.{user_of}
use Rattle.iofd_words.specs.Pages.{page_of}
use Rattle.iofd_laws.specs.Laws.{FileRows, IsOfAnother, file_of_device, rows_of}
use Rattle.iofd_words.specs.Objects.{automatic_hwpt, binding_of, comes_before, objects_of, settings_under}
use Rattle.iofd_words.specs.Objects.{with_object, with_access, is_access}
use Rattle.iofd_steps.specs.Run.{after, after_answer}
use Rattle.iofd_words.specs.Record.{Record}
use Rattle.iofd_words.specs.Tables.{with_tables}
use Rattle.iofd_words.specs.View.{view}
use Rattle.iofd_words.specs.World.{World}
use Rattle.iofd_words.specs.declared.event.Event.{Event}
use Rattle.iofd_words.specs.declared.event.Event.TheVariants as event
use Rattle.iofd_words.specs.declared.numbers.DeviceNo.{DeviceNo}
use Rattle.iofd_words.specs.declared.numbers.FileNo.{FileNo}
use Rattle.iofd_words.specs.declared.numbers.ObjId.{ObjId}
use Rattle.iofd_words.specs.declared.refusal.Cause.{Cause}
use Rattle.iofd_words.specs.declared.reply.Reply.{Reply}
use Rattle.iofd_words.specs.declared.reply.Reply.TheVariants as reply
use Rattle.iofd_words.specs.declared.rows.Area.{Area}
use Rattle.iofd_words.specs.declared.rows.Attachment.{Attachment}
use Rattle.iofd_words.specs.declared.rows.Object.{Object}
use Rattle.iofd_words.specs.declared.rows.ObjectKind.TheVariants as kind
use Rattle.iofd_words.specs.declared.rows.Phase.{Phase}
use Rattle.iofd_words.specs.declared.rows.Phase.TheVariants.{Live, Leaving}
use Rattle.iofd_words.specs.declared.width.Width.{Width}
use Rattle.iofd_rows.proofs.Bools.{and_true, not_false}
use Rattle.iofd_laws.proofs.Bound.{AreBound}
use Rattle.iofd_rows.proofs.Bound.{is_bound_to, is_of_file}
use Rattle.iofd_rows.proofs.Found.{found_passes}
use Rattle.iofd_rows.proofs.Inserted.{filter-inserted}
use Rattle.iofd_rows.proofs.Accesses.{reattached, reattached_is, same_name}
use Rattle.iofd_runs.proofs.CopySource.{source_area}
use Rattle.iofd_runs.proofs.NotRefused.{detach_passed, flush_passed, passes, write_passed}
use Rattle.iofd_runs.proofs.Branches.{by_attachment, by_found, by_target}

-- ---- filters

-- what fails a test may go before the test
pub filter_filter : {X : Type 0} (p q : X → Bool) (xs : List X) → ((x : X) → p x ≡ true → q x ≡ true)
    → filter p (filter q xs) ≡ filter p xs
filter_filter p q [] keeps = refl
filter_filter p q (x ∷ xs) keeps = by_tests (p x) (q x) refl refl (keeps x) (filter_filter p q xs keeps)
  where
    by_tests : (a b : Bool) → p x ≡ a → q x ≡ b → (p x ≡ true → q x ≡ true) → filter p (filter q xs) ≡ filter p xs
        → filter p (cond b (x ∷ filter q xs) (filter q xs)) ≡ cond a (x ∷ filter p xs) (filter p xs)
    by_tests true true pa qb keep rest = rw (pa, rest) refl
    by_tests true false pa qb keep rest = let is = keep pa in cc
    by_tests false true pa qb keep rest = rw (pa, rest) refl
    by_tests false false pa qb keep rest = rest

-- rows of which each has q: a change that leaves what passes, and for which no other passes
filter_map_same : {X : Type 0} (p q : X → Bool) (h : X → X) (xs : List X) → list_all q xs ≡ true
    → ((x : X) → p (h x) ≡ p x) → ((x : X) → p x ≡ true → q x ≡ true → h x ≡ x) → filter p (map h xs) ≡ filter p xs
filter_map_same p q h [] all like same = refl
filter_map_same p q h (x ∷ xs) all like same =
    let parts = and_true (q x) (list_all q xs) all in
    rw (like x) (by_test (p x) (λ passes. same x passes parts.0) refl (filter_map_same p q h xs parts.1 like same))
  where
    by_test : (a : Bool) → (p x ≡ true → h x ≡ x) → p x ≡ a → filter p (map h xs) ≡ filter p xs
        → cond a (h x ∷ filter p (map h xs)) (filter p (map h xs)) ≡ cond a (x ∷ filter p xs) (filter p xs)
    by_test true is passes rest = rw (is passes, rest) refl
    by_test false is passes rest = rest

-- what fails a test may go before the test, among rows of which each has q
pub filter_filter_of : {X : Type 0} (p q r : X → Bool) (xs : List X) → list_all q xs ≡ true
    → ((x : X) → p x ≡ true → q x ≡ true → r x ≡ true) → filter p (filter r xs) ≡ filter p xs
filter_filter_of p q r [] all keeps = refl
filter_filter_of p q r (x ∷ xs) all keeps =
    let parts = and_true (q x) (list_all q xs) all in
    by_tests (p x) (r x) refl refl (λ passes. keeps x passes parts.0) (filter_filter_of p q r xs parts.1 keeps)
  where
    by_tests : (a b : Bool) → p x ≡ a → r x ≡ b → (p x ≡ true → r x ≡ true) → filter p (filter r xs) ≡ filter p xs
        → filter p (cond b (x ∷ filter r xs) (filter r xs)) ≡ cond a (x ∷ filter p xs) (filter p xs)
    by_tests true true pa rb keep rest = rw (pa, rest) refl
    by_tests true false pa rb keep rest = let is = keep pa in cc
    by_tests false true pa rb keep rest = rw (pa, rest) refl
    by_tests false false pa rb keep rest = rest

pub other_file : (own file : FileNo) → own.0 ≢ file.0 → eqb own.0 file.0 ≡ false
other_file own file differ = grind (arith, nat_tests)

-- ---- one more row of another file

objects-with_object : (object : Object) (objects : List Object) (file : FileNo) → eqb object.file.0 file.0 ≡ false
    → objects_of (with_object object objects) file ≡ objects_of objects file
objects-with_object object objects file =
    filter-inserted comes_before (λ (o : Object). eqb o.file.0 file.0) object objects

areas-with_area : (area : Area) (areas : List Area) (file : FileNo) → eqb area.file.0 file.0 ≡ false
    → filter (λ (a : Area). eqb a.file.0 file.0) (with_area area areas) ≡ filter
    (λ (a : Area). eqb a.file.0 file.0) areas
areas-with_area area areas file = filter-inserted lies_before (λ (a : Area). eqb a.file.0 file.0) area areas

attachments-with_attachment_other : (attachment : Attachment) (attachments : List Attachment) (file : FileNo)
    → eqb attachment.file.0 file.0 ≡ false → filter (λ (a : Attachment). eqb a.file.0 file.0)
    (with_attachment attachment attachments) ≡ filter (λ (a : Attachment). eqb a.file.0 file.0) attachments
attachments-with_attachment_other attachment attachments file =
    filter-inserted has_lower_device (λ (a : Attachment). eqb a.file.0 file.0) attachment attachments

closed_more : (files : List FileNo) (own file : FileNo) → eqb own.0 file.0 ≡ false
    → list_any (λ (f : FileNo). eqb f.0 file.0) (files ++ own ∷ []) ≡ list_any (λ (f : FileNo). eqb f.0 file.0) files
closed_more [] own file differ = rw differ refl
closed_more (f ∷ files) own file differ = ap (λ b. eqb f.0 file.0 || b) (closed_more files own file differ)

-- ---- each command

all_rows : {objects objects' : List Object} {areas areas' : List Area} {allowed allowed' : List AllowedRanges}
    {attachments attachments' : List Attachment} {tracked tracked' : List TrackedTable} {closed closed' : Bool}
    → objects ≡ objects' → areas ≡ areas' → allowed ≡ allowed' → attachments ≡ attachments' → tracked ≡ tracked'
    → closed ≡ closed'
    → (let rows : FileRows = record {
      objects = objects;
      areas = areas;
      allowed = allowed;
      attachments = attachments;
      tracked = tracked;
      closed = closed;
    } in rows) ≡ record {
      objects = objects';
      areas = areas';
      allowed = allowed';
      attachments = attachments';
      tracked = tracked';
      closed = closed';
    }
all_rows a b c d t e = rw (a, b, c, d, t, e) refl

-- where no page table is tracked anew or no more, and none is marked
same_rows : {objects objects' : List Object} {areas areas' : List Area} {allowed allowed' : List AllowedRanges}
    {attachments attachments' : List Attachment} {tracked : List TrackedTable} {closed closed' : Bool}
    → objects ≡ objects' → areas ≡ areas' → allowed ≡ allowed' → attachments ≡ attachments' → closed ≡ closed'
    → (let rows : FileRows = record {
      objects = objects;
      areas = areas;
      allowed = allowed;
      attachments = attachments;
      tracked = tracked;
      closed = closed;
    } in rows) ≡ record {
      objects = objects';
      areas = areas';
      allowed = allowed';
      attachments = attachments';
      tracked = tracked;
      closed = closed';
    }
same_rows a b c d e = all_rows a b c d refl e

-- and where that alone changes
same_but_tracked : {objects : List Object} {areas : List Area} {allowed : List AllowedRanges}
    {attachments : List Attachment} {tracked tracked' : List TrackedTable} {closed : Bool} → tracked ≡ tracked'
    → (let rows : FileRows = record {
      objects = objects;
      areas = areas;
      allowed = allowed;
      attachments = attachments;
      tracked = tracked;
      closed = closed;
    } in rows) ≡ record {
      objects = objects;
      areas = areas;
      allowed = allowed;
      attachments = attachments;
      tracked = tracked';
      closed = closed;
    }
same_but_tracked t = all_rows refl refl refl refl t refl

-- the allowed ranges are those of an address space of this file
abbrev are_of_file : FileNo → AllowedRanges → Bool
are_of_file file ranges = eqb ranges.file.0 file.0

-- what is of another file passes the test of what isn't this file's
stays : (own file : FileNo) (n : ℕ) (b : Bool) → own.0 ≢ file.0 → eqb n file.0 ≡ true → not (eqb n own.0 && b) ≡ true
stays own file n b differ is = grind (arith, nat_tests)

stays_too : (own file : FileNo) (n : ℕ) → own.0 ≢ file.0 → eqb n file.0 ≡ true → not (eqb n own.0) ≡ true
stays_too own file n differ is = grind (arith, nat_tests)

untouched : (own file : FileNo) (n : ℕ) (a b : Bool) → own.0 ≢ file.0 → eqb n file.0 ≡ true
    → ((eqb n own.0 && a) && b) ≡ false
untouched own file n a b differ is = grind (arith, nat_tests)

all_three : (p q r s : Bool) → p ≡ false → (((p && q) && r) && s) ≡ false
all_three p q r s is = rw is refl

files_differ : (own file : FileNo) (n : ℕ) → own.0 ≢ file.0 → eqb n file.0 ≡ true → eqb n own.0 ≡ false
files_differ own file n differ same = grind (arith, nat_tests)

-- ---- a device that is bound to another file

-- it isn't bound to this one
bound_elsewhere : (objects : List Object) (device : DeviceNo) (object : Object) (file : FileNo)
    → binding_of objects device ≡ Some object → object.file.0 ≢ file.0 → is_bound_to objects file device.0 ≡ false
bound_elsewhere objects device object file is differ = ap (is_of_file file) is ∙ other_file object.file file differ

-- so no debt of this file's areas is its own
no_debt : (objects : List Object) (file : FileNo) (device : ℕ) (owed : List ℕ) → is_bound_to objects file device ≡ false
    → list_all (is_bound_to objects file) owed ≡ true → without_device device owed ≡ owed
no_debt objects file device [] elsewhere all = refl
no_debt objects file device (d ∷ owed) elsewhere all =
    let parts = and_true (is_bound_to objects file d) (list_all (is_bound_to objects file) owed) all in
    by_test (eqb d device) refl parts.0 (no_debt objects file device owed elsewhere parts.1)
  where
    by_test : (b : Bool) → eqb d device ≡ b → is_bound_to objects file d ≡ true → without_device device owed ≡ owed
        → cond (not b) (d ∷ without_device device owed) (without_device device owed) ≡ d ∷ owed
    by_test true same here rest = let is = eqb-true d device same in let like = ap (is_bound_to objects file) is in cc
    by_test false other here rest = ap (λ ds. d ∷ ds) rest

paid_same : (objects : List Object) (file : FileNo) (device : DeviceNo) (phase : Phase)
    → is_bound_to objects file device.0 ≡ false → list_all (is_bound_to objects file) (owed_by [] phase) ≡ true
    → paid device phase ≡ phase
paid_same objects file device Live elsewhere all = refl
paid_same objects file device (Leaving owed tries) elsewhere all =
    ap (λ ds. Leaving ds tries) (no_debt objects file device.0 owed elsewhere all)

areas_paid : (w : World) (device : DeviceNo) (object : Object) (file : FileNo) → AreBound w
    → binding_of w.objects device ≡ Some object → object.file.0 ≢ file.0
    → filter (λ (a : Area). eqb a.file.0 file.0) (all_paid device w.areas) ≡ filter
    (λ (a : Area). eqb a.file.0 file.0) w.areas
areas_paid w device object file b is differ =
    filter_map_same (λ (a : Area). eqb a.file.0 file.0)
    (λ (a : Area). list_all (is_bound_to w.objects a.file) (owed_by [] a.phase))
    (λ (a : Area). with_phase (paid device a.phase) a) w.areas b.debts (λ a. refl)
    (λ a same debts. ap (λ phase. with_phase phase a)
    (paid_same w.objects a.file device a.phase
    (bound_elsewhere w.objects device object a.file is
    (λ here. differ (here ∙ eqb-true a.file.0 file.0 same))) debts))

-- the attachments of this file are not the device's
attachments_same : (w : World) (device : DeviceNo) (object : Object) (file : FileNo) → AreBound w
    → binding_of w.objects device ≡ Some object → object.file.0 ≢ file.0
    → filter (λ (a : Attachment). eqb a.file.0 file.0) (without_attachment device w.attachments) ≡ filter
    (λ (a : Attachment). eqb a.file.0 file.0) w.attachments
attachments_same w device object file b is differ =
    filter_filter_of (λ (a : Attachment). eqb a.file.0 file.0)
    (λ (a : Attachment). is_bound_to w.objects a.file a.device.0)
    (λ (a : Attachment). not (eqb a.device.0 device.0)) w.attachments b.attachments
    (λ a same bound. not_false _ (by_device a same bound (eqb a.device.0 device.0) refl))
  where
    by_device : (a : Attachment) → eqb a.file.0 file.0 ≡ true → is_bound_to w.objects a.file a.device.0 ≡ true
        → (d : Bool) → eqb a.device.0 device.0 ≡ d → d ≡ false
    by_device a same bound true here =
        let elsewhere = bound_elsewhere w.objects device object a.file is
        (λ files. differ (files ∙ eqb-true a.file.0 file.0 same)) in
        let like = ap (is_bound_to w.objects a.file) (eqb-true a.device.0 device.0 here) in
        cc
    by_device a same bound false here = refl

hwpt_same : (bound : FileNo) (ioas id : ObjId) (width : Width) (automatic : Option Object) (objects : List Object)
    (file : FileNo) → eqb bound.0 file.0 ≡ false
    → objects_of (with_hwpt bound ioas id width automatic objects) file ≡ objects_of objects file
hwpt_same bound ioas id width (Some object) objects file differ = refl
hwpt_same bound ioas id width None objects file differ =
    objects-with_object (record { file = bound; id = id; kind = kind.Hwpt ioas width true }) objects file differ

-- the page table that goes with its last device is of the device's file
goes_elsewhere : (others : List Attachment) (a : Attachment) (file : FileNo) (o : Object) → a.file.0 ≢ file.0
    → eqb o.file.0 file.0 ≡ true → not (goes_with others a o) ≡ true
goes_elsewhere others a file o differ same =
    not_false _ (all_three (eqb o.file.0 a.file.0) _ _ _ (files_differ a.file file o.file.0 differ same))

-- the device of an attachment is bound to its file
attached_file : (w : World) (device : DeviceNo) (object : Object) (a : Attachment) → AreBound w
    → binding_of w.objects device ≡ Some object → attachment_of w.attachments device ≡ Some a → object.file.0 ≡ a.file.0
attached_file w device object a b is found =
    let parts = found_passes (λ (a : Attachment). is_bound_to w.objects a.file a.device.0)
    (λ (a : Attachment). eqb a.device.0 device.0) w.attachments a b.attachments found in
    let same = eqb-true a.device.0 device.0 parts.1 in
    let bound = sym (ap (is_bound_to w.objects a.file) same) ∙ parts.0 in
    eqb-true object.file.0 a.file.0 (sym (ap (is_of_file a.file) is) ∙ bound)

-- ---- each event

-- another file's access object is attached or detached
accesses_stay : (own file : FileNo) (id : ObjId) (attached : Option ObjId) (objects : List Object) → own.0 ≢ file.0
    → filter (λ (o : Object). eqb o.file.0 file.0) (with_access own id attached objects)
    ≡ filter (λ (o : Object). eqb o.file.0 file.0) objects
accesses_stay own file id attached objects differ =
    filter_map_same (λ (o : Object). eqb o.file.0 file.0) (λ o. true) (reattached own id attached) objects (all objects)
    (λ o. ap (λ (f : FileNo). eqb f.0 file.0)
    (same_name attached o (reattached own id attached o) (reattached_is own id attached o)).0)
    (λ o same _. rw (untouched own file o.file.0 (eqb o.id.0 id.0) (is_access o.kind) differ same) refl)
  where
    all : (xs : List Object) → list_all (λ (o : Object). true) xs ≡ true
    all [] = refl
    all (o ∷ xs) = all xs

-- another file's page tables are tracked, marked or cleared
module _ (own file : FileNo) (hwpt : ObjId) (differ : own.0 ≢ file.0) where
  abbrev of_file : TrackedTable → Bool
  of_file table = eqb table.file.0 file.0

  abbrev named : TrackedTable → Bool
  named = is_tracked_as own hwpt

  not_named : (table : TrackedTable) → of_file table ≡ true → named table ≡ false
  not_named table same = rw (files_differ own file table.file.0 differ same) refl

  others_tracked : (tables : List TrackedTable) → filter of_file (without_tracked own hwpt tables) ≡ filter of_file tables
  others_tracked tables =
      filter_filter of_file (λ table. not (named table)) tables (λ table same. ap not (not_named table same))

  tracking_apart : (on : Bool) (tables : List TrackedTable)
      → filter of_file (with_tracking own hwpt on tables) ≡ filter of_file tables
  tracking_apart true tables = rw (other_file own file differ) (others_tracked tables)
  tracking_apart false tables = others_tracked tables

  all_tables : (tables : List TrackedTable) → list_all (λ (table : TrackedTable). true) tables ≡ true
  all_tables [] = refl
  all_tables (table ∷ tables) = all_tables tables

  -- other pages in the rows that are named
  pages_apart : (pages : TrackedTable → List ℕ) (tables : List TrackedTable)
      → filter of_file (map (λ (table : TrackedTable). cond (named table) (record table { pages = pages table }) table) tables)
      ≡ filter of_file tables
  pages_apart pages tables =
      filter_map_same of_file (λ table. true)
      (λ (table : TrackedTable). cond (named table) (record table { pages = pages table }) table) tables
      (all_tables tables) (λ table. by_name table (named table))
      (λ table same kept. ap (λ (b : Bool). cond b (record table { pages = pages table }) table) (not_named table same))
    where
      by_name : (table : TrackedTable) (b : Bool)
          → of_file (cond b (record table { pages = pages table }) table) ≡ of_file table
      by_name table true = refl
      by_name table false = refl

phase_stays : (a : Area) (touched : Bool) (new : Phase) → touched ≡ false → with_phase (cond touched new a.phase) a ≡ a
phase_stays a touched new is = rw is refl

is_bound : (w : World) (device : DeviceNo) → is_none (binding_of w.objects device) ≡ false
    → (object : Object) × (binding_of w.objects device ≡ Some object)
is_bound w device some = by_option (binding_of w.objects device) refl some
  where
    by_option : (o : Option Object) → binding_of w.objects device ≡ o → is_none o ≡ false
        → (object : Object) × (binding_of w.objects device ≡ Some object)
    by_option None is some = absurd (true≢false some)
    by_option (Some object) is some = (object, is)

-- the event isn't of the file that its device is bound to, if that is this one
elsewhere : (w : World) (device : DeviceNo) (object : Object) (file : FileNo)
    → ((own : FileNo) → file_of_device w device ≡ Some own → own.0 ≢ file.0) → binding_of w.objects device ≡ Some object
    → object.file.0 ≢ file.0
elsewhere w device object file another is =
    another object.file (ap (λ o. elim o [ Some bound ↦ Some bound.file | None ↦ None ]) is)

pub keeps_others : {A : Type 0} → (at : ℕ) (w : World) (e : Event A) (answer : Reply) (file : FileNo) → AreBound w
    → refusal w e ≡ None → IsOfAnother w e file → rows_of file (changed at w e answer) ≡ rows_of file w
unfolding changed settle without_areas attached detached joined
keeps_others at w (event.IoasAlloc f) (reply.Id id) file b none another =
    same_rows (objects-with_object _ w.objects file (other_file f file (another f refl))) refl refl refl refl
keeps_others at w (event.AllowIovas f ioas ranges) reply.Done file b none another =
    let before : filter (are_of_file file) (without_allowed f ioas w.allowed) ≡ filter (are_of_file file) w.allowed =
    filter_filter _ _ w.allowed (λ r same. stays f file r.file.0 _ (another f refl) same) in
    let gone : filter (are_of_file file) (with_allowed f ioas ranges w.allowed) ≡ filter (are_of_file file) w.allowed =
    rw (filter, other_file f file (another f refl)) before in
    same_rows refl refl gone refl refl
keeps_others at w (event.Map f request) (reply.Iova iova) file b none another =
    by_found (λ user. rows_of file (map_changes at w f request iova user) ≡ rows_of file w) (user_of w.settings f) refl
    (λ user is. same_rows refl (areas-with_area (mapped_area at f request iova) w.areas file
    (other_file f file (another f refl))) refl refl refl)
keeps_others at w (event.Copy f request) (reply.Iova iova) file b none another =
    by_found (λ source. rows_of file (copy_changes w f request iova source) ≡ rows_of file w)
    (source_area w f request) refl (λ source is. same_rows refl
    (areas-with_area (mapped_area source.memory f (placed_as request) iova) w.areas file
    (other_file f file (another f refl))) refl refl refl)
keeps_others at w (event.Unmap f request) (reply.Bytes count) file b none another =
    same_rows refl (filter_filter _ _ w.areas
    (λ a same. not_false _ (untouched f file a.file.0 _ _ (another f refl) same))) refl refl refl
keeps_others at w (event.Unmap f request) (reply.Pending errno) file b none another =
    same_rows refl
    (filter_map_same _ (λ (a : Area). list_all (is_bound_to w.objects a.file) (owed_by [] a.phase))
    (λ (a : Area). with_phase (cond (is_touched f request a)
    (tried (touched_tries w.areas f request) (leaving (devices_of w.objects w.attachments f request.ioas) a.phase))
    a.phase) a) w.areas
    b.debts (λ a. refl) (λ a same _. phase_stays a (is_touched f request a) _
    (untouched f file a.file.0 _ _ (another f refl) same)))
    refl refl refl
keeps_others at w (event.HwptAlloc f request) (reply.Id id) file b none another =
    by_found (λ settings. rows_of file (hwpt_changes w f request.ioas id settings) ≡ rows_of file w)
    (settings_under w.settings w.objects f request.device) refl (λ settings is. same_rows
    (objects-with_object _ w.objects file (other_file f file (another f refl))) refl refl refl refl)
keeps_others at w (event.Destroy f id) reply.Done file b none another =
    all_rows (filter_filter _ _ w.objects (λ o same. stays f file o.file.0 _ (another f refl) same))
    (filter_filter _ _ w.areas (λ a same. stays f file a.file.0 _ (another f refl) same))
    (filter_filter _ _ w.allowed (λ r same. stays f file r.file.0 _ (another f refl) same))
    refl (others_tracked f file id (another f refl) w.tracked) refl
keeps_others at w (event.Close f) reply.Done file b none another =
    all_rows
    (filter_filter _ _ w.objects (λ o same. stays_too f file o.file.0 (another f refl) same))
    (filter_filter _ _ w.areas (λ a same. stays_too f file a.file.0 (another f refl) same))
    (filter_filter _ _ w.allowed (λ r same. stays_too f file r.file.0 (another f refl) same))
    (filter_filter _ _ w.attachments (λ a same. stays_too f file a.file.0 (another f refl) same))
    (filter_filter _ _ w.tracked (λ t same. stays_too f file t.file.0 (another f refl) same))
    (closed_more w.closed f file (other_file f file (another f refl)))
keeps_others at w (event.UserMap user va) (reply.Frame frame) file b none another = refl
keeps_others at w (event.UserUnmap user va) reply.Done file b none another = refl
keeps_others at w (event.UserWrite user va bytes) reply.Done file b none another = refl
keeps_others at w (event.Bind f device) (reply.Id id) file b none another =
    same_rows (objects-with_object _ w.objects file (other_file f file (another f refl))) refl refl refl refl
keeps_others at w (event.Unbind f id) reply.Done file b none another =
    same_rows (filter_filter _ _ w.objects (λ o same. not_false _
    (untouched f file o.file.0 _ _ (another f refl) same))) refl refl refl refl
keeps_others at w (event.Attach device pt_id) (reply.Id id) file b none another =
    by_target w device pt_id id (λ new. rows_of file new ≡ rows_of file w) (λ nowhere. refl)
    (λ object d bound known space made.
    let differ = elsewhere w device object file another bound in
    same_rows
    (hwpt_same object.file pt_id id d.width (automatic_hwpt w.objects object.file pt_id d.width) w.objects file
    (other_file object.file file differ))
    (areas_paid w device object file b bound differ)
    refl
    (attachments-with_attachment_other _ w.attachments file (other_file object.file file differ))
    refl)
    (λ object d ioas width automatic bound known table same.
    let differ = elsewhere w device object file another bound in
    same_rows refl (areas_paid w device object file b bound differ) refl
    (attachments-with_attachment_other _ w.attachments file (other_file object.file file differ)) refl)
keeps_others at w (event.Detach device) reply.Done file b none another =
    let (object, bound) = is_bound w device (detach_passed (view w) device none).bound in
    by_attachment w device (λ new. rows_of file new ≡ rows_of file w) refl (λ a found.
    let differ = elsewhere w device object file another bound in
    let own = attached_file w device object a b bound found in
    let apart = λ (here : a.file.0 ≡ file.0). differ (own ∙ here) in
    all_rows
    (filter_filter _ _ w.objects (λ o same. goes_elsewhere (without_attachment device w.attachments) a file o apart
    same))
    (areas_paid w device object file b bound differ)
    refl
    (attachments_same w device object file b bound differ)
    (gone_apart a apart (list_any (goes_with (without_attachment device w.attachments) a) w.objects))
    refl)
  where
    gone_apart : (a : Attachment) → a.file.0 ≢ file.0 → (goes : Bool)
        → filter (λ (t : TrackedTable). eqb t.file.0 file.0) (cond goes (without_tracked a.file a.hwpt w.tracked) w.tracked)
        ≡ filter (λ (t : TrackedTable). eqb t.file.0 file.0) w.tracked
    gone_apart a apart true = others_tracked a.file file a.hwpt apart w.tracked
    gone_apart a apart false = refl
keeps_others at w (event.Flush device) reply.Done file b none another =
    let bound = is_bound w device (flush_passed (view w) device none) in
    same_rows refl (areas_paid w device bound.0 file b bound.1 (elsewhere w device bound.0 file another bound.1)) refl
    refl refl
keeps_others at w (event.DeviceWrite device iova bytes) (reply.Passed frame) file b none another =
    let (object, bound) = is_bound w device (write_passed (view w) device iova bytes none).bound in
    same_but_tracked (by_attached object bound (attachment_of w.attachments device) refl)
  where
    by_attached : (object : Object) → binding_of w.objects device ≡ Some object → (o : Option Attachment)
        → attachment_of w.attachments device ≡ o
        → filter (λ (t : TrackedTable). eqb t.file.0 file.0) (marked_by o (page_of iova.0) w.tracked)
        ≡ filter (λ (t : TrackedTable). eqb t.file.0 file.0) w.tracked
    by_attached object bound None is = refl
    by_attached object bound (Some a) is =
        let own = attached_file w device object a b bound is in
        pages_apart a.file file a.hwpt (λ here. elsewhere w device object file another bound (own ∙ here))
        (λ table. page_of iova.0 ∷ table.pages) w.tracked
keeps_others at w (event.AccessCreate f) (reply.Id id) file b none another =
    same_rows (objects-with_object _ w.objects file (other_file f file (another f refl))) refl refl refl refl
keeps_others at w (event.AccessAttach f id ioas) reply.Done file b none another =
    same_rows (accesses_stay f file id (Some ioas) w.objects (another f refl)) refl refl refl refl
keeps_others at w (event.AccessDetach f id) reply.Done file b none another =
    same_rows (accesses_stay f file id None w.objects (another f refl)) refl refl refl refl
keeps_others at w (event.AccessPin f id request) reply.Done file b none another = refl
keeps_others at w (event.AccessUnpin f id request) reply.Done file b none another = refl
keeps_others at w (event.AccessWrite f id iova bytes) reply.Done file b none another = refl
keeps_others at w (event.DirtyEnable f hwpt on) reply.Done file b none another =
    same_but_tracked (tracking_apart f file hwpt (another f refl) on w.tracked)
keeps_others at w (event.DirtyClear f request) (reply.Dirty words) file b none another =
    same_but_tracked (pages_apart f file request.hwpt (another f refl)
    (λ table. filter (λ page. not (is_page_of (reported_span request) page)) table.pages) w.tracked)
keeps_others at w e answer file b none another = refl

pub after_keeps_others : {A : Type 0} (at : ℕ) (w : World) (r : Record A) (file : FileNo) → AreBound w
    → IsOfAnother w r.event file → rows_of file (after at w r) ≡ rows_of file w
unfolding after with_tables
after_keeps_others at w r file b another = by_refusal (refusal w r.event) refl
  where
    by_refusal : (o : Option Cause) → refusal w r.event ≡ o → rows_of file (after_answer at w r o) ≡ rows_of file w
    by_refusal (Some cause) is = refl
    by_refusal None is = keeps_others at w r.event r.reply file b is another

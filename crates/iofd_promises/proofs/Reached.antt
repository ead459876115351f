-- What the policy lets pass has an area, a right, a page table and a pin; what it denies has no mapped area.
use Rattle.std.proofs.Common.{◌≡◌, ℕ, zero, suc, ◌-◌, ◌/◌, ◌^◌, Bool, true, false, cond, ◌&&◌, ◌||◌, eqb, leb, ltb}
use Rattle.std.proofs.Common.{Option, Some, None, List, [], ◌∷◌, ◌++◌, Contains, refl, ap, sym, subst, arith, ◌⊎◌, inl}
use Rattle.std.proofs.Common.{inr}
use Rattle.std.specs.List.{find}
use Rattle.std.proofs.lemmas.Bool.{eqb-true}
use Rattle.std.proofs.lemmas.Bool.Decides.{nat_tests}
use Rattle.iofd_words.specs.Areas.{area_at, areas_of, is_of}
use Rattle.iofd_words.specs.Attachments.{attachment_of, ioas_of_attachment}
use Rattle.iofd_words.specs.DeviceSet.{has_device}
use Rattle.iofd_words.specs.Fault.{denied_by}
use Rattle.iofd_words.specs.Files.{device_of}
use Rattle.iofd_words.specs.Pins.{is_page, page_of_pin, pinned_frame}
use Rattle.iofd_words.specs.Policy.{Outcome, Passes, Denied, access_outcomes, at_area, by_phase, by_width, outcomes}
use Rattle.iofd_words.specs.Policy.{page_in, passing, translated}
use Rattle.iofd_words.specs.Rights.{has_right}
use Rattle.iofd_words.specs.Settings.{DeviceSettings}
use Rattle.iofd_words.specs.Span.{holds}
use Rattle.iofd_words.specs.View.{view}
use Rattle.iofd_words.specs.Width.{bits_of}
use Rattle.iofd_words.specs.World.{World}
use Rattle.iofd_words.specs.declared.fault.AccessKind.{AccessKind}
use Rattle.iofd_words.specs.declared.fault.AccessKind.TheVariants.{Read, Write}
use Rattle.iofd_words.specs.declared.fault.FaultReason.{FaultReason}
use Rattle.iofd_words.specs.declared.fault.FaultReason.TheVariants.{NoContext, BeyondWidth}
use Rattle.iofd_words.specs.declared.numbers.DeviceNo.{DeviceNo}
use Rattle.iofd_words.specs.declared.numbers.FrameNo.{FrameNo}
use Rattle.iofd_words.specs.declared.numbers.ObjId.{ObjId}
use Rattle.iofd_words.specs.declared.rows.Area.{Area}
use Rattle.iofd_words.specs.declared.rows.Attachment.{Attachment}
use Rattle.iofd_words.specs.declared.rows.ObjectKind.TheVariants as kind
use Rattle.iofd_words.specs.declared.rows.Phase.{Phase}
use Rattle.iofd_words.specs.declared.rows.Phase.TheVariants.{Live, Leaving}
use Rattle.iofd_words.specs.declared.rows.Pin.{Pin}
use Rattle.iofd_rows.proofs.Bools.{and_true}
use Rattle.iofd_rows.proofs.Each.{IsIn, in_filter, in_found, of_each}
use Rattle.iofd_rows.proofs.Named.{file_is, id_is, object_of_kind}
use Rattle.iofd_rows.proofs.Owed.{table_of}
use Rattle.iofd_runs.specs.Fits.{RowsFit, has_rights}
use Rattle.iofd_promises.specs.Reaches.{IsOver, MayUse, Reaches, TranslatesBy, lets}
use Rattle.iofd_promises.proofs.Rows.{contains}

-- ---- rights

pub lets_right : (access : AccessKind) (r : ℕ) → (ltb 0 r && ltb r 4) ≡ true
    → has_right (record { 0 = r }) access ≡ true → lets access r ≡ true
lets_right access zero range is = cc
lets_right Read (suc zero) range is = refl
lets_right Read (suc (suc zero)) range is = cc
lets_right Read (suc (suc (suc zero))) range is = refl
lets_right Write (suc zero) range is = cc
lets_right Write (suc (suc zero)) range is = refl
lets_right Write (suc (suc (suc zero))) range is = refl
lets_right access (suc (suc (suc (suc r)))) range is = absurd (search (range, arith, nat_tests))

pub has_lets : (access : AccessKind) (r : ℕ) → lets access r ≡ true → has_right (record { 0 = r }) access ≡ true
has_lets Read zero is = cc
has_lets Write zero is = cc
has_lets Read (suc zero) is = refl
has_lets Read (suc (suc zero)) is = cc
has_lets Read (suc (suc (suc zero))) is = refl
has_lets Write (suc zero) is = cc
has_lets Write (suc (suc zero)) is = refl
has_lets Write (suc (suc (suc zero))) is = refl
has_lets access (suc (suc (suc (suc r)))) is = absurd (beyond access r is)
  where
    beyond : (access : AccessKind) (r : ℕ) → lets access (suc (suc (suc (suc r)))) ≡ true → ⊥
    beyond Read r is = search (is, arith, nat_tests)
    beyond Write r is = search (is, arith, nat_tests)

-- ---- rows that are found

pub device_is : (a b : DeviceNo) → eqb a.0 b.0 ≡ true → a ≡ b
device_is a b is = let same = eqb-true a.0 b.0 is in ap (λ (n : ℕ). record { 0 = n }) same

translates : (w : World) (device : DeviceNo) (a : Attachment) (ioas : ObjId)
    → attachment_of w.attachments device ≡ Some a → ioas_of_attachment w.objects a ≡ Some ioas
    → TranslatesBy w device a.file ioas
translates w device a ioas found over =
    let (within, same) = in_found (λ (b : Attachment). eqb b.device.0 device.0) w.attachments a found in
    let (width, automatic, table) = table_of w.objects a ioas over in
    let (object, first, listed, of_file, of_id, of_kind) =
    object_of_kind w.objects a.file a.hwpt (kind.Hwpt ioas width automatic) table in
    record {
      attachment = a;
      attached = contains w.attachments a within;
      of_device = device_is a.device device same;
      of_file = refl;
      table = object;
      there = contains w.objects object listed;
      table_file = of_file;
      table_id = of_id;
      width = width;
      automatic = automatic;
      over = of_kind;
    }

-- ---- what passes

no_pass : (reason : FaultReason) (frame : FrameNo) → Denied reason ≡ Passes frame → ⊥
no_pass reason frame is = cc

-- where nothing but a denial may come of it
denied_only : (reason : FaultReason) (frame : FrameNo) → IsIn (Denied reason ∷ []) (Passes frame) → ⊥
denied_only reason frame (inl is) = no_pass reason frame is
denied_only reason frame (inr never) = never

in_first : (xs : List Outcome) (reason : FaultReason) (frame : FrameNo) → IsIn (xs ++ Denied reason ∷ []) (Passes frame)
    → IsIn xs (Passes frame)
in_first [] reason frame within = absurd (denied_only reason frame within)
in_first (x ∷ xs) reason frame (inl is) = inl is
in_first (x ∷ xs) reason frame (inr later) = inr (in_first xs reason frame later)

module _ (w : World) (fits : RowsFit w) (device : DeviceNo) (address : ℕ) (access : AccessKind) (frame : FrameNo) where
  by_pin : (area : Area) → IsOver w device address access area → MayUse device area.phase
      → IsIn (passing (pinned_frame w.pins (page_in area address))) (Passes frame)
      → Reaches w device address access frame
  by_pin area over phase within =
      by_found (find (λ (pin : Pin). is_page (page_of_pin pin) (page_in area address)) w.pins) refl within
    where
      by_found : (o : Option Pin) → find (λ (pin : Pin). is_page (page_of_pin pin) (page_in area address)) w.pins ≡ o
          → IsIn (passing (elim o [ Some pin ↦ Some pin.frame | None ↦ None ])) (Passes frame)
          → Reaches w device address access frame
      by_found None found within = absurd within
      by_found (Some pin) found (inr never) = absurd never
      by_found (Some pin) found (inl is) =
          let (listed, passes) =
          in_found (λ (pin : Pin). is_page (page_of_pin pin) (page_in area address)) w.pins pin found in
          let parts =
          and_true (eqb pin.memory area.memory) (eqb pin.index ((address - area.span.first) / 4096)) passes in
          record {
            area = area;
            over = over;
            phase = phase;
            pin = pin;
            pinned = contains w.pins pin listed;
            object = eqb-true pin.memory area.memory parts.0;
            page = eqb-true pin.index ((address - area.span.first) / 4096) parts.1;
            frame_is = cc;
          }

  owes : (owed : List ℕ) → has_device owed device.0 ≡ true → Contains owed device.0
  owes owed has = contains owed device.0 (listed owed has)
    where
      listed : (owed : List ℕ) → has_device owed device.0 ≡ true → IsIn owed device.0
      listed [] has = cc
      listed (d ∷ owed) has = by_test (eqb d device.0) refl has (listed owed)
        where
          by_test : (b : Bool) → eqb d device.0 ≡ b → (b || has_device owed device.0) ≡ true
              → (has_device owed device.0 ≡ true → IsIn owed device.0) → (d ≡ device.0) ⊎ IsIn owed device.0
          by_test true is has later = inl (eqb-true d device.0 is)
          by_test false is has later = inr (later has)

  by_its_phase : (area : Area) → IsOver w device address access area → (phase : Phase) → area.phase ≡ phase
      → IsIn (by_phase device phase (passing (pinned_frame w.pins (page_in area address))) (Denied (denied_by access)
      ∷ [])) (Passes frame) → Reaches w device address access frame
  by_its_phase area over Live is within = by_pin area over (subst (MayUse device) (sym is) tt) within
  by_its_phase area over (Leaving owed tries) is within = by_test (has_device owed device.0) refl within
    where
      by_test : (b : Bool) → has_device owed device.0 ≡ b
          → IsIn (cond b (passing (pinned_frame w.pins (page_in area address)) ++ Denied (denied_by access) ∷ [])
          (Denied (denied_by access) ∷ [])) (Passes frame) → Reaches w device address access frame
      by_test true has within = by_pin area over (subst (MayUse device) (sym is) (owes owed has))
          (in_first (passing (pinned_frame w.pins (page_in area address))) (denied_by access) frame within)
      by_test false has within = absurd (denied_only (denied_by access) frame within)

  by_area : (a : Attachment) (ioas : ObjId) → TranslatesBy w device a.file ioas → (o : Option Area)
      → area_at address (areas_of w.areas a.file ioas) ≡ o
      → IsIn (at_area (pinned_frame w.pins) device address access o) (Passes frame)
      → Reaches w device address access frame
  by_area a ioas by None found within = absurd (denied_only (denied_by access) frame within)
  by_area a ioas by (Some area) found within = by_right (has_right area.rights access) refl within
    where
      over : has_right area.rights access ≡ true → IsOver w device address access area
      over right =
          let (own, held) = in_found (λ (x : Area). holds x.span address) (areas_of w.areas a.file ioas) area found in
          let (listed, of_space) = in_filter (is_of a.file ioas) w.areas area own in
          let names = and_true (eqb area.file.0 a.file.0) (eqb area.ioas.0 ioas.0) of_space in
          let ends = and_true (leb area.span.first address) (leb address area.span.last) held in
          record {
            there = contains w.areas area listed;
            translates = rw (file_is area.file a.file names.0, id_is area.ioas ioas names.1) by;
            first = search (ends.0, arith, nat_tests);
            last = search (ends.1, arith, nat_tests);
            right = lets_right access area.rights.0 (of_each has_rights w.areas area fits.rights listed) right;
          }

      by_right : (b : Bool) → has_right area.rights access ≡ b
          → IsIn (cond b (by_phase device area.phase (passing (pinned_frame w.pins (page_in area address)))
          (Denied (denied_by access) ∷ [])) (Denied (denied_by access) ∷ [])) (Passes frame)
          → Reaches w device address access frame
      by_right true right within = by_its_phase area (over right) area.phase refl within
      by_right false right within = absurd (denied_only (denied_by access) frame within)

  by_space : (a : Attachment) → attachment_of w.attachments device ≡ Some a → (o : Option ObjId)
      → ioas_of_attachment w.objects a ≡ o
      → IsIn (elim o [
        | Some ioas ↦ at_area (pinned_frame w.pins) device address access
            (area_at address (areas_of w.areas a.file ioas))
        | None ↦ Denied (denied_by access)
            ∷ []
      ]) (Passes frame) → Reaches w device address access frame
  by_space a found None space within = absurd (denied_only (denied_by access) frame within)
  by_space a found (Some ioas) space within =
      by_area a ioas (translates w device a ioas found space)
      (area_at address (areas_of w.areas a.file ioas)) refl within

  below : (o : Option DeviceSettings) (xs : List Outcome)
      → IsIn (by_width o address (Denied BeyondWidth ∷ []) xs) (Passes frame) → IsIn xs (Passes frame)
  below None xs within = within
  below (Some d) xs within = by_test (leb (2 ^ bits_of d.width) address) within
    where
      by_test : (b : Bool) → IsIn (cond b (Denied BeyondWidth ∷ []) xs) (Passes frame) → IsIn xs (Passes frame)
      by_test true within = absurd (denied_only BeyondWidth frame within)
      by_test false within = within

  pub reached : IsIn (outcomes w device address access) (Passes frame) → Reaches w device address access frame
  unfolding outcomes access_outcomes
  reached within = by_attachment (attachment_of w.attachments device) refl within
    where
      by_attachment : (o : Option Attachment) → attachment_of w.attachments device ≡ o
          → IsIn (elim o [
            | None ↦ Denied NoContext ∷ []
            | Some a ↦ by_width (device_of w.settings device) address (Denied BeyondWidth ∷ [])
                (translated (view w) device address access a)
          ]) (Passes frame)
          → Reaches w device address access frame
      by_attachment None found within = absurd (denied_only NoContext frame within)
      by_attachment (Some a) found within =
          by_space a found (ioas_of_attachment w.objects a) refl (below (device_of w.settings device) _ within)

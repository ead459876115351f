-- Where a mapped area is over the address, with the right, an access isn't denied.
use Rattle.std.proofs.Common.{◌≡◌, ◌<◌, ◌≤◌, ℕ, ◌^◌, Bool, true, false, cond, ◌&&◌, not, eqb, leb, Option, Some, None}
use Rattle.std.proofs.Common.{List, [], ◌∷◌, refl, ap, sym, ◌∙◌, subst, arith, ◌⊎◌, inl, inr}
use Rattle.std.specs.List.{list_all, list_any}
use Rattle.std.proofs.lemmas.Bool.Decides.{nat_tests}
use Rattle.iofd_words.specs.Areas.{area_at, areas_of, is_of, meets_area}
use Rattle.iofd_words.specs.Attachments.{attachment_of, ioas_of, ioas_of_attachment}
use Rattle.iofd_words.specs.Fault.{denied_by}
use Rattle.iofd_words.specs.Bounds.{Bounds}
use Rattle.iofd_words.specs.Files.{device_of}
use Rattle.iofd_words.specs.Objects.{kind_of}
use Rattle.iofd_words.specs.Pins.{pinned_frame}
use Rattle.iofd_words.specs.Policy.{Outcome, Denied, access_outcomes, at_area, by_phase, by_width, outcomes, page_in}
use Rattle.iofd_words.specs.Policy.{passing, translated}
use Rattle.iofd_words.specs.Rights.{has_right}
use Rattle.iofd_words.specs.Settings.{DeviceSettings, Settings}
use Rattle.iofd_words.specs.Span.{holds, meets}
use Rattle.iofd_words.specs.View.{view}
use Rattle.iofd_words.specs.Width.{bits_of}
use Rattle.iofd_words.specs.World.{World}
use Rattle.iofd_words.specs.declared.fault.AccessKind.{AccessKind}
use Rattle.iofd_words.specs.declared.fault.FaultReason.{FaultReason}
use Rattle.iofd_words.specs.declared.fault.FaultReason.TheVariants.{BeyondWidth, NoContext}
use Rattle.iofd_words.specs.declared.numbers.DeviceNo.{DeviceNo}
use Rattle.iofd_words.specs.declared.numbers.FileNo.{FileNo}
use Rattle.iofd_words.specs.declared.numbers.FrameNo.{FrameNo}
use Rattle.iofd_words.specs.declared.numbers.ObjId.{ObjId}
use Rattle.iofd_words.specs.declared.rows.Area.{Area}
use Rattle.iofd_words.specs.declared.rows.Attachment.{Attachment}
use Rattle.iofd_words.specs.declared.rows.Object.{Object}
use Rattle.iofd_words.specs.declared.rows.ObjectKind.{ObjectKind}
use Rattle.iofd_words.specs.declared.rows.ObjectKind.TheVariants as kind
use Rattle.iofd_words.specs.declared.rows.Phase.{Phase}
use Rattle.iofd_words.specs.declared.rows.Phase.TheVariants.{Live}
use Rattle.iofd_words.specs.declared.width.Width.{Width}
use Rattle.iofd_rows.proofs.Bools.{and_true, both_true, clash, not_true}
use Rattle.iofd_rows.proofs.Each.{IsIn}
use Rattle.iofd_rows.proofs.ListTests.{any-filter}
use Rattle.iofd_rows.proofs.Moves.{found_once}
use Rattle.iofd_rows.proofs.Named.{kind_only}
use Rattle.iofd_rows.proofs.Unusable.{each_not}
use Rattle.iofd_runs.specs.Apart.{are_apart}
use Rattle.iofd_runs.proofs.KeepsUsable.{UsableSound}
use Rattle.iofd_promises.specs.Reaches.{IsOver}
use Rattle.iofd_promises.proofs.Reached.{has_lets}
use Rattle.iofd_promises.proofs.Rows.{within}
use Rattle.iofd_promises.proofs.Spans.{below_width, is_bounded}
use Rattle.iofd_promises.proofs.KeepsWidths.{WidthSound}

-- ---- the area that holds an address is the only one

pub meet_at : (a b : Bounds) (n : ℕ) → holds a n ≡ true → holds b n ≡ true → meets a b ≡ true
meet_at a b n first second =
    let one = and_true (leb a.first n) (leb n a.last) first in
    let two = and_true (leb b.first n) (leb n b.last) second in
    let begins : leb a.first b.last ≡ true = search (one.0, two.1, arith, nat_tests) in
    let ends : leb b.first a.last ≡ true = search (two.0, one.1, arith, nat_tests) in
    both_true _ _ begins ends

same_space : (file : FileNo) (ioas : ObjId) (x y : Area) → is_of file ioas x ≡ true → is_of file ioas y ≡ true
    → is_of x.file x.ioas y ≡ true
same_space file ioas x y first second =
    let one = and_true (eqb x.file.0 file.0) (eqb x.ioas.0 ioas.0) first in
    let two = and_true (eqb y.file.0 file.0) (eqb y.ioas.0 ioas.0) second in
    let files : eqb y.file.0 x.file.0 ≡ true = search (one.0, two.0, arith, nat_tests) in
    let spaces : eqb y.ioas.0 x.ioas.0 ≡ true = search (one.1, two.1, arith, nat_tests) in
    both_true _ _ files spaces

pub only_area : (areas : List Area) (file : FileNo) (ioas : ObjId) (address : ℕ) (area : Area) → are_apart areas ≡ true
    → IsIn areas area → is_of file ioas area ≡ true → holds area.span address ≡ true
    → area_at address (areas_of areas file ioas) ≡ Some area
only_area [] file ioas address area apart within own held = absurd within
only_area (x ∷ areas) file ioas address area apart within own held =
    by_tests (is_of file ioas x) (holds x.span address) refl refl within
    (λ later. only_area areas file ioas address area parts.1 later own held)
  where
    parts : (not (meets_area areas x.file x.ioas x.span) ≡ true) × (are_apart areas ≡ true)
    parts = and_true (not (meets_area areas x.file x.ioas x.span)) (are_apart areas) apart

    alone : is_of file ioas x ≡ true → holds x.span address ≡ true → IsIn areas area → ⊥
    alone own_x held_x later =
        let none : list_any (λ (y : Area). is_of x.file x.ioas y && meets y.span x.span) areas ≡ false =
        sym (any-filter (λ (y : Area). meets y.span x.span) (is_of x.file x.ioas) areas) ∙ not_true _ parts.0 in
        clash _ (each_not (λ (y : Area). is_of x.file x.ioas y && meets y.span x.span) areas area none later)
        (both_true _ _ (same_space file ioas x area own_x own) (meet_at area.span x.span address held held_x))

    by_tests : (a b : Bool) → is_of file ioas x ≡ a → holds x.span address ≡ b → (x ≡ area) ⊎ IsIn areas area
        → (IsIn areas area → area_at address (areas_of areas file ioas) ≡ Some area)
        → area_at address (cond a (x ∷ areas_of areas file ioas) (areas_of areas file ioas)) ≡ Some area
    by_tests false b own_x held_x (inl same) later = absurd (clash _ (rw same at own_x) own)
    by_tests false b own_x held_x (inr rest) later = later rest
    by_tests true false own_x held_x (inl same) later = absurd (clash _ (rw same at held_x) held)
    by_tests true false own_x held_x (inr rest) later =
        ap (λ (b : Bool). cond b (Some x) (area_at address (areas_of areas file ioas))) held_x ∙ later rest
    by_tests true true own_x held_x (inl same) later =
        ap (λ (b : Bool). cond b (Some x) (area_at address (areas_of areas file ioas))) held_x ∙ ap Some same
    by_tests true true own_x held_x (inr rest) later = absurd (alone own_x held_x rest)

-- ---- no denial

pass_only : (o : Option FrameNo) (reason : FaultReason) → IsIn (passing o) (Denied reason) → ⊥
pass_only None reason never = never
pass_only (Some frame) reason (inl is) = cc
pass_only (Some frame) reason (inr never) = never

no_beyond : (o : Option DeviceSettings) (address : ℕ) (reason : FaultReason) (xs : List Outcome)
    → ((d : DeviceSettings) → o ≡ Some d → address < 2 ^ bits_of d.width)
    → IsIn (by_width o address (Denied BeyondWidth ∷ []) xs) (Denied reason) → IsIn xs (Denied reason)
no_beyond None address reason xs below there = there
no_beyond (Some d) address reason xs below there = rw (inside (below d refl)) at there
  where
    inside : address < 2 ^ bits_of d.width → leb (2 ^ bits_of d.width) address ≡ false
    inside less = search (less, arith, nat_tests)

-- by its rows: the attachment, the page table and the area
module _ (settings : Settings) (w : World) (widths : WidthSound settings w) (usable : UsableSound w)
    (apart : are_apart w.areas ≡ true) (bounded : list_all is_bounded w.areas ≡ true)
    (device : DeviceNo) (address : ℕ) (access : AccessKind) (area : Area) (area_in : IsIn w.areas area)
    (live : area.phase ≡ Live) (first : area.span.first ≤ address) (last : address ≤ area.span.last)
    (right : has_right area.rights access ≡ true)
    (a : Attachment) (a_in : IsIn w.attachments a) (of_device : a.device ≡ device) (of_file : a.file ≡ area.file)
    (table : Object) (table_in : IsIn w.objects table) (table_file : table.file ≡ area.file)
    (table_id : table.id ≡ a.hwpt) (width : Width) (automatic : Bool)
    (is_table : table.kind ≡ kind.Hwpt area.ioas width automatic) where
  found : attachment_of w.attachments device ≡ Some a
  found = subst (λ (d : DeviceNo). attachment_of w.attachments d ≡ Some a) of_device
      (found_once w.attachments a usable.sound.debts.once a_in)

  named : kind_of w.objects a.file a.hwpt ≡ Some (kind.Hwpt area.ioas width automatic)
  named =
      let own = kind_only w.objects table usable.sound.own_ids table_in in
      let by_id = subst (λ (i : ObjId). kind_of w.objects table.file i ≡ Some table.kind) table_id own in
      subst (λ (f : FileNo). kind_of w.objects f a.hwpt ≡ Some table.kind) (table_file ∙ sym of_file) by_id
      ∙ ap Some is_table

  space : ioas_of_attachment w.objects a ≡ Some area.ioas
  space = ap (λ (o : Option ObjectKind). elim o [ Some k ↦ ioas_of k | None ↦ None ]) named

  below : (d : DeviceSettings) → device_of w.settings device ≡ Some d → address < 2 ^ bits_of d.width
  below d is =
      let known : device_of settings a.device ≡ Some d =
      subst (λ (s : Settings). device_of s a.device ≡ Some d) widths.opened
      (subst (λ (n : DeviceNo). device_of w.settings n ≡ Some d) (sym of_device) is) in
      let same = widths.widths a a_in d area.ioas width automatic known named in
      let ends = below_width w area table width automatic usable.areas bounded area_in table_in table_file is_table in
      subst (λ (bits : ℕ). address < 2 ^ bits) (sym same) (search (arith, ends, last))

  held : holds area.span address ≡ true
  held =
      let begins : leb area.span.first address ≡ true = search (first, arith, nat_tests) in
      let ends : leb address area.span.last ≡ true = search (last, arith, nat_tests) in
      both_true _ _ begins ends

  own : is_of a.file area.ioas area ≡ true
  own =
      let file : eqb area.file.0 a.file.0 ≡ true =
      subst (λ (f : FileNo). eqb area.file.0 f.0 ≡ true) (sym of_file) (search (arith, nat_tests)) in
      let ioas : eqb area.ioas.0 area.ioas.0 ≡ true = search (arith, nat_tests) in
      both_true _ _ file ioas

  at : area_at address (areas_of w.areas a.file area.ioas) ≡ Some area
  at = only_area w.areas a.file area.ioas address area apart area_in own held

  pub never_denied : (reason : FaultReason) → IsIn (outcomes w device address access) (Denied reason) → ⊥
  unfolding outcomes access_outcomes
  never_denied reason there =
      let by_attachment : IsIn (by_width (device_of w.settings device) address (Denied BeyondWidth ∷ [])
      (translated (view w) device address access a)) (Denied reason) =
      subst (λ (o : Option Attachment). IsIn (elim o [
        | None ↦ Denied NoContext ∷ []
        | Some a ↦ by_width (device_of w.settings device) address (Denied BeyondWidth ∷ [])
            (translated (view w) device address access a)
      ]) (Denied reason)) found there in
      let inside = no_beyond (device_of w.settings device) address reason _ below by_attachment in
      let in_space : IsIn (at_area (pinned_frame w.pins) device address access
      (area_at address (areas_of w.areas a.file area.ioas))) (Denied reason) =
      subst (λ (o : Option ObjId). IsIn (elim o [
        | Some ioas ↦ at_area (pinned_frame w.pins) device address access
            (area_at address (areas_of w.areas a.file ioas))
        | None ↦ Denied (denied_by access)
            ∷ []
      ]) (Denied reason)) space inside in
      let in_area = subst (λ (o : Option Area). IsIn (at_area (pinned_frame w.pins) device address access o)
      (Denied reason)) at in_space in
      let with_right : IsIn (by_phase device area.phase (passing (pinned_frame w.pins (page_in area address)))
      (Denied (denied_by access) ∷ [])) (Denied reason) =
      subst (λ (b : Bool). IsIn (cond b (by_phase device area.phase
      (passing (pinned_frame w.pins (page_in area address))) (Denied (denied_by access) ∷ [])) (Denied
      (denied_by access) ∷ [])) (Denied reason)) right in_area in
      pass_only (pinned_frame w.pins (page_in area address)) reason
      (subst (λ (phase : Phase). IsIn (by_phase device phase (passing (pinned_frame w.pins (page_in area address)))
      (Denied (denied_by access) ∷ [])) (Denied reason)) live with_right)

pub not_denied : (settings : Settings) (w : World) (device : DeviceNo) (address : ℕ) (access : AccessKind) (area : Area)
    (reason : FaultReason) → WidthSound settings w → UsableSound w → are_apart w.areas ≡ true
    → list_all is_bounded w.areas ≡ true
    → IsOver w device address access area → area.phase ≡ Live → IsIn (outcomes w device address access) (Denied reason)
    → ⊥
not_denied settings w device address access area reason widths usable apart bounded over live there =
    let t = over.translates in
    never_denied settings w widths usable apart bounded device address access area (within w.areas area over.there) live
    over.first over.last (has_lets access area.rights.0 over.right)
    t.attachment (within w.attachments t.attachment t.attached) t.of_device t.of_file t.table
    (within w.objects t.table t.there) t.table_file t.table_id t.width t.automatic t.over reason there

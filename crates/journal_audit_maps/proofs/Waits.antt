-- An UNMAP waits for devices, by areas, or for access pins, by pins: where none of its areas is cut, a pin meets one of
-- them just where it meets the span that is named.
use Rattle.std.proofs.Common.{◌≡◌, ℕ, ◌≤◌, ◌<◌, ◌+◌, ◌-◌, ◌^◌, suc, Bool, true, false, ◌&&◌, ◌||◌, cond, not, eqb, leb, ltb}
use Rattle.std.proofs.Common.{Option, Some, None, List, [], ◌∷◌, length, map, refl, sym, ap, ◌∙◌, arith}
use Rattle.std.specs.List.{filter, list_all, list_any}
use Rattle.std.proofs.lemmas.Bool.{eqb-true}
use Rattle.std.proofs.lemmas.Bool.Decides.{nat_tests}
use Rattle.iofd_rows.proofs.Bools.{and_true, both_true}
use Rattle.iofd_rows.proofs.ListTests.{alike, any-filter, any_apart, any_weaker}
use Rattle.iofd_rows.specs.AccessPins.{AreHeld, IsHeld}
use Rattle.iofd_runs.proofs.NotRefused.{unmap_passed}
use Rattle.iofd_runs.specs.PinsFit.{is_fitting_pin}
use Rattle.iofd_steps.specs.Answers.{waits}
use Rattle.iofd_words.specs.Areas.{areas_of, is_cut, is_everything, is_held_back, is_of, is_touched, owed_by}
use Rattle.iofd_words.specs.Areas.{unmapped_span}
use Rattle.iofd_words.specs.Attachments.{devices_of, is_attached_to}
use Rattle.iofd_words.specs.Bounds.{Bounds}
use Rattle.iofd_refusals.specs.Checks.{unmap_checks}
use Rattle.iofd_words.specs.FirstTrue.{first_true}
use Rattle.iofd_words.specs.Objects.{access_ioas, is_access_to, kind_of}
use Rattle.iofd_words.specs.Pins.{has_pin_in, is_pin_in}
use Rattle.iofd_words.specs.Span.{holds, lies_in, meets}
use Rattle.iofd_words.specs.Usable.{everything}
use Rattle.iofd_words.specs.View.{view}
use Rattle.iofd_words.specs.World.{World}
use Rattle.iofd_words.specs.declared.event.UnmapRequest.{UnmapRequest}
use Rattle.iofd_words.specs.declared.numbers.FileNo.{FileNo}
use Rattle.iofd_words.specs.declared.numbers.ObjId.{ObjId}
use Rattle.iofd_words.specs.declared.rows.AccessPin.{AccessPin}
use Rattle.iofd_words.specs.declared.rows.Area.{Area}
use Rattle.iofd_words.specs.declared.rows.Attachment.{Attachment}
use Rattle.iofd_words.specs.declared.rows.Object.{Object}
use Rattle.iofd_words.specs.declared.rows.ObjectKind.{ObjectKind}
use Rattle.iofd_words.specs.declared.rows.Phase.{Phase}
use Rattle.iofd_words.specs.declared.rows.Phase.TheVariants.{Live, Leaving}
use Rattle.journal_audit_maps.specs.Waiting.{are_owed, is_pin_at}
use Rattle.journal_audit_world.proofs.Swapped.{any_alike, any_or, any_swapped}
use Rattle.journal_audit_world.specs.Kept.{IsKept}

-- ---- devices

some_in : (p : Attachment → Bool) (xs : List Attachment)
    → not (eqb (length (map (λ (a : Attachment). a.device.0) (filter p xs))) 0) ≡ list_any p xs
some_in p [] = refl
some_in p (x ∷ xs) = by_test (p x) (some_in p xs)
  where
    by_test : (b : Bool) → not (eqb (length (map (λ (a : Attachment). a.device.0) (filter p xs))) 0) ≡ list_any p xs
        → not (eqb (length (map (λ (a : Attachment). a.device.0) (cond b (x ∷ filter p xs) (filter p xs)))) 0)
        ≡ (b || list_any p xs)
    by_test true rest = more (length (map (λ (a : Attachment). a.device.0) (filter p xs)))
      where
        more : (n : ℕ) → not (eqb (suc n) 0) ≡ true
        more n = grind (arith, nat_tests)
    by_test false rest = rest

owed : (objects : List Object) (attachments : List Attachment) (file : FileNo) (ioas : ObjId) (phase : Phase)
    → not (eqb (length (owed_by (devices_of objects attachments file ioas) phase)) 0)
    ≡ are_owed (list_any (is_attached_to objects file ioas) attachments) phase
owed objects attachments file ioas Live = some_in (is_attached_to objects file ioas) attachments
owed objects attachments file ioas (Leaving devices tries) = refl

-- ---- access pins

module _ (objects : List Object) (areas : List Area) (file : FileNo) (ioas : ObjId) (span : Bounds)
    (ordered : span.first ≤ span.last) (uncut : is_cut span (areas_of areas file ioas) ≡ false) where
  -- the pin meets the area, which the span touches
  abbrev is_met : AccessPin → Area → Bool
  is_met pin area =
      (is_of file ioas area && meets area.span span) && (is_pin_in objects pin area && meets area.span pin.span)

  attached : (o : Option ObjectKind)
      → ◌≡◌ {A = Bool} (elim (elim o as (λ _. Option ObjId) [ Some kind ↦ access_ioas kind | None ↦ None ])
      [ Some attached ↦ eqb attached.0 ioas.0 | None ↦ false ])
      (elim o [ Some kind ↦ is_access_to ioas kind | None ↦ false ])
  attached (Some kind) = refl
  attached None = refl

  constant : (b : Bool) (xs : List Area) → list_any (λ (area : Area). b) xs ≡ true → b ≡ true
  constant b [] some = cc
  constant true (x ∷ xs) some = refl
  constant false (x ∷ xs) some = constant false xs some

  -- it meets the span
  from_area : (pin : AccessPin) → list_any (is_met pin) areas ≡ true → is_pin_at objects file ioas span pin ≡ true
  from_area pin some =
      constant (is_pin_at objects file ioas span pin) areas (any_apart (is_met pin) (λ (area : Area). is_of file ioas area
      && (meets area.span span && not (lies_in area.span span))) (λ area. is_pin_at objects file ioas span pin) areas
      here some
      (sym (any-filter (λ (area : Area). meets area.span span && not (lies_in area.span span)) (is_of file ioas) areas)
      ∙ uncut))
    where
      here : (area : Area) → is_met pin area ≡ true
          → (is_of file ioas area && (meets area.span span && not (lies_in area.span span))) ≡ false
          → is_pin_at objects file ioas span pin ≡ true
      here area is uncut_here =
          let (left, right) = and_true (is_of file ioas area && meets area.span span)
          (is_pin_in objects pin area && meets area.span pin.span) is in
          let (own, touched) = and_true (is_of file ioas area) (meets area.span span) left in
          let (pin_in, met) = and_true (is_pin_in objects pin area) (meets area.span pin.span) right in
          let (names, spaces) = and_true (eqb area.file.0 file.0) (eqb area.ioas.0 ioas.0) own in
          let (pin_names, to) = and_true (eqb area.file.0 pin.file.0) (elim (kind_of objects pin.file pin.access)
          [ Some kind ↦ is_access_to area.ioas kind | None ↦ false ]) pin_in in
          both_true _ _ (both_true _ _ (same_file area.file.0 file.0 pin.file.0 names pin_names)
          (spans area.span.first area.span.last pin.span.first pin.span.last span.first span.last met
          (within (is_of file ioas area) (meets area.span span) (lies_in area.span span) own touched uncut_here)))
          (attached (kind_of objects pin.file pin.access)
          ∙ ap (λ (i : ℕ). elim (kind_of objects pin.file pin.access)
          [ Some kind ↦ is_access_to (record { 0 = i }) kind | None ↦ false ])
          (sym (eqb-true area.ioas.0 ioas.0 spaces)) ∙ to)
        where
          same_file : (a b c : ℕ) → eqb a b ≡ true → eqb a c ≡ true → eqb c b ≡ true
          same_file a b c one two = grind (arith, nat_tests)

          within : (a b c : Bool) → a ≡ true → b ≡ true → (a && (b && not c)) ≡ false → c ≡ true
          within true true true one two is = refl
          within true true false one two is = cc
          within true false c one two is = cc
          within false b c one two is = cc

          spans : (af al pf pl sf sl : ℕ) → (leb af pl && leb pf al) ≡ true → (leb sf af && leb al sl) ≡ true
              → (leb pf sl && leb sf pl) ≡ true
          spans af al pf pl sf sl met lies = grind (arith, nat_tests)

  -- an address of both
  common : (pin : AccessPin) → pin.span.first ≤ pin.span.last → meets pin.span span ≡ true
      → (n : ℕ) × (pin.span.first ≤ n) × (n ≤ pin.span.last) × (span.first ≤ n) × (n ≤ span.last)
  common pin low met = by_order (leb pin.span.first span.first) refl
    where
      by_order : (b : Bool) → leb pin.span.first span.first ≡ b
          → (n : ℕ) × (pin.span.first ≤ n) × (n ≤ pin.span.last) × (span.first ≤ n) × (n ≤ span.last)
      by_order true is = let ends = and_true (leb pin.span.first span.last) (leb span.first pin.span.last) met in
          let high = ends.1 in (
            span.first,
            search (is, arith, nat_tests),
            search (high, arith, nat_tests),
            omega (arith),
            ordered,
          )
      by_order false is = let ends = and_true (leb pin.span.first span.last) (leb span.first pin.span.last) met in
          let high = ends.0 in (
            pin.span.first,
            omega (arith),
            low,
            search (is, arith, nat_tests),
            search (high, arith, nat_tests),
          )

  -- an area lies under it there
  to_area : (pin : AccessPin) → IsHeld objects areas pin → pin.span.first ≤ pin.span.last
      → is_pin_at objects file ioas span pin ≡ true → list_any (is_met pin) areas ≡ true
  to_area pin held low is =
      let (left, to) = and_true (eqb pin.file.0 file.0 && meets pin.span span) _ is in
      let (names, met) = and_true (eqb pin.file.0 file.0) (meets pin.span span) left in
      let (n, above, below, from, up) = common pin low met in
      let same : eqb held.ioas.0 ioas.0 ≡ true = ap (λ (o : Option ObjectKind).
      elim (elim o as (λ _. Option ObjId) [ Some kind ↦ access_ioas kind | None ↦ None ])
      [ Some attached ↦ eqb attached.0 ioas.0 | None ↦ false ]) (sym held.attached) ∙ to in
      any_weaker (λ (area : Area). is_of pin.file held.ioas area && holds area.span n) (is_met pin) areas
      (λ area under. let (own, here) = and_true (is_of pin.file held.ioas area) (holds area.span n) under in
      let (area_names, spaces) = and_true (eqb area.file.0 pin.file.0) (eqb area.ioas.0 held.ioas.0) own in
      both_true _ _ (both_true _ _ (both_true _ _ (chain _ _ _ area_names names) (chain _ _ _ spaces same))
      (meet area.span.first area.span.last span.first span.last n here from up))
      (both_true _ _ (both_true _ _ area_names (ap (λ (o : Option ObjectKind).
      elim o [ Some kind ↦ is_access_to area.ioas kind | None ↦ false ]) held.attached ∙ flipped _ _ spaces))
      (meet area.span.first area.span.last pin.span.first pin.span.last n here above below)))
      (held.under n (inside above below))
    where
      chain : (a b c : ℕ) → eqb a b ≡ true → eqb b c ≡ true → eqb a c ≡ true
      chain a b c one two = grind (arith, nat_tests)

      flipped : (a b : ℕ) → eqb a b ≡ true → eqb b a ≡ true
      flipped a b is = grind (arith, nat_tests)

      inside : {n : ℕ} → pin.span.first ≤ n → n ≤ pin.span.last → holds pin.span n ≡ true
      inside above below = search (above, below, arith, nat_tests)

      meet : (af al sf sl n : ℕ) → (leb af n && leb n al) ≡ true → sf ≤ n → n ≤ sl
          → (leb af sl && leb sf al) ≡ true
      meet af al sf sl n here from up = grind (arith, nat_tests)

  pins_meet : (pins : List AccessPin) → AreHeld objects areas pins → list_all is_fitting_pin pins ≡ true
      → list_any (λ pin. list_any (is_met pin) areas) pins ≡ list_any (is_pin_at objects file ioas span) pins
  pins_meet [] held fit = refl
  pins_meet (pin ∷ pins) held fit =
      let (here, later) = and_true (is_fitting_pin pin) (list_all is_fitting_pin pins) fit in
      rw (alike _ _ (from_area pin) (to_area pin held.0 (low here)), pins_meet pins held.1 later) refl
    where
      low : is_fitting_pin pin ≡ true → pin.span.first ≤ pin.span.last
      low here = let parts = and_true _ (ltb pin.span.last (2 ^ 64)) here in
          let order = (and_true _ (leb pin.span.first pin.span.last) parts.0).1 in
          search (order, arith, nat_tests)

-- ---- both

and_any : {X : Type 0} (b : Bool) (p : X → Bool) (xs : List X) → (b && list_any p xs) ≡ list_any (λ x. b && p x) xs
and_any true p xs = refl
and_any false p [] = refl
and_any false p (x ∷ xs) = and_any false p xs

or_apart : (t o p : Bool) → (t && (o || p)) ≡ ((t && o) || (t && p))
or_apart true o p = refl
or_apart false o p = refl

pub waits_is : (at : ℕ) (w : World) (file : FileNo) (request : UnmapRequest) → IsKept at w
    → first_true (unmap_checks (view w) file request) ≡ None
    → waits w file request ≡ (list_any (λ area. is_touched file request area
    && are_owed (list_any (is_attached_to w.objects file request.ioas) w.attachments) area.phase) w.areas
    || list_any (is_pin_at w.objects file request.ioas (unmapped_span request)) w.access_pins)
waits_is at w file request kept none =
    let passed = unmap_passed (view w) file request none in
    any-filter (is_held_back devices (has_pin_in w.objects w.access_pins)) (is_touched file request) w.areas
    ∙ any_alike _ (λ area. is_owed area || (is_touched file request area && has_pin_in w.objects w.access_pins area))
    w.areas (λ area.
    ap (λ b. is_touched file request area && (b || has_pin_in w.objects w.access_pins area))
    (owed w.objects w.attachments file request.ioas area.phase)
    ∙ or_apart (is_touched file request area) _ (has_pin_in w.objects w.access_pins area))
    ∙ any_or is_owed (λ area. is_touched file request area && has_pin_in w.objects w.access_pins area) w.areas
    ∙ ap (λ b. list_any is_owed w.areas || b) (any_alike _ (λ (area : Area). list_any (λ pin. is_met w.objects w.areas
    file request.ioas span (ordered passed.some) passed.uncut pin area) w.access_pins) w.areas
    (λ area. and_any (is_touched file request area) _ w.access_pins)
    ∙ any_swapped (λ pin area. is_met w.objects w.areas file request.ioas span (ordered passed.some) passed.uncut pin
    area) w.access_pins w.areas
    ∙ pins_meet w.objects w.areas file request.ioas span (ordered passed.some) passed.uncut w.access_pins
    kept.pins.held kept.pins_fit.spans)
  where
    devices : List ℕ
    devices = devices_of w.objects w.attachments file request.ioas

    span : Bounds
    span = unmapped_span request

    is_owed : Area → Bool
    is_owed area = is_touched file request area
        && are_owed (list_any (is_attached_to w.objects file request.ioas) w.attachments) area.phase

    ordered : eqb request.length 0 ≡ false → (unmapped_span request).first ≤ (unmapped_span request).last
    ordered some = by_test (is_everything request)
      where
        named : Bounds
        named = record { first = request.iova.0; last = request.iova.0 + request.length - 1 }

        by_test : (b : Bool) → (cond b everything named).first ≤ (cond b everything named).last
        by_test true = omega (arith)
        by_test false = let above : 0 < request.length = search (some, arith, nat_tests) in omega (arith, above)

-- the same, where the world's lists are told
pub waits_by : (at : ℕ) (v w : World) (file : FileNo) (request : UnmapRequest) (objects : List Object)
    (attachments : List Attachment) (areas : List Area) (pins : List AccessPin) (b : Bool) → v ≡ w → IsKept at w
    → first_true (unmap_checks (view w) file request) ≡ None → objects ≡ v.objects → attachments ≡ v.attachments
    → areas ≡ v.areas → pins ≡ v.access_pins
    → b ≡ (list_any (λ area. is_touched file request area
    && are_owed (list_any (is_attached_to objects file request.ioas) attachments) area.phase) areas
    || list_any (is_pin_at objects file request.ioas (unmapped_span request)) pins)
    → b ≡ waits w file request
waits_by at v w file request objects attachments areas pins b same kept none o t r p is =
    is ∙ rw (o, t, r, p, same) (sym (waits_is at w file request kept none))

-- The pins that an access object holds are asked for in the address space to which it is attached; each is of whole
-- pages below 2^64.
use Rattle.std.proofs.Common.{◌≡◌, ℕ, ◌+◌, ◌-◌, ◌<◌, Bool, true, false, cond, ◌&&◌, eqb, Option}
use Rattle.std.proofs.Common.{Some}
use Rattle.std.proofs.Common.{None, List, [], ◌∷◌, refl, ap, sym, ◌∙◌, arith, not}
use Rattle.std.specs.List.{list_any}
use Rattle.std.proofs.lemmas.Bool.Decides.{nat_tests}
use Rattle.held_pins.specs.HeldPins as held
use Rattle.held_pins.specs.declared.pin.HeldPin.{HeldPin}
use Rattle.iofd_rows.proofs.Bools.{and_true}
use Rattle.iofd_rows.proofs.ListTests.{false_else}
use Rattle.iofd_rows.proofs.Named.{file_is, id_is}
use Rattle.iofd_words.specs.Accesses.{pin_of}
use Rattle.iofd_words.specs.Objects.{access_ioas_of}
use Rattle.iofd_words.specs.Pins.{is_equal}
use Rattle.iofd_words.specs.Span.{holds}
use Rattle.iofd_words.specs.declared.fault.AccessKind.{AccessKind}
use Rattle.iofd_words.specs.declared.event.PinRequest.{PinRequest}
use Rattle.iofd_words.specs.declared.numbers.FileNo.{FileNo}
use Rattle.iofd_words.specs.declared.numbers.ObjId.{ObjId}
use Rattle.iofd_words.specs.declared.rows.Object.{Object}
use Rattle.server_state.proofs.AccessPinsStay.{any_alike, any_kept}
use Rattle.iofd_words.specs.Pages.{is_above_sum}
use Rattle.access_pins.proofs.AskedPins.{held_fits, pin_ends}
use Rattle.server_state.specs.AccessPins.{is_in_space, row_of}
use Rattle.server_state.specs.Held.{objects_in}
use Rattle.server_state.specs.Step.{IsKnown}
use Rattle.server_state.specs.declared.state.State.{State}

flipped : (m n : ℕ) → eqb m n ≡ eqb n m
flipped m n = grind (arith, nat_tests)

-- a pin of an access object is in the address space to which that is attached
in_its_space : (objects : List Object) (file : FileNo) (id ioas : ObjId) (pin : HeldPin)
    → access_ioas_of objects file id ≡ Some ioas → is_in_space objects pin ≡ true → eqb pin.file.0 file.0 ≡ true
    → eqb pin.access.0 id.0 ≡ true → eqb ioas.0 pin.ioas.0 ≡ true
in_its_space objects file id ioas pin attached here own same =
    let there : access_ioas_of objects pin.file pin.access ≡ Some ioas =
    ap (λ (f : FileNo). access_ioas_of objects f pin.access) (file_is pin.file file own)
    ∙ ap (λ (i : ObjId). access_ioas_of objects file i) (id_is pin.access id same) ∙ attached in
    ap (λ (o : Option ObjId). elim o as (λ _. Bool) [ Some to ↦ eqb to.0 pin.ioas.0 | None ↦ false ]) (sym there)
    ∙ here

-- of a pin in its address space it is the same question whether it equals one that is asked for
pub equal_is_pin : (objects : List Object) (file : FileNo) (id ioas : ObjId) (request : PinRequest)
    (probe pin : HeldPin)
    → access_ioas_of objects file id ≡ Some ioas → probe.file ≡ file → probe.access ≡ id → probe.ioas ≡ ioas
    → probe.span ≡ (pin_of file id request).span → probe.write ≡ request.write
    → is_in_space objects pin ≡ true → is_equal (pin_of file id request) (row_of pin) ≡ held.is_pin probe pin
equal_is_pin objects file id ioas request probe pin attached files ids spaces spans writes here =
    rw (files, ids, spaces, spans, writes)
    (rw (flipped file.0 pin.file.0, flipped id.0 pin.access.0) (by_names (eqb pin.file.0 file.0) (eqb pin.access.0 id.0)
    refl refl))
  where
    first : Bool
    first = eqb request.iova.0 pin.span.first

    last : Bool
    last = eqb (request.iova.0 + request.length - 1) pin.span.last

    write : Bool
    write = cond request.write pin.write (not pin.write)

    by_names : (f a : Bool) → eqb pin.file.0 file.0 ≡ f → eqb pin.access.0 id.0 ≡ a
        → ((((f && a) && first) && last) && write)
        ≡ (((((f && a) && eqb ioas.0 pin.ioas.0) && first) && last) && write)
    by_names true true own same =
        ap (λ (b : Bool). ((b && first) && last) && write)
        (sym (in_its_space objects file id ioas pin attached here own same))
    by_names true false own same = refl
    by_names false a own same = refl

-- nor whether it covers the page at an address
covered_in_it : (objects : List Object) (file : FileNo) (id ioas : ObjId) (address : ℕ) (kind : AccessKind)
    (pin : HeldPin) → access_ioas_of objects file id ≡ Some ioas → is_in_space objects pin ≡ true
    → (held.is_of file id pin && holds pin.span address && held.allows pin.write kind)
    ≡ (held.is_of file id pin && held.is_in file ioas pin && holds pin.span address && held.allows pin.write kind)
covered_in_it objects file id ioas address kind pin attached here =
    by_names (eqb pin.file.0 file.0) (eqb pin.access.0 id.0) refl refl
  where
    rest : Bool → Bool
    rest own = (own && holds pin.span address) && held.allows pin.write kind

    by_names : (f a : Bool) → eqb pin.file.0 file.0 ≡ f → eqb pin.access.0 id.0 ≡ a
        → rest (f && a) ≡ rest ((f && a) && (f && eqb pin.ioas.0 ioas.0))
    by_names true true own same =
        ap rest (sym (flipped pin.ioas.0 ioas.0 ∙ in_its_space objects file id ioas pin attached here own same))
    by_names true false own same = refl
    by_names false a own same = refl

-- where an access object is attached nowhere it has no pin
none_of_it : (objects : List Object) (file : FileNo) (id : ObjId) (pin : HeldPin)
    → access_ioas_of objects file id ≡ None → is_in_space objects pin ≡ true → held.is_of file id pin ≡ false
none_of_it objects file id pin nowhere here =
    false_else (held.is_of file id pin) (λ is.
    let parts = and_true (eqb pin.file.0 file.0) (eqb pin.access.0 id.0) is in
    let there : access_ioas_of objects pin.file pin.access ≡ None =
    ap (λ (f : FileNo). access_ioas_of objects f pin.access) (file_is pin.file file parts.0)
    ∙ ap (λ (i : ObjId). access_ioas_of objects file i) (id_is pin.access id parts.1) ∙ nowhere in
    let never : false ≡ true =
    ap (λ (o : Option ObjId). elim o as (λ _. Bool) [ Some to ↦ eqb to.0 pin.ioas.0 | None ↦ false ]) (sym there)
    ∙ here in
    cc)

module _ {A : Type 0} (s : State A) (known : IsKnown s) (file : FileNo) (id : ObjId) (address : ℕ)
    (kind : AccessKind) where
  -- what is covered is asked of the pins in the address space
  pub covered_alike : (ioas : ObjId) → access_ioas_of (objects_in s.objects) file id ≡ Some ioas
      → held.is_covered_in s.access_pins file id ioas address kind
      ≡ held.is_covered s.access_pins file id address kind
  covered_alike ioas attached =
      let objects = known.world.objects in
      let there = ap (λ (l : List Object). access_ioas_of l file id) known.shows.objects.rows ∙ attached in
      sym (any_alike
      (λ (pin : HeldPin). held.is_of file id pin && holds pin.span address && held.allows pin.write kind)
      (λ (pin : HeldPin).
      held.is_of file id pin && held.is_in file ioas pin && holds pin.span address && held.allows pin.write kind)
      (is_in_space objects) s.access_pins known.shows.access_pins.spaces
      (λ pin here. covered_in_it objects file id ioas address kind pin there here))

  pub never_covered : access_ioas_of (objects_in s.objects) file id ≡ None
      → held.is_covered s.access_pins file id address kind ≡ false
  never_covered nowhere =
      let objects = known.world.objects in
      let there = ap (λ (l : List Object). access_ioas_of l file id) known.shows.objects.rows ∙ nowhere in
      any_alike (λ (pin : HeldPin). held.is_of file id pin && holds pin.span address && held.allows pin.write kind)
      (λ (pin : HeldPin). false) (is_in_space objects) s.access_pins known.shows.access_pins.spaces
      (λ pin here. ap (λ (b : Bool). (b && holds pin.span address) && held.allows pin.write kind)
      (none_of_it objects file id pin there here))
      ∙ never s.access_pins
    where
      never : (pins : List HeldPin) → list_any (λ (pin : HeldPin). false) pins ≡ false
      never [] = refl
      never (pin ∷ pins) = never pins

module _ {A : Type 0} (s : State A) (known : IsKnown s) (file : FileNo) (id ioas : ObjId) (request : PinRequest)
    (attached : access_ioas_of (objects_in s.objects) file id ≡ Some ioas) where
  -- what is held is asked of the pins in the address space
  pub held_alike : (probe : HeldPin) → probe.file ≡ file → probe.access ≡ id → probe.ioas ≡ ioas
      → probe.span ≡ (pin_of file id request).span → probe.write ≡ request.write
      → list_any (λ (pin : HeldPin). is_equal (pin_of file id request) (row_of pin)) s.access_pins
      ≡ held.is_held s.access_pins probe
  held_alike probe files ids spaces spans writes =
      any_alike (λ (pin : HeldPin). is_equal (pin_of file id request) (row_of pin)) (held.is_pin probe)
      (is_in_space known.world.objects) s.access_pins known.shows.access_pins.spaces
      (λ pin here. equal_is_pin known.world.objects file id ioas request probe pin
      (ap (λ (l : List Object). access_ioas_of l file id) known.shows.objects.rows ∙ attached) files ids spaces spans
      writes here)

  -- one of no addresses, or of some from 2^64 on, isn't held
  pub never_held : (0 < request.length → is_above_sum request.iova.0 request.length ≡ false → ⊥)
      → list_any (λ (pin : HeldPin). is_equal (pin_of file id request) (row_of pin)) s.access_pins ≡ false
  never_held endless = false_else _ (λ some.
      let w = known.world in
      let ends = pin_ends file id request (held_fits known.at w known.tidy (pin_of file id request)
      (any_kept w.objects w.access_pins s.access_pins known.shows.access_pins (is_equal (pin_of file id request))
      ∙ some)) in
      endless ends.0 ends.1)

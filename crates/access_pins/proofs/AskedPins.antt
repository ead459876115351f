-- What is there where an event of an access object isn't refused: its address space, and the pin that is asked for.
use Rattle.std.proofs.Common.{◌≡◌, ℕ, ◌+◌, ◌-◌, ◌^◌, ◌%◌, ◌<◌, ◌≤◌, true, false, ◌&&◌, eqb, leb, ltb, is_none, Option}
use Rattle.std.proofs.Common.{Some, None, List, ap, subst, sym, ◌∙◌, arith}
use Rattle.std.proofs.lemmas.Bool.{eqb-true}
use Rattle.std.proofs.lemmas.Bool.Decides.{nat_tests}
use Rattle.access_pins.proofs.KeptPins.{equal_is}
use Rattle.held_pins.specs.declared.pin.HeldPin.{HeldPin}
use Rattle.iofd_rows.proofs.Bools.{and_true, clash}
use Rattle.iofd_rows.proofs.Each.{of_each}
use Rattle.iofd_runs.proofs.Accessed.{some_in}
use Rattle.iofd_runs.specs.PinsFit.{is_fitting_pin}
use Rattle.iofd_words.specs.Accesses.{pin_of}
use Rattle.iofd_words.specs.Objects.{access_ioas_of}
use Rattle.iofd_words.specs.Areas.{areas_of}
use Rattle.iofd_words.specs.Pages.{is_above_sum}
use Rattle.iofd_words.specs.Pins.{is_equal, is_held}
use Rattle.iofd_words.specs.World.{World}
use Rattle.iofd_words.specs.declared.event.PinRequest.{PinRequest}
use Rattle.iofd_words.specs.declared.numbers.FileNo.{FileNo}
use Rattle.iofd_words.specs.declared.numbers.ObjId.{ObjId}
use Rattle.iofd_words.specs.declared.rows.AccessPin.{AccessPin}
use Rattle.iofd_words.specs.declared.rows.Area.{Area}
use Rattle.iofd_words.specs.declared.rows.Object.{Object}
use Rattle.server_state.specs.AccessPins.{row_of}
use Rattle.server_state.specs.Held.{areas_at, objects_in}
use Rattle.server_state.specs.Shows.{Shows}
use Rattle.server_state.specs.Step.{IsTidy}
use Rattle.server_state.specs.declared.state.State.{State}

-- a pin of the world is of whole pages, and of one at least
pub held_fits : (at : ℕ) (w : World) → IsTidy at w → (row : AccessPin) → is_held w.access_pins row ≡ true
    → is_fitting_pin row ≡ true
held_fits at w tidy row held =
    let (q, among, equal) = some_in (is_equal row) w.access_pins held in
    subst (λ (p : AccessPin). is_fitting_pin p ≡ true) (equal_is row q equal)
    (of_each is_fitting_pin w.access_pins q tidy.pins_fit.spans among)

-- a pin of whole pages has addresses, and none from 2^64 on
pub pin_ends : (file : FileNo) (id : ObjId) (request : PinRequest) → is_fitting_pin (pin_of file id request) ≡ true
    → (0 < request.length) × (is_above_sum request.iova.0 request.length ≡ false)
pin_ends file id request fits =
    let both = and_true ((eqb (request.iova.0 % 4096) 0 && eqb ((request.iova.0 + request.length - 1) % 4096) 4095)
    && leb request.iova.0 (request.iova.0 + request.length - 1)) (ltb (request.iova.0 + request.length - 1) (2 ^ 64))
    fits in
    let pages = and_true (eqb (request.iova.0 % 4096) 0 && eqb ((request.iova.0 + request.length - 1) % 4096) 4095)
    (leb request.iova.0 (request.iova.0 + request.length - 1)) both.0 in
    ends request.iova.0 request.length (and_true (eqb (request.iova.0 % 4096) 0) _ pages.0).1 pages.1 both.1
  where
    ends : (iova length : ℕ) → eqb ((iova + length - 1) % 4096) 4095 ≡ true → leb iova (iova + length - 1) ≡ true
        → ltb (iova + length - 1) (2 ^ 64) ≡ true → (0 < length) × (ltb (2 ^ 64) (iova + length) ≡ false)
    ends iova length whole ordered high =
        let page = eqb-true ((iova + length - 1) % 4096) 4095 whole in
        let low : iova ≤ iova + length - 1 = search (ordered, arith, nat_tests) in
        let below : iova + length - 1 < 2 ^ 64 = search (high, arith, nat_tests) in
        let last : 0 < iova + length - 1 = positive (iova + length - 1) page in
        let sum : iova + length ≤ 2 ^ 64 = omega (arith, below) in
        (omega (arith, low, last), search (sum, arith, nat_tests))
      where
        positive : (n : ℕ) → n % 4096 ≡ 4095 → 0 < n
        positive n is = omega (arith, is)

module _ {A : Type 0} (at : ℕ) (w : World) (s : State A) (tidy : IsTidy at w) (shows : Shows w s) (file : FileNo)
    (id : ObjId) where
  -- the access object is attached in what is kept, as in the world
  pub kept_attached : (to : Option ObjId) → to ≡ access_ioas_of (objects_in s.objects) file id
      → access_ioas_of w.objects file id ≡ to
  kept_attached to is = ap (λ (l : List Object). access_ioas_of l file id) shows.objects.rows ∙ sym is

  pub never_unattached : is_none (access_ioas_of w.objects file id) ≡ false
      → None ≡ access_ioas_of (objects_in s.objects) file id → ⊥
  never_unattached attached is = clash _ attached (ap (λ (o : Option ObjId). is_none o) (kept_attached None is))

  module _ (ioas : ObjId) (attached : Some ioas ≡ access_ioas_of (objects_in s.objects) file id) where
    -- a pin of it, in its address space
    module _ (pin : HeldPin) (request : PinRequest) (row : row_of pin ≡ pin_of file id request)
        (space : pin.ioas ≡ ioas) where
      pub pin_attached : access_ioas_of w.objects pin.file pin.access ≡ Some pin.ioas
      pin_attached =
          ap (λ (f : FileNo). access_ioas_of w.objects f pin.access) (ap (λ (p : AccessPin). p.file) row)
          ∙ ap (λ (i : ObjId). access_ioas_of w.objects file i) (ap (λ (p : AccessPin). p.access) row)
          ∙ kept_attached (Some ioas) attached ∙ ap (λ (i : ObjId). Some i) (sym space)

      pub pin_areas : (areas : List Area) → areas_at s.objects.rows file ioas ≡ areas
          → areas_of w.areas pin.file pin.ioas ≡ areas
      pin_areas areas there =
          ap (λ (f : FileNo). areas_of w.areas f pin.ioas) (ap (λ (p : AccessPin). p.file) row)
          ∙ ap (λ (i : ObjId). areas_of w.areas file i) space ∙ shows.objects.spaces file ioas ∙ there

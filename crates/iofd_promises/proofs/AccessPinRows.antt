-- Which access pins a step makes and takes, and where they lie.
use Rattle.std.proofs.Common.{◌≡◌, ◌≤◌, ◌<◌, ℕ, ◌+◌, ◌-◌, ◌%◌, Bool, true, false, cond, ◌&&◌, ◌||◌, not, eqb, leb}
use Rattle.std.proofs.Common.{Some, List, [], ◌∷◌, ◌++◌, refl, ap, sym, arith, inl, inr}
use Rattle.std.proofs.lemmas.Bool.{eqb-true}
use Rattle.std.proofs.lemmas.Bool.Decides.{nat_tests}
use Rattle.iofd_laws.proofs.FreeFrames.{some_in}
use Rattle.iofd_promises.proofs.KeptPinned.{held_in}
use Rattle.iofd_promises.proofs.Rows.{contains}
use Rattle.iofd_promises.specs.Closing.{file_named}
use Rattle.iofd_promises.specs.Holding.{IsAskedPin, IsUnder, IsWholePages}
use Rattle.iofd_rows.proofs.Bools.{and_true}
use Rattle.iofd_rows.proofs.Each.{IsIn}
use Rattle.iofd_rows.proofs.Named.{file_is, id_is}
use Rattle.iofd_rows.specs.AccessPins.{IsHeld}
use Rattle.iofd_runs.proofs.Moves.{MakesPin, TakesPin}
use Rattle.iofd_runs.specs.PinsFit.{is_fitting_pin}
use Rattle.iofd_words.specs.Accesses.{pin_of}
use Rattle.iofd_words.specs.Areas.{is_of}
use Rattle.iofd_words.specs.Pins.{is_equal, is_held, without_pin}
use Rattle.iofd_words.specs.Span.{holds, is_whole_pages}
use Rattle.iofd_words.specs.World.{World}
use Rattle.iofd_words.specs.declared.event.Event.{Event}
use Rattle.iofd_words.specs.declared.event.Event.TheVariants as event
use Rattle.iofd_words.specs.declared.event.PinRequest.{PinRequest}
use Rattle.iofd_words.specs.declared.numbers.FileNo.{FileNo}
use Rattle.iofd_words.specs.declared.numbers.ObjId.{ObjId}
use Rattle.iofd_words.specs.declared.rows.AccessPin.{AccessPin}
use Rattle.iofd_words.specs.declared.rows.Area.{Area}

-- ---- whose pins a command makes and takes

pub makes_named : {A : Type 0} (e : Event A) (pin : AccessPin) → MakesPin e pin → file_named e ≡ Some pin.file
makes_named (event.AccessPin file id request) pin is = ap (λ (p : AccessPin). Some p.file) is
makes_named e pin makes = absurd makes

pub takes_named : {A : Type 0} (e : Event A) (pin : AccessPin) → TakesPin e pin → file_named e ≡ Some pin.file
takes_named (event.AccessUnpin file id request) pin is = ap (λ (p : AccessPin). Some p.file) is
takes_named e pin takes = absurd takes

-- ---- what is asked for

last_of : (first length : ℕ) → eqb length 0 ≡ false → first + length - 1 + 1 ≡ first + length
last_of first length some = let above : 0 < length = search (some, arith, nat_tests) in omega (arith, above)

pub asked_pin : (file : FileNo) (id : ObjId) (request : PinRequest) → eqb request.length 0 ≡ false
    → IsAskedPin file id request (pin_of file id request)
asked_pin file id request some = record {
  of_file = refl;
  of_access = refl;
  first = refl;
  last = last_of request.iova.0 request.length some;
  write = refl;
}

-- a pin that equals what is asked for, and is of some page
pub equal_asked : (file : FileNo) (id : ObjId) (request : PinRequest) (pin : AccessPin)
    → is_equal (pin_of file id request) pin ≡ true → is_fitting_pin pin ≡ true → IsAskedPin file id request pin
equal_asked file id request pin same fits =
    let writes = and_true _ _ same in
    let lasts = and_true _ _ writes.0 in
    let firsts = and_true _ _ lasts.0 in
    let names = and_true (eqb pin.file.0 file.0) (eqb pin.access.0 id.0) firsts.0 in
    let first : request.iova.0 ≡ pin.span.first = eqb-true request.iova.0 pin.span.first firsts.1 in
    let last : request.iova.0 + request.length - 1 ≡ pin.span.last =
    eqb-true (request.iova.0 + request.length - 1) pin.span.last lasts.1 in
    let spans = and_true _ _ fits in
    let some = and_true _ _ spans.0 in
    record {
      of_file = eqb-true pin.file.0 file.0 names.0;
      of_access = eqb-true pin.access.0 id.0 names.1;
      first = sym first;
      last = ends pin.span.first pin.span.last first last (and_true _ _ some.0).1 some.1;
      write = same_write request.write pin.write writes.1;
    }
  where
    same_write : (a b : Bool) → cond a b (not b) ≡ true → b ≡ a
    same_write true b is = is
    same_write false true is = cc
    same_write false false is = refl

    ends : (low high : ℕ) → request.iova.0 ≡ low → request.iova.0 + request.length - 1 ≡ high
        → eqb (high % 4096) 4095 ≡ true → leb low high ≡ true → high + 1 ≡ request.iova.0 + request.length
    ends low high first last whole some =
        let end : high % 4096 ≡ 4095 = eqb-true (high % 4096) 4095 whole in
        let above : low ≤ high = search (some, arith, nat_tests) in
        omega (arith, first, last, end, above)

-- ---- one of those that equal it goes

pub record IsTaken (pin : AccessPin) (pins : List AccessPin) : Type 0 where
  pub taken : AccessPin
  pub among : IsIn pins taken
  pub equal : is_equal pin taken ≡ true
  pub before : List AccessPin
  pub later : List AccessPin
  pub was : pins ≡ before ++ taken ∷ later
  pub left : without_pin pin pins ≡ before ++ later

pub taken_from : (pin : AccessPin) (pins : List AccessPin) → is_held pins pin ≡ true → IsTaken pin pins
taken_from pin [] held = cc
taken_from pin (q ∷ pins) held = by_test (is_equal pin q) refl held (taken_from pin pins)
  where
    by_test : (b : Bool) → is_equal pin q ≡ b → (b || is_held pins pin) ≡ true
        → (is_held pins pin ≡ true → IsTaken pin pins) → IsTaken pin (q ∷ pins)
    by_test true is held later = record {
      taken = q;
      among = inl refl;
      equal = is;
      before = [];
      later = pins;
      was = refl;
      left = rw is refl;
    }
    by_test false is held later =
        let rest = later held in
        record {
          taken = rest.taken;
          among = inr rest.among;
          equal = rest.equal;
          before = q ∷ rest.before;
          later = rest.later;
          was = ap (λ (list : List AccessPin). q ∷ list) rest.was;
          left = rw is (ap (λ (list : List AccessPin). q ∷ list) rest.left);
        }

-- ---- where they lie

pub is_under_it : (w : World) (pin : AccessPin) (address : ℕ) → IsIn w.access_pins pin → IsHeld w.objects w.areas pin
    → pin.span.first ≤ address → address ≤ pin.span.last → IsUnder w pin address
is_under_it w pin address among held low high =
    let (area, there, both) = some_in (λ (a : Area). is_of pin.file held.ioas a && holds a.span address) w.areas
    (held.under address (inside pin.span.first pin.span.last low high)) in
    let parts = and_true (is_of pin.file held.ioas area) (holds area.span address) both in
    let names = and_true (eqb area.file.0 pin.file.0) (eqb area.ioas.0 held.ioas.0) parts.0 in
    let ends = and_true (leb area.span.first address) (leb address area.span.last) parts.1 in
    record {
      area = area;
      there = contains w.areas area there;
      of_file = file_is area.file pin.file names.0;
      held = held_in w pin area.ioas among (rw (id_is area.ioas held.ioas names.1) held.attached);
      first = let is = ends.0 in search (is, arith, nat_tests);
      last = let is = ends.1 in search (is, arith, nat_tests);
    }
  where
    inside : (first last : ℕ) → first ≤ address → address ≤ last → (leb first address && leb address last) ≡ true
    inside first last low high = search (low, high, arith, nat_tests)

pub whole_pages : (pin : AccessPin) → is_fitting_pin pin ≡ true → IsWholePages pin
whole_pages pin fits =
    let parts = and_true (is_whole_pages pin.span && leb pin.span.first pin.span.last) _ fits in
    let spans = and_true (is_whole_pages pin.span) (leb pin.span.first pin.span.last) parts.0 in
    let ends = and_true (eqb (pin.span.first % 4096) 0) (eqb (pin.span.last % 4096) 4095) spans.0 in
    record {
      first = eqb-true (pin.span.first % 4096) 0 ends.0;
      last = eqb-true (pin.span.last % 4096) 4095 ends.1;
      some = let is = spans.1 in search (is, arith, nat_tests);
      below = let is = parts.1 in search (is, arith, nat_tests);
    }

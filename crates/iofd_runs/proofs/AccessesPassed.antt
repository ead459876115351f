-- What it says that nothing refuses a pin by an access object, the end of one, and a write through one: a fact for each
-- row of the event's table, by a name of its own.
use Rattle.std.proofs.Common.{◌≡◌, ℕ, Bool, true, false, ◌&&◌, not, eqb, is_none, Option, Some, None, List, ◌∷◌, length}
use Rattle.std.proofs.Common.{refl, subst}
use Rattle.iofd_words.specs.Accesses.{has_gap, lacks_accessed_page, meets_leaving, meets_without_right, pin_of}
use Rattle.iofd_words.specs.Accesses.{pinned_span}
use Rattle.iofd_refusals.specs.Checks.{access_pin_checks, access_unpin_checks, access_write_checks, held_access_checks}
use Rattle.iofd_refusals.specs.Checks.{passes_limit_accessed, pin_checks_in}
use Rattle.iofd_words.specs.FirstTrue.{first_true}
use Rattle.iofd_words.specs.Objects.{access_ioas_of, has_access}
use Rattle.iofd_words.specs.Pages.{crosses, is_above_sum, is_whole}
use Rattle.iofd_words.specs.View.{View}
use Rattle.iofd_words.specs.declared.event.PinRequest.{PinRequest}
use Rattle.iofd_words.specs.declared.fault.AccessKind.{AccessKind}
use Rattle.iofd_words.specs.declared.fault.AccessKind.TheVariants.{Read, Write}
use Rattle.iofd_words.specs.declared.numbers.FileNo.{FileNo}
use Rattle.iofd_words.specs.declared.numbers.Iova.{Iova}
use Rattle.iofd_words.specs.declared.numbers.ObjId.{ObjId}
use Rattle.iofd_words.specs.declared.refusal.Cause.{Cause}
use Rattle.iofd_words.specs.declared.refusal.Cause.TheVariants as cause
use Rattle.iofd_rows.proofs.Bools.{and_true, or_false}
use Rattle.iofd_runs.proofs.NotRefused.{not_not}
use Rattle.iofd_runs.proofs.Runs.{tests_false}

-- ---- a pin

-- in the address space to which the access object is attached
pub record AccessPinPassed (v : View) (file : FileNo) (id ioas : ObjId) (request : PinRequest) : Type 0 where
  pub opened : v.is_open file ≡ true
  pub there : has_access v.objects file id ≡ true
  pub attached : access_ioas_of v.objects file id ≡ Some ioas
  pub sum : is_above_sum request.iova.0 request.length ≡ false
  pub some : eqb request.length 0 ≡ false
  pub whole : is_whole request.length ≡ true
  pub whole_iova : is_whole request.iova.0 ≡ true
  pub covered : has_gap (pinned_span request) (v.areas_of file ioas) ≡ false
  pub settled : meets_leaving (pinned_span request) (v.areas_of file ioas) ≡ false
  pub right : meets_without_right (pinned_span request) request.write (v.areas_of file ioas) ≡ false
  pub roomy : v.has_most_pins file id ≡ false
  pub present : lacks_accessed_page v file ioas (pinned_span request) ≡ false
  pub within_limit : passes_limit_accessed v file ioas (pinned_span request) ≡ false

-- the table, where this is what the access object is attached to
pin_rows : View → FileNo → ObjId → PinRequest → Option ObjId → List (Cause × Bool)
pin_rows v file id request to =
    (cause.Id, not (v.is_open file)) ∷ (cause.Id, not (has_access v.objects file id))
    ∷ pin_checks_in v file id request to

pub access_pin_passed : (v : View) (file : FileNo) (id ioas : ObjId) (request : PinRequest)
    → access_ioas_of v.objects file id ≡ Some ioas → first_true (access_pin_checks v file id request) ≡ None
    → AccessPinPassed v file id ioas request
unfolding access_pin_checks pin_rows
access_pin_passed v file id ioas request attached none =
    let rows = pin_rows v file id request (Some ioas) in
    let passed : first_true rows ≡ None =
    subst (λ (to : Option ObjId). first_true (pin_rows v file id request to) ≡ None) attached none in
    let aligned = or_false (eqb request.length 0) (not (is_whole request.length && is_whole request.iova.0))
    (tests_false rows 3 passed) in
    let wholes = and_true (is_whole request.length) (is_whole request.iova.0) (not_not _ aligned.1) in
    record {
      opened = not_not _ (tests_false rows 0 passed);
      there = not_not _ (tests_false rows 1 passed);
      attached = attached;
      sum = tests_false rows 2 passed;
      some = aligned.0;
      whole = wholes.0;
      whole_iova = wholes.1;
      covered = tests_false rows 4 passed;
      settled = tests_false rows 5 passed;
      right = tests_false rows 6 passed;
      roomy = tests_false rows 7 passed;
      present = tests_false rows 8 passed;
      within_limit = tests_false rows 9 passed;
    }

-- the access object is attached
pub access_pin_attached : (v : View) (file : FileNo) (id : ObjId) (request : PinRequest)
    → first_true (access_pin_checks v file id request) ≡ None
    → (ioas : ObjId) × (access_ioas_of v.objects file id ≡ Some ioas)
unfolding access_pin_checks pin_rows
access_pin_attached v file id request none = by_space (access_ioas_of v.objects file id) refl
  where
    by_space : (to : Option ObjId) → access_ioas_of v.objects file id ≡ to
        → (ioas : ObjId) × (access_ioas_of v.objects file id ≡ Some ioas)
    by_space (Some ioas) is = (ioas, is)
    by_space None is =
        let rows = pin_rows v file id request None in
        let passed : first_true rows ≡ None =
        subst (λ (to : Option ObjId). first_true (pin_rows v file id request to) ≡ None) is none in
        let never : true ≡ false = tests_false rows 2 passed in
        cc

-- both
pub pin_passed : (v : View) (file : FileNo) (id : ObjId) (request : PinRequest)
    → first_true (access_pin_checks v file id request) ≡ None
    → (ioas : ObjId) × AccessPinPassed v file id ioas request
pin_passed v file id request none =
    let (ioas, attached) = access_pin_attached v file id request none in
    (ioas, access_pin_passed v file id ioas request attached none)

-- ---- the end of a pin

pub record AccessUnpinPassed (v : View) (file : FileNo) (id : ObjId) (request : PinRequest) : Type 0 where
  pub opened : v.is_open file ≡ true
  pub there : has_access v.objects file id ≡ true
  pub attached : is_none (access_ioas_of v.objects file id) ≡ false
  pub held : v.is_held (pin_of file id request) ≡ true

pub access_unpin_passed : (v : View) (file : FileNo) (id : ObjId) (request : PinRequest)
    → first_true (access_unpin_checks v file id request) ≡ None → AccessUnpinPassed v file id request
unfolding access_unpin_checks
access_unpin_passed v file id request none =
    let rows = access_unpin_checks v file id request in
    record {
      opened = not_not _ (tests_false rows 0 none);
      there = not_not _ (tests_false rows 1 none);
      attached = tests_false rows 2 none;
      held = not_not _ (tests_false rows 3 none);
    }

-- ---- an access to so many bytes of what is pinned

pub record HeldAccessPassed (v : View) (file : FileNo) (id : ObjId) (iova : Iova) (len : ℕ)
    (kind : AccessKind) : Type 0 where
  pub opened : v.is_open file ≡ true
  pub there : has_access v.objects file id ≡ true
  pub attached : is_none (access_ioas_of v.objects file id) ≡ false
  pub short : crosses iova.0 len ≡ false
  pub held : v.is_covered file id iova.0 Read ≡ true
  pub right : v.is_covered file id iova.0 kind ≡ true

pub held_access_passed : (v : View) (file : FileNo) (id : ObjId) (iova : Iova) (len : ℕ) (kind : AccessKind)
    → first_true (held_access_checks v file id iova len kind) ≡ None → HeldAccessPassed v file id iova len kind
held_access_passed v file id iova len kind none =
    let rows = held_access_checks v file id iova len kind in
    record {
      opened = not_not _ (tests_false rows 0 none);
      there = not_not _ (tests_false rows 1 none);
      attached = tests_false rows 2 none;
      short = tests_false rows 3 none;
      held = not_not _ (tests_false rows 4 none);
      right = not_not _ (tests_false rows 5 none);
    }

pub access_write_passed : (v : View) (file : FileNo) (id : ObjId) (iova : Iova) (bytes : List ℕ)
    → first_true (access_write_checks v file id iova bytes) ≡ None
    → HeldAccessPassed v file id iova (length bytes) Write
unfolding access_write_checks
access_write_passed v file id iova bytes none = held_access_passed v file id iova (length bytes) Write none

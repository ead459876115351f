-- What is kept of access pins gives what is asked of the world's, and is shown still as long as none comes or goes and
-- who holds one stays attached.
use Rattle.std.proofs.Common.{◌≡◌, ℕ, Bool, true, false, ◌&&◌, eqb, leb, ltb, Option, Some, None, List, [], ◌∷◌}
use Rattle.std.proofs.Common.{refl, eqb-true}
use Rattle.std.proofs.Common.{ap, subst, sym, ◌∙◌, arith}
use Rattle.std.specs.List.{list_all, list_any}
use Rattle.std.proofs.lemmas.Bool.Decides.{nat_tests}
use Rattle.held_pins.specs.HeldPins.{are_met, is_in}
use Rattle.held_pins.specs.declared.pin.HeldPin.{HeldPin}
use Rattle.iofd_rows.proofs.Bools.{and_true, both_true}
use Rattle.iofd_rows.proofs.Each.{IsIn, of_all, of_any, of_each}
use Rattle.iofd_rows.proofs.Named.{file_is, id_is}
use Rattle.iofd_rows.specs.Pinned.{ArePinned}
use Rattle.iofd_runs.proofs.Accessed.{EachHeld, HoldersStay, each_held, some_in}
use Rattle.iofd_runs.proofs.Moves.{changed_moves}
use Rattle.iofd_steps.specs.After.{changed}
use Rattle.iofd_steps.specs.Answers.{Answers}
use Rattle.iofd_refusals.specs.Checks.{refusal}
use Rattle.iofd_words.specs.declared.event.Event.{Event}
use Rattle.iofd_words.specs.declared.reply.Reply.{Reply}
use Rattle.iofd_words.specs.Objects.{access_ioas, access_ioas_of, is_access_to, kind_of}
use Rattle.iofd_words.specs.Pins.{ObjectPage, has_pin_in, is_of_access, is_pin_in}
use Rattle.iofd_words.specs.Span.{meets}
use Rattle.iofd_words.specs.World.{World}
use Rattle.iofd_words.specs.declared.numbers.ObjId.{ObjId}
use Rattle.iofd_words.specs.declared.rows.AccessPin.{AccessPin}
use Rattle.iofd_words.specs.declared.rows.Area.{Area}
use Rattle.iofd_words.specs.declared.rows.Object.{Object}
use Rattle.iofd_words.specs.declared.rows.ObjectKind.{ObjectKind}
use Rattle.server_state.specs.AccessPins.{AccessPinsShown, is_in_space, row_of}
use Rattle.user_memory_rows.proofs.AccessCounts.{counted_objects}
use Rattle.user_memory_rows.proofs.CountBy.{any_count}
use Rattle.user_memory_rows.specs.Shown.{accessed, has_page}
use Rattle.iofd_words.specs.declared.numbers.FileNo.{FileNo}

-- ---- what is asked

-- a test of rows finds one just where it finds one that is kept
pub any_kept : (objects : List Object) (pins : List AccessPin) (kept : List HeldPin)
    → AccessPinsShown objects pins kept → (test : AccessPin → Bool)
    → list_any test pins ≡ list_any (λ pin. test (row_of pin)) kept
any_kept objects pins kept shown test =
    any_count test pins ∙ ap (ltb 0) (shown.counts test) ∙ sym (any_count (λ pin. test (row_of pin)) kept)

pub any_same : {X : Type 0} (p q : X → Bool) (xs : List X) → ((x : X) → p x ≡ q x) → list_any p xs ≡ list_any q xs
any_same p q [] same = refl
any_same p q (x ∷ xs) same = rw (same x, any_same p q xs same) refl

-- tests that agree on rows of a kind find the same among these
pub any_alike : {X : Type 0} (p q of : X → Bool) (xs : List X) → list_all of xs ≡ true
    → ((x : X) → of x ≡ true → p x ≡ q x) → list_any p xs ≡ list_any q xs
any_alike p q of [] all same = refl
any_alike p q of (x ∷ xs) all same =
    let parts = and_true (of x) (list_all of xs) all in
    rw (same x parts.0, any_alike p q of xs parts.1 same) refl

-- a pin meets an area of its address space
pub met_in : (objects : List Object) (pins : List AccessPin) (kept : List HeldPin)
    → AccessPinsShown objects pins kept → (area : Area)
    → has_pin_in objects pins area ≡ are_met kept area.file area.ioas area.span
met_in objects pins kept shown area =
    any_kept objects pins kept shown (λ pin. is_pin_in objects pin area && meets area.span pin.span)
    ∙ any_alike (λ pin. is_pin_in objects (row_of pin) area && meets area.span pin.span)
    (λ pin. is_in area.file area.ioas pin && meets pin.span area.span) (is_in_space objects) kept shown.spaces each
  where
    by_kind : (o : Option ObjectKind) (own ioas : ObjId)
        → elim (elim o as (λ _. Option ObjId) [ Some k ↦ access_ioas k | None ↦ None ]) as (λ _. Bool)
        [ Some to ↦ eqb to.0 own.0 | None ↦ false ] ≡ true
        → elim o as (λ _. Bool) [ Some k ↦ is_access_to ioas k | None ↦ false ] ≡ eqb own.0 ioas.0
    by_kind None own ioas is = cc
    by_kind (Some k) own ioas is = by_space (access_ioas k) is
      where
        by_space : (o : Option ObjId) → elim o as (λ _. Bool) [ Some to ↦ eqb to.0 own.0 | None ↦ false ] ≡ true
            → elim o as (λ _. Bool) [ Some to ↦ eqb to.0 ioas.0 | None ↦ false ] ≡ eqb own.0 ioas.0
        by_space None is = cc
        by_space (Some to) is = ap (λ (n : ℕ). eqb n ioas.0) (eqb-true to.0 own.0 is)

    either : (f g : ℕ) (b : Bool) (af al pf pl : ℕ)
        → ((eqb f g && b) && (leb af pl && leb pf al)) ≡ ((eqb g f && b) && (leb pf al && leb af pl))
    either f g b af al pf pl = grind (arith, nat_tests)

    each : (pin : HeldPin) → is_in_space objects pin ≡ true
        → (is_pin_in objects (row_of pin) area && meets area.span pin.span)
        ≡ (is_in area.file area.ioas pin && meets pin.span area.span)
    each pin is =
        ap (λ b. (eqb area.file.0 pin.file.0 && b) && meets area.span pin.span)
        (by_kind (kind_of objects pin.file pin.access) pin.ioas area.ioas is)
        ∙ either area.file.0 pin.file.0 (eqb pin.ioas.0 area.ioas.0) area.span.first area.span.last pin.span.first
        pin.span.last

-- ---- it stays

-- they cover each page as often, with other objects
pub covered_still : {at : ℕ} → (w : World) (left : List Object) → ArePinned at w
    → HoldersStay w.objects left w.access_pins → (page : ObjectPage) → has_page w.memory page ≡ true
    → accessed left w.areas w.access_pins page ≡ accessed w.objects w.areas w.access_pins page
covered_still w left pinned stay page there =
    counted_objects w.objects left w.areas w.areas w.access_pins page stay
    (each_held w.objects w.areas w.access_pins pinned.held)

-- who holds one stays attached, whatever the event
pub holders_stay : {A : Type 0} → (at : ℕ) (w : World) (e : Event A) (answer : Reply) → refusal w e ≡ None
    → Answers w e answer → HoldersStay w.objects (changed at w e answer).objects w.access_pins
holders_stay at w e answer none answers = ((changed_moves at w e answer).holders none answers).holders

-- each that is kept is still in its address space
pub shown_still : (objects left : List Object) (areas : List Area) (pins : List AccessPin) (kept : List HeldPin)
    → HoldersStay objects left pins → EachHeld objects areas pins → AccessPinsShown objects pins kept
    → AccessPinsShown left pins kept
shown_still objects left areas pins kept stay held shown = record {
  counts = shown.counts;
  spaces = of_all (is_in_space left) kept (λ pin among. still pin among (of_each (is_in_space objects) kept pin
      shown.spaces among));
}
  where
    itself : (n : ℕ) → eqb n n ≡ true
    itself n = grind (arith, nat_tests)

    named_in : List Object → FileNo → ObjId → ObjId → Bool
    named_in those file access ioas =
        elim (access_ioas_of those file access) [ Some to ↦ eqb to.0 ioas.0 | None ↦ false ]

    moved : (f g : FileNo) (i j ioas : ObjId) → f ≡ g → i ≡ j → kind_of left f i ≡ kind_of objects f i
        → named_in objects g j ioas ≡ true → named_in left g j ioas ≡ true
    moved f g i j ioas files ids kinds is =
        let of_file = subst (λ (x : FileNo). kind_of left x i ≡ kind_of objects x i) files kinds in
        let of_id = subst (λ (x : ObjId). kind_of left g x ≡ kind_of objects g x) ids of_file in
        ap (λ (o : Option ObjectKind).
        elim (elim o as (λ _. Option ObjId) [ Some k ↦ access_ioas k | None ↦ None ]) as (λ _. Bool)
        [ Some to ↦ eqb to.0 ioas.0 | None ↦ false ]) of_id ∙ is

    still : (pin : HeldPin) → IsIn kept pin → is_in_space objects pin ≡ true → is_in_space left pin ≡ true
    still pin among is =
        let there : list_any (is_of_access pin.file pin.access) pins ≡ true =
        any_kept objects pins kept shown (is_of_access pin.file pin.access)
        ∙ of_any (λ (p : HeldPin). is_of_access pin.file pin.access (row_of p)) kept pin among
        (both_true _ _ (itself pin.file.0) (itself pin.access.0)) in
        let (row, within, named) = some_in (is_of_access pin.file pin.access) pins there in
        let names = and_true (eqb row.file.0 pin.file.0) (eqb row.access.0 pin.access.0) named in
        let same_file = file_is row.file pin.file names.0 in
        let same_id = id_is row.access pin.access names.1 in
        let was = held row within in
        let stays = (stay row within was.ioas was.attached was.space).0 in
        moved row.file pin.file row.access pin.access pin.ioas same_file same_id (stays ∙ sym was.attached) is

use Rattle.std.proofs.Common.{◌≡◌, ◌+◌, ◌≤◌, ℕ, true, List, sym, ◌∙◌, ap, subst}
use Rattle.std.specs.List.{list_any}
use Rattle.std.proofs.Math.Path.{fun_ext}
use Rattle.std.proofs.lemmas.List.Folds.{fold-map}
use Rattle.iofd_words.specs.declared.rows.Area.{Area}
use Rattle.memory_objects.specs.Objects.{times_of}
use Rattle.user_memory_rows.specs.Moves.{numbers_of}
use Rattle.user_memory_rows.specs.Shown.{over}
use Rattle.server_state.specs.Mapping.{own_areas}
use Rattle.user_memory.proofs.NewPages.{lacking_pages}
use Rattle.user_memory.specs.Memory.{are_of, areas_over, has_room, lacks_page, newly_pinned, rows_at}
use Rattle.user_memory.specs.Memory.{table_pins}
use Rattle.server_state.proofs.Errors.{on_err_same}
use Rattle.hwpt_device.proofs.PinnedNone.{pinned_empty, pinned_first, pinned_yet, stays_same, stays_told}
use Rattle.hwpt_device.proofs.making.pin_space.Goals as goal

-- a number stands in the list once for each area that is over its object
times_over : (number : ℕ) (areas : List Area) → times_of number (numbers_of areas) ≡ over areas number
times_over number areas = fold-map _ _ _ areas

pub pin-requires-clause-own : goal.pin-requires-clause-own
pin-requires-clause-own g c =
    let are : c.deref.result.now ≡ numbers_of (own_areas c.args.table.now c.args.file c.args.ioas) =
    c.deref.ensures.value ∙ c.in_ok-numbers.ensures ∙ ap numbers_of (sym c.in-Some.ensures) in
    let may = c.requires.may (sym c.requires.translated ∙ c.if-translated.false) in
    subst (λ (numbers : List ℕ). are_of c.args.user (rows_at c.args.memory.now numbers) ≡ true) (sym are) may.own

pub pin-requires-clause-present : goal.pin-requires-clause-present
pin-requires-clause-present g c =
    let m = c.args.memory.now in
    let areas : List Area = c.in-Some.areas.now.areas in
    let is : c.deref.result.now ≡ numbers_of areas = c.deref.ensures.value ∙ c.in_ok-numbers.ensures in
    let may = c.requires.may (sym c.requires.translated ∙ c.if-translated.false) in
    ap (list_any (lacks_page m)) (is ∙ ap numbers_of (sym c.in-Some.ensures))
    ∙ lacking_pages m (numbers_of _) c.objects_told.ensures ∙ may.present

pub pin-requires-clause-room : goal.pin-requires-clause-room
pin-requires-clause-room g c =
    let m = c.args.memory.now in
    let are : c.deref.result.now ≡ numbers_of (own_areas c.args.table.now c.args.file c.args.ioas) =
    c.deref.ensures.value ∙ c.in_ok-numbers.ensures ∙ ap numbers_of (sym c.in-Some.ensures) in
    let may = c.requires.may (sym c.requires.translated ∙ c.if-translated.false) in
    subst (λ (numbers : List ℕ). has_room m c.args.user (newly_pinned m numbers) ≡ true) (sym are) may.room

pub pin-requires-clause-areas : goal.pin-requires-clause-areas
pin-requires-clause-areas g c = λ number.
    let m = c.args.memory.now in
    let areas : List Area = own_areas c.args.table.now c.args.file c.args.ioas in
    let are : c.deref.result.now ≡ numbers_of areas =
    c.deref.ensures.value ∙ c.in_ok-numbers.ensures ∙ ap numbers_of (sym c.in-Some.ensures) in
    let may = c.requires.may (sym c.requires.translated ∙ c.if-translated.false) in
    subst (λ (times : ℕ). table_pins m number + times ≤ areas_over m number)
    (sym (ap (times_of number) are ∙ times_over number areas)) (may.areas number)

pub pin-requires-clause-backed : goal.pin-requires-clause-backed
pin-requires-clause-backed g c = (c.requires.may (sym c.requires.translated ∙ c.if-translated.false)).backed

pub returns-then-translated-clause-ok : goal.returns-then-translated-clause-ok
returns-then-translated-clause-ok g c =
    pinned_yet c.args.memory.now c.args.pool.now c.requires.known _ _
    (sym (sym c.requires.translated ∙ c.if-translated.true))

pub returns-in_default-clause-ok : goal.returns-in_default-clause-ok
returns-in_default-clause-ok g c =
    pinned_empty c.args.memory.now c.args.pool.now c.requires.known _ _ c.in_default.ensures

pub returns-in_err-numbers-clause-err : goal.returns-in_err-numbers-clause-err
returns-in_err-numbers-clause-err g c =
    on_err_same c.from_residual.result _ (stays_same c.args.memory.now c.args.pool.now c.requires.known)

pub returns-clause-ok : goal.returns-clause-ok
returns-clause-ok g c =
    let areas : List Area = own_areas c.args.table.now c.args.file c.args.ioas in
    let are : c.deref.result.now ≡ numbers_of areas =
    c.deref.ensures.value ∙ c.in_ok-numbers.ensures ∙ ap numbers_of (sym c.in-Some.ensures) in
    pinned_first c.args.memory.now c.pin.new.self c.args.pool.now c.pin.new.pool c.pin.result _ areas _
    (sym (sym c.requires.translated ∙ c.if-translated.false))
    (fun_ext (λ (number : ℕ). ap (times_of number) are ∙ times_over number areas))
    c.pin.ensures.pins c.pin.ensures.settles

pub returns-clause-err : goal.returns-clause-err
returns-clause-err g c =
    stays_told c.args.memory.now c.pin.new.self c.args.pool.now c.pin.new.pool c.pin.result
    c.pin.ensures.pages c.pin.ensures.limits c.pin.ensures.err c.pin.ensures.pool_err

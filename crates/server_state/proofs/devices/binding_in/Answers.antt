use Rattle.std.proofs.Common.{Bool, Some, None, cond, length, refl, sym, ap, ◌∙◌}
use Rattle.std.specs.List.{slice_get}
use Rattle.std.proofs.lemmas.Option.{slice_get_past, slice_get_read}
use Rattle.server_state.proofs.Bindings.{binding_there}
use Rattle.server_state.proofs.devices.binding_in.Goals as goal

pub returns-in_default : goal.returns-in_default
returns-in_default c =
    let rows = c.args.bindings.now in
    let past = slice_get_past rows c.bindings_below-place.result c.in_default.ensures.lookup.3 in
    sym (binding_there rows c.args.device c.requires None (ap (slice_get rows) (sym c.bindings_below-place.ensures)
    ∙ past))

pub returns-then-is_bound_as : goal.returns-then-is_bound_as
returns-then-is_bound_as c =
    let rows = c.args.bindings.now in
    let x = c.in-Some.object.now in
    let there = slice_get_read rows (length rows) c.bindings_below-place.result x refl c.in-Some.ensures.lookup.3.0
    c.in-Some.ensures.lookup.1 in
    let at = ap (slice_get rows) (sym c.bindings_below-place.ensures) ∙ there in
    sym (binding_there rows c.args.device c.requires (Some x) at
    ∙ ap (λ (b : Bool). cond b (Some x) None) (sym c.is_bound_as.ensures ∙ c.if-is_bound_as.true))

pub returns-else-is_bound_as : goal.returns-else-is_bound_as
returns-else-is_bound_as c =
    let rows = c.args.bindings.now in
    let x = c.in-Some.object.now in
    let there = slice_get_read rows (length rows) c.bindings_below-place.result x refl c.in-Some.ensures.lookup.3.0
    c.in-Some.ensures.lookup.1 in
    let at = ap (slice_get rows) (sym c.bindings_below-place.ensures) ∙ there in
    sym (binding_there rows c.args.device c.requires (Some x) at
    ∙ ap (λ (b : Bool). cond b (Some x) None) (sym c.is_bound_as.ensures ∙ c.if-is_bound_as.false))

use Rattle.std.proofs.Common.{Bool, Some, None, cond, length, refl, sym, ap, ◌∙◌}
use Rattle.std.specs.List.{slice_get}
use Rattle.std.proofs.lemmas.Option.{slice_get_past, slice_get_read}
use Rattle.server_state.proofs.Searched.{attachment_there}
use Rattle.server_state.proofs.devices.attachment_in.Goals as goal

pub returns-in_default : goal.returns-in_default
returns-in_default c =
    let rows = c.args.attachments.now in
    let past = slice_get_past rows c.attachments_below-place.result c.in_default.ensures.lookup.3 in
    sym (attachment_there rows c.args.device c.requires None
    (ap (slice_get rows) (sym c.attachments_below-place.ensures) ∙ past))

pub returns-then-eq : goal.returns-then-eq
returns-then-eq c =
    let rows = c.args.attachments.now in
    let x = c.in-Some.attachment.now in
    let there = slice_get_read rows (length rows) c.attachments_below-place.result x refl c.in-Some.ensures.lookup.3.0
    c.in-Some.ensures.lookup.1 in
    let at = ap (slice_get rows) (sym c.attachments_below-place.ensures) ∙ there in
    sym (attachment_there rows c.args.device c.requires (Some x) at
    ∙ ap (λ (b : Bool). cond b (Some x) None) (sym c.eq.ensures ∙ c.if-eq.true))

pub returns-else-eq : goal.returns-else-eq
returns-else-eq c =
    let rows = c.args.attachments.now in
    let x = c.in-Some.attachment.now in
    let there = slice_get_read rows (length rows) c.attachments_below-place.result x refl c.in-Some.ensures.lookup.3.0
    c.in-Some.ensures.lookup.1 in
    let at = ap (slice_get rows) (sym c.attachments_below-place.ensures) ∙ there in
    sym (attachment_there rows c.args.device c.requires (Some x) at
    ∙ ap (λ (b : Bool). cond b (Some x) None) (sym c.eq.ensures ∙ c.if-eq.false))

use Rattle.std.proofs.Common.{refl, sym, ◌∙◌}
use Rattle.event_ioas.proofs.UnusableAmong.{by_spans}
use Rattle.server_state.proofs.PageTables.{tables_known}
use Rattle.server_state.specs.Held.{objects_in}
use Rattle.event_ioas.proofs.unusable.meets_rising.Goals as goal

pub returns-then-some_ends_among : goal.returns-then-some_ends_among
returns-then-some_ends_among g c =
    let ends = rw c.as_slice.ensures at c.some_ends_among.ensures in
    c.if-some_ends_among.true
    ∙ sym (by_spans c.args.state.now.config c.args.state.now.page_tables.tables (objects_in c.args.state.now.objects)
    c.args.state.now.attachments.items (tables_known c.args.state.now c.requires.known) c.args.file
    c.args.ioas c.args.ranges.now
    ∙ rw (sym ends ∙ c.if-some_ends_among.true) refl)

pub returns-else-some_ends_among : goal.returns-else-some_ends_among
returns-else-some_ends_among g c =
    let ends = rw c.as_slice.ensures at c.some_ends_among.ensures in
    rw c.deref.ensures.value at c.some_keeps.ensures
    ∙ sym (by_spans c.args.state.now.config c.args.state.now.page_tables.tables (objects_in c.args.state.now.objects)
    c.args.state.now.attachments.items (tables_known c.args.state.now c.requires.known) c.args.file
    c.args.ioas c.args.ranges.now
    ∙ rw (sym ends ∙ c.if-some_ends_among.false) refl)

use Rattle.std.proofs.Common.{map, ap, ◌∙◌}
use Rattle.page_table_set.specs.PageTables.{Hwpt}
use Rattle.server_state.proofs.Kept.{unusable_beyond, unusable_found}
use Rattle.server_state.proofs.PageTables.{tables_known}
use Rattle.server_state.specs.Held.{objects_in}
use Rattle.server_state.proofs.state.State.unusable_meeting.Goals as goal

pub beyond_meeting-requires : goal.beyond_meeting-requires
beyond_meeting-requires g c =
    ap (map (λ (h : Hwpt). h.object)) c.as_slice.ensures ∙ tables_known c.args.self.now c.requires

pub returns-in-Some : goal.returns-in-Some
returns-in-Some g c =
    unusable_beyond c.args.self.now.config (objects_in c.args.self.now.objects) c.args.self.now.attachments.items
    c.args.file c.args.ioas c.args.span c.in-Some.one
    (rw c.in-Some.is at c.beyond_meeting.ensures)

pub returns-in-None : goal.returns-in-None
returns-in-None g c =
    unusable_found c.args.self.now.config (objects_in c.args.self.now.objects) c.args.self.now.attachments.items
    c.args.file c.args.ioas c.args.span c.kept_meeting.result
    (rw c.in-None.is at c.beyond_meeting.ensures) (rw c.deref.ensures.value at c.kept_meeting.ensures)

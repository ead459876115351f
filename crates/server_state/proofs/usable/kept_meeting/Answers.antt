use Rattle.std.proofs.Common.{sym, ap, ◌∙◌}
use Rattle.std.specs.Option.{option_copied}
use Rattle.iofd_rows.specs.Reached.{keeps_of}
use Rattle.server_state.proofs.Kept.{kept_found, none_found}
use Rattle.server_state.specs.Held.{objects_in}
use Rattle.server_state.proofs.usable.kept_meeting.Goals as goal

pub returns-in-Some : goal.returns-in-Some
returns-in-Some g c =
    kept_found c.args.config.now (objects_in c.args.table.now) c.args.attachments.now c.args.file c.args.ioas
    c.args.span c.in-Some.a.now c.kept_by.result
    (sym c.keeper.ensures ∙ ap option_copied c.in-Some.is) c.kept_by.ensures

pub returns-in-None : goal.returns-in-None
returns-in-None g c =
    none_found (keeps_of c.args.config.now (objects_in c.args.table.now) c.args.file c.args.ioas c.args.span)
    c.args.attachments.now
    (sym c.keeper.ensures ∙ ap option_copied c.in-None.is)

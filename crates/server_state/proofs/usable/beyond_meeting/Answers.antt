use Rattle.std.proofs.Common.{map, sym, ap, ◌∙◌}
use Rattle.std.specs.Option.{option_copied, option_map}
use Rattle.page_table_set.specs.PageTables.{Hwpt}
use Rattle.iofd_rows.specs.Reached.{ends_in}
use Rattle.server_state.proofs.Kept.{end_found, none_ends}
use Rattle.server_state.proofs.PageTables.{found_among}
use Rattle.iofd_words.specs.Usable.{beyond_table}
use Rattle.iofd_words.specs.declared.rows.Object.{Object}
use Rattle.server_state.specs.Choice.{first_of}
use Rattle.server_state.specs.Held.{objects_in}
use Rattle.server_state.proofs.usable.beyond_meeting.Goals as goal

pub returns-in-Some : goal.returns-in-Some
returns-in-Some g c =
    end_found (map (λ (h : Hwpt). h.object) c.args.tables.now) (objects_in c.args.table.now) c.requires c.args.file
    c.args.ioas c.args.span c.in-Some.hwpt.now.object c.beyond.result
    (found_among (ends_in c.args.file c.args.ioas c.args.span) c.args.tables.now
    ∙ ap (option_map (λ (h : Hwpt). h.object)) (sym c.table_ending_in.ensures ∙ ap option_copied c.in-Some.is))
    (c.beyond.ensures ∙ ap (λ (o : Object). first_of (beyond_table o.kind)) c.object.ensures)

pub returns-in-None : goal.returns-in-None
returns-in-None g c =
    none_ends (map (λ (h : Hwpt). h.object) c.args.tables.now) (objects_in c.args.table.now) c.requires
    c.args.file c.args.ioas c.args.span
    (found_among (ends_in c.args.file c.args.ioas c.args.span) c.args.tables.now
    ∙ ap (option_map (λ (h : Hwpt). h.object)) (sym c.table_ending_in.ensures ∙ ap option_copied c.in-None.is))

use Rattle.std.proofs.Common.{subst, sym, ◌∙◌, ap, ◌&&◌, not}
use Rattle.iofd_rows.specs.Reached.{ends_in_kind}
use Rattle.iofd_words.specs.Ranges.{in_spans}
use Rattle.event_ioas.proofs.LeavingOut.{IsLeaving, all_left_out}
use Rattle.event_ioas.specs.LeftOut.{only}
use Rattle.object_table.specs.Table.{rows_of}
use Rattle.server_state.proofs.Objects.{ends_in_rows}
use Rattle.server_state.specs.Held.{kind_in}
use Rattle.event_ioas.proofs.usable_ranges.leave_out_beyond.Goals as goal

pub returns : goal.returns
returns g c =
    let rows = rows_of c.args.table.now c.args.file in
    let done = subst (λ left. IsLeaving (λ n row. ends_in_kind c.args.ioas (only n) (kind_in row.value)) rows left
    c.args.set.now.spans c.loop-object.set.spans) c.in-None.ensures.steps.0 c.loop-object.invariant in
    let out = all_left_out (λ n row. ends_in_kind c.args.ioas (only n) (kind_in row.value)) rows c.args.set.now.spans
    c.loop-object.set.spans done in
    record {
      numbers = λ n. out.numbers n ∙ ap (λ b. in_spans c.args.set.now.spans n && not b)
          (sym (ends_in_rows c.args.table.now.rows c.args.file c.args.ioas (only n)));
      merged = out.merged;
    }

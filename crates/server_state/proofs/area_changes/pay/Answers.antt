use Rattle.iofd_words.specs.Areas.{all_paid}
use Rattle.server_state.proofs.AreasHeld.{rewritten}
use Rattle.server_state.proofs.area_changes.pay.Goals as goal

pub returns-in-Ok : goal.returns-in-Ok
returns-in-Ok g c = rewritten (all_paid c.args.device) c.args.table.now c.args.file _ c.args.ioas c.in-Ok.held.now
    c.pay_held.new.held c.in-Ok.ensures.ok c.pay_held.ensures

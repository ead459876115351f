use Rattle.std.proofs.Common.{ℕ, List, [], refl, sym, subst}
use Rattle.iofd_steps.specs.Run.{IsRun, world_of}
use Rattle.iofd_words.specs.World.{opening}
use Rattle.server_state.specs.Shows.{Shows}
use Rattle.iommufd_core.proofs.Counted.{none_counted}
use Rattle.iommufd_core.specs.TurnCounts.{AreTurns}
use Rattle.iommufd_core.proofs.apply.Core.new.Goals as goal

pub invariant_of-result : goal.invariant_of-result
unfolding IsRun world_of
invariant_of-result g c = rw c.new.ensures.items (record {
  run = tt;
  shows = subst (λ settings. Shows (opening settings) c.in_ok-opened.field-0) (sym c.in_ok-opened.ensures.config)
      c.in_ok-opened.ensures.shows;
  used = λ file ioas. refl;
  turns = subst (λ settings. AreTurns {A = g.row.A.Denot} c.in_ok-turns.turns.items settings [])
      (sym c.in_ok-opened.ensures.config)
      (subst (λ (counts : List ℕ). AreTurns {A = g.row.A.Denot} counts c.args.config.now [])
      (sym (rw c.devices.ensures at c.in_ok-turns.ensures)) (none_counted g.row.A.Denot c.args.config.now));
})

use Rattle.std.proofs.Common.{length}
use Rattle.iofd_steps.specs.Run.{world_of}
use Rattle.iommufd_core.proofs.Histories.{tidy_run}
use Rattle.iommufd_core.proofs.MayAsk.{asked_of}
use Rattle.iommufd_core.proofs.apply.Core.look_in_place.Goals as goal

pub returns : goal.returns
returns g c =
    let settings = c.self.inside.state.config in
    let records = c.self.inside.records.items in
    rw (← c.self.view_is) (c.look_in_place.ensures (length records) (world_of settings records) records
    (tidy_run settings records c.self.invariant.run c.self.invariant.used) c.self.invariant.shows
    (rw c.deref.ensures.value c.self.invariant.turns))

pub look_in_place-requires-clause-known : goal.look_in_place-requires-clause-known
look_in_place-requires-clause-known g c =
    let settings = c.self.inside.state.config in
    let records = c.self.inside.records.items in
    record {
      at = length records;
      world = world_of settings records;
      tidy =
          tidy_run settings records c.self.invariant.run c.self.invariant.used;
      shows = c.self.invariant.shows;
    }

pub look_in_place-requires-clause-may : goal.look_in_place-requires-clause-may
look_in_place-requires-clause-may g c =
    let settings = c.self.inside.state.config in
    let records = c.self.inside.records.items in
    asked_of (record { settings = settings; records = records }) c.self.inside.state c.self.invariant.shows
    (tidy_run settings records c.self.invariant.run c.self.invariant.used) c.args.query.now
    (rw (← c.self.view_is) at c.requires)

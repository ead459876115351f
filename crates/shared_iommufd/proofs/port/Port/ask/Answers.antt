use Rattle.lane_lock.specs.Passes.{lane_of, view_of}
use Rattle.shared_iommufd.specs.Ports.{most_of, standing_of, stands_so}
use Rattle.shared_iommufd.specs.Servers.{settings_of}
use Rattle.shared_iommufd.specs.declared.error.PortCause.{PortCause}
use Rattle.shared_iommufd.proofs.Accessed.{keeps_read}
use Rattle.shared_iommufd.proofs.MetLanes.{read_met}
use Rattle.shared_iommufd.proofs.port.Port.ask.Goals as goal

pub invariant_of-self : goal.invariant_of-self
invariant_of-self g c =
    let a = c.args in
    record {
      kept = keeps_read (settings_of a.server.now) a.self.now.device (most_of a.self.now) a.iova.0 a.len
          (standing_of a.self.now) c.in-Ok.answer (stands_so c.try_read_by.new.pass c.keep.new.self) a.self.now.kept
          record {
            sees = c.in-Ok.ensures.sees;
            had = c.in-Ok.ensures.had;
            finds = c.in-Ok.found;
            tells = c.in-Ok.ensures.tells;
            turns = c.keep.ensures.turns;
            leaves = c.keep.ensures.leaves;
          };
    }

pub returns-in-Err-clause-told : goal.returns-in-Err-clause-told
returns-in-Err-clause-told g c =
    let pass = c.args.self.now.pass in
    read_met PortCause (view_of pass) (view_of c.try_read_by.new.pass) (lane_of pass) c.in-Err.refused c.in-Err.ensures.refused

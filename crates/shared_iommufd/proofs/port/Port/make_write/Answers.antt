use Rattle.lane_lock.specs.Passes.{lanes_of, view_of}
use Rattle.guarded_core.proofs.Kept.{keeps_later}
use Rattle.shared_iommufd.specs.Ports.{most_of, standing_of}
use Rattle.shared_iommufd.specs.Servers.{settings_of}
use Rattle.shared_iommufd.proofs.Accessed.{keeps_written, refused_sees}
use Rattle.shared_iommufd.proofs.MetLanes.{commit_met}
use Rattle.shared_iommufd.proofs.port.Port.make_write.Goals as goal

pub invariant_of-self : goal.invariant_of-self
invariant_of-self g c =
    let a = c.args in
    record {
      kept = keeps_written (settings_of a.server.now) a.self.now.device (most_of a.self.now) a.iova.0 a.bytes
          (standing_of a.self.now) c.in-Ok.found c.in-Ok.stamp c.try_write_by.new.pass c.keep.new.self.turns
          c.keep.new.self.pages.entries a.self.now.kept c.in-Ok.ensures.tells c.keep.ensures.turns c.keep.ensures.leaves;
    }

pub invariant_of-self-in-Err-1 : goal.invariant_of-self-in-Err-1
invariant_of-self-in-Err-1 g c =
    let a = c.args in
    let sees = refused_sees (lanes_of a.server.now.lock) (view_of a.self.now.pass) (view_of c.try_write_by.new.pass)
    c.in-Err.error c.in-Err.ensures.refused in
    record {
      kept = keeps_later a.self.now.device (view_of a.self.now.pass).seen (view_of c.try_write_by.new.pass).seen
          a.self.now.cache.turns a.self.now.cache.pages.entries sees.later a.self.now.kept;
    }

pub returns-in-Err-clause-told : goal.returns-in-Err-clause-told
returns-in-Err-clause-told g c =
    let a = c.args in
    commit_met (lanes_of a.server.now.lock) (view_of a.self.now.pass) (view_of c.try_write_by.new.pass) c.in-Err.error
    c.in-Err.ensures.refused

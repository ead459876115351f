use Rattle.std.proofs.Common.{refl}
use Rattle.shared_iommufd.specs.Ports.{most_of, standing_of, stands_so}
use Rattle.shared_iommufd.specs.Servers.{settings_of}
use Rattle.shared_iommufd.proofs.Accessed.{keeps_translated}
use Rattle.shared_iommufd.proofs.port.Port.translate_now.Goals as goal

pub invariant_of-self : goal.invariant_of-self
invariant_of-self g c =
    let a = c.args in
    record {
      kept = keeps_translated (settings_of a.server.now) a.self.now.device (most_of a.self.now) a.iova.0 a.kind
          (standing_of a.self.now) c.in-Ok.found.translation (stands_so c.try_translate_by.new.pass c.keep.new.self)
          a.self.now.kept record {
            sees = c.in-Ok.ensures.sees;
            had = c.in-Ok.ensures.had;
            finds = c.in-Ok.found;
            tells = c.in-Ok.ensures.tells;
            found = refl;
            turns = c.keep.ensures.turns;
            leaves = c.keep.ensures.leaves;
          };
    }

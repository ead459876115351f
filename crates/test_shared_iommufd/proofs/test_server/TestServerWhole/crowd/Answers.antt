use Rattle.std.proofs.Common.{◌≡◌, length, sym, subst, rules}
use Rattle.std.proofs.lemmas.List.{with_items_is}
use Rattle.shared_iommufd.specs.Servers.{ArePassesOf}
use Rattle.test_shared_iommufd.proofs.test_server.TestServerWhole.crowd.Goals as goal

pub crowd-requires-after_bounds : goal.crowd-requires-after_bounds
crowd-requires-after_bounds g c κs within =
    let self = c.args.self.now in
    let lent : c.deref_mut.result.now ≡ self.others.items = search rules in
    subst (ArePassesOf self.server) (sym lent) self.of_others

pub invariant_of-self : goal.invariant_of-self
invariant_of-self g c =
    let self = c.args.self.now in
    let after = c.crowd.new.passes in
    let kept : length after ≡ self.others.len = search rules in
    record {
      of_port = self.of_port;
      of_pass = self.of_pass;
      of_others = subst (ArePassesOf self.server) (sym (with_items_is self.others after kept)) c.crowd.ensures;
    }

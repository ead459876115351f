use Rattle.std.proofs.Common.{◌≡◌, ℕ, List, length, sym, subst, rules}
use Rattle.std.proofs.lemmas.List.{with_items_is}
use Rattle.shared_iommufd.specs.PortReads.{Reads, as_tried}
use Rattle.shared_iommufd.specs.Ports.{most_of, standing_of}
use Rattle.shared_iommufd.specs.Servers.{settings_of}
use Rattle.device_threads.specs.Jobs.{IsRead}
use Rattle.device_threads.proofs.port_job.read.Goals as goal

pub returns-clause-comes : goal.returns-clause-comes
returns-clause-comes g c =
    let a = c.args in
    let s = settings_of a.server.now in
    let p = a.port.now in
    let q = c.read-ended.new.self in
    let read = c.read-ended.ensures in
    let after = c.read-ended.new.buffer in
    let kept : length after ≡ a.buffer.len = search rules in
    let lent : c.deref_mut.result.now ≡ a.buffer.items = search rules in
    subst (λ (back : List ℕ). IsRead s p a.iova.0 a.buffer.items c.read-ended.result back q)
    (sym (with_items_is a.buffer after kept)) record {
      reads = subst (λ (old : List ℕ). Reads s p.device (most_of p) a.iova.0 old (standing_of p)
          (as_tried c.read-ended.result) (standing_of q) after) lent read.reads;
      sees = read.sees;
      last = read.last;
    }

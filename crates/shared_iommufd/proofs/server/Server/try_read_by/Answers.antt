use Rattle.std.proofs.Common.{◌≡◌, true, refl, rules}
use Rattle.iofd_words.specs.Files.{is_device}
use Rattle.lane_lock.specs.Passes.{view_of}
use Rattle.guarded_core.proofs.Guards.{if_ok}
use Rattle.guarded_core.proofs.Kept.{keeps_serves}
use Rattle.guarded_core.specs.Caches.{ReadUnder, Serves}
use Rattle.guarded_core.specs.Opening.{opened_with}
use Rattle.shared_iommufd.specs.Ports.{stands_so}
use Rattle.shared_iommufd.specs.Servers.{settings_of}
use Rattle.shared_iommufd.proofs.Accessed.{known_later, tells_read}
use Rattle.shared_iommufd.proofs.server.Server.try_read_by.Goals as goal

pub try_show_later-requires-clause-callable : goal.try_show_later-requires-clause-callable
try_show_later-requires-clause-callable g c = λ x opened later.
    let a = c.args in
    let h = x.now.core.history in
    let known : is_device h.settings a.device ≡ true =
    known_later (opened_with a.self.now.lock) h a.device opened c.requires.known in
    let serves : Serves h a.device a.cache.now.turns a.cache.now.pages.entries =
    keeps_serves a.device h (view_of a.pass.now).seen a.cache.now.turns a.cache.now.pages.entries later c.requires.kept in
    search (rules, known, serves)

pub returns-clause-tells : goal.returns-clause-tells
returns-clause-tells g c =
    let a = c.args in
    let server = a.self.now in
    let cache = a.cache.now in
    if_ok c.try_show_later.result _ _ c.try_show_later.ensures.shown (λ r s.
    let h = s.0.core.history in
    let k = s.1 in
    let under : ReadUnder h a.device cache.turns cache.pages.entries a.iova a.len r.0 r.1 = search rules in
    tells_read (settings_of server) (opened_with server.lock) h a.device a.iova a.len (stands_so a.pass.now cache)
    r.0 r.1 c.try_show_later.new.pass refl server.fresh k.opened k.seen k.legal k.home under)

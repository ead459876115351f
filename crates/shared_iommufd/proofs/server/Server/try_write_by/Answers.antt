use Rattle.std.proofs.Common.{◌≡◌, true, refl, subst, rules}
use Rattle.iofd_words.specs.Files.{is_device}
use Rattle.lane_lock.specs.Passes.{view_of}
use Rattle.guarded_core.proofs.Entered.{same_settings}
use Rattle.guarded_core.proofs.Guards.{if_ok}
use Rattle.guarded_core.proofs.Kept.{keeps_serves}
use Rattle.guarded_core.specs.Caches.{Serves, WriteUnder}
use Rattle.guarded_core.specs.Opening.{opened_with}
use Rattle.guarded_core.specs.declared.kept_core.KeptCore.{KeptCore}
use Rattle.shared_iommufd.specs.Ports.{stands_so}
use Rattle.shared_iommufd.specs.Servers.{settings_of}
use Rattle.shared_iommufd.proofs.Accessed.{known_later, tells_write}
use Rattle.shared_iommufd.proofs.Shown.{makes_from, same_pass, sees_same}
use Rattle.shared_iommufd.proofs.server.Server.try_write_by.Goals as goal

pub try_commit_later-requires-clause-callable : goal.try_commit_later-requires-clause-callable
try_commit_later-requires-clause-callable g c = λ x opened later.
    let a = c.args in
    let h = x.now.core.history in
    let known : is_device h.settings a.device ≡ true =
    known_later (opened_with a.self.now.lock) h a.device opened c.requires.known in
    let serves : Serves h a.device a.cache.now.turns a.cache.now.pages.entries =
    keeps_serves a.device h (view_of a.pass.now).seen a.cache.now.turns a.cache.now.pages.entries later c.requires.kept in
    search (rules, known, serves)

pub returns-clause-tells : goal.returns-clause-tells
returns-clause-tells g c =
    let a = c.args in
    let server = a.self.now in
    let pass = a.pass.now in
    let cache = a.cache.now in
    if_ok c.try_commit_later.result _ _ c.try_commit_later.ensures.committed (λ r s.
    let act = s.0 in
    let k = s.1 in
    let h = k.before.core.history in
    let told = s.2 in
    let shown : WriteUnder told.shown.now.core.history a.device cache.turns cache.pages.entries a.iova a.bytes r.0 act =
    search rules in
    let under : WriteUnder h a.device cache.turns cache.pages.entries a.iova a.bytes r.0 act =
    subst (λ (v : KeptCore _). WriteUnder v.core.history a.device cache.turns cache.pages.entries a.iova a.bytes r.0 act)
    told.shows shown in
    let made = makes_from (settings_of server) (opened_with server.lock) h k.after.core.history pass pass
    c.try_commit_later.new.pass act r.1 k.entry refl server.fresh k.opened (same_pass pass) (sees_same pass) k.later
    k.mine k.gives k.seen k.grown k.own k.home (search rules) in
    tells_write (settings_of server) h a.device a.iova a.bytes (stands_so pass cache) r.0 act r.1
    c.try_commit_later.new.pass (same_settings h (opened_with server.lock) k.opened) made.0 made.1 k.gives.chosen
    under)

use Rattle.std.proofs.Common.{◌≡◌, true, refl, rules, subst}
use Rattle.iofd_words.specs.Files.{is_device}
use Rattle.lane_lock.specs.Passes.{view_of}
use Rattle.guarded_core.proofs.Guards.{if_ok}
use Rattle.guarded_core.proofs.Kept.{keeps_serves}
use Rattle.guarded_core.specs.Caches.{Serves, TranslatedUnder}
use Rattle.guarded_core.specs.Opening.{opened_with}
use Rattle.guarded_core.specs.declared.kept_core.KeptCore.{KeptCore}
use Rattle.shared_iommufd.specs.Ports.{stands_so}
use Rattle.shared_iommufd.specs.Servers.{settings_of}
use Rattle.shared_iommufd.proofs.Accessed.{known_later, tells_translation}
use Rattle.shared_iommufd.proofs.server.Server.try_translate_by.Goals as goal

pub try_show_later-requires-clause-callable : goal.try_show_later-requires-clause-callable
try_show_later-requires-clause-callable g c = λ x opened later.
    let a = c.args in
    let h = x.now.core.history in
    let known : is_device h.settings a.device ≡ true =
    known_later (opened_with a.self.now.lock) h a.device opened c.requires.known in
    let serves : Serves h a.device a.cache.now.turns a.cache.now.pages.entries =
    keeps_serves a.device h (view_of a.pass.now).seen a.cache.now.turns a.cache.now.pages.entries later c.requires.kept in
    search (rules, known, serves)

pub returns-clause-tells : goal.returns-clause-tells
returns-clause-tells g c =
    let a = c.args in
    let server = a.self.now in
    let cache = a.cache.now in
    if_ok c.try_show_later.result _ _ c.try_show_later.ensures.shown (λ finds s.
    let h = s.0.core.history in
    let k = s.1 in
    let under = subst (λ (kept : KeptCore _). TranslatedUnder kept.core.history a.device cache.turns cache.pages.entries
    a.iova a.kind finds) s.2.1 s.2.2 in
    tells_translation (settings_of server) (opened_with server.lock) h a.device a.iova a.kind
    (stands_so a.pass.now cache) finds c.try_show_later.new.pass refl server.fresh k.opened k.seen k.legal k.home under)

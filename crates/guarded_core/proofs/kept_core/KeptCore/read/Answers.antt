use Rattle.std.proofs.Common.{◌≡◌, true, sym, ap, subst, ◌∙◌}
use Rattle.iofd_steps.specs.Look.{answers_to}
use Rattle.iofd_words.specs.declared.query.Query.{Query}
use Rattle.iommufd_core.specs.History.{may_look}
use Rattle.iommufd_core.specs.Server.{Server}
use Rattle.server_state.specs.Choice.{IsLooked}
use Rattle.guarded_core.proofs.ByFound.{may_ask, query_by, told_by, told_lawful}
use Rattle.guarded_core.proofs.kept_core.KeptCore.read.Goals.{in-None, in-Some}
use Rattle.guarded_core.proofs.kept_core.KeptCore.read.Goals as goal

pub look-requires : goal.look-requires
look-requires g c =
    let h = c.args.self.now.core.history in
    let cache = c.args.read.cache.now in
    let asked : c.match-found.query
    ≡ query_by c.args.read.device c.args.read.iova c.args.read.len c.find-found.result.translation =
    elim c.match-found.branch [
      | in-Some w ↦ w.query-is ∙ ap (query_by c.args.read.device c.args.read.iova c.args.read.len) (sym w.in-Some.is)
      | in-None w ↦ w.query-is ∙ ap (query_by c.args.read.device c.args.read.iova c.args.read.len) (sym w.in-None.is)
    ] in
    subst (λ (x : Server _ × Query). may_look x.0.history x.1 ≡ true)
    (λ i. (sym c.core-core.ensures.value i, sym asked i))
    (may_ask h c.args.read.device c.core-core.ensures.run cache.turns cache.pages.entries c.requires.serves c.args.read.iova
    c.args.read.len c.requires.inside c.find-found.result.translation c.find-found.ensures.found)

pub returns : goal.returns
returns g c =
    let h = c.args.self.now.core.history in
    let cache = c.args.read.cache.now in
    let asked : c.match-found.query
    ≡ query_by c.args.read.device c.args.read.iova c.args.read.len c.find-found.result.translation =
    elim c.match-found.branch [
      | in-Some w ↦ w.query-is ∙ ap (query_by c.args.read.device c.args.read.iova c.args.read.len) (sym w.in-Some.is)
      | in-None w ↦ w.query-is ∙ ap (query_by c.args.read.device c.args.read.iova c.args.read.len) (sym w.in-None.is)
    ] in
    let looked : IsLooked (answers_to h.settings h.records
    (query_by c.args.read.device c.args.read.iova c.args.read.len c.find-found.result.translation)) c.look.result =
    subst (λ (x : Server _ × Query). IsLooked (answers_to x.0.history.settings x.0.history.records x.1) c.look.result)
    (λ i. (c.core-core.ensures.value i, asked i)) c.look.ensures in
    record {
      run = c.core-core.ensures.run;
      turned = c.find-found.ensures.turns;
      found_so = c.find-found.ensures.found;
      lawful = told_lawful h c.args.read.device c.core-core.ensures.run cache.turns cache.pages.entries c.requires.serves
          c.args.read.iova c.args.read.len c.requires.inside c.find-found.result.translation c.look.result looked.is_lawful;
      by = told_by h c.args.read.device c.core-core.ensures.run cache.turns cache.pages.entries c.requires.serves c.args.read.iova
          c.args.read.len c.requires.inside c.find-found.result.translation c.look.result c.find-found.ensures.found looked;
    }

use Rattle.std.proofs.Common.{Contains, subst}
use Rattle.iofd_steps.specs.Look.{answers_to}
use Rattle.iofd_words.specs.View.{view}
use Rattle.iofd_words.specs.Walk.{translation}
use Rattle.iommufd_core.specs.History.{world}
use Rattle.iofd_words.specs.declared.query.Query.TheVariants as query
use Rattle.iommufd_core.specs.Server.{Server}
use Rattle.guarded_core.proofs.ByFound.{same_walk, walk_is}
use Rattle.guarded_core.proofs.kept_core.KeptCore.walk.Goals as goal

pub unreachable-requires : goal.unreachable-requires
unreachable-requires g c =
    let h = c.args.self.now.core.history in
    let told : Contains (answers_to h.settings h.records (query.WalkFor c.args.device c.args.iova)) c.look.result =
    subst (λ (k : Server _). Contains (answers_to k.history.settings k.history.records (query.WalkFor c.args.device c.args.iova))
    c.look.result) c.core-core.ensures.value c.look.ensures.is_lawful in
    c.in_default.not-Walk (translation (view (world h)) c.args.device c.args.iova.0)
    (walk_is h c.args.device c.core-core.ensures.run c.requires c.args.iova c.look.result told)

pub returns : goal.returns
returns g c =
    let h = c.args.self.now.core.history in
    let told : Contains (answers_to h.settings h.records (query.WalkFor c.args.device c.args.iova)) c.look.result =
    subst (λ (k : Server _). Contains (answers_to k.history.settings k.history.records (query.WalkFor c.args.device c.args.iova))
    c.look.result) c.core-core.ensures.value c.look.ensures.is_lawful in
    same_walk c.look.result c.in-Walk.translation (translation (view (world h)) c.args.device c.args.iova.0) c.in-Walk.is
    (walk_is h c.args.device c.core-core.ensures.run c.requires c.args.iova c.look.result told)

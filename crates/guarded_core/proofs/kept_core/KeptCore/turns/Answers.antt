use Rattle.std.proofs.Common.{Contains, subst}
use Rattle.iofd_steps.specs.Look.{answers_to}
use Rattle.iofd_words.specs.Turns.{turns_of}
use Rattle.iofd_words.specs.declared.query.Query.TheVariants as query
use Rattle.iommufd_core.specs.Server.{Server}
use Rattle.guarded_core.proofs.ByFound.{same_count, turns_are}
use Rattle.guarded_core.proofs.kept_core.KeptCore.turns.Goals as goal

pub unreachable-requires : goal.unreachable-requires
unreachable-requires g c =
    let h = c.args.self.now.core.history in
    let told : Contains (answers_to h.settings h.records (query.Turns c.args.device)) c.look.result =
    subst (λ (k : Server _). Contains (answers_to k.history.settings k.history.records (query.Turns c.args.device))
    c.look.result) c.core-core.ensures.value c.look.ensures.is_lawful in
    c.in_default.not-Count (turns_of c.args.device h.records)
    (turns_are h c.args.device c.core-core.ensures.run c.requires c.look.result told)

pub returns : goal.returns
returns g c =
    let h = c.args.self.now.core.history in
    let told : Contains (answers_to h.settings h.records (query.Turns c.args.device)) c.look.result =
    subst (λ (k : Server _). Contains (answers_to k.history.settings k.history.records (query.Turns c.args.device))
    c.look.result) c.core-core.ensures.value c.look.ensures.is_lawful in
    same_count c.look.result c.in-Count.turns (turns_of c.args.device h.records) c.in-Count.is
    (turns_are h c.args.device c.core-core.ensures.run c.requires c.look.result told)

use Rattle.std.proofs.Common.{◌≡◌, None, rules}
use Rattle.std.proofs.lemmas.Result.{on_err_weaker}
use Rattle.ioctl_codec.specs.Events.{asked}
use Rattle.ioctl_codec.specs.Refusals.{refusal}
use Rattle.guarded_core.proofs.Guards.{on_err}
use Rattle.shared_iommufd.proofs.Refused.{failed_in_vain, spelt_command}
use Rattle.shared_iommufd.proofs.server.Server.ioctl.Goals as goal

pub returns-in-Ok-clause-spelt : goal.returns-in-Ok-clause-spelt
returns-in-Ok-clause-spelt g c =
    let a = c.args in
    let spelt : refusal a.number a.bytes.now ≡ None = search rules in
    on_err c.serve.result (refusal a.number a.bytes.now ≡ None) spelt

pub returns-in-Ok-clause-had : goal.returns-in-Ok-clause-had
returns-in-Ok-clause-had g c =
    on_err_weaker c.serve.result (λ failed. (c.in-Ok.command, c.in-Ok.ensures.found, failed)) c.serve.ensures.had

pub returns-in-Err-Memory-clause-had : goal.returns-in-Err-Memory-clause-had
returns-in-Err-Memory-clause-had g c =
    let a = c.args in
    let found = spelt_command a.number a.bytes.now _ _ c.in-Err-Memory.field-0-is c.in-Err-Memory.ensures.memory in
    (found.0, found.1, failed_in_vain (asked a.file found.0) a.pass.now)

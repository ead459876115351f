use Rattle.std.proofs.Common.{◌≡◌, None, rules}
use Rattle.ioctl_codec.specs.Events.{asked}
use Rattle.ioctl_codec.specs.Refusals.{refusal}
use Rattle.lane_lock.specs.Passes.{lane_of, lanes_of, view_of}
use Rattle.guarded_core.proofs.Guards.{if_err}
use Rattle.shared_iommufd.specs.Ioctls.{RefusesAsked, RefusesIoctl}
use Rattle.shared_iommufd.proofs.Refused.{asked_in_vain, spelt_command}
use Rattle.shared_iommufd.proofs.server.Server.try_ioctl.Goals as goal

pub returns-in-Ok-clause-refused : goal.returns-in-Ok-clause-refused
returns-in-Ok-clause-refused g c =
    let a = c.args in
    let lanes = lanes_of a.self.now.lock in
    let lane = lane_of a.pass.now in
    let before = view_of a.pass.now in
    let after = view_of c.try_serve.new.pass in
    let command = c.in-Ok.command in
    let spelt : refusal a.number a.bytes.now ≡ None = search rules in
    if_err c.try_serve.result (RefusesAsked lanes lane (asked a.file command) before after)
    (RefusesIoctl _ a.file a.number a.bytes.now lanes lane before after) c.try_serve.ensures.refused
    (λ error made. (spelt, (command, c.in-Ok.ensures.found, made)))

pub returns-in-Err-Memory-clause-refused : goal.returns-in-Err-Memory-clause-refused
returns-in-Err-Memory-clause-refused g c =
    let a = c.args in
    let spelt : refusal a.number a.bytes.now ≡ None = search rules in
    let found = spelt_command a.number a.bytes.now _ _ c.in-Err-Memory.field-0-is c.in-Err-Memory.ensures.memory in (
      spelt,
      (
        found.0,
        found.1,
        asked_in_vain (lanes_of a.self.now.lock) (lane_of a.pass.now) (asked a.file found.0) a.pass.now
            c.requires.owned.home _,
      ),
    )

use Rattle.std.proofs.Common.{◌≡◌, [], ◌∷◌, ◌++◌, take, sym, ap, ◌∙◌}
use Rattle.std.proofs.lemmas.List.{take_more, take_all}
use Rattle.iofd_words.proofs.Unsaid.{unsaid}
use Rattle.iofd_words.proofs.config.copied_devices.Goals as goal

pub returns-in_err-copies : goal.returns-in_err-copies
returns-in_err-copies g c =
    unsaid (λ copies. copies.items ≡ c.args.devices.now) c.from_residual.result c.from_residual.ensures.0

pub loop-device-init : goal.loop-device-init
loop-device-init g c = c.in_ok-copies.ensures.items

pub bounds-devices-device-index : goal.bounds-devices-device-index
bounds-devices-device-index g c = c.loop-device-test.true

pub returns-in_err-copy : goal.returns-in_err-copy
returns-in_err-copy g c = let r = c.from_residual-in_err-copy in
    unsaid (λ copies. copies.items ≡ c.args.devices.now) r.result r.ensures.0

pub returns-in_err-push : goal.returns-in_err-push
returns-in_err-push g c = let r = c.from_residual-in_err-push in
    unsaid (λ copies. copies.items ≡ c.args.devices.now) r.result r.ensures.0

pub loop-device-preserved : goal.loop-device-preserved
loop-device-preserved g c = let devices = c.args.devices.now in let i = c.loop-device.device-index in
    c.in_ok-push.ensures.items ∙ (ap (λ l. l ++ c.in_ok-copy.copy ∷ []) c.loop-device.invariant
    ∙ (ap (λ d. take i devices ++ d ∷ []) (c.in_ok-copy.ensures.ok ∙ c.device-item.is)
    ∙ sym (take_more devices i _ c.loop-device-test.true)))

pub returns : goal.returns
returns g c = c.loop-device.invariant ∙ take_all c.loop-device.device-index c.args.devices.now c.loop-device-test.false

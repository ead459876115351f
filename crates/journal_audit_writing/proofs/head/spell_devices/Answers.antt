use Rattle.std.proofs.Common.{take}
use Rattle.std.proofs.lemmas.Result.{err_from_is_err_and}
use Rattle.iofd_words.specs.Settings.{is_device_in_limits}
use Rattle.journal_audit_bytes.specs.Head.{DeviceFits, all_spelled, device_spelled}
use Rattle.journal_audit_bytes.specs.declared.version.Version.TheVariants.{Two}
use Rattle.journal_audit_writing.proofs.Appended.{All_more, all_more, keeps_then}
use Rattle.journal_audit_writing.proofs.Limited.{all_at}
use Rattle.journal_audit_writing.proofs.head.spell_devices.Goals as goal

pub spell_device-requires : goal.spell_device-requires
spell_device-requires g c =
    all_at is_device_in_limits c.args.devices.now c.loop-device.device-index c.device-item.result
    c.loop-device-test.true c.device-item.is c.requires

pub loop-device-preserved : goal.loop-device-preserved
loop-device-preserved g c = record {
  bytes = all_more device_spelled c.args.out.now.items c.loop-device.out.items c.spell_device.new.out.items
      c.args.devices.now c.loop-device.device-index c.device-item.result c.loop-device-test.true c.device-item.is
      c.loop-device.invariant.bytes c.in_ok-spell_device.ensures.bytes;
  fits = All_more (λ device. DeviceFits Two device) c.args.devices.now c.loop-device.device-index c.device-item.result
      c.loop-device-test.true c.device-item.is c.loop-device.invariant.fits c.in_ok-spell_device.ensures.fits;
}

pub returns-in_err-spell_device-clause-bytes : goal.returns-in_err-spell_device-clause-bytes
returns-in_err-spell_device-clause-bytes g c =
    let p = err_from_is_err_and c.from_residual.result c.from_residual.ensures.1 in
    rw p.1 (keeps_then c.args.out.now.items c.loop-device.out.items c.spell_device.new.out.items
    (all_spelled device_spelled (take c.loop-device.device-index c.args.devices.now), c.loop-device.invariant.bytes)
    c.in_err-spell_device.ensures.bytes)

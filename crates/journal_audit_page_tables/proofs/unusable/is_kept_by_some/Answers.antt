use Rattle.iofd_words.specs.Files.{device_of}
use Rattle.iofd_words.specs.Ranges.{meets_some}
use Rattle.iofd_words.specs.Usable.{reserved_of}
use Rattle.journal_audit_world.proofs.RowByRow.{any_here, any_none, any_on}
use Rattle.journal_audit_page_tables.proofs.unusable.is_kept_by_some.Goals as goal

pub loop-device-preserved : goal.loop-device-preserved
loop-device-preserved g c =
    any_on (λ device. meets_some (reserved_of (device_of c.args.config.now device)) c.args.range) c.args.devices.now
    c.loop-device.device-index _ _ _ c.loop-device-test.true c.is_kept.ensures c.if-is_kept.false
    c.loop-device.invariant

pub returns-then-is_kept : goal.returns-then-is_kept
returns-then-is_kept g c =
    any_here (λ device. meets_some (reserved_of (device_of c.args.config.now device)) c.args.range)
    c.args.devices.now c.loop-device.device-index _ _ _ c.loop-device-test.true c.is_kept.ensures c.if-is_kept.true
    c.loop-device.invariant

pub returns : goal.returns
returns g c =
    any_none (λ device. meets_some (reserved_of (device_of c.args.config.now device)) c.args.range)
    c.args.devices.now c.loop-device.device-index _ c.loop-device-test.false c.loop-device.invariant

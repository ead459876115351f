use Rattle.std.proofs.Common.{◌≡◌, ◌++◌, take}
use Rattle.std.specs.List.{AllByRecursion}
use Rattle.journal_audit_bytes.specs.Head.{DeviceFits, all_spelled, device_spelled}
use Rattle.journal_audit_bytes.specs.declared.version.Version.TheVariants.{Two}
use Rattle.journal_audit_writing.proofs.head.spell_devices.Given as goal

-- those so far are written
abbrev pub invariant-loop-device : goal.invariant-loop-device
invariant-loop-device g l = record {
  bytes : l.out.items ≡ l.initial.out.items ++ all_spelled device_spelled (take l.device-index l.devices);
  fits : AllByRecursion (λ device. DeviceFits Two device) (take l.device-index l.devices);
}

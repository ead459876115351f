use Rattle.std.proofs.Common.{◌∙◌, arith, sym}
use Rattle.iofd_words.specs.Limits.{opened}
use Rattle.iofd_words.specs.Settings.{Settings}
use Rattle.journal_audit_bytes.specs.HeadReading.{head_at}
use Rattle.journal_audit_bytes.proofs.Asked.{users_stand, with_users}
use Rattle.journal_audit_bytes.proofs.Elements.{memory_passed, on_memory, passed_on}
use Rattle.journal_audit_bytes.proofs.Heads.{ends_at_devices, ends_at_files, ends_at_passes, ends_at_pool}
use Rattle.journal_audit_bytes.proofs.Heads.{ends_at_users, ends_at_version, head_by, not_opened_if, opened_if}
use Rattle.journal_audit_bytes.proofs.Least.{device_least, limit_least, user_least}
use Rattle.journal_audit_bytes.proofs.head.head_at.Goals as goal

pub counted_at-requires : goal.counted_at-requires
counted_at-requires g c = limit_least

pub counted_at-requires-2 : goal.counted_at-requires-2
counted_at-requires-2 g c = user_least

pub counted_at-requires-3 : goal.counted_at-requires-3
counted_at-requires-3 g c = device_least c.in-Some.version

pub returns-in-Ok-clause-read : goal.returns-in-Ok-clause-read
returns-in-Ok-clause-read g c =
    let s : Settings = record {
      pool = c.in-Some-u32_at.pool;
      users = c.in_ok-users.users.items;
      files = c.in_ok-files.files.items;
      devices = c.in_ok-devices.devices.items;
      passes = c.in-Some-u16_at.passes;
    } in
    head_by c.in-Some.version s c.args.bytes.now c.in-Some.rest.now c.in-Some-u32_at.rest.now
    c.in_ok-users.rest.now c.in_ok-files.rest.now c.in_ok-devices.rest.now c.in-Some-u16_at.rest.now
    c.in-Some.ensures c.in-Some-u32_at.ensures
    c.in_ok-users.ensures.read c.in_ok-files.ensures.read c.in_ok-devices.ensures.read c.in-Some-u16_at.ensures
    ∙ opened_if c.in-Some.version s c.in-Some-u16_at.rest.now c.in-Ok.config (sym {b = opened s} c.in-Ok.ensures)

pub returns-in-Err-clause-read : goal.returns-in-Err-clause-read
returns-in-Err-clause-read g c =
    let s : Settings = record {
      pool = c.in-Some-u32_at.pool;
      users = c.in_ok-users.users.items;
      files = c.in_ok-files.files.items;
      devices = c.in_ok-devices.devices.items;
      passes = c.in-Some-u16_at.passes;
    } in
    head_by c.in-Some.version s c.args.bytes.now c.in-Some.rest.now c.in-Some-u32_at.rest.now
    c.in_ok-users.rest.now c.in_ok-files.rest.now c.in_ok-devices.rest.now c.in-Some-u16_at.rest.now
    c.in-Some.ensures c.in-Some-u32_at.ensures
    c.in_ok-users.ensures.read c.in_ok-files.ensures.read c.in_ok-devices.ensures.read c.in-Some-u16_at.ensures
    ∙ not_opened_if c.in-Some.version s c.in-Some-u16_at.rest.now c.in-Err.field-0 (sym {b = opened s} c.in-Err.ensures)

pub returns-in_default-clause-read : goal.returns-in_default-clause-read
returns-in_default-clause-read g c = ends_at_version c.args.bytes.now c.in_default.ensures

pub returns-in_default-u32_at-clause-read : goal.returns-in_default-u32_at-clause-read
returns-in_default-u32_at-clause-read g c =
    ends_at_pool c.args.bytes.now c.in-Some.ensures c.in_default-u32_at.ensures

pub returns-in_default-u16_at-clause-read : goal.returns-in_default-u16_at-clause-read
returns-in_default-u16_at-clause-read g c =
    ends_at_passes c.args.bytes.now c.in-Some.ensures c.in-Some-u32_at.ensures c.in_ok-users.ensures.read
    c.in_ok-files.ensures.read c.in_ok-devices.ensures.read c.in_default-u16_at.ensures

pub returns-in_err-users-clause-read : goal.returns-in_err-users-clause-read
returns-in_err-users-clause-read g c =
    passed_on (λ x. (x.0, x.1, x.2.now)) c.from_residual.result c.in_err-users.field-0.0
    (head_at c.args.bytes.now) c.from_residual.ensures.1
    (ends_at_users c.in_err-users.field-0.0 c.args.bytes.now c.in-Some.ensures c.in-Some-u32_at.ensures
    c.in_err-users.ensures.read)

pub returns-in_err-files-clause-read : goal.returns-in_err-files-clause-read
returns-in_err-files-clause-read g c =
    passed_on (λ x. (x.0, x.1, x.2.now)) c.from_residual-in_err-files.result c.in_err-files.field-0.0
    (head_at c.args.bytes.now) c.from_residual-in_err-files.ensures.1
    (ends_at_files c.in_err-files.field-0.0 c.args.bytes.now c.in-Some.ensures c.in-Some-u32_at.ensures
    c.in_ok-users.ensures.read c.in_err-files.ensures.read)

pub returns-in_err-devices-clause-read : goal.returns-in_err-devices-clause-read
returns-in_err-devices-clause-read g c =
    passed_on (λ x. (x.0, x.1, x.2.now)) c.from_residual-in_err-devices.result c.in_err-devices.field-0.0
    (head_at c.args.bytes.now) c.from_residual-in_err-devices.ensures.1
    (ends_at_devices c.in_err-devices.field-0.0 c.args.bytes.now c.in-Some.ensures c.in-Some-u32_at.ensures
    c.in_ok-users.ensures.read c.in_ok-files.ensures.read c.in_err-devices.ensures.read)

pub returns-in_err-users-clause-memory : goal.returns-in_err-users-clause-memory
returns-in_err-users-clause-memory g c =
    memory_passed c.from_residual.result c.in_err-users.field-0.0 c.from_residual.ensures.1 c.in_err-users.ensures.memory
    (λ few. let x = users_stand c.in-Some-u32_at.rest.now few in
    with_users c.args.bytes.now x.0 (λ i. omega (arith, c.type_inv.bytes i)) c.in-Some.ensures c.in-Some-u32_at.ensures
    x.1)

pub returns-in_err-files-clause-memory : goal.returns-in_err-files-clause-memory
returns-in_err-files-clause-memory g c =
    on_memory c.from_residual-in_err-files.result (with_users c.args.bytes.now
    (c.in_ok-users.users.items, c.in_ok-users.rest.now) (λ i. omega (arith, c.type_inv.bytes i)) c.in-Some.ensures
    c.in-Some-u32_at.ensures c.in_ok-users.ensures.read)

pub returns-in_err-devices-clause-memory : goal.returns-in_err-devices-clause-memory
returns-in_err-devices-clause-memory g c =
    on_memory c.from_residual-in_err-devices.result (with_users c.args.bytes.now
    (c.in_ok-users.users.items, c.in_ok-users.rest.now) (λ i. omega (arith, c.type_inv.bytes i)) c.in-Some.ensures
    c.in-Some-u32_at.ensures c.in_ok-users.ensures.read)

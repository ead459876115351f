use Rattle.std.proofs.Common.{◌≡◌, ◌^◌, ◌<◌, ◌++◌, ◌∙◌, List, ℕ, length, refl, ap, arith}
use Rattle.std.proofs.lemmas.Result.{err_from_is_err_and}
use Rattle.std.specs.Int.{w16, w32, to_le_bytes}
use Rattle.std.specs.List.{AllByRecursion}
use Rattle.journal_audit_bytes.specs.Head.{CountedFit, DeviceFits, LimitFits, UserFits, all_spelled, counted}
use Rattle.journal_audit_bytes.specs.Head.{device_spelled, limit_spelled, user_spelled}
use Rattle.journal_audit_bytes.specs.Version.{mark}
use Rattle.journal_audit_bytes.specs.declared.version.Version.TheVariants.{Two}
use Rattle.journal_audit_writing.specs.Writing.{Appends, Keeps}
use Rattle.journal_audit_writing.proofs.Appended.{keeps_then}
use Rattle.journal_audit_writing.proofs.Limited.{within}
use Rattle.journal_audit_writing.proofs.Lists.{always_ok, head_appended}
use Rattle.journal_audit_writing.proofs.head.spell_head.Goals as goal

pub returns-in_err-spell_counted-2-clause-bytes : goal.returns-in_err-spell_counted-2-clause-bytes
returns-in_err-spell_counted-2-clause-bytes g c =
    let p = err_from_is_err_and c.from_residual-in_err-spell_counted-2.result
    c.from_residual-in_err-spell_counted-2.ensures.1 in
    let a : Keeps c.args.out.now.items c.put.new.out.items = (_, c.in_ok-put.ensures) in
    let b : Keeps c.put.new.out.items c.spell.new.out.items = (_, c.in_ok-spell.ensures.bytes) in
    let d : Keeps c.spell.new.out.items c.spell_counted.new.out.items = (_, c.in_ok-spell_counted.ensures.bytes) in
    rw p.1 (keeps_then _ _ _ a (keeps_then _ _ _ b (keeps_then _ _ _ d c.in_err-spell_counted-2.ensures.bytes)))

pub returns-in_err-spell-2-clause-bytes : goal.returns-in_err-spell-2-clause-bytes
returns-in_err-spell-2-clause-bytes g c =
    let p = err_from_is_err_and c.from_residual-in_err-spell-2.result c.from_residual-in_err-spell-2.ensures.1 in
    let a : Keeps c.args.out.now.items c.put.new.out.items = (_, c.in_ok-put.ensures) in
    let b : Keeps c.put.new.out.items c.spell.new.out.items = (_, c.in_ok-spell.ensures.bytes) in
    let d : Keeps c.spell.new.out.items c.spell_counted.new.out.items = (_, c.in_ok-spell_counted.ensures.bytes) in
    let e : Keeps c.spell_counted.new.out.items c.spell_counted-2.new.out.items =
    (_, c.in_ok-spell_counted-2.ensures.bytes) in
    rw p.1 (keeps_then _ _ _ a (keeps_then _ _ _ b (keeps_then _ _ _ d (keeps_then _ _ _ e
    c.in_err-spell-2.ensures.bytes))))

pub returns-in_err-spell_devices-clause-bytes : goal.returns-in_err-spell_devices-clause-bytes
returns-in_err-spell_devices-clause-bytes g c =
    let p = err_from_is_err_and c.from_residual-in_err-spell_devices.result
    c.from_residual-in_err-spell_devices.ensures.1 in
    let a : Keeps c.args.out.now.items c.put.new.out.items = (_, c.in_ok-put.ensures) in
    let b : Keeps c.put.new.out.items c.spell.new.out.items = (_, c.in_ok-spell.ensures.bytes) in
    let d : Keeps c.spell.new.out.items c.spell_counted.new.out.items = (_, c.in_ok-spell_counted.ensures.bytes) in
    let e : Keeps c.spell_counted.new.out.items c.spell_counted-2.new.out.items =
    (_, c.in_ok-spell_counted-2.ensures.bytes) in
    let f : Keeps c.spell_counted-2.new.out.items c.spell-2.new.out.items = (_, c.in_ok-spell-2.ensures.bytes) in
    rw p.1 (keeps_then _ _ _ a (keeps_then _ _ _ b (keeps_then _ _ _ d (keeps_then _ _ _ e (keeps_then _ _ _ f
    c.in_err-spell_devices.ensures.bytes)))))

pub returns-clause-bytes : goal.returns-clause-bytes
returns-clause-bytes g c =
    let s = c.args.config.now in
    let marked : c.put.new.out.items ≡ c.args.out.now.items ++ mark Two =
    c.in_ok-put.ensures ∙ ap (λ (bytes : List ℕ). c.args.out.now.items ++ bytes) c.mark.ensures in
    let pool : c.spell.new.out.items ≡ c.put.new.out.items ++ to_le_bytes w32 s.pool =
    rw (← c.pool-pool.ensures.value) c.in_ok-spell.ensures.bytes in
    let users : c.spell_counted.new.out.items ≡ c.spell.new.out.items ++ counted limit_spelled s.users =
    rw (← c.users.ensures) c.in_ok-spell_counted.ensures.bytes in
    let files : c.spell_counted-2.new.out.items ≡ c.spell_counted.new.out.items ++ counted user_spelled s.files =
    rw (← c.files.ensures) c.in_ok-spell_counted-2.ensures.bytes in
    let count : c.spell-2.new.out.items ≡ c.spell_counted-2.new.out.items ++ to_le_bytes w16 (length s.devices) =
    rw (← c.devices-devices.ensures) c.in_ok-spell-2.ensures.bytes in
    let devices : c.spell_devices.new.out.items ≡ c.spell-2.new.out.items ++ all_spelled device_spelled s.devices =
    rw (← c.devices-devices.ensures) c.in_ok-spell_devices.ensures.bytes in
    let passes : Appends c.spell-3.result c.spell_devices.new.out.items c.spell-3.new.out.items
    (to_le_bytes w16 s.passes) =
    rw (← c.passes-passes.ensures) c.spell-3.ensures.bytes in
    head_appended c.spell-3.result c.args.out.now.items c.put.new.out.items c.spell.new.out.items
    c.spell_counted.new.out.items c.spell_counted-2.new.out.items c.spell-2.new.out.items c.spell_devices.new.out.items
    c.spell-3.new.out.items (mark Two) (to_le_bytes w32 s.pool) (counted limit_spelled s.users)
    (counted user_spelled s.files) (to_le_bytes w16 (length s.devices)) (all_spelled device_spelled s.devices)
    (to_le_bytes w16 s.passes) marked pool users files count devices passes

pub returns-clause-spells : goal.returns-clause-spells
returns-clause-spells g c =
    let s = c.args.config.now in
    let few = within s c.pool-pool.ensures.within in
    let pool : s.pool < 2 ^ 32 = rw (← c.pool-pool.ensures.value) c.in_ok-spell.ensures.fits in
    let users : CountedFit LimitFits s.users = rw (← c.users.ensures) c.in_ok-spell_counted.ensures.fits in
    let files : CountedFit UserFits s.files = rw (← c.files.ensures) c.in_ok-spell_counted-2.ensures.fits in
    let devices : AllByRecursion (λ device. DeviceFits Two device) s.devices =
    rw (← c.devices-devices.ensures) c.in_ok-spell_devices.ensures.fits in
    let passes : s.passes < 2 ^ 16 = rw (← c.passes-passes.ensures) c.spell-3.ensures.fits in
    always_ok c.spell-3.result (record {
      within = c.pool-pool.ensures.within;
      pool_fits = pool;
      users_fit = users;
      files_fit = files;
      devices_fit = (omega (arith, few.devices), devices);
      passes_fit = passes;
      bytes_are = refl;
    })

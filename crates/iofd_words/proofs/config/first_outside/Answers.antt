use Rattle.std.proofs.Common.{◌&&◌, length, sym, ap, ◌∙◌}
use Rattle.std.specs.List.{list_all}
use Rattle.std.proofs.lemmas.Bool.{le-leb}
use Rattle.iofd_words.specs.Settings.{is_between, is_device_in_limits}
use Rattle.iofd_words.proofs.OutsideRows.{devices_outside, files_outside, none_outside, not_within, passes_outside}
use Rattle.iofd_words.proofs.OutsideRows.{pool_outside, users_outside}
use Rattle.iofd_words.proofs.config.first_outside.Goals as goal
use Rattle.iofd_words.proofs.config.first_outside.Goals.{then-not-is_between-3-via-then-not-is_between-3}
use Rattle.iofd_words.proofs.config.first_outside.Goals.{
  then-not-is_between-3-via-else-not-is_between-3+then-not-are_known,
}
use Rattle.iofd_words.proofs.config.first_outside.Goals.{then-devices-gt256-via-then-devices-gt256}
use Rattle.iofd_words.proofs.config.first_outside.Goals.{
  then-devices-gt256-via-else-devices-gt256+then-not-are_in_limits,
}

pub returns-then-not-is_between : goal.returns-then-not-is_between
returns-then-not-is_between g c = let a = c.args in
    pool_outside record {
      pool = a.pool;
      users = a.users.now;
      files = a.files.now;
      devices = a.devices.now;
      passes = a.passes;
    } (sym c.is_between.ensures ∙ c.if-not-is_between.true)

pub returns-then-not-is_between-2 : goal.returns-then-not-is_between-2
returns-then-not-is_between-2 g c = let a = c.args in
    users_outside record {
      pool = a.pool;
      users = a.users.now;
      files = a.files.now;
      devices = a.devices.now;
      passes = a.passes;
    } (sym c.is_between.ensures ∙ c.if-not-is_between.false)
    (sym c.is_between-2.ensures ∙ c.if-not-is_between-2.true)

pub returns-then-not-is_between-3 : goal.returns-then-not-is_between-3
returns-then-not-is_between-3 g c = let a = c.args in
    files_outside record {
      pool = a.pool;
      users = a.users.now;
      files = a.files.now;
      devices = a.devices.now;
      passes = a.passes;
    } (sym c.is_between.ensures ∙ c.if-not-is_between.false)
    (sym c.is_between-2.ensures ∙ c.if-not-is_between-2.false)
    (elim c.then-not-is_between-3.branch [
      | then-not-is_between-3-via-then-not-is_between-3 w ↦
          ap (λ b. b && list_all (λ user. is_between 1 (length a.users.now) user.0) a.files.now)
          (sym c.is_between-3.ensures ∙ w.if-not-is_between-3.true)
      | then-not-is_between-3-via-else-not-is_between-3+then-not-are_known w ↦ λ i.
          (sym c.is_between-3.ensures ∙ w.if-not-is_between-3.false) i
          && (sym w.are_known.ensures ∙ w.if-not-are_known.true) i
    ])

pub returns-then-devices-gt256 : goal.returns-then-devices-gt256
returns-then-devices-gt256 g c = let a = c.args in
    devices_outside record {
      pool = a.pool;
      users = a.users.now;
      files = a.files.now;
      devices = a.devices.now;
      passes = a.passes;
    } (sym c.is_between.ensures ∙ c.if-not-is_between.false)
    (sym c.is_between-2.ensures ∙ c.if-not-is_between-2.false)
    (λ i. (sym c.is_between-3.ensures ∙ c.if-not-is_between-3.false) i
    && (sym c.are_known.ensures ∙ c.if-not-are_known.false) i)
    (elim c.then-devices-gt256.branch [
      | then-devices-gt256-via-then-devices-gt256 w ↦ ap (λ b. b && list_all is_device_in_limits a.devices.now)
          (not_within (length a.devices.now) 256 w.if-devices-gt256.true)
      | then-devices-gt256-via-else-devices-gt256+then-not-are_in_limits w ↦ λ i.
          le-leb (length a.devices.now) 256 w.if-devices-gt256.false i
          && (sym w.are_in_limits.ensures ∙ w.if-not-are_in_limits.true) i
    ])

pub returns-then-not-is_between-4 : goal.returns-then-not-is_between-4
returns-then-not-is_between-4 g c = let a = c.args in
    passes_outside record {
      pool = a.pool;
      users = a.users.now;
      files = a.files.now;
      devices = a.devices.now;
      passes = a.passes;
    } (sym c.is_between.ensures ∙ c.if-not-is_between.false)
    (sym c.is_between-2.ensures ∙ c.if-not-is_between-2.false)
    (λ i. (sym c.is_between-3.ensures ∙ c.if-not-is_between-3.false) i
    && (sym c.are_known.ensures ∙ c.if-not-are_known.false) i)
    (λ i. le-leb (length a.devices.now) 256 c.if-devices-gt256.false i
    && (sym c.are_in_limits.ensures ∙ c.if-not-are_in_limits.false) i)
    (ap (λ n. is_between 1 1024 n) (sym c.from.ensures) ∙ (sym c.is_between-4.ensures ∙ c.if-not-is_between-4.true))

pub returns : goal.returns
returns g c = let a = c.args in
    none_outside record {
      pool = a.pool;
      users = a.users.now;
      files = a.files.now;
      devices = a.devices.now;
      passes = a.passes;
    } (sym c.is_between.ensures ∙ c.if-not-is_between.false)
    (sym c.is_between-2.ensures ∙ c.if-not-is_between-2.false)
    (λ i. (sym c.is_between-3.ensures ∙ c.if-not-is_between-3.false) i
    && (sym c.are_known.ensures ∙ c.if-not-are_known.false) i)
    (λ i. le-leb (length a.devices.now) 256 c.if-devices-gt256.false i
    && (sym c.are_in_limits.ensures ∙ c.if-not-are_in_limits.false) i)
    (ap (λ n. is_between 1 1024 n) (sym c.from.ensures) ∙ (sym c.is_between-4.ensures ∙ c.if-not-is_between-4.false))

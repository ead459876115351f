use Rattle.std.proofs.Common.{◌≡◌, ap, ◌∙◌}
use Rattle.iofd_words.specs.Limits.{first_outside}
use Rattle.iofd_words.proofs.SameSettings.{same_settings}
use Rattle.iofd_words.proofs.Unsaid.{unsaid}
use Rattle.iofd_words.proofs.config.Config.copied.Goals as goal

pub returns-in_err-copied : goal.returns-in_err-copied
returns-in_err-copied g c =
    unsaid (λ config. config ≡ c.args.self.now) c.from_residual.result c.from_residual.ensures.0

pub returns-in_err-copied-2 : goal.returns-in_err-copied-2
returns-in_err-copied-2 g c = let r = c.from_residual-in_err-copied-2 in
    unsaid (λ config. config ≡ c.args.self.now) r.result r.ensures.0

pub returns-in_err-copied_devices : goal.returns-in_err-copied_devices
returns-in_err-copied_devices g c = let r = c.from_residual-in_err-copied_devices in
    unsaid (λ config. config ≡ c.args.self.now) r.result r.ensures.0

pub invariant_of-result : goal.invariant_of-result
invariant_of-result g c = let own = c.self.inside in
    ap first_outside (same_settings record {
      pool = own.pool;
      users = own.users.items;
      files = own.files.items;
      devices = own.devices.items;
      passes = own.passes;
    } c.in_ok-copied.field-0.items c.in_ok-copied-2.field-0.items
    c.in_ok-copied_devices.field-0.items (c.in_ok-copied.ensures.ok ∙ c.deref.ensures.value)
    (c.in_ok-copied-2.ensures.ok ∙ c.deref-2.ensures.value)
    (c.in_ok-copied_devices.ensures ∙ c.deref-3.ensures.value)) ∙ c.self.invariant

pub returns : goal.returns
returns g c = let own = c.self.inside in
    same_settings record {
      pool = own.pool;
      users = own.users.items;
      files = own.files.items;
      devices = own.devices.items;
      passes = own.passes;
    } c.in_ok-copied.field-0.items c.in_ok-copied-2.field-0.items
    c.in_ok-copied_devices.field-0.items (c.in_ok-copied.ensures.ok ∙ c.deref.ensures.value)
    (c.in_ok-copied-2.ensures.ok ∙ c.deref-2.ensures.value)
    (c.in_ok-copied_devices.ensures ∙ c.deref-3.ensures.value) ∙ c.self.view_is

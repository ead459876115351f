use Rattle.std.proofs.Common.{◌≡◌, ◌+◌, ◌∙◌, ap, length, sym, Some, ℕ}
use Rattle.std.specs.Arc.{arc_value}
use Rattle.std.specs.declared.alloc.Global.{Global}
use Rattle.shared_iommufd.specs.Ports.{IsKeyOf}
use Rattle.shared_iommufd.specs.declared.port_key.PortKey.{PortKey}
use Rattle.shared_iommufd.specs.declared.server.Server.{Server}
use Rattle.std.proofs.lemmas.List.{length_push}
use Rattle.iommufd_c.proofs.Given.{left, taken}
use Rattle.iommufd_c.proofs.handle.caller.last_key.Goals as goal

abbrev IsKeyAt : Server Global → ℕ → PortKey Global → Type 0
IsKeyAt server i key = IsKeyOf server key × (key.device.0 ≡ i + 1)

pub returns-clause-taken : goal.returns-clause-taken
returns-clause-taken c =
    (taken (IsKeyAt (arc_value c.args.server.now)) c.args.keys.now.items c.pop.new.self.items
    (Some c.in-Some.key) c.in-Some.ensures.items c.requires.owned).0

pub returns-clause-left : goal.returns-clause-left
returns-clause-left c =
    left (IsKeyAt (arc_value c.args.server.now)) c.args.keys.now.items c.pop.new.self.items
    (Some c.in-Some.key) c.in-Some.ensures.items c.requires.owned

pub returns-clause-number : goal.returns-clause-number
returns-clause-number c =
    (taken (IsKeyAt (arc_value c.args.server.now)) c.args.keys.now.items c.pop.new.self.items
    (Some c.in-Some.key) c.in-Some.ensures.items c.requires.owned).1
    ∙ (sym (length_push c.pop.new.self.items c.in-Some.key) ∙ sym (ap length c.in-Some.ensures.items))

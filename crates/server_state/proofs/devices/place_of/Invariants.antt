use Rattle.std.proofs.Common.{◌≡◌, ◌++◌, take, drop}
use Rattle.server_state.specs.Devices.{with_binding}
use Rattle.server_state.proofs.devices.place_of.Given as goal

abbrev pub invariant-loop-index : goal.invariant-loop-index
invariant-loop-index l =
    take l.index l.bindings ++ with_binding l.object (drop l.index l.bindings) ≡ with_binding l.object l.bindings

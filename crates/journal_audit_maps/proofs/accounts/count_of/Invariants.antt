use Rattle.std.proofs.Common.{◌≡◌, ◌≤◌, ◌+◌, drop}
use Rattle.std.specs.List.{count_by}
use Rattle.journal_audit_maps.specs.Held.{is_of_user}
use Rattle.journal_audit_maps.proofs.accounts.count_of.Given as goal

-- those that are counted, and those that are left
abbrev pub invariant-loop-pin : goal.invariant-loop-pin
invariant-loop-pin l = record {
  few : l.count ≤ l.pin-index;
  all : l.count + count_by (is_of_user l.memory l.user) (drop l.pin-index l.pins)
      ≡ count_by (is_of_user l.memory l.user) l.pins;
}

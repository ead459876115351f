use Rattle.std.proofs.Common.{◌≡◌, ◌≤◌, ◌+◌, drop}
use Rattle.std.specs.List.{count_by}
use Rattle.iofd_words.specs.Pins.{is_of_access}
use Rattle.journal_audit_world.proofs.access_pins.has_most_pins.Given as goal

-- those that are counted, and those that are left
abbrev pub invariant-loop-pin : goal.invariant-loop-pin
invariant-loop-pin l = record {
  few : l.count ≤ l.pin-index;
  all : l.count + count_by (is_of_access l.file l.access) (drop l.pin-index l.pins)
      ≡ count_by (is_of_access l.file l.access) l.pins;
}

use Rattle.std.proofs.Common.{◌≡◌, true, drop, take, vec_capacity, vec_len}
use Rattle.memory_objects.specs.Backed.{AccountsMove, AreBacked, HoldsMove}
use Rattle.memory_objects.specs.Objects.{all_unpinned, are_rising, gone_among, have_pins, standing}
use Rattle.memory_objects.proofs.pinning.unpin_all.Given as goal

-- the objects of the numbers so far are unpinned, and those of the others can be
abbrev pub invariant-loop-number : goal.invariant-loop-number
invariant-loop-number g l = record {
  entries : (standing l.entries.items) ≡ all_unpinned (take l.number-index l.numbers)
      (standing l.initial.entries.items);
  gone : gone_among l.entries.items ≡ gone_among l.initial.entries.items;
  rising : are_rising l.entries.items ≡ true;
  pins : have_pins (drop l.number-index l.numbers) (standing l.entries.items) ≡ true;
  backed : AreBacked (standing l.entries.items) l.pool.holds l.accounts;
  pool : HoldsMove (standing l.initial.entries.items) (standing l.entries.items) l.initial.pool l.pool;
  accounts : AccountsMove (standing l.initial.entries.items) (standing l.entries.items) l.initial.accounts l.accounts;
  len : vec_len l.entries ≡ vec_len l.initial.entries;
  capacity : vec_capacity l.entries ≡ vec_capacity l.initial.entries;
}

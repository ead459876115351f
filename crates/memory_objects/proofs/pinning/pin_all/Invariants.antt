use Rattle.std.proofs.Common.{◌≡◌, true, drop, take, vec_capacity, vec_len}
use Rattle.memory_objects.specs.Backed.{AccountsMove, CanPin, HoldsMove}
use Rattle.memory_objects.specs.Objects.{all_pinned, are_rising, gone_among, standing}
use Rattle.memory_objects.proofs.pinning.pin_all.Given as goal

-- the objects of the numbers so far are pinned, and those of the others can be
abbrev pub invariant-loop-number : goal.invariant-loop-number
invariant-loop-number g l = record {
  entries : (standing l.entries.items) ≡ all_pinned l.users.pages (take l.number-index l.numbers)
      (standing l.initial.entries.items);
  gone : gone_among l.entries.items ≡ gone_among l.initial.entries.items;
  rising : are_rising l.entries.items ≡ true;
  can : CanPin (standing l.entries.items) (drop l.number-index l.numbers) l.users.pages l.pool.holds l.accounts;
  pool : HoldsMove (standing l.initial.entries.items) (standing l.entries.items) l.initial.pool l.pool;
  accounts : AccountsMove (standing l.initial.entries.items) (standing l.entries.items) l.initial.accounts l.accounts;
  len : vec_len l.entries ≡ vec_len l.initial.entries;
  capacity : vec_capacity l.entries ≡ vec_capacity l.initial.entries;
}

use Rattle.std.proofs.Common.{◌≡◌, ◌-◌, ◌≤◌, length, take, drop}
use Rattle.iommufd_script.proofs.hex_bytes.HexBytes.write_many.Given as goal

abbrev pub invariant-loop-done : goal.invariant-loop-done
invariant-loop-done l = record {
  within : l.done ≤ length l.self;
  written : take l.done l.buffer ≡ take l.done l.self;
  behind : drop (length l.self) l.buffer ≡ drop (length l.self) l.fn.buffer;
}

abbrev pub decreases-loop-done : goal.decreases-loop-done
decreases-loop-done l = length l.self - l.done

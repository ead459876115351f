use Rattle.std.proofs.Common.{◌≡◌, ◌-◌, ◌++◌, take, replicate}
use Rattle.iofd_words.proofs.burst.padded.Given as goal

-- the bytes so far, and zeros behind them
abbrev pub invariant-loop-i : goal.invariant-loop-i
invariant-loop-i l = l.padded ≡ take l.i l.bytes ++ replicate (64 - l.i) 0

use Rattle.std.proofs.Common.{arith}
use Rattle.std.proofs.lemmas.Grind.{common_steps}
use Rattle.lane_lock.proofs.Starts.{zeros_within}
use Rattle.lane_lock.proofs.new.home_words.Goals as goal

pub returns : goal.returns
returns c = (grind (arith, common_steps), λ k. zeros_within _ 512 k)

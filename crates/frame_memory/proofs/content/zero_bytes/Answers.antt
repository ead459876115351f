use Rattle.std.proofs.Common.{refl}
use Rattle.frame_memory.specs.Pool.{frame_size}
use Rattle.frame_memory.proofs.content.zero_bytes.Goals as goal

pub returns : goal.returns
unfolding frame_size
returns c = refl

-- The bytes that a call of ioctl answers.
use Rattle.std.proofs.Common.{◌≡◌, ◌∙◌, ◌++◌, ap, take, List, ℕ, length}
use Rattle.std.proofs.Math.Seq.{take-append_seam}

-- as many bytes as were written to the front of a buffer are those
pub front : (n : ℕ) (told rest buffer : List ℕ) → n ≡ length told → buffer ≡ told ++ rest → take n buffer ≡ told
front n told rest buffer count is =
    ap (take n) is ∙ ap (λ (m : ℕ). take m (told ++ rest)) count ∙ take-append_seam told rest

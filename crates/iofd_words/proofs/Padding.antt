-- One more byte in front of zeros.
use Rattle.std.proofs.Common.{◌≡◌, ℕ, zero, suc, ◌+◌, ◌-◌, ◌<◌, ◌≤◌, List, [], ◌∷◌, ◌++◌, length, take, set, get_or}
use Rattle.std.proofs.Common.{append_assoc, refl, sym, ap, ◌∙◌, arith, replicate}
use Rattle.std.proofs.lemmas.List.{length-take-le, take_more}

set_behind : (xs : List ℕ) (b z : ℕ) (zs : List ℕ) (i : ℕ) → i ≡ length xs → set (xs ++ z ∷ zs) i b ≡ xs ++ b ∷ zs
set_behind [] b z zs zero e = refl
set_behind [] b z zs (suc i) e = absurd (omega arith)
set_behind (x ∷ xs) b z zs zero e = absurd (omega arith)
set_behind (x ∷ xs) b z zs (suc i) e = ap (λ l. x ∷ l) (set_behind xs b z zs i (omega arith))

pub pad_one : (bytes : List ℕ) (i : ℕ) → i < length bytes → length bytes ≤ 64
    → set (take i bytes ++ replicate (64 - i) 0) i (get_or bytes i 0)
    ≡ take (i + 1) bytes ++ replicate (64 - (i + 1)) 0
pad_one bytes i lt few =
    let b : ℕ = get_or bytes i 0 in let zs : List ℕ = replicate (64 - (i + 1)) 0 in
    let left : 64 - i ≡ suc (64 - (i + 1)) = omega arith in
    ap (λ (n : ℕ). set (take i bytes ++ replicate n 0) i b) left
    ∙ (set_behind (take i bytes) b 0 zs i (sym (length-take-le i bytes (omega arith)))
    ∙ (sym (append_assoc (take i bytes) (b ∷ []) zs) ∙ ap (λ l. l ++ zs) (sym (take_more bytes i 0 lt))))

-- What is read of bytes of which a part was overwritten.
use Rattle.std.proofs.Common.{◌≡◌, ℕ, ◌+◌, ◌-◌, ◌≤◌, List, length, take, drop, refl, sym, arith, ap, ◌∙◌, ⊎_elim, ◌⊎◌}
use Rattle.std.specs.List.{slice_range, splice}
use borrow.Rule.Slice.PartMut.{put_mid}
use Rattle.std.proofs.lemmas.List.{drop-drop}
use Rattle.std.proofs.lemmas.Slice.{between_is, between-put_mid, take-put_mid_below, drop-put_mid}

splice_mid : (xs ys : List ℕ) (a k : ℕ) → splice xs a (a + k) ys ≡ put_mid a k xs ys
splice_mid xs ys a k = rw (drop-drop k a xs) refl

module _ (xs ys : List ℕ) (a k : ℕ) (within : a ≤ length xs) (long : length ys ≡ k) where
  -- the part itself
  pub read_back : slice_range (splice xs a (a + k) ys) a (a + k) ≡ ys
  read_back = rw (splice_mid xs ys a k) (between-put_mid a k xs ys (a + k) within (omega arith))

  -- a part that ends before it, or begins behind it
  pub read_apart : (at n : ℕ) → (at + n ≤ a) ⊎ (a + k ≤ at)
      → slice_range (splice xs a (a + k) ys) at (at + n) ≡ slice_range xs at (at + n)
  read_apart at n apart =
      rw (splice_mid xs ys a k)
      (⊎_elim
      (λ (below : at + n ≤ a).
      between_is (put_mid a k xs ys) at (at + n)
      ∙ ap (λ (zs : List ℕ). drop at zs) (take-put_mid_below a k xs ys (at + n) below within)
      ∙ sym (between_is xs at (at + n)))
      (λ (above : a + k ≤ at). ap (λ (zs : List ℕ). take (at + n - at) zs)
      (drop-put_mid a k xs ys at above within long))
      apart)

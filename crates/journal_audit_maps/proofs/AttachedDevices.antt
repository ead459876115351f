-- The devices attached to an address space, gathered one after the other.
use Rattle.std.proofs.Common.{◌≡◌, ℕ, zero, suc, ◌+◌, ◌<◌, Bool, true, false, cond, ltb, List, [], ◌∷◌, ◌++◌, length}
use Rattle.std.proofs.Common.{map, take, get_or, refl, sym, ap, ◌∙◌, arith}
use Rattle.std.specs.List.{filter, list_all}
use Rattle.std.proofs.lemmas.Bool.Decides.{nat_tests}
use Rattle.std.proofs.lemmas.List.{append-nil, map-append, take_more}
use Rattle.std.proofs.lemmas.List.Elements.{filter-append}
use Rattle.iofd_rows.proofs.Bools.{and_true, both_true}
use Rattle.iofd_words.specs.DeviceSet.{with_device}
use Rattle.iofd_runs.specs.Fits.{devices_rise}
use Rattle.iofd_words.specs.declared.rows.Attachment.{Attachment}

-- a device above all others comes last
with_last : (d : ℕ) (ds : List ℕ) → list_all (λ e. ltb e d) ds ≡ true → with_device d ds ≡ ds ++ d ∷ []
with_last d [] below = refl
with_last d (e ∷ ds) below =
    let parts = and_true (ltb e d) (list_all (λ e. ltb e d) ds) below in
    let rest = with_last d ds parts.1 in
    let here = parts.0 in
    grind (arith, nat_tests)

below_at : (low : ℕ) (xs : List Attachment) (i : ℕ) (a d : Attachment) → i < length xs → a ≡ get_or xs i d
    → list_all (λ (b : Attachment). ltb low b.device.0) xs ≡ true → ltb low a.device.0 ≡ true
below_at low [] i a d within is above = absurd (omega (arith, within))
below_at low (x ∷ xs) zero a d within is above = let parts =
    and_true (ltb low x.device.0) (list_all (λ (b : Attachment). ltb low b.device.0) xs) above in rw is parts.0
below_at low (x ∷ xs) (suc i) a d within is above =
    let parts = and_true (ltb low x.device.0) (list_all (λ (b : Attachment). ltb low b.device.0) xs) above in
    below_at low xs i a d (omega (arith, within)) is parts.1

-- the devices before one are below it
earlier_below : (p : Attachment → Bool) (xs : List Attachment) (i : ℕ) (a d : Attachment) → i < length xs
    → a ≡ get_or xs i d → devices_rise xs ≡ true
    → list_all (λ e. ltb e a.device.0) (map (λ (b : Attachment). b.device.0) (filter p (take i xs))) ≡ true
earlier_below p [] i a d within is rise = absurd (omega (arith, within))
earlier_below p (x ∷ xs) zero a d within is rise = refl
earlier_below p (x ∷ xs) (suc i) a d within is rise =
    let parts = and_true (list_all (λ (b : Attachment). ltb x.device.0 b.device.0) xs) (devices_rise xs) rise in
    by_test (p x) (below_at x.device.0 xs i a d (omega (arith, within)) is parts.0)
    (earlier_below p xs i a d (omega (arith, within)) is parts.1)
  where
    by_test : (b : Bool) → ltb x.device.0 a.device.0 ≡ true
        → list_all (λ e. ltb e a.device.0) (map (λ (b : Attachment). b.device.0) (filter p (take i xs))) ≡ true
        → list_all (λ e. ltb e a.device.0) (map (λ (b : Attachment). b.device.0)
        (cond b (x ∷ filter p (take i xs)) (filter p (take i xs)))) ≡ true
    by_test true here rest = both_true _ _ here rest
    by_test false here rest = rest

module _ (p : Attachment → Bool) (xs : List Attachment) (i : ℕ) (a d : Attachment) (within : i < length xs)
    (is : a ≡ get_or xs i d) where
  gathered : ℕ → List ℕ
  gathered n = map (λ (b : Attachment). b.device.0) (filter p (take n xs))

  one_more : gathered (i + 1) ≡ gathered i ++ map (λ (b : Attachment). b.device.0) (cond (p a) (a ∷ []) [])
  unfolding gathered
  one_more =
      let more : take (i + 1) xs ≡ take i xs ++ a ∷ [] =
      take_more xs i d within ∙ ap (λ (b : Attachment). take i xs ++ b ∷ []) (sym is) in
      rw (more, filter-append p (take i xs) (a ∷ []))
      (map-append (λ (b : Attachment). b.device.0) (filter p (take i xs)) (cond (p a) (a ∷ []) []))

  pub taken : (devices : List ℕ) → devices_rise xs ≡ true
      → devices ≡ map (λ (b : Attachment). b.device.0) (filter p (take i xs)) → p a ≡ true
      → with_device a.device.0 devices ≡ map (λ (b : Attachment). b.device.0) (filter p (take (i + 1) xs))
  unfolding gathered
  taken devices rise same passes =
      let last = with_last a.device.0 (map (λ (b : Attachment). b.device.0) (filter p (take i xs)))
      (earlier_below p xs i a d within is rise) in
      let more = one_more in
      rw same (last ∙ sym (rw passes at more))

  pub passed : (devices : List ℕ) → devices ≡ map (λ (b : Attachment). b.device.0) (filter p (take i xs)) → p a ≡ false
      → devices ≡ map (λ (b : Attachment). b.device.0) (filter p (take (i + 1) xs))
  unfolding gathered
  passed devices same fails =
      let more = one_more in
      same ∙ sym (append-nil (map (λ (b : Attachment). b.device.0) (filter p (take i xs)))) ∙ sym (rw fails at more)

-- A run and one record more.
use Rattle.std.proofs.Common.{◌≡◌, ℕ, suc, ◌+◌, List, [], ◌∷◌, ◌++◌, length, ap, ◌∙◌, subst, arith}
use Rattle.iofd_steps.specs.Run.{IsRun, IsRunFrom, Lawful, after, world_from, world_of}
use Rattle.iofd_words.specs.Record.{Record}
use Rattle.iofd_words.specs.Settings.{Settings}
use Rattle.iofd_words.specs.World.{World, opening}

module _ {A : Type 0} where
  run_from_more : (at : ℕ) (w : World) (records : List (Record A)) (r : Record A) → IsRunFrom at w records
      → Lawful (at + length records) (world_from at w records) r → IsRunFrom at w (records ++ r ∷ [])
  run_from_more at w [] r run lawful =
      let same : at + 0 ≡ at = omega arith in (subst (λ (n : ℕ). Lawful n w r) same lawful, tt)
  run_from_more at w (first ∷ records) r run lawful =
      let same : at + suc (length records) ≡ at + 1 + length records = omega arith in (
        run.0,
        run_from_more (at + 1) (after at w first) records r run.1
            (subst (λ (n : ℕ). Lawful n (world_from (at + 1) (after at w first) records) r) same lawful),
      )

  pub run_more : (settings : Settings) (records : List (Record A)) (r : Record A) → IsRun settings records
      → Lawful (length records) (world_of settings records) r → IsRun settings (records ++ r ∷ [])
  unfolding IsRun world_of
  run_more settings records r run lawful =
      let same : length records ≡ 0 + length records = omega arith in
      run_from_more 0 (opening settings) records r run
      (subst (λ (n : ℕ). Lawful n (world_from 0 (opening settings) records) r) same lawful)

  world_from_more : (at : ℕ) (w : World) (records : List (Record A)) (r : Record A)
      → world_from at w (records ++ r ∷ []) ≡ after (at + length records) (world_from at w records) r
  world_from_more at w [] r = let same : at ≡ at + 0 = omega arith in ap (λ (n : ℕ). after n w r) same
  world_from_more at w (first ∷ records) r =
      let same : at + 1 + length records ≡ at + suc (length records) = omega arith in
      world_from_more (at + 1) (after at w first) records r
      ∙ ap (λ (n : ℕ). after n (world_from (at + 1) (after at w first) records) r) same

  pub world_more : (settings : Settings) (records : List (Record A)) (r : Record A)
      → world_of settings (records ++ r ∷ []) ≡ after (length records) (world_of settings records) r
  unfolding world_of
  world_more settings records r =
      let same : 0 + length records ≡ length records = omega arith in
      world_from_more 0 (opening settings) records r
      ∙ ap (λ (n : ℕ). after n (world_from 0 (opening settings) records) r) same

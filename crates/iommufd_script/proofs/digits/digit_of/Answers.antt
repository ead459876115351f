-- The table is held against the definition at each of the 256 bytes, by computing.
use Rattle.std.proofs.Common.{◌≡◌, ℕ, ◌<◌, ◌≤◌, true, eqb, nat_le, get_or, List, refl, arith}
use Rattle.std.proofs.lemmas.Bool.{agree_below, agree_below_at, eqb-true, leb-true}
use Rattle.std.specs.Char.{digit_value}
use Rattle.iommufd_script.specs.declared.digits.TheConstants.{DIGIT_VALUES}
use Rattle.iommufd_script.proofs.digits.digit_of.Goals as goal

entry_is_value : (table : List ℕ) (c : ℕ) → c < 256
    → agree_below (λ k. eqb (get_or table k 0) (digit_value k)) (λ k. true) 256 ≡ true
    → get_or table c 0 ≡ digit_value c
entry_is_value table c within all = let same =
    agree_below_at (λ k. eqb (get_or table k 0) (digit_value k)) (λ k. true) 256 c all within in eqb-true
    (get_or table c 0) (digit_value c) same

entry_is_small : (table : List ℕ) (c : ℕ) → c < 256
    → agree_below (λ k. nat_le (get_or table k 0) 36) (λ k. true) 256 ≡ true → get_or table c 0 ≤ 36
entry_is_small table c within all = let small =
    agree_below_at (λ k. nat_le (get_or table k 0) 36) (λ k. true) 256 c all within in leb-true
    (get_or table c 0) 36 small

pub returns-clause-value : goal.returns-clause-value
returns-clause-value c = entry_is_value DIGIT_VALUES c.args.c (omega arith) refl

pub returns-clause-within : goal.returns-clause-within
returns-clause-within c = entry_is_small DIGIT_VALUES c.args.c (omega arith) refl

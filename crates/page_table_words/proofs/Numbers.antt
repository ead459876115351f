-- Which table of a level a page goes through, and by which entry.
use Rattle.std.proofs.Common.{◌≡◌, ℕ, ◌+◌, ◌-◌, ◌*◌, ◌/◌, ◌%◌, ◌^◌, ◌<◌, sym, ◌∙◌, ap, arith}
use Rattle.std.proofs.lemmas.Nat.{pow-add, shl-shr, shr-shr}
use Rattle.std.proofs.Math.Nat.{mul_assoc}
use Rattle.iofd_words.specs.Pages.{page_of}
use Rattle.iofd_words.specs.Levels.{first_address, index_at, number_at}

pub number-up : (level page : ℕ) → number_at (level + 1) page ≡ number_at level page / 512
unfolding number_at
number-up level page =
    let more : 9 * level + 9 ≡ 9 * (level + 1) = omega arith in
    sym (shr-shr page (9 * level) 9 ∙ ap (λ (k : ℕ). page / 2 ^ k) more)

pub number-zero : (page : ℕ) → number_at 0 page ≡ page
unfolding number_at
number-zero page = omega arith

-- pages that go through one table go through one table of each level above
pub same_above : (level p q : ℕ) → number_at level p ≡ number_at level q
    → number_at (level + 1) p ≡ number_at (level + 1) q
same_above level p q same = number-up level p ∙ ap (λ (n : ℕ). n / 512) same ∙ sym (number-up level q)

-- pages that go through one entry of one table go on together
pub same_below : (level p q : ℕ) → number_at (level + 1) p ≡ number_at (level + 1) q
    → number_at level p % 512 ≡ number_at level q % 512 → number_at level p ≡ number_at level q
same_below level p q same index =
    let quotients : number_at level p / 512 ≡ number_at level q / 512 =
    sym (number-up level p) ∙ same ∙ number-up level q in
    omega (arith, quotients, index)

-- a table's number is told by its first address
pub same_first : (level p q : ℕ) → first_address level p ≡ first_address level q → number_at level p ≡ number_at level q
same_first level p q same =
    sym (shl-shr (number_at level p) (9 * level + 12)) ∙ ap (λ (n : ℕ). n / 2 ^ (9 * level + 12)) same
    ∙ shl-shr (number_at level q) (9 * level + 12)

pub index_below : (level page : ℕ) → index_at level page < 512
index_below level page = omega arith

pub minus_one : (level : ℕ) → level + 1 - 1 ≡ level
minus_one level = omega arith

pub index-more : (level page : ℕ) → index_at (level + 1) page ≡ number_at level page % 512
index-more level page = ap (λ (k : ℕ). number_at k page % 512) (minus_one level)

-- the first address of a table lies in it
pub page_of-first : (level page : ℕ) → page_of (first_address level page) ≡ number_at level page * 2 ^ (9 * level)
page_of-first level page =
    let wide : 2 ^ (9 * level + 12) ≡ 2 ^ (9 * level) * 2 ^ 12 = pow-add 2 (9 * level) 12 in
    let moved : number_at level page * 2 ^ (9 * level + 12) ≡ number_at level page * 2 ^ (9 * level) * 2 ^ 12 =
    ap (λ (n : ℕ). number_at level page * n) wide
    ∙ sym (mul_assoc (number_at level page) (2 ^ (9 * level)) (2 ^ 12)) in
    ap (λ (n : ℕ). n / 2 ^ 12) moved ∙ shl-shr (number_at level page * 2 ^ (9 * level)) 12

pub number-page : (level n : ℕ) → number_at level (n * 2 ^ (9 * level)) ≡ n
unfolding number_at
number-page level n = shl-shr n (9 * level)

pub first_itself : (level page : ℕ) → first_address level (page_of (first_address level page))
    ≡ first_address level page
first_itself level page = ap (λ (n : ℕ). n * 2 ^ (9 * level + 12)) (ap (number_at level) (page_of-first level page)
    ∙ number-page level (number_at level page))

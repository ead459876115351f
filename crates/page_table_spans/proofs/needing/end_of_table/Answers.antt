use Rattle.std.proofs.Common.{◌≡◌, ℕ, ◌+◌, ◌*◌, ◌^◌, ◌/◌, ◌%◌, ◌≤◌, ◌∙◌, ap, arith}
use Rattle.std.proofs.lemmas.Nat.{pow-add}
use Rattle.std.proofs.Math.Nat.{div-mul-le_self, mod-eq_of_lt, pow-le-pow_right}
use Rattle.iofd_words.specs.Levels.{number_at}
use Rattle.page_table_words.proofs.Needs.{number_small}
use Rattle.page_table_spans.proofs.needing.end_of_table.Goals as goal

pub overflow_add-result : goal.overflow_add-result
overflow_add-result c =
    let small = number_small c.args.level c.args.address (omega (arith, c.requires.low)) in
    let is = c.number.ensures in
    omega (arith, is, small)

-- a table of a level begins at or below what goes through it
begins : (level page : ℕ) → number_at level page * 2 ^ (9 * level) ≤ page
unfolding number_at
begins level page = div-mul-le_self page (2 ^ (9 * level))

pub returns : goal.returns
returns c =
    let level = c.args.level in
    let page = c.args.address / 4096 in
    let size = 2 ^ (9 * level) in
    let whole : 2 ^ (9 * level + 12) ≡ size * 4096 = pow-add 2 (9 * level) 12 in
    let most : size ≤ 2 ^ 45 = pow-le-pow_right {n = 2} (omega arith) {i = 9 * level} {j = 45}
    (omega (arith, c.requires.few)) in
    let front = begins level page in
    let is = c.number.ensures in
    let next : (c.number.result + 1) * 2 ^ (9 * level + 12) ≡ (number_at level page + 1) * size * 4096 =
    ap (λ (n : ℕ). (n + 1) * 2 ^ (9 * level + 12)) is ∙ ap (λ (n : ℕ). (number_at level page + 1) * n) whole
    ∙ apart (number_at level page + 1) size in
    let more : (number_at level page + 1) * size ≡ number_at level page * size + size =
    parted (number_at level page) size in
    let low = c.requires.low in
    ap (λ (n : ℕ). n % 18446744073709551616) next
    ∙ mod-eq_of_lt (omega (arith, more, front, most, low))
  where
    apart : (a size : ℕ) → a * (size * 4096) ≡ a * size * 4096
    apart a size = grind arith

    parted : (a size : ℕ) → (a + 1) * size ≡ a * size + size
    parted a size = grind arith

-- How many tables a page lacks.
use Rattle.std.proofs.Common.{◌≡◌, ℕ, zero, suc, ◌+◌, ◌-◌, ◌<◌, ◌≤◌, Bool, ltb, cond, List, sym, ◌∙◌, ap, arith, ⊎_elim}
use Rattle.std.specs.Prelude.{is_none}
use Rattle.std.specs.List.{count_by, range_with_len}
use Rattle.std.proofs.lemmas.Bool.{cases_lt, le-ltb, lt-ltb}
use Rattle.std.proofs.lemmas.List.Sums.{sum_by-cons}
use Rattle.iofd_words.specs.declared.numbers.FrameNo.{FrameNo}
use Rattle.frame_memory.specs.Pool.{FramePool}
use Rattle.page_table_words.specs.Reached.{IsLowest}
use Rattle.page_table_words.specs.Rows.{MappedPage, TableRow, table_at}
use Rattle.page_table_words.specs.Stands.{Stands}
use Rattle.page_table_words.specs.Taken.{missing}
use Rattle.page_table_words.proofs.Lookups.{some_is, the_some}
use Rattle.page_table_words.proofs.Tables.{none_below, tables_above}

-- a test of the numbers below another
pub count_below : (p : ℕ → Bool) (from n k : ℕ) → ((i : ℕ) → from ≤ i → i < from + n → p i ≡ ltb i k) → from ≤ k
    → k ≤ from + n → count_by p (range_with_len from n) ≡ k - from
count_below p from zero k is low high = omega (arith, low, high)
count_below p from (suc n) k is low high =
    let first = sum_by-cons (λ (i : ℕ). cond (p i) 1 0) from (range_with_len (from + 1) n) in
    ⊎_elim
    (λ (below : from < k).
    let one = ap {B = ℕ} (λ (b : Bool). cond b 1 0) (is from (omega arith) (omega arith) ∙ lt-ltb from k below) in
    let rest = count_below p (from + 1) n k (λ i above within. is i (omega (arith, above)) (omega (arith, within)))
    (omega (arith, below)) (omega (arith, high)) in
    omega (arith, first, one, rest, below))
    (λ (past : k ≤ from).
    let none = ap {B = ℕ} (λ (b : Bool). cond b 1 0) (is from (omega arith) (omega arith) ∙ le-ltb from k past) in
    let rest = count_below p (from + 1) n (from + 1)
    (λ i above within. is i (omega (arith, above)) (omega (arith, within)) ∙ le-ltb i k (omega (arith, above, past))
    ∙ sym (le-ltb i (from + 1) above)) (omega arith) (omega arith) in
    omega (arith, first, none, rest, past, low))
    (cases_lt from k)

-- the levels below its lowest table
pub missing_is : (pool : FramePool) (levels : ℕ) (root : FrameNo) (rows : List TableRow) (pages : List MappedPage)
    (level page : ℕ) (table : FrameNo) → Stands pool levels root rows pages → IsLowest rows level page table
    → missing rows levels page ≡ level - 1
missing_is pool levels root rows pages level page table stands lowest =
    let range = stands.level level page table lowest.at in
    count_below (λ (k : ℕ). is_none (table_at rows k page)) 1 (levels - 1) level
    (λ k low high. ⊎_elim
    (λ (below : k < level). ap is_none (none_below pool levels root rows pages stands (level - 1) page k
    (lowest.last (omega (arith, low, below))) (omega (arith, range.1)) (omega (arith, below)))
    ∙ sym (lt-ltb k level below))
    (λ (above : level ≤ k).
    let same : level + (k - level) ≡ k = omega (arith, above) in
    let there = rw same at (tables_above pool levels root rows pages stands (k - level) level page
    (some_is _ table lowest.at) (omega (arith, high, above, range.1))) in
    let frame = the_some (table_at rows k page) there in
    ap is_none frame.1 ∙ sym (le-ltb k level above))
    (cases_lt k level))
    (omega (arith, range.0)) (omega (arith, range.0, range.1))

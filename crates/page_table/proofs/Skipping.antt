-- Entries of a table that name no table, between those that do.
use Rattle.std.proofs.Common.{◌≡◌, ◌≢◌, ℕ, zero, suc, ◌+◌, ◌-◌, ◌*◌, ◌%◌, ◌<◌, ◌≤◌, true, not, eqb, List, [], ◌++◌, sym}
use Rattle.std.proofs.Common.{ap, ◌∙◌, arith}
use Rattle.std.specs.List.{flat_map, range_with_len}
use Rattle.std.proofs.lemmas.Bool.Decides.{nat_tests}
use Rattle.std.proofs.lemmas.List.{append-nil}
use Rattle.std.proofs.Math.Nat.{mul-le-mul_right}
use Rattle.iofd_words.specs.declared.numbers.FrameNo.{FrameNo}
use Rattle.frame_memory.specs.Pool.{FramePool}
use Rattle.page_table_words.specs.Entries.{entry_at}
use Rattle.page_table_words.specs.Under.{frames_of_entry}
use Rattle.page_table_words.proofs.FramesUnder.{entries_more, entry_absent}

-- what so many more give, none of which gives any
none_more : (f : ℕ → List FrameNo) (n d : ℕ) → ((k : ℕ) → n ≤ k → k < n + d → f k ≡ [])
    → flat_map f (range_with_len 0 (n + d)) ≡ flat_map f (range_with_len 0 n)
none_more f n zero none = ap (λ (m : ℕ). flat_map f (range_with_len 0 m)) (let same : n + 0 ≡ n = omega arith in same)
none_more f n (suc d) none =
    let before = flat_map f (range_with_len 0 (n + d)) in
    ap (λ (m : ℕ). flat_map f (range_with_len 0 m)) (let same : n + suc d ≡ n + d + 1 = omega arith in same)
    ∙ entries_more f (n + d)
    ∙ ap (λ (fs : List FrameNo). before ++ fs) (none (n + d) (omega arith) (omega arith)) ∙ append-nil before
    ∙ none_more f n d (λ k low high. none k low (omega (arith, high)))

-- the tables that entries before one name, where those from another one on name none
pub none_between : (pool : FramePool) (below : ℕ) (table : FrameNo) (n m : ℕ) → n ≤ m
    → ((k : ℕ) → n ≤ k → k < m → entry_at pool table.0 k % 4 ≡ 0)
    → flat_map (frames_of_entry pool below table) (range_with_len 0 m) ≡ flat_map
    (frames_of_entry pool below table) (range_with_len 0 n)
none_between pool below table n m up absent =
    let f = frames_of_entry pool below table in
    ap (λ (k : ℕ). flat_map f (range_with_len 0 k)) (let same : m ≡ n + (m - n) = omega (arith, up) in same)
    ∙ none_more f n (m - n) (λ k low high. entry_absent pool below table k (absent k low (omega (arith, high, up))))

-- the test of one that is present
pub is_present : (pool : FramePool) (table : FrameNo) (i entry : ℕ) → entry ≡ entry_at pool table.0 i
    → entry_at pool table.0 i % 4 ≢ 0 → not (eqb (entry % 4) 0) ≡ true
is_present pool table i entry is present =
    let some : entry % 4 ≢ 0 = λ none. present (ap (λ (e : ℕ). e % 4) (sym is) ∙ none) in
    grind (arith, nat_tests)

-- a bound on the sum over entries, past those that are skipped
pub total_small : (power total index next more : ℕ) → index + 1 ≤ next → total ≤ 1 + index * power → more ≤ power
    → total + more ≤ 1 + next * power
total_small power total index next more up small least =
    let count : (index + 1) * power ≤ next * power = mul-le-mul_right power up in
    omega (arith, small, least, count)

-- What is kept of blocks of rows.
use Rattle.std.proofs.Common.{◌≡◌, ◌≢◌, ℕ, suc, ◌+◌, ◌-◌, ◌*◌, ◌<◌, ◌≤◌, ◌^◌, false, ltb, min, max, List, []}
use Rattle.std.proofs.Common.{◌∷◌, ◌++◌, length, get_or, set, take, drop, map, refl, sym, ap, subst, append-nil, ◌∙◌}
use Rattle.std.proofs.Common.{arith, ⊎_elim, Some, None}
use Rattle.std.specs.List.{prefix_len, slice_get}
use Rattle.std.proofs.lemmas.Bool.{cases_lt}
use Rattle.std.proofs.lemmas.Bool.Decides.{nat_tests}
use Rattle.std.proofs.lemmas.List.{take-append-drop, take-take, drop-drop, drop-take, take-map, drop-map}
use Rattle.std.proofs.lemmas.List.{drop_more, length-append, length-set}
use Rattle.std.proofs.lemmas.List.{get_or-set_same, get_or-set_other}
use Rattle.iofd_words.specs.declared.rows.Area.{Area}
use Rattle.area_map.specs.declared.blocks.Block.{Block}
use Rattle.area_map_rows.specs.Areas.{AreApartFrom, AreApart}
use Rattle.area_map_rows.specs.Rows.{in_rows, AreRows, end_of, first_free, first_of, starts_from, widest_behind}
use Rattle.area_map_rows.specs.Rows.{widest_of}
use Rattle.area_map.specs.Blocks.{AreBlocks, AreBlocksBut, IsBlockOf, IsSameBut, block_of, rows_of}
use Rattle.area_map_rows.proofs.FirstFree.{free-append, free-behind, free-rows}
use Rattle.area_map_rows.proofs.Kept.{end-map, first-map, widest-map}
use Rattle.area_map_rows.proofs.Rows.{AreRows-drop, apart_left, apart-drop, in_rows-append, in_rows-map_map}

-- ---- some areas, and others behind them

pub end_of-append : (xs ys : List Area) → 0 < length ys → end_of (xs ++ ys) ≡ end_of ys
end_of-append [] ys some = refl
end_of-append (x ∷ []) [] some = absurd (omega (arith, some))
end_of-append (x ∷ []) (y ∷ ys) some = refl
end_of-append (x ∷ z ∷ xs) ys some = end_of-append (z ∷ xs) ys some

-- the gaps behind a place: those before some areas, between them, and behind them
pub behind-append : (last : ℕ) (xs ys : List Area) → 0 < length xs
    → widest_behind last (xs ++ ys)
    ≡ max (max (widest_of xs) (first_of xs - last - 1)) (widest_behind (end_of xs) ys)
behind-append last [] ys some = absurd (omega (arith, some))
behind-append last (x ∷ []) ys some = omega arith
behind-append last (x ∷ z ∷ xs) ys some =
    let rest = behind-append x.span.last (z ∷ xs) ys (omega arith) in
    omega (arith, rest)

pub widest_of-append : (xs ys : List Area) → 0 < length xs
    → widest_of (xs ++ ys) ≡ max (widest_of xs) (widest_behind (end_of xs) ys)
widest_of-append [] ys some = absurd (omega (arith, some))
widest_of-append (x ∷ []) ys some = omega arith
widest_of-append (x ∷ z ∷ xs) ys some =
    let rest = behind-append x.span.last (z ∷ xs) ys (omega arith) in
    omega (arith, rest)

-- the first row has the first area
pub first_of-rows : (rows : List (List Area)) (row : List Area) → AreRows rows → slice_get rows 0 ≡ Some row
    → first_of (in_rows rows) ≡ first_of row
first_of-rows [] row each is = cc
first_of-rows ([] ∷ rows) row each is = absurd (omega (arith, each.0))
first_of-rows ((x ∷ xs) ∷ rows) row each is =
    let same : x ∷ xs ≡ row = cc in
    ap first_of same

pub first_of-none : (rows : List (List Area)) → slice_get rows 0 ≡ None
    → first_of (in_rows rows) ≡ 18446744073709551615
first_of-none [] is = refl
first_of-none (row ∷ rows) is = absurd (cc)

-- the last row has the last area
pub end_of-rows : (rows : List (List Area)) (row : List Area) → AreRows rows
    → slice_get rows (length rows - 1) ≡ Some row → end_of (in_rows rows) ≡ end_of row
end_of-rows [] row each is = cc
end_of-rows (one ∷ []) row each is =
    let same : one ≡ row = cc in
    ap end_of (append-nil one ∙ same)
end_of-rows (one ∷ next ∷ rows) row each is =
    let less : length (one ∷ next ∷ rows) - 1 ≡ suc (length (next ∷ rows) - 1) = omega arith in
    let long = length-append next (in_rows rows) in
    end_of-append one (in_rows (next ∷ rows)) (omega (arith, long, each.2.0))
    ∙ end_of-rows (next ∷ rows) row each.2 (rw less at is)

last_there : (row : List Area) (rows : List (List Area))
    → slice_get (row ∷ rows) (length (row ∷ rows) - 1) ≡ None → ⊥
last_there row [] is = cc
last_there row (next ∷ rows) is =
    let less : length (row ∷ next ∷ rows) - 1 ≡ suc (length (next ∷ rows) - 1) = omega arith in
    last_there next rows (rw less at is)

pub end_of-none : (rows : List (List Area)) → slice_get rows (length rows - 1) ≡ None → end_of (in_rows rows) ≡ 0
end_of-none [] is = refl
end_of-none (row ∷ rows) is = absurd (last_there row rows is)

pub widest_of-rows : (rows : List (List Area)) (row : List Area) (others : List (List Area)) → AreRows rows
    → rows ≡ row ∷ others
    → widest_of (in_rows rows) ≡ max (widest_of row) (widest_behind (end_of row) (in_rows others))
widest_of-rows rows row others each is =
    let left : AreRows (row ∷ others) = rw is at each in
    rw is (widest_of-append row (in_rows others) left.0)

pub widest_of-none : (rows : List (List Area)) → length rows ≡ 0 → widest_of (in_rows rows) ≡ 0
widest_of-none [] none = refl
widest_of-none (row ∷ rows) none = absurd (omega (arith, none))

-- the first of the rows that are left is passed
pub behind_next : (widest end : ℕ) (rows : List (List Area)) (i : ℕ) (d : List Area) → i < length rows → AreRows rows
    → max widest (widest_behind end (in_rows (drop i rows)))
    ≡ max (max (max (widest_of (get_or rows i d)) (first_of (get_or rows i d) - end - 1)) widest)
    (widest_behind (end_of (get_or rows i d)) (in_rows (drop (i + 1) rows)))
behind_next widest end rows i d within each =
    let row : List Area = get_or rows i d in
    let is : drop i rows ≡ row ∷ drop (i + 1) rows = drop_more rows i d within in
    let left : AreRows (row ∷ drop (i + 1) rows) = rw is at (AreRows-drop rows i each) in
    let both = behind-append end row (in_rows (drop (i + 1) rows)) left.0 in
    let behind = ap (λ (rs : List (List Area)). widest_behind end (in_rows rs)) is in
    omega (arith, both, behind)

-- ---- a search passes over a block

pub apart-take : (low : ℕ) (rows : List (List Area)) (n : ℕ) → AreApartFrom low (in_rows rows)
    → AreApartFrom low (in_rows (take n rows))
apart-take low rows n apart =
    let parts : in_rows rows ≡ in_rows (take n rows) ++ in_rows (drop n rows) =
    ap in_rows (sym (take-append-drop n rows)) ∙ in_rows-append (take n rows) (drop n rows) in
    apart_left low (in_rows (take n rows)) (in_rows (drop n rows)) (rw parts at apart)

-- so many rows, and then those behind them
pub free-parts : (at count n : ℕ) (rows : List (List Area)) → AreApart (in_rows rows)
    → first_free (first_free at count (in_rows (take n rows))) count (in_rows (drop n rows))
    ≡ first_free at count (in_rows rows)
free-parts at count n rows apart =
    let parts : in_rows rows ≡ in_rows (take n rows) ++ in_rows (drop n rows) =
    ap in_rows (sym (take-append-drop n rows)) ∙ in_rows-append (take n rows) (drop n rows) in
    sym (free-append at count 0 (in_rows (take n rows)) (in_rows (drop n rows)) (rw parts at apart))
    ∙ ap (first_free at count) (sym parts)

-- a search among the rows from the one that reaches the place on: first before the end of its block
pub free-own : (start count below stop : ℕ) (rows : List (List Area)) → AreRows rows → AreApart (in_rows rows)
    → below ≡ prefix_len (λ (row : List Area). ltb (end_of row) start) rows → below ≤ stop
    → first_free (first_free start count (in_rows (take (stop - below) (drop below rows)))) count
    (in_rows (drop stop rows)) ≡ first_free start count (in_rows rows)
free-own start count below stop rows each apart is order =
    let rest : List (List Area) = drop below rows in
    let left = apart-drop 0 rows below each apart in
    let behind : drop (stop - below) rest ≡ drop stop rows =
    drop-drop (stop - below) below rows ∙ ap (λ (n : ℕ). drop n rows) (omega (arith, order)) in
    let parts = rw behind at (free-parts start count (stop - below) rest left) in
    let same : first_free start count (in_rows rest) ≡ first_free start count (in_rows rows) =
    rw is (free-rows start count 0 rows each apart) in
    parts ∙ same

-- areas that it reaches, and of which no gap is so wide, are passed
passed : (at count : ℕ) (xs : List Area) → AreApart xs → first_of xs < at + count → widest_of xs < count
    → count < 2 ^ 64 → first_free at count xs ≡ max at (end_of xs + 1)
passed at count [] apart reached narrow low = omega (arith, reached, low)
passed at count (x ∷ xs) apart reached narrow low =
    let begun : starts_from (at + count) (x ∷ xs) ≡ false = grind (arith, nat_tests) in
    free-behind at count (x ∷ xs) apart begun narrow

pub apart-block : (number : ℕ) (rows : List (List Area)) → AreRows rows → AreApart (in_rows rows)
    → AreApart (in_rows (rows_of number rows))
apart-block number rows each apart =
    apart-take 0 (drop (32 * number) rows) 32 (apart-drop 0 rows (32 * number) each apart)

pub passed-block : (at count number : ℕ) (rows : List (List Area)) (block : Block) → AreRows rows
    → AreApart (in_rows rows) → IsBlockOf (rows_of number rows) block → block.first < at + count
    → block.widest < count → count < 2 ^ 64
    → max at (block.end + 1) ≡ first_free at count (in_rows (rows_of number rows))
passed-block at count number rows block each apart is reached narrow low =
    let first = is.first in
    let widest = is.widest in
    ap (λ (m : ℕ). max at (m + 1)) is.end
    ∙ sym (passed at count (in_rows (rows_of number rows)) (apart-block number rows each apart)
    (omega (arith, first, reached)) (omega (arith, widest, narrow)) low)

-- a block, and then those behind it
pub free-block : (at count number : ℕ) (rows : List (List Area)) → AreRows rows → AreApart (in_rows rows)
    → first_free (first_free at count (in_rows (rows_of number rows))) count (in_rows (drop (32 * (number + 1)) rows))
    ≡ first_free at count (in_rows (drop (32 * number) rows))
free-block at count number rows each apart =
    let rest : List (List Area) = drop (32 * number) rows in
    let next : drop 32 rest ≡ drop (32 * (number + 1)) rows =
    drop-drop 32 (32 * number) rows ∙ ap (λ (n : ℕ). drop n rows) (omega arith) in
    let place = first_free at count (in_rows (rows_of number rows)) in
    ap (λ (rs : List (List Area)). first_free place count (in_rows rs)) (sym next)
    ∙ free-parts at count 32 rest (apart-drop 0 rows (32 * number) each apart)

-- ---- blocks whose rows haven't changed

pub same_before : (n s from : ℕ) (old new : List (List Area)) → take from new ≡ take from old → n + s ≤ from
    → take s (drop n new) ≡ take s (drop n old)
same_before n s from old new same low =
    sym (drop-take n s new)
    ∙ ap (drop n) (sym (take-take (n + s) from new low) ∙ ap (take (n + s)) same ∙ take-take (n + s) from old low)
    ∙ drop-take n s old

pub same_behind : (n to : ℕ) (old new : List (List Area)) → drop to new ≡ drop to old → to ≤ n → drop n new ≡ drop n old
same_behind n to old new same high =
    let is : to + (n - to) ≡ n = omega (arith, high) in
    ap (λ (m : ℕ). drop m new) (sym is) ∙ sym (drop-drop (n - to) to new) ∙ ap (drop (n - to)) same
    ∙ drop-drop (n - to) to old ∙ ap (λ (m : ℕ). drop m old) is

pub blocks_but : (blocks : List Block) (old new : List (List Area)) (from to low high : ℕ) → AreBlocks blocks old
    → IsSameBut from to old new → 32 * low ≤ from → to ≤ 32 * high → AreBlocksBut low high blocks new
blocks_but blocks old new from to low high all same below above = record {
  before = λ number within less.
      let rows = same_before (32 * number) 32 from old new same.before (omega (arith, less, below)) in
      subst (λ (rs : List (List Area)). IsBlockOf rs (get_or blocks number (block_of []))) (sym rows)
      (all number within);
  behind = λ number within more.
      let rows = same_behind (32 * number) to old new same.behind (omega (arith, more, above)) in
      subst (λ (rs : List (List Area)). IsBlockOf (take 32 rs) (get_or blocks number (block_of []))) (sym rows)
      (all number within);
}

-- a change that leaves all spans
mapped_block : (f : Area → Area) → ((a : Area) → (f a).span ≡ a.span) → (rows : List (List Area)) (block : Block)
    → IsBlockOf rows block → IsBlockOf (map (map f) rows) block
mapped_block f same rows block is =
    let mapped = in_rows-map_map f rows in
    let first = first-map f same (in_rows rows) in
    let end = end-map f same (in_rows rows) in
    let widest = widest-map f same (in_rows rows) in
    record {
      first = rw (mapped, first) is.first;
      end = rw (mapped, end) is.end;
      widest = rw (mapped, widest) is.widest;
    }

pub blocks_mapped : (f : Area → Area) → ((a : Area) → (f a).span ≡ a.span) → (blocks : List Block)
    (rows : List (List Area)) → AreBlocks blocks rows → AreBlocks blocks (map (map f) rows)
blocks_mapped f same blocks rows all = λ number within.
    let behind = drop-map (map f) (32 * number) rows in
    let own = take-map (map f) 32 (drop (32 * number) rows) in
    let rows_are : rows_of number (map (map f) rows) ≡ map (map f) (rows_of number rows) =
    ap (take 32) behind ∙ own in
    subst (λ (rs : List (List Area)). IsBlockOf rs (get_or blocks number (block_of []))) (sym rows_are)
    (mapped_block f same (rows_of number rows) (get_or blocks number (block_of [])) (all number within))

-- ---- blocks that are looked through one after the other

pub renewed : (blocks : List Block) (rows : List (List Area)) (number to : ℕ) (block : Block)
    → AreBlocksBut number to blocks rows → number < length blocks → number < to
    → IsBlockOf (rows_of number rows) block → AreBlocksBut (number + 1) to (set blocks number block) rows
renewed blocks rows number to block others there low is =
    let long = length-set blocks number block in
    record {
      before = λ n within below.
          ⊎_elim
          (λ (old : n < number).
          let apart : n ≢ number = omega arith in
          subst (IsBlockOf (rows_of n rows)) (sym (get_or-set_other blocks number n block (block_of []) apart))
          (others.before n (omega (arith, long, within)) old))
          (λ (new : number ≤ n).
          let same : number ≡ n = omega (arith, new, below) in
          subst (λ (m : ℕ). IsBlockOf (rows_of m rows) (get_or (set blocks number block) m (block_of []))) same
          (subst (IsBlockOf (rows_of number rows)) (sym (get_or-set_same blocks number block (block_of []) there)) is))
          (cases_lt n number);
      behind = λ n within high.
          let apart : n ≢ number = omega arith in
          subst (IsBlockOf (rows_of n rows)) (sym (get_or-set_other blocks number n block (block_of []) apart))
          (others.behind n (omega (arith, long, within)) high);
    }

pub all_renewed : (blocks : List Block) (rows : List (List Area)) (number to : ℕ)
    → AreBlocksBut number to blocks rows → min to (length blocks) ≤ number → AreBlocks blocks rows
all_renewed blocks rows number to others far = λ n within.
    ⊎_elim (λ (low : n < number). others.before n within low)
    (λ (high : number ≤ n). others.behind n within (omega (arith, far, within, high))) (cases_lt n number)

-- what a look through finds
pub found : (rows : List (List Area)) (block : Block) → block ≡ block_of rows → IsBlockOf rows block
found rows block is = subst (IsBlockOf rows) (sym is) (record { first = refl; end = refl; widest = omega arith })

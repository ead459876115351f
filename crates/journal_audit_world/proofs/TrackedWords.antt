-- The words of a report, a page after the other.
use Rattle.std.proofs.Common.{◌≡◌, ℕ, suc, ◌+◌, ◌/◌, ◌^◌, ◌<◌, ◌≤◌, Bool, true, false, ◌&&◌, ◌||◌, cond, eqb}
use Rattle.std.proofs.Common.{List, [], ◌∷◌, length, get_or, drop, map, refl, sym, ap, ◌∙◌, arith}
use Rattle.std.proofs.Math.Nat.{pow-le-pow_right, two-pow-succ}
use Rattle.std.proofs.lemmas.Bool.{eqb-true}
use Rattle.std.proofs.lemmas.List.{drop_all, drop_more}
use Rattle.std.proofs.lemmas.List.FromFn.{sum_by-map-range_with_len_more}
use Rattle.std.specs.List.{list_any, range_with_len, sum}
use Rattle.iofd_words.specs.Bounds.{Bounds}
use Rattle.iofd_words.specs.Dirty.{TrackedTable, has_mark, is_marked}
use Rattle.iofd_words.specs.DirtyWords.{dirty_word, dirty_words, is_page_of, is_reported, word_pages}
use Rattle.iofd_words.specs.declared.numbers.FileNo.{FileNo}
use Rattle.iofd_words.specs.declared.numbers.ObjId.{ObjId}
use Rattle.journal_audit_world.specs.Keys.{has_number}
use Rattle.journal_audit_world.specs.Tracked.{bits}

-- ---- pages that are asked for, one after the other

pub page_more : (span : Bounds) (pages : List ℕ) (old new : List ℕ) (total : ℕ → Bool) (i page : ℕ) (b : Bool)
    → i < length pages → page ≡ get_or pages i page → b ≡ is_page_of span page
    → ((n : ℕ) → has_number new n ≡ (has_number old n || (b && eqb page n)))
    → ((n : ℕ) → (has_number old n || (list_any (λ p. eqb p n) (drop i pages) && is_page_of span n)) ≡ total n)
    → (n : ℕ) → (has_number new n || (list_any (λ p. eqb p n) (drop (i + 1) pages) && is_page_of span n)) ≡ total n
page_more span pages old new total i page b within is tests more before n =
    ap (λ c. c || (list_any (λ p. eqb p n) (drop (i + 1) pages) && is_page_of span n)) (more n)
    ∙ here (eqb page n) refl
    ∙ ap (λ (p : ℕ). has_number old n || (list_any (λ p. eqb p n) (p ∷ drop (i + 1) pages) && is_page_of span n)) is
    ∙ ap (λ rows. has_number old n || (list_any (λ p. eqb p n) rows && is_page_of span n))
    (sym (drop_more pages i page within))
    ∙ before n
  where
    tidy : (o a rest : Bool) → ((o || (a && true)) || (rest && a)) ≡ (o || a)
    tidy true a rest = refl
    tidy false true rest = refl
    tidy false false true = refl
    tidy false false false = refl

    none : (o b : Bool) (x : Bool) → ((o || (b && false)) || x) ≡ (o || x)
    none true b x = refl
    none false true x = refl
    none false false x = refl

    here : (e : Bool) → eqb page n ≡ e
        → ((has_number old n || (b && e)) || (list_any (λ p. eqb p n) (drop (i + 1) pages) && is_page_of span n))
        ≡ (has_number old n || ((e || list_any (λ p. eqb p n) (drop (i + 1) pages)) && is_page_of span n))
    here true same =
        let asked : b ≡ is_page_of span n = tests ∙ ap (is_page_of span) (eqb-true page n same) in
        ap (λ c. (has_number old n || (c && true))
        || (list_any (λ p. eqb p n) (drop (i + 1) pages) && is_page_of span n))
        asked
        ∙ tidy (has_number old n) (is_page_of span n) (list_any (λ p. eqb p n) (drop (i + 1) pages))
    here false other = none (has_number old n) b _

-- ---- those of a page table, a row after the other

pub table_more : (file : FileNo) (hwpt : ObjId) (span : Bounds) (rows : List TrackedTable) (old new : List ℕ)
    (total : ℕ → Bool) (i : ℕ) (row : TrackedTable) → i < length rows → row ≡ get_or rows i row
    → ((n : ℕ) → has_number new n ≡ (has_number old n || (has_mark file hwpt n row && is_page_of span n)))
    → ((n : ℕ) → (has_number old n || (is_marked (drop i rows) file hwpt n && is_page_of span n)) ≡ total n)
    → (n : ℕ) → (has_number new n || (is_marked (drop (i + 1) rows) file hwpt n && is_page_of span n)) ≡ total n
table_more file hwpt span rows old new total i row within is more before n =
    ap (λ c. c || (is_marked (drop (i + 1) rows) file hwpt n && is_page_of span n)) (more n)
    ∙ tidy (has_number old n) (has_mark file hwpt n row) (is_marked (drop (i + 1) rows) file hwpt n) (is_page_of span n)
    ∙ ap (λ (r : TrackedTable). has_number old n
    || (is_marked (r ∷ drop (i + 1) rows) file hwpt n && is_page_of span n))
    is
    ∙ ap (λ rs. has_number old n || (is_marked rs file hwpt n && is_page_of span n)) (sym (drop_more rows i row within))
    ∙ before n
  where
    tidy : (o m rest a : Bool) → ((o || (m && a)) || (rest && a)) ≡ (o || ((m || rest) && a))
    tidy true m rest a = refl
    tidy false true true true = refl
    tidy false true false true = refl
    tidy false true rest false = both rest
      where
        both : (r : Bool) → (r && false) ≡ false
        both true = refl
        both false = refl
    tidy false false rest a = refl

or_false : (b : Bool) → (b || false) ≡ b
or_false true = refl
or_false false = refl

-- before the first row, and behind the last one
pub table_none : (pages : List ℕ) (total : ℕ → Bool) (n : ℕ) → pages ≡ []
    → (has_number pages n || total n) ≡ total n
table_none pages total n none = ap (λ (ps : List ℕ). has_number ps n || total n) none

pub no_more : (file : FileNo) (hwpt : ObjId) (span : Bounds) (rows : List TrackedTable) (old : List ℕ)
    (total : ℕ → Bool) (i : ℕ) → length rows ≤ i
    → ((n : ℕ) → (has_number old n || (is_marked (drop i rows) file hwpt n && is_page_of span n)) ≡ total n)
    → (n : ℕ) → has_number old n ≡ total n
no_more file hwpt span rows old total i past before n =
    sym (or_false (has_number old n))
    ∙ ap (λ (rs : List TrackedTable). has_number old n || (is_marked rs file hwpt n && is_page_of span n))
    (sym (drop_all i rows past))
    ∙ before n

pub no_page_more : (span : Bounds) (pages old : List ℕ) (total : ℕ → Bool) (i : ℕ) → length pages ≤ i
    → ((n : ℕ) → (has_number old n || (list_any (λ p. eqb p n) (drop i pages) && is_page_of span n)) ≡ total n)
    → (n : ℕ) → has_number old n ≡ total n
no_page_more span pages old total i past before n =
    sym (or_false (has_number old n))
    ∙ ap (λ (ps : List ℕ). has_number old n || (list_any (λ p. eqb p n) ps && is_page_of span n))
    (sym (drop_all i pages past))
    ∙ before n

-- ---- the bits of a word

pub none_yet : (test : ℕ → Bool) → 0 ≡ bits test 0
unfolding bits
none_yet test = refl

one_more : (test : ℕ → Bool) (k : ℕ) → bits test (k + 1) ≡ bits test k + cond (test k) (2 ^ k) 0
unfolding bits
one_more test k = sum_by-map-range_with_len_more (λ (x : ℕ). x) (λ k. cond (test k) (2 ^ k) 0) 0 k k (omega arith)

bit_below : (t : Bool) (p b : ℕ) → b ≡ cond t p 0 → b ≤ p
bit_below true p b is = omega (arith, is)
bit_below false p b is = omega (arith, is)

twice : (k : ℕ) → 2 ^ (k + 1) ≡ 2 ^ k + 2 ^ k
twice k = let next : k + 1 ≡ suc k = omega arith in ap (λ n. 2 ^ n) next ∙ two-pow-succ k

pub word_more : (test : ℕ → Bool) (k w b : ℕ) → w ≡ bits test k → w < 2 ^ k → b ≡ cond (test k) (2 ^ k) 0
    → (w + b ≡ bits test (k + 1)) × (w + b < 2 ^ (k + 1))
word_more test k w b is small bit =
    let low = bit_below (test k) (2 ^ k) b bit in
    let double = twice k in
    let more = one_more test k in (
      omega (arith, is, bit, more),
      omega (arith, small, low, double),
    )

pub word_fits : (test : ℕ → Bool) (k w b : ℕ) → k < 64 → w < 2 ^ k → b ≡ cond (test k) (2 ^ k) 0 → w + b < 2 ^ 64
word_fits test k w b few small bit =
    let low = bit_below (test k) (2 ^ k) b bit in
    let double = twice k in
    let two_above : 0 < 2 = omega arith in
    let within : 2 ^ (k + 1) ≤ 2 ^ 64 = pow-le-pow_right {n = 2} two_above {i = k + 1} {j = 64} (omega (arith, few)) in
    omega (arith, small, low, double, within)

-- ---- as the definitions tell it

map_alike : (f g : ℕ → ℕ) (xs : List ℕ) → ((x : ℕ) → f x ≡ g x) → map f xs ≡ map g xs
map_alike f g [] same = refl
map_alike f g (x ∷ xs) same = rw (same x, map_alike f g xs same) refl

bits_alike : (f g : ℕ → Bool) (n : ℕ) → ((k : ℕ) → f k ≡ g k) → bits f n ≡ bits g n
unfolding bits
bits_alike f g n same =
    ap (λ xs. sum xs) (map_alike (λ k. cond (f k) (2 ^ k) 0) (λ k. cond (g k) (2 ^ k) 0) (range_with_len 0 n)
    (λ k. ap (λ b. cond b (2 ^ k) 0) (same k)))

word_pages-is : word_pages ≡ 64
unfolding word_pages
word_pages-is = refl

word_bits : (marked : ℕ → Bool) (span : Bounds) (page : ℕ)
    → dirty_word marked span page ≡ bits (λ k. is_reported marked span (page + k)) word_pages
unfolding bits
word_bits marked span page = refl

pub word_told : (marked : ℕ → Bool) (span : Bounds) (pages : List ℕ) (from page w : ℕ) → from ≡ page
    → ((n : ℕ) → has_number pages n ≡ is_reported marked span n) → w ≡ bits (λ k. has_number pages (from + k)) 64
    → w ≡ dirty_word marked span page
word_told marked span pages from page w same told is =
    is
    ∙ bits_alike (λ k. has_number pages (from + k)) (λ k. is_reported marked span (page + k)) 64
    (λ k. told (from + k) ∙ ap (λ p. is_reported marked span (p + k)) same)
    ∙ ap (λ n. bits (λ k. is_reported marked span (page + k)) n) (sym word_pages-is)
    ∙ sym (word_bits marked span page)

-- the four words of which each is as it is to be
pub words_told : (marked : ℕ → Bool) (span : Bounds) (a b c d : ℕ)
    → a ≡ dirty_word marked span (span.first / 4096 + 0) → b ≡ dirty_word marked span (span.first / 4096 + 64)
    → c ≡ dirty_word marked span (span.first / 4096 + 128) → d ≡ dirty_word marked span (span.first / 4096 + 192)
    → (a ∷ b ∷ c ∷ d ∷ []) ≡ dirty_words marked span
words_told marked span a b c d first second third fourth = rw (first, second, third, fourth) refl

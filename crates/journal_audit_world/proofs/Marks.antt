-- Frames that are marked as reached, row after row.
use Rattle.std.proofs.Common.{◌≡◌, ◌<◌, ◌≤◌, ◌+◌, ℕ, zero, suc, Bool, true, false, ◌||◌, not, eqb, ltb, cond}
use Rattle.std.proofs.Common.{List, length, drop, get_or, replicate, refl, sym, ap, ◌∙◌, arith}
use Rattle.std.specs.List.{count_by, list_any, range_with_len}
use Rattle.std.proofs.lemmas.Bool.Decides.{nat_tests}
use Rattle.std.proofs.lemmas.List.{drop_more, drop_all, get_or-replicate}
use Rattle.iofd_rows.proofs.PageCounts.{count-cons}
use Rattle.iofd_words.specs.Frames.{is_free}
use Rattle.iofd_words.specs.declared.rows.Pin.{Pin}
use Rattle.iofd_words.specs.declared.rows.TableFrame.{TableFrame}
use Rattle.iofd_words.specs.declared.rows.UserPage.{UserPage}

-- one more row was marked
pub goes_on : {X : Type 0} (of : X → ℕ) (old new : List Bool) (xs : List X) (i : ℕ) (d : X) (f : ℕ) (all : Bool)
    → i < length xs → get_or new f false ≡ (get_or old f false || eqb (of (get_or xs i d)) f)
    → (get_or old f false || list_any (λ y. eqb (of y) f) (drop i xs)) ≡ all
    → (get_or new f false || list_any (λ y. eqb (of y) f) (drop (i + 1) xs)) ≡ all
goes_on of old new xs i d f all within marked before =
    rw marked (joined (get_or old f false) (eqb (of (get_or xs i d)) f)
    (list_any (λ y. eqb (of y) f) (drop (i + 1) xs))
    ∙ sym (ap (λ ys. get_or old f false || list_any (λ y. eqb (of y) f) ys) (drop_more xs i d within)) ∙ before)
  where
    joined : (a b c : Bool) → ((a || b) || c) ≡ (a || (b || c))
    joined true b c = refl
    joined false b c = refl

-- none is left
pub is_done : {X : Type 0} (of : X → ℕ) (marks : List Bool) (xs : List X) (i f : ℕ) (all : Bool) → length xs ≤ i
    → (get_or marks f false || list_any (λ y. eqb (of y) f) (drop i xs)) ≡ all → get_or marks f false ≡ all
is_done of marks xs i f all past before =
    sym (ap (λ ys. get_or marks f false || list_any (λ y. eqb (of y) f) ys) (drop_all i xs past)
    ∙ none (get_or marks f false)) ∙ before
  where
    none : (a : Bool) → (a || false) ≡ a
    none true = refl
    none false = refl

-- two tests that agree on the numbers of a range count alike
pub counted_alike : (p q : ℕ → Bool) (first count : ℕ) → ((n : ℕ) → n < first + count → p n ≡ q n)
    → count_by p (range_with_len first count) ≡ count_by q (range_with_len first count)
counted_alike p q first zero same = refl
counted_alike p q first (suc count) same =
    let here = same first (omega arith) in
    let rest = counted_alike p q (first + 1) count (λ n within. same n (omega (arith, within))) in
    count-cons p first (range_with_len (first + 1) count)
    ∙ ap (λ (b : Bool). cond b 1 0 + count_by p (range_with_len (first + 1) count)) here
    ∙ ap (λ (n : ℕ). cond (q first) 1 0 + n) rest
    ∙ sym (count-cons q first (range_with_len (first + 1) count))

-- a frame of the pool that isn't marked is free, where all rows were marked in a table of no marks
pub is_marked : (pool : ℕ) (pages : List UserPage) (pins : List Pin) (tables : List TableFrame) (f : ℕ)
    (first second third : List Bool) → f < pool → f < 4096
    → get_or first f false ≡ (get_or (replicate 4096 false) f false || list_any (λ row. eqb row.frame.0 f) pages)
    → get_or second f false ≡ (get_or first f false || list_any (λ row. eqb row.frame.0 f) pins)
    → get_or third f false ≡ (get_or second f false || list_any (λ row. eqb row.frame.0 f) tables)
    → not (get_or third f false) ≡ is_free pool pages pins tables f
is_marked pool pages pins tables f first second third within small is_first is_second is_third =
    let inside : ltb f pool ≡ true = grind (arith, nat_tests) in
    let none : get_or (replicate 4096 false) f false ≡ false = get_or-replicate 4096 f false false small in
    rw (inside, is_third, is_second, is_first, none) refl

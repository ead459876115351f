-- The first ranges of a list, and one more of them.
use Rattle.std.proofs.Common.{◌≡◌, ◌∙◌, ℕ, ◌+◌, ◌<◌, ◌||◌, ◌==◌, List, length, take, get_or, sym, ap, arith}
use Rattle.std.proofs.lemmas.Bool.Decides.{nat_tests}
use Rattle.std.proofs.lemmas.List.Folds.{list_any_more}
use Rattle.iofd_words.specs.Bounds.{Bounds}
use Rattle.iofd_words.specs.Ranges.{in_spans}
use Rattle.iofd_words.specs.Span.{holds}

pub in_more : (xs : List Bounds) (i : ℕ) (x : Bounds) (n : ℕ) → i < length xs → x ≡ get_or xs i x
    → (in_spans (take i xs) n || holds x n) ≡ in_spans (take (i + 1) xs) n
in_more xs i x n within is =
    ap (λ (y : Bounds). in_spans (take i xs) n || holds y n) is ∙ sym (list_any_more (λ y. holds y n) xs i x within)

-- there are some of both
pub some_more : (count i : ℕ) → 0 < count → (count == 0) ≡ (i + 1 == 0)
some_more count i some = grind (arith, nat_tests)

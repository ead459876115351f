-- Idle tables that are given back, some and then others.
use Rattle.std.proofs.Common.{◌≡◌, ℕ, ◌+◌, Bool, true, false, cond, eqb, not, ◌||◌}
use Rattle.std.proofs.Common.{List, [], ◌∷◌, ◌++◌, append_assoc, append-nil, refl, sym, ◌∙◌, ap, subst, arith}
use Rattle.std.specs.List.{AllByRecursion, count_by, filter, list_any}
use Rattle.std.proofs.lemmas.Bool.{false≢true, or_parts}
use Rattle.std.proofs.lemmas.List.Sums.{sum_by-cons}
use Rattle.iofd_words.specs.declared.numbers.FrameNo.{FrameNo}
use Rattle.frame_memory.specs.Pool.{FramePool}
use Rattle.page_table_words.specs.Emptied.{GivesUp}
use Rattle.page_table_words.specs.Released.{times}
use Rattle.page_table_words.specs.Rows.{MappedPage, TableRow}
use Rattle.page_table_words.specs.Stands.{TableRoot, TableStands}
use Rattle.page_table_words.specs.Taken.{names}
use Rattle.page_table_words.proofs.Members.{count_first, count_other}
use Rattle.page_table_spans.specs.Idle.{MayShed, Sheds}

-- ---- lists

module _ {X : Type 0} where
  pub none_any : (p : X → Bool) (xs : List X) → list_any p xs ≡ false → AllByRecursion (λ x. p x ≡ false) xs
  none_any p [] none = tt
  none_any p (x ∷ xs) none = let parts = or_parts (p x) (list_any p xs) none in (parts.0, none_any p xs parts.1)

  pub both_each : (P Q : X → Type 0) (xs : List X) → AllByRecursion P xs → AllByRecursion Q xs
      → AllByRecursion (λ x. P x × Q x) xs
  both_each P Q [] one other = tt
  both_each P Q (x ∷ xs) one other = ((one.0, other.0), both_each P Q xs one.1 other.1)

  pub any_fewer : (p q : X → Bool) (xs : List X) → list_any p xs ≡ false → list_any p (filter q xs) ≡ false
  any_fewer p q [] none = refl
  any_fewer p q (x ∷ xs) none = by_tests (p x) (q x) refl none (any_fewer p q xs)
    where
      by_tests : (a b : Bool) → p x ≡ a → (a || list_any p xs) ≡ false → (list_any p xs ≡ false → list_any p (filter q xs) ≡ false)
          → list_any p (cond b (x ∷ filter q xs) (filter q xs)) ≡ false
      by_tests true b one is rest = absurd (false≢true (sym is))
      by_tests false false one is rest = rest is
      by_tests false true one is rest = ap (λ (c : Bool). c || list_any p (filter q xs)) one ∙ rest is

  -- those that pass one test, and of the others those that pass another
  pub filter_then : (p q r : X → Bool) (xs : List X) → AllByRecursion (λ x. r x ≡ (p x || q x)) xs
      → filter (λ x. not (q x)) (filter (λ x. not (p x)) xs) ≡ filter (λ x. not (r x)) xs
  filter_then p q r [] all = refl
  filter_then p q r (x ∷ xs) all = by_tests (p x) (q x) refl refl all.0 (filter_then p q r xs all.1)
    where
      by_tests : (a b : Bool) → p x ≡ a → q x ≡ b → r x ≡ (a || b)
          → filter (λ y. not (q y)) (filter (λ y. not (p y)) xs) ≡ filter (λ y. not (r y)) xs
          → filter (λ y. not (q y)) (filter (λ y. not (p y)) (x ∷ xs)) ≡ filter (λ y. not (r y)) (x ∷ xs)
      by_tests true b one other both rest = rw (one, both) rest
      by_tests false true one other both rest = rw (one, other, both) rest
      by_tests false false one other both rest = rw (one, other, both) (ap (λ (ys : List X). x ∷ ys) rest)

  pub count_then : (p q r : X → Bool) (xs : List X) → AllByRecursion (λ x. r x ≡ (p x || q x)) xs
      → count_by r xs ≡ count_by p xs + count_by q (filter (λ x. not (p x)) xs)
  count_then p q r [] all = refl
  count_then p q r (x ∷ xs) all = by_tests (p x) (q x) refl refl all.0 (count_then p q r xs all.1)
    where
      by_tests : (a b : Bool) → p x ≡ a → q x ≡ b → r x ≡ (a || b)
          → count_by r xs ≡ count_by p xs + count_by q (filter (λ y. not (p y)) xs)
          → count_by r (x ∷ xs) ≡ count_by p (x ∷ xs) + count_by q (filter (λ y. not (p y)) (x ∷ xs))
      by_tests true b one other both rest =
          let left : filter (λ y. not (p y)) (x ∷ xs) ≡ filter (λ y. not (p y)) xs = rw one refl in
          rw left (omega (arith, count_first r x xs both, count_first p x xs one, rest))
      by_tests false true one other both rest =
          let left : filter (λ y. not (p y)) (x ∷ xs) ≡ x ∷ filter (λ y. not (p y)) xs = rw one refl in
          rw left (omega (
            arith,
            count_first r x xs both,
            count_other p x xs one,
            count_first q x (filter (λ y. not (p y)) xs) other,
            rest,
          ))
      by_tests false false one other both rest =
          let left : filter (λ y. not (p y)) (x ∷ xs) ≡ x ∷ filter (λ y. not (p y)) xs = rw one refl in
          rw left (omega (
            arith,
            count_other r x xs both,
            count_other p x xs one,
            count_other q x (filter (λ y. not (p y)) xs) other,
            rest,
          ))

  filter_never : (p : X → Bool) (xs : List X) → AllByRecursion (λ x. p x ≡ false) xs → filter (λ x. not (p x)) xs ≡ xs
  filter_never p [] all = refl
  filter_never p (x ∷ xs) all =
      let rest = filter_never p xs all.1 in let here = all.0 in rw here (ap (λ (ys : List X). x ∷ ys) rest)

  pub count_never : (p : X → Bool) (xs : List X) → AllByRecursion (λ x. p x ≡ false) xs → count_by p xs ≡ 0
  count_never p [] all = refl
  count_never p (x ∷ xs) all = count_other p x xs all.0 ∙ count_never p xs all.1

pub times_append : (f : ℕ) (xs ys : List FrameNo) → times f (xs ++ ys) ≡ times f xs + times f ys
times_append f [] ys = omega arith
times_append f (x ∷ xs) ys =
    let rest = times_append f xs ys in
    let all = sum_by-cons (λ (g : FrameNo). cond (eqb g.0 f) 1 0) x (xs ++ ys) in
    let first = sum_by-cons (λ (g : FrameNo). cond (eqb g.0 f) 1 0) x xs in
    omega (arith, rest, all, first)

-- ---- some and then others

gives_then : (old mid new : FramePool) (rows some less : List TableRow) (l m n : List FrameNo)
    → GivesUp old mid rows some l m → GivesUp mid new some less m n
    → ((f : ℕ) → names rows f ≡ false → names some f ≡ false) → GivesUp old new rows less l n
gives_then old mid new rows some less l m n one other fewer = record {
  given = one.given ++ other.given;
  is = other.is ∙ ap (λ (fs : List FrameNo). fs ++ other.given) one.is ∙ append_assoc l one.given other.given;
  went = λ f. let all = times_append f one.given other.given in omega (arith, all, one.went f, other.went f);
  holds = λ f. let all = times_append f one.given other.given in omega (arith, all, one.holds f, other.holds f);
  bytes = λ f none. other.bytes f (fewer f none) ∙ one.bytes f none;
  count = other.count ∙ one.count;
}

module _ (old mid new : FramePool) (table : TableRoot) (rows : List TableRow) (pages : List MappedPage)
    (p q r : TableRow → Bool) (l m n : List FrameNo) (a b c : ℕ) where
  pub sheds_then : Sheds old mid table rows pages p l m a b
      → Sheds mid new table (filter (λ row. not (p row)) rows) pages q m n b c
      → AllByRecursion (λ row. r row ≡ (p row || q row)) rows → Sheds old new table rows pages r l n a c
  sheds_then one other both =
      let left = filter_then p q r rows both in
      let count = count_then p q r rows both in
      record {
        stands = subst (λ (ls : List TableRow). TableStands new table ls pages) left other.stands;
        gives = subst (λ (ls : List TableRow). GivesUp old new rows ls l n) left
            (gives_then old mid new rows (filter (λ row. not (p row)) rows) _ l m n one.gives other.gives
            (λ f none. any_fewer (λ (row : TableRow). eqb row.frame.0 f) (λ row. not (p row)) rows none));
        many = omega (arith, count, one.many, other.many);
      }

-- nothing goes
pub sheds_none : (pool : FramePool) (table : TableRoot) (rows : List TableRow) (pages : List MappedPage)
    (p : TableRow → Bool) (l : List FrameNo) (a : ℕ) → TableStands pool table rows pages
    → AllByRecursion (λ row. p row ≡ false) rows → Sheds pool pool table rows pages p l l a a
sheds_none pool table rows pages p l a stands none =
    let left = filter_never p rows none in
    let count = count_never p rows none in
    record {
      stands = rw left stands;
      gives = rw left (record {
        given = [];
        is = sym (append-nil l);
        went = λ f. omega arith;
        holds = λ f. omega arith;
        bytes = λ f other. refl;
        count = refl;
      });
      many = omega (arith, count);
    }

-- other tables by the same test
pub sheds_alike : (old new : FramePool) (table : TableRoot) (rows : List TableRow) (pages : List MappedPage)
    (p r : TableRow → Bool) (l n : List FrameNo) (a c : ℕ) → Sheds old new table rows pages p l n a c
    → AllByRecursion (λ row. r row ≡ p row) rows → Sheds old new table rows pages r l n a c
sheds_alike old new table rows pages p r l n a c sheds same =
    sheds_then old new new table rows pages p (λ row. false) r l n n a c c sheds
    (sheds_none new table (filter (λ row. not (p row)) rows) pages (λ row. false) n c sheds.stands (falses _))
    (with_false rows same)
  where
    falses : (rows : List TableRow) → AllByRecursion (λ row. ◌≡◌ {A = Bool} false false) rows
    falses [] = tt
    falses (row ∷ rows) = (refl, falses rows)

    or_false : (b : Bool) → b ≡ (b || false)
    or_false true = refl
    or_false false = refl

    with_false : (rows : List TableRow) → AllByRecursion (λ row. r row ≡ p row) rows
        → AllByRecursion (λ row. r row ≡ (p row || false)) rows
    with_false [] all = tt
    with_false (row ∷ rows) all = (all.0 ∙ or_false (p row), with_false rows all.1)

-- what is left may shed the rest
pub may_more : (levels : ℕ) (areas : List _) (span : _) (level : ℕ) (rows : List TableRow) (pages : List MappedPage)
    (q : TableRow → Bool) → MayShed levels areas span level rows pages
    → MayShed levels areas span level (filter q rows) pages
may_more levels areas span level rows pages q may = record {
  needed = any_fewer _ q rows may.needed;
  mapped = may.mapped;
  lower = any_fewer _ q rows may.lower;
}

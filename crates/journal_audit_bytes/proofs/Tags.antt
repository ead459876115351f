-- Which row a tag has, where rows stand behind others; and what is read where its first number is.
use Rattle.std.proofs.Common.{◌≡◌, ◌∙◌, ℕ, ◌<◌, ◌≤◌, Bool, true, false, ◌&&◌, cond, eqb, List, [], ◌∷◌, ◌++◌, Option}
use Rattle.std.proofs.Common.{Some, None, drop, refl, ap, subst, arith}
use Rattle.std.proofs.lemmas.Bool.{eqb-true, ltb-true, leb-true}
use Rattle.std.specs.Int.{Width, w16}
use Rattle.std.specs.Prelude.{nat_le, nat_lt}
use Rattle.std.specs.List.{list_all}
use Rattle.journal_audit_bytes.specs.Format.{Row, Tagged, dirty_event_rows, event_rows, events_of, row_of}
use Rattle.journal_audit_bytes.specs.Reading.{◌>>=◌, fields_at, fields_behind, fields_of_row, fields_of_tag, number_at}
use Rattle.journal_audit_bytes.specs.Reading.{row_behind, some_if, tail_at}
use Rattle.journal_audit_bytes.specs.declared.version.Version.{Version}
use Rattle.journal_audit_bytes.specs.declared.version.Version.TheVariants.{One, Two}

and_true : (a b : Bool) → (a && b) ≡ true → (a ≡ true) × (b ≡ true)
and_true true b is = (refl, is)
and_true false b is = absurd cc

-- a row that is there is there still
pub with_more : (rows more : List Row) (tag : ℕ) (row : Row) → row_of rows tag ≡ Some row
    → row_of (rows ++ more) tag ≡ Some row
with_more [] more tag row is = absurd cc
with_more (r ∷ rows) more tag row is = by_test (eqb r.tag tag) is (with_more rows more tag row)
  where
    by_test : (test : Bool) → cond test (Some r) (row_of rows tag) ≡ Some row
        → (row_of rows tag ≡ Some row → row_of (rows ++ more) tag ≡ Some row)
        → cond test (Some r) (row_of (rows ++ more) tag) ≡ Some row
    by_test true is later = is
    by_test false is later = later is

behind : (rows more : List Row) (tag : ℕ) → row_of rows tag ≡ None → row_of (rows ++ more) tag ≡ row_of more tag
behind [] more tag none = refl
behind (r ∷ rows) more tag none = by_test (eqb r.tag tag) none (behind rows more tag)
  where
    by_test : (test : Bool) → cond test (Some r) (row_of rows tag) ≡ None
        → (row_of rows tag ≡ None → row_of (rows ++ more) tag ≡ row_of more tag)
        → cond test (Some r) (row_of (rows ++ more) tag) ≡ row_of more tag
    by_test true none later = absurd cc
    by_test false none later = later none

in_front : (rows more : List Row) (tag : ℕ) → row_of more tag ≡ None → row_of (rows ++ more) tag ≡ row_of rows tag
in_front [] more tag none = none
in_front (r ∷ rows) more tag none =
    ap (λ (o : Option Row). cond (eqb r.tag tag) (Some r) o) (in_front rows more tag none)

-- no row has a tag from this one on
none_above : (rows : List Row) (bound tag : ℕ) → list_all (λ row. nat_lt row.tag bound) rows ≡ true → bound ≤ tag
    → row_of rows tag ≡ None
none_above [] bound tag below above = refl
none_above (r ∷ rows) bound tag below above =
    let parts = and_true (nat_lt r.tag bound) (list_all (λ row. nat_lt row.tag bound) rows) below in
    let less = ltb-true r.tag bound parts.0 in
    by_test (eqb r.tag tag) (λ is. let same = eqb-true r.tag tag is in omega (arith, same, less, above))
    (none_above rows bound tag parts.1 above)
  where
    by_test : (test : Bool) → (test ≡ true → ⊥) → row_of rows tag ≡ None → cond test (Some r) (row_of rows tag) ≡ None
    by_test true never later = absurd (never refl)
    by_test false never later = later

-- or below it
none_below : (rows : List Row) (bound tag : ℕ) → list_all (λ row. nat_le bound row.tag) rows ≡ true → tag < bound
    → row_of rows tag ≡ None
none_below [] bound tag above below = refl
none_below (r ∷ rows) bound tag above below =
    let parts = and_true (nat_le bound r.tag) (list_all (λ row. nat_le bound row.tag) rows) above in
    let more = leb-true bound r.tag parts.0 in
    by_test (eqb r.tag tag) (λ is. let same = eqb-true r.tag tag is in omega (arith, same, more, below))
    (none_below rows bound tag parts.1 below)
  where
    by_test : (test : Bool) → (test ≡ true → ⊥) → row_of rows tag ≡ None → cond test (Some r) (row_of rows tag) ≡ None
    by_test true never later = absurd (never refl)
    by_test false never later = later

-- ---- reading by the rows of both parts

by_row : (rows others : List Row) (tag : ℕ) (bytes : List ℕ) → row_of rows tag ≡ row_of others tag
    → fields_of_tag rows tag bytes ≡ fields_of_tag others tag bytes
unfolding fields_of_tag
by_row rows others tag bytes same = ap (λ (o : Option Row). o >>= λ row. fields_of_row row bytes) same

pub fields_above : (rows more : List Row) (bound tag : ℕ) (bytes : List ℕ)
    → list_all (λ row. nat_lt row.tag bound) rows ≡ true → bound ≤ tag
    → fields_of_tag (rows ++ more) tag bytes ≡ fields_of_tag more tag bytes
fields_above rows more bound tag bytes below above =
    by_row (rows ++ more) more tag bytes (behind rows more tag (none_above rows bound tag below above))

pub fields_below : (rows more : List Row) (bound tag : ℕ) (bytes : List ℕ)
    → list_all (λ row. nat_le bound row.tag) more ≡ true → tag < bound
    → fields_of_tag (rows ++ more) tag bytes ≡ fields_of_tag rows tag bytes
fields_below rows more bound tag bytes above below =
    by_row (rows ++ more) rows tag bytes (in_front rows more tag (none_below more bound tag above below))

by_row_behind : (rows others : List Row) (tag first : ℕ) (bytes : List ℕ) → row_of rows tag ≡ row_of others tag
    → fields_behind rows tag first bytes ≡ fields_behind others tag first bytes
unfolding fields_behind
by_row_behind rows others tag first bytes same = ap (λ (o : Option Row). o >>= λ row. row_behind row first bytes) same

pub behind_above : (rows more : List Row) (bound tag first : ℕ) (bytes : List ℕ)
    → list_all (λ row. nat_lt row.tag bound) rows ≡ true → bound ≤ tag
    → fields_behind (rows ++ more) tag first bytes ≡ fields_behind more tag first bytes
behind_above rows more bound tag first bytes below above =
    by_row_behind (rows ++ more) more tag first bytes (behind rows more tag (none_above rows bound tag below above))

pub behind_below : (rows more : List Row) (bound tag first : ℕ) (bytes : List ℕ)
    → list_all (λ row. nat_le bound row.tag) more ≡ true → tag < bound
    → fields_behind (rows ++ more) tag first bytes ≡ fields_behind rows tag first bytes
behind_below rows more bound tag first bytes above below =
    by_row_behind (rows ++ more) rows tag first bytes (in_front rows more tag (none_below more bound tag above below))

-- ---- the first number of each event

-- the first number of each row is 16 bits wide
abbrev pub BeginHalf : List Row → Type 0
BeginHalf [] = Unit {0}
BeginHalf (r ∷ rows) = (r.numbers ≡ w16 ∷ drop 1 r.numbers) × BeginHalf rows

begin : BeginHalf event_rows
begin = (
  refl,
  (
    refl,
    (
      refl,
      (
        refl,
        (
          refl,
          (
            refl,
            (
              refl,
              (
                refl,
                (
                  refl,
                  (
                    refl,
                    (
                      refl,
                      (
                        refl,
                        (refl, (refl, (refl, (refl, (refl, (refl, (refl, (refl, (refl, (refl, (refl, tt))))))))))),
                      ),
                    ),
                  ),
                ),
              ),
            ),
          ),
        ),
      ),
    ),
  ),
)

pub both_begin : (rows more : List Row) → BeginHalf rows → BeginHalf more → BeginHalf (rows ++ more)
both_begin [] more here rest = rest
both_begin (r ∷ rows) more here rest = (here.0, both_begin rows more here.1 rest)

pub events_begin : (version : Version) → BeginHalf (events_of version)
events_begin One = begin
events_begin Two = both_begin event_rows dirty_event_rows begin (refl, (refl, tt))

row_begins : (rows : List Row) (tag : ℕ) (row : Row) → BeginHalf rows → row_of rows tag ≡ Some row
    → row.numbers ≡ w16 ∷ drop 1 row.numbers
row_begins [] tag row half is = absurd cc
row_begins (r ∷ rows) tag row half is = by_test (eqb r.tag tag) is (row_begins rows tag row half.1)
  where
    by_test : (test : Bool) → cond test (Some r) (row_of rows tag) ≡ Some row
        → (row_of rows tag ≡ Some row → row.numbers ≡ w16 ∷ drop 1 row.numbers)
        → row.numbers ≡ w16 ∷ drop 1 row.numbers
    by_test true is later = subst (λ (x : Row). x.numbers ≡ w16 ∷ drop 1 x.numbers) (same r row is) half.0
      where
        same : (a b : Row) → (let o : Option Row = Some a in o) ≡ Some b → a ≡ b
        same a b is = cc
    by_test false is later = later is

-- once it is read, those behind it are left
row_on : (row : Row) (bytes : List ℕ) (first : ℕ) (rest : List ℕ) → row.numbers ≡ w16 ∷ drop 1 row.numbers
    → number_at w16 bytes ≡ Some (first, rest) → fields_of_row row bytes ≡ row_behind row first rest
unfolding fields_of_row row_behind
row_on row bytes first rest half is =
    ap (λ (ws : List Width). fields_at ws bytes >>= gives) half
    ∙ ap (λ (o : Option (ℕ × List ℕ)). (o >>= λ n. fields_at (drop 1 row.numbers) n.1 >>= λ ns.
    Some (n.0 ∷ ns.0, ns.1)) >>= gives) is
    ∙ joined (fields_at (drop 1 row.numbers) rest)
  where
    gives : List ℕ × List ℕ → Option (Tagged × List ℕ)
    gives numbers = tail_at row.list numbers.1 >>= λ list. some_if (row.allows numbers.0)
        (record { tag = row.tag; numbers = numbers.0; list = list.0 }, list.1)

    joined : (o : Option (List ℕ × List ℕ))
        → ((o >>= λ ns. Some (first ∷ ns.0, ns.1)) >>= gives) ≡ (o >>= λ ns. gives (first ∷ ns.0, ns.1))
    joined (Some ns) = refl
    joined None = refl

row_ends : (row : Row) (bytes : List ℕ) → row.numbers ≡ w16 ∷ drop 1 row.numbers → number_at w16 bytes ≡ None
    → fields_of_row row bytes ≡ None
unfolding fields_of_row
row_ends row bytes half none =
    ap (λ (ws : List Width). fields_at ws bytes >>= λ numbers. tail_at row.list numbers.1 >>= λ list.
    some_if (row.allows numbers.0) (record { tag = row.tag; numbers = numbers.0; list = list.0 }, list.1)) half
    ∙ rw none refl

pub first_read : (rows : List Row) (tag : ℕ) (bytes : List ℕ) (first : ℕ) (rest : List ℕ) → BeginHalf rows
    → number_at w16 bytes ≡ Some (first, rest) → fields_of_tag rows tag bytes ≡ fields_behind rows tag first rest
unfolding fields_of_tag fields_behind
first_read rows tag bytes first rest half is = by_found (row_of rows tag) refl
  where
    by_found : (o : Option Row) → row_of rows tag ≡ o
        → (o >>= λ row. fields_of_row row bytes) ≡ (o >>= λ row. row_behind row first rest)
    by_found (Some row) found = row_on row bytes first rest (row_begins rows tag row half found) is
    by_found None found = refl

pub none_read : (rows : List Row) (tag : ℕ) (bytes : List ℕ) → BeginHalf rows → number_at w16 bytes ≡ None
    → fields_of_tag rows tag bytes ≡ None
unfolding fields_of_tag
none_read rows tag bytes half none = by_found (row_of rows tag) refl
  where
    by_found : (o : Option Row) → row_of rows tag ≡ o → (o >>= λ row. fields_of_row row bytes) ≡ None
    by_found (Some row) found = row_ends row bytes (row_begins rows tag row half found) none
    by_found None found = refl

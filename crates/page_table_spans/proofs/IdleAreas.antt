-- Which tables areas meet, of the areas that a span leaves and of those in it.
use Rattle.std.proofs.Common.{◌≡◌, ℕ, ◌+◌, ◌-◌, ◌*◌, ◌/◌, ◌^◌, ◌<◌, ◌≤◌, Bool, true, false, cond, leb, ltb, not, ◌&&◌}
use Rattle.std.proofs.Common.{◌||◌, List, [], ◌∷◌, refl, sym, ◌∙◌, ap, subst, arith, ⊎_elim, ◌⊎◌, inl, inr, max}
use Rattle.std.specs.List.{list_any}
use Rattle.std.proofs.lemmas.Bool.{and_parts, false≢true, leb-true}
use Rattle.std.proofs.lemmas.Bool.Decides.{nat_tests}
use Rattle.std.proofs.lemmas.Nat.{pow-add, pow_pos}
use Rattle.std.proofs.Math.Nat.{div-lt_iff_lt-mul}
use Rattle.page_table_words.proofs.Needs.{number_grows, pages_grow}
use Rattle.page_table_words.proofs.Numbers.{number-page}
use Rattle.iofd_words.specs.Areas.{areas_meet, is_cut}
use Rattle.iofd_words.specs.Bounds.{Bounds}
use Rattle.iofd_words.specs.Levels.{number_at}
use Rattle.iofd_words.specs.Pages.{page_of}
use Rattle.iofd_words.specs.Span.{lies_in, meets}
use Rattle.iofd_words.specs.declared.rows.Area.{Area}
use Rattle.area_map_rows.specs.Areas.{AreApartFrom, areas_outside, areas_within}
use Rattle.page_table_spans.specs.Idle.{span_at}

pub never : {X : Type 0} (p : X → Bool) (xs : List X) → ((x : X) → p x ≡ false) → false ≡ list_any p xs
never p [] each = refl
never p (x ∷ xs) each = never p xs each ∙ sym (ap (λ (b : Bool). b || list_any p xs) (each x))

either_false : (a b : Bool) → (a || b) ≡ false → (a ≡ false) × (b ≡ false)
either_false true b is = absurd (false≢true (sym is))
either_false false b is = (refl, is)

-- ---- areas before a span and behind it

-- it meets the other as far as that lies before the span, or behind it
abbrev pub before : Bounds → Bounds → Area → Bool
before span table area = leb area.span.first table.last && leb table.first area.span.last
    && (ltb area.span.first span.first && ltb table.first span.first)

abbrev pub behind : Bounds → Bounds → Area → Bool
behind span table area = leb area.span.first table.last && leb table.first area.span.last
    && (ltb span.last area.span.last && ltb span.last table.last)

one_area : (af al tf tl sf sl : ℕ) → af ≤ al → tf ≤ tl → sf ≤ sl
    → ((leb af sl && leb sf al) && not (leb sf af && leb al sl)) ≡ false
    → (not (leb sf af && leb al sl) && (leb af tl && leb tf al))
    ≡ ((leb af tl && leb tf al && (ltb af sf && ltb tf sf)) || (leb af tl && leb tf al && (ltb sl al && ltb sl tl)))
one_area af al tf tl sf sl area table span uncut = grind (arith, nat_tests)

pub met_outside : (low : ℕ) (areas : List Area) (span table : Bounds) → AreApartFrom low areas
    → is_cut span areas ≡ false → span.first ≤ span.last → table.first ≤ table.last
    → areas_meet table (areas_outside span areas)
    ≡ (list_any (before span table) areas || list_any (behind span table) areas)
met_outside low [] span table apart uncut some other = refl
met_outside low (area ∷ areas) span table apart uncut some other =
    let parts = either_false (meets area.span span && not (lies_in area.span span)) (is_cut span areas) uncut in
    let rest = met_outside (area.span.last + 1) areas span table apart.2 parts.1 some other in
    let one = one_area area.span.first area.span.last table.first table.last span.first span.last apart.1 other some
    parts.0 in
    by_test (not (lies_in area.span span)) (before span table area) (behind span table area)
    one rest
  where
    swapped : (x y a b : Bool) → ((x || y) || (a || b)) ≡ ((x || a) || (y || b))
    swapped true y a b = refl
    swapped false true true b = refl
    swapped false true false b = refl
    swapped false false a b = refl

    by_test : (out x y : Bool) → (out && meets area.span table) ≡ (x || y)
        → areas_meet table (areas_outside span areas)
        ≡ (list_any (before span table) areas || list_any (behind span table) areas)
        → areas_meet table (cond out (area ∷ areas_outside span areas) (areas_outside span areas))
        ≡ ((x || list_any (before span table) areas) || (y || list_any (behind span table) areas))
    by_test true x y is rest =
        ap (λ (b : Bool). meets area.span table || b) rest
        ∙ ap (λ (b : Bool). b || (list_any (before span table) areas || list_any (behind span table) areas)) is
        ∙ swapped x y (list_any (before span table) areas) (list_any (behind span table) areas)
    by_test false x y is rest =
        rest ∙ ap (λ (b : Bool). b || (list_any (before span table) areas || list_any (behind span table) areas)) is
        ∙ swapped x y (list_any (before span table) areas) (list_any (behind span table) areas)

-- ---- the addresses of a table

pub parted : (a q : ℕ) → a * (q * 4096) ≡ a * q * 4096
parted a q = grind arith

one_more : (a q : ℕ) → (a + 1) * q ≡ a * q + q
one_more a q = grind arith

pub span_is : (level number : ℕ) → span_at level number
    ≡ record { first = number * 2 ^ (9 * level) * 4096; last = (number + 1) * 2 ^ (9 * level) * 4096 - 1 }
span_is level number =
    let whole : 2 ^ (9 * level + 12) ≡ 2 ^ (9 * level) * 4096 = pow-add 2 (9 * level) 12 in
    let first : number * 2 ^ (9 * level + 12) ≡ number * 2 ^ (9 * level) * 4096 =
    ap (λ (n : ℕ). number * n) whole ∙ parted number (2 ^ (9 * level)) in
    let last : number * 2 ^ (9 * level + 12) + 2 ^ (9 * level + 12) - 1 ≡ (number + 1) * 2 ^ (9 * level) * 4096 - 1 =
    omega (arith, first, whole, one_more number (2 ^ (9 * level))) in
    ap (λ (n : ℕ). let b : Bounds = record { first = n; last = number * 2 ^ (9 * level + 12) + 2 ^ (9 * level + 12) - 1 } in b) first
    ∙ ap (λ (n : ℕ). let b : Bounds = record { first = number * 2 ^ (9 * level) * 4096; last = n } in b) last

pub span_rises : (level number : ℕ) → (span_at level number).first ≤ (span_at level number).last
span_rises level number = let some = pow_pos (9 * level + 12) in omega (arith, some)

pub left_told : (level number first next : ℕ) (areas : List Area) (span : Bounds) → AreApartFrom 0 areas
    → is_cut span areas ≡ false → span.first ≤ span.last → first ≡ number * 2 ^ (9 * level)
    → next ≡ (number + 1) * 2 ^ (9 * level) → (b e : Bool)
    → b ≡ list_any (before span (record { first = first * 4096; last = next * 4096 - 1 })) areas
    → e ≡ list_any (behind span (record { first = first * 4096; last = next * 4096 - 1 })) areas
    → areas_meet (span_at level number) (areas_outside span areas) ≡ (b || e)
left_told level number first next areas span apart uncut some is_first is_next b e is_b is_e =
    let same : span_at level number ≡ record { first = first * 4096; last = next * 4096 - 1 } =
    rw (is_first, is_next) (span_is level number) in
    let rises = span_rises level number in
    ap (λ (t : Bounds). areas_meet t (areas_outside span areas)) same
    ∙ met_outside 0 areas span (record { first = first * 4096; last = next * 4096 - 1 }) apart uncut some
    (subst (λ (t : Bounds). t.first ≤ t.last) same rises)
    ∙ ap (λ (x : Bool). x || list_any (behind span (record { first = first * 4096; last = next * 4096 - 1 })) areas) (sym is_b)
    ∙ ap (λ (x : Bool). b || x) (sym is_e)

-- ---- areas in the span, one after another

number_up_to : (level n page : ℕ) → page < (n + 1) * 2 ^ (9 * level) → number_at level page ≤ n
unfolding number_at
number_up_to level n page low =
    let small : page / 2 ^ (9 * level) < n + 1 =
    (div-lt_iff_lt-mul {k = 2 ^ (9 * level)} {x = page} {y = n + 1} (pow_pos (9 * level))).1 low in
    omega (arith, small)

-- an area that meets a table goes through it
met_number : (level n : ℕ) (area : Area) → meets area.span (span_at level n) ≡ true
    → (number_at level (page_of area.span.first) ≤ n) × (n ≤ number_at level (page_of area.span.last))
met_number level n area met =
    let at = subst (λ (t : Bounds). meets area.span t ≡ true) (span_is level n) met in
    let parts = and_parts (leb area.span.first ((n + 1) * 2 ^ (9 * level) * 4096 - 1))
    (leb (n * 2 ^ (9 * level) * 4096) area.span.last) at in
    let begins = leb-true area.span.first ((n + 1) * 2 ^ (9 * level) * 4096 - 1) parts.0 in
    let ends = leb-true (n * 2 ^ (9 * level) * 4096) area.span.last parts.1 in
    let some = pow_pos (9 * level) in
    let next = one_more n (2 ^ (9 * level)) in
    let page : area.span.first / 4096 < (n + 1) * 2 ^ (9 * level) = omega (arith, begins, next, some) in
    let last : n * 2 ^ (9 * level) ≤ area.span.last / 4096 = omega (arith, ends) in
    let up = pages_grow level (n * 2 ^ (9 * level)) (area.span.last / 4096) last in
    (number_up_to level n (area.span.first / 4096) page, omega (arith, up, number-page level n))

any_cons : (a b : Bool) → (a || b) ≡ true → (a ≡ true) ⊎ (b ≡ true)
any_cons true b is = inl refl
any_cons false b is = inr is

-- none goes through a table before the one where they may begin
met_from : (level n low : ℕ) (areas : List Area) → AreApartFrom low areas → areas_meet (span_at level n) areas ≡ true
    → number_at level (page_of low) ≤ n
met_from level n low [] apart met = absurd (false≢true met)
met_from level n low (area ∷ areas) apart met =
    ⊎_elim
    (λ (here : meets area.span (span_at level n) ≡ true).
    let first = (met_number level n area here).0 in
    let grows = number_grows level low area.span.first apart.0 in
    omega (arith, first, grows))
    (λ (later : areas_meet (span_at level n) areas ≡ true).
    let rest = met_from level n (area.span.last + 1) areas apart.2 later in
    let grows = number_grows level low (area.span.last + 1) (omega (arith, apart.0, apart.1)) in
    omega (arith, rest, grows))
    (any_cons (meets area.span (span_at level n)) (areas_meet (span_at level n) areas) met)

-- the tables from the next one on that areas of the list go through are those that the areas left go through
pub record AreLeft (level next : ℕ) (all left : List Area) : Type 0 where
  pub low : ℕ
  pub apart : AreApartFrom low left
  pub near : next ≤ number_at level (page_of low) + 1
  pub rest : (n : ℕ) → next ≤ n → areas_meet (span_at level n) all ≡ true → areas_meet (span_at level n) left ≡ true

pub all_left : (level : ℕ) (all : List Area) → AreApartFrom 0 all → AreLeft level 0 all all
all_left level all apart = record { low = 0; apart = apart; near = omega arith; rest = λ n low met. met }

module _ (level next : ℕ) (all : List Area) (area : Area) (left : List Area) (are : AreLeft level next all (area ∷ left)) where
  first_near : next ≤ number_at level (page_of area.span.first) + 1
  first_near =
      let grows = number_grows level are.low area.span.first are.apart.0 in
      let near = are.near in
      omega (arith, grows, near)

  pub last_near : next ≤ number_at level (page_of area.span.last) + 1
  last_near =
      let grows = number_grows level area.span.first area.span.last are.apart.1 in
      let near = first_near in
      omega (arith, grows, near)

  pub order : (first : ℕ) → first ≡ max (number_at level (page_of area.span.first)) next
      → first ≤ number_at level (page_of area.span.last) + 1
  order first is =
      let grows = number_grows level area.span.first area.span.last are.apart.1 in
      let near = last_near in
      omega (arith, is, grows, near)

  pub gap : (first n : ℕ) → first ≡ max (number_at level (page_of area.span.first)) next → next ≤ n
      → areas_meet (span_at level n) all ≡ true → first ≤ n
  gap first n is from met =
      let here : AreApartFrom area.span.first (area ∷ left) = (omega arith, are.apart.1, are.apart.2) in
      let low = met_from level n area.span.first (area ∷ left) here (are.rest n from met) in
      omega (arith, is, low, from)

  pub one_less : AreLeft level (number_at level (page_of area.span.last) + 1) all left
  one_less = record {
    low = area.span.last + 1;
    apart = are.apart.2;
    near = let grows = number_grows level area.span.last (area.span.last + 1) (omega arith) in omega (arith, grows);
    rest = λ n from met.
        let near = last_near in
        ⊎_elim
        (λ (here : meets area.span (span_at level n) ≡ true).
        let last = (met_number level n area here).1 in absurd (omega (arith, last, from)))
        (λ (later : areas_meet (span_at level n) left ≡ true). later)
        (any_cons (meets area.span (span_at level n)) (areas_meet (span_at level n) left)
        (are.rest n (omega (arith, near, from)) met));
  }

-- what areas go through goes through those in the span or through others
pub met_within : (table span : Bounds) (areas : List Area) → areas_meet table areas ≡ true
    → areas_meet table (areas_outside span areas) ≡ false → areas_meet table (areas_within span areas) ≡ true
met_within table span [] met none = met
met_within table span (area ∷ areas) met none = by_test (lies_in area.span span) none (met_within table span areas)
  where
    by_test : (b : Bool)
        → areas_meet table (cond (not b) (area ∷ areas_outside span areas) (areas_outside span areas)) ≡ false
        → (areas_meet table areas ≡ true → areas_meet table (areas_outside span areas) ≡ false
        → areas_meet table (areas_within span areas) ≡ true)
        → areas_meet table (cond b (area ∷ areas_within span areas) (areas_within span areas)) ≡ true
    by_test true away rest =
        ⊎_elim
        (λ (here : meets area.span table ≡ true). ap (λ (b : Bool). b || areas_meet table (areas_within span areas)) here)
        (λ (later : areas_meet table areas ≡ true). either (meets area.span table) (rest later away))
        (any_cons (meets area.span table) (areas_meet table areas) met)
      where
        either : (b : Bool) → areas_meet table (areas_within span areas) ≡ true
            → (b || areas_meet table (areas_within span areas)) ≡ true
        either true more = refl
        either false more = more
    by_test false away rest =
        let parts = either_false (meets area.span table) (areas_meet table (areas_outside span areas)) away in
        ⊎_elim
        (λ (here : meets area.span table ≡ true). absurd (false≢true (sym parts.0 ∙ here)))
        (λ (later : areas_meet table areas ≡ true). rest later parts.1)
        (any_cons (meets area.span table) (areas_meet table areas) met)

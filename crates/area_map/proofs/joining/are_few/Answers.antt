use Rattle.std.proofs.Common.{◌≡◌, ◌∙◌, ℕ, ◌+◌, ◌-◌, ◌<◌, ◌≤◌, Bool, true, false, List, [], get_or, length, ap, arith}
use Rattle.std.specs.Prelude.{nat_le}
use Rattle.std.proofs.lemmas.Bool.{false≢true}
use Rattle.std.proofs.lemmas.Bool.Decides.{nat_tests}
use Rattle.std.proofs.lemmas.List.{get_or_default}
use Rattle.iofd_words.specs.declared.rows.Area.{Area}
use Rattle.area_map.proofs.joining.are_few.Given as given
use Rattle.area_map.proofs.joining.are_few.Goals as goal
use Rattle.area_map.proofs.joining.are_few.Goals.{then-count-lt2-via-then-count-lt2}
use Rattle.area_map.proofs.joining.are_few.Goals.{then-count-lt2-via-else-count-lt2+then-index-count}

-- a row that is none of the last has one behind it
has_next : (index count : ℕ) → 2 ≤ count → index ≤ count - 2 → index + 1 < count
has_next index count two low = omega arith

is_row : (index count : ℕ) → index + 1 < count → index < count
is_row index count next = omega arith

at_most : (n : ℕ) (answer : Bool) → answer ≡ nat_le n 16 → answer ≡ true → n ≤ 16
at_most n answer is said = grind (arith, nat_tests)

more : (n : ℕ) (answer : Bool) → answer ≡ nat_le n 16 → answer ≡ false → 16 < n
more n answer is said = grind (arith, nat_tests)

next_bound : (g : given.Over) (c : goal.Else-index-count g) → c.args.index + 1 < length c.args.rows.now
next_bound g c = has_next c.args.index (length c.args.rows.now) c.if-count-lt2.false c.if-index-count.false

-- what the answer says is said of the two rows
told : (g : given.Over) (c : goal.After-fill_half g)
    → c.fill_half.result ≡ nat_le (length (get_or c.args.rows.now c.args.index [])
    + length (get_or c.args.rows.now (c.args.index + 1) [])) 16
told g c =
    let rows : List (List Area) = c.args.rows.now in
    let i = c.args.index in
    let next = has_next i (length rows) c.if-count-lt2.false c.if-index-count.false in
    let first = c.index-rows-index.is
    ∙ get_or_default rows i c.index-rows-index.result [] (is_row i (length rows) next) in
    let second = c.index-rows-index-2.is ∙ get_or_default rows (i + 1) c.index-rows-index-2.result [] next in
    c.fill_half.ensures
    ∙ ap (λ (row : List Area). nat_le (length row + length c.index-rows-index-2.result) 16) first
    ∙ ap (λ (row : List Area). nat_le (length (get_or rows i []) + length row) 16) second

pub returns-then-count-lt2-clause-two : goal.returns-then-count-lt2-clause-two
returns-then-count-lt2-clause-two g c said = absurd (false≢true said)

pub returns-then-count-lt2-clause-few : goal.returns-then-count-lt2-clause-few
returns-then-count-lt2-clause-few g c said = absurd (false≢true said)

pub returns-then-count-lt2-clause-many : goal.returns-then-count-lt2-clause-many
returns-then-count-lt2-clause-many g c = elim c.then-count-lt2.branch [
  | then-count-lt2-via-then-count-lt2 w ↦ λ said within. absurd (omega (arith, within, w.if-count-lt2.true))
  | then-count-lt2-via-else-count-lt2+then-index-count w ↦
      λ said within. absurd (omega (arith, within, w.if-count-lt2.false, w.if-index-count.true))
]

pub offset_bounds-rows-index : goal.offset_bounds-rows-index
offset_bounds-rows-index g c = omega (arith, next_bound g c)

pub bounds-rows-index : goal.bounds-rows-index
bounds-rows-index g c = is_row c.args.index (length c.args.rows.now) (next_bound g c)

pub offset_bounds-rows-index-2 : goal.offset_bounds-rows-index-2
offset_bounds-rows-index-2 g c =
    let next = has_next c.args.index (length c.args.rows.now) c.if-count-lt2.false c.if-index-count.false in
    omega (arith, next)

pub bounds-rows-index-2 : goal.bounds-rows-index-2
bounds-rows-index-2 g c = has_next c.args.index (length c.args.rows.now) c.if-count-lt2.false c.if-index-count.false

pub returns-clause-two : goal.returns-clause-two
returns-clause-two g c said =
    has_next c.args.index (length c.args.rows.now) c.if-count-lt2.false c.if-index-count.false

pub returns-clause-few : goal.returns-clause-few
returns-clause-few g c said = at_most _ c.fill_half.result (told g c) said

pub returns-clause-many : goal.returns-clause-many
returns-clause-many g c said within = more _ c.fill_half.result (told g c) said

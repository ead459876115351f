-- Idle tables given back: one number more, one area more, one level more.
use Rattle.std.proofs.Common.{◌≡◌, ℕ, ◌+◌, ◌-◌, ◌<◌, ◌≤◌, Bool, true, false, cond, not, ◌&&◌, ◌||◌, List, [], ◌∷◌, refl, sym}
use Rattle.std.proofs.Common.{◌∙◌, ap, arith, ⊎_elim}
use Rattle.std.specs.List.{AllByRecursion, count_by, filter}
use Rattle.std.proofs.lemmas.Bool.{and_parts, cases_Bool, false≢true}
use Rattle.iofd_words.specs.Areas.{areas_meet}
use Rattle.iofd_words.specs.Bounds.{Bounds}
use Rattle.iofd_words.specs.Levels.{levels_of}
use Rattle.iofd_words.specs.declared.numbers.FrameNo.{FrameNo}
use Rattle.iofd_words.specs.declared.rows.Area.{Area}
use Rattle.area_map_rows.specs.Areas.{areas_outside}
use Rattle.frame_memory.specs.Pool.{FramePool}
use Rattle.page_table_words.specs.Emptied.{GivesUp, IsEmpty, is_numbered, without_table}
use Rattle.page_table_words.specs.Needed.{is_absent}
use Rattle.page_table_words.specs.Rows.{MappedPage, TableRow}
use Rattle.page_table_words.specs.Stands.{TableRoot, TableStands}
use Rattle.page_table_words.proofs.Members.{count_first, count_other, each_then}
use Rattle.page_table_words.proofs.RowsUnder.{IsPlaced, all_placed}
use Rattle.page_table.proofs.Parting.{count_less}
use Rattle.page_table_spans.specs.Idle.{MayShed, Sheds, is_idle_between, span_at}
use Rattle.page_table_spans.proofs.IdleTables.{is_empty, is_idle_one, next_between, numbered_counted, one_counted, one_told}
use Rattle.page_table_spans.proofs.Shedding.{count_then, may_more, sheds_alike, sheds_none, sheds_then}

none_counted : {X : Type 0} (p : X → Bool) (xs : List X) → count_by p xs ≡ 0 → AllByRecursion (λ x. p x ≡ false) xs
none_counted p [] none = tt
none_counted p (x ∷ xs) none =
    ⊎_elim (λ (is : p x ≡ true). absurd (let more = count_first p x xs is in omega (arith, more, none)))
    (λ (other : p x ≡ false). (other, none_counted p xs (sym (count_other p x xs other) ∙ none)))
    (cases_Bool (p x))

pub every : {X : Type 0} (P : X → Type 0) (xs : List X) → ((x : X) → P x) → AllByRecursion P xs
every P [] each = tt
every P (x ∷ xs) each = (each x, every P xs each)

-- ---- room

pub room_more : (old now : FramePool) (table : TableRoot) (rows : List TableRow) (pages : List MappedPage)
    (p q r t : TableRow → Bool) (l m : List FrameNo) (a b capacity : ℕ)
    → Sheds old now table rows pages p l m a b → AllByRecursion (λ row. r row ≡ (p row || q row)) rows
    → ((row : TableRow) → r row ≡ true → t row ≡ true) → count_by t rows ≤ capacity - a
    → count_by q (filter (λ row. not (p row)) rows) ≤ capacity - b
room_more old now table rows pages p q r t l m a b capacity sheds both all enough =
    let sum = count_then p q r rows both in
    let fewer = count_less r t rows all in
    omega (arith, sum, fewer, enough, sheds.many)

-- ---- one number

module _ (old now : FramePool) (table : TableRoot) (rows : List TableRow) (pages : List MappedPage)
    (areas : List Area) (span : Bounds) (level first n : ℕ) (l m : List FrameNo) (a b : ℕ)
    (may : MayShed (levels_of table.width) areas span level rows pages) (low : level < levels_of table.width)
    (from : first ≤ n)
    (sheds : Sheds old now table rows pages
    (is_idle_between (levels_of table.width) (areas_outside span areas) level first n) l m a b) where
  abbrev rest : List TableRow
  rest = filter (λ row. not (is_idle_between (levels_of table.width) (areas_outside span areas) level first n row)) rows

  pub may_rest : MayShed (levels_of table.width) areas span level rest pages
  may_rest = may_more (levels_of table.width) areas span level rows pages _ may

  next_each : AllByRecursion (λ row.
      is_idle_between (levels_of table.width) (areas_outside span areas) level first (n + 1) row
      ≡ (is_idle_between (levels_of table.width) (areas_outside span areas) level first n row
      || is_idle_one (levels_of table.width) (areas_outside span areas) level n row)) rows
  next_each = every _ rows (λ row. (next_between (levels_of table.width) (areas_outside span areas) level first n from row).0)

  counted : count_by (is_idle_one (levels_of table.width) (areas_outside span areas) level n) rest
      ≡ cond (not (areas_meet (span_at level n) (areas_outside span areas)) && not (is_absent rest level n)) 1 0
  counted =
      one_counted now (levels_of table.width) table.root rest pages sheds.stands level n (areas_outside span areas) low

  pub none_goes : (not (areas_meet (span_at level n) (areas_outside span areas)) && not (is_absent rest level n)) ≡ false
      → Sheds old now table rows pages
      (is_idle_between (levels_of table.width) (areas_outside span areas) level first (n + 1)) l m a b
  none_goes is =
      sheds_then old now now table rows pages _ (is_idle_one (levels_of table.width) (areas_outside span areas) level n) _
      l m m a b b sheds
      (sheds_none now table rest pages (is_idle_one (levels_of table.width) (areas_outside span areas) level n) m b
      sheds.stands (none_counted (is_idle_one (levels_of table.width) (areas_outside span areas) level n) rest
      (counted ∙ ap {B = ℕ} (λ (c : Bool). cond c 1 0) is)))
      next_each

  module _ (is : (not (areas_meet (span_at level n) (areas_outside span areas)) && not (is_absent rest level n)) ≡ true) where
    unmet : not (areas_meet (span_at level n) (areas_outside span areas)) ≡ true
    unmet = (and_parts _ _ is).0

    not_true : (c : Bool) → not c ≡ true → c ≡ false
    not_true false known = refl
    not_true true known = absurd (false≢true known)

    pub one_empty : IsEmpty (levels_of table.width) rest pages level n
    one_empty =
        is_empty now (levels_of table.width) table.root rest pages sheds.stands areas span level n may_rest low
        (not_true _ unmet) (not_true _ (and_parts _ _ is).1)

    pub one_room : (capacity : ℕ)
        → count_by (is_idle_between (levels_of table.width) (areas_outside span areas) level first (n + 1)) rows
        ≤ capacity - a → b < capacity
    one_room capacity enough =
        let sum = count_then _ (is_idle_one (levels_of table.width) (areas_outside span areas) level n) _ rows next_each in
        let one = counted ∙ ap {B = ℕ} (λ (c : Bool). cond c 1 0) is in
        omega (arith, sum, one, enough, sheds.many)

    pub one_goes : (new : FramePool) (k : List FrameNo) (c : ℕ)
        → TableStands new table (without_table level n rest) pages
        → GivesUp now new rest (without_table level n rest) m k → c ≡ b + 1
        → Sheds old new table rows pages
        (is_idle_between (levels_of table.width) (areas_outside span areas) level first (n + 1)) l k a c
    one_goes new k c stands gives more =
        let count = numbered_counted now (levels_of table.width) table.root rest pages sheds.stands level n
        ∙ ap {B = ℕ} (λ (x : Bool). cond x 1 0) (and_parts _ _ is).1 in
        sheds_then old now new table rows pages _ (is_idle_one (levels_of table.width) (areas_outside span areas) level n) _
        l m k a b c sheds
        (sheds_alike now new table rest pages (is_numbered level n)
        (is_idle_one (levels_of table.width) (areas_outside span areas) level n) m k b c
        (record { stands = stands; gives = gives; many = omega (arith, more, count) })
        (each_then (IsPlaced rest) (λ row. is_idle_one (levels_of table.width) (areas_outside span areas) level n row
        ≡ is_numbered level n row) rest
        (λ row placed. one_told (levels_of table.width) (areas_outside span areas) level n rest row low placed
        ∙ ap (λ (x : Bool). x && is_numbered level n row) unmet)
        (all_placed now (levels_of table.width) table.root rest pages sheds.stands)))
        next_each

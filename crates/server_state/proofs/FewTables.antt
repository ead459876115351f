-- No two tables are in one frame, and each page table has its root: so there are no more page tables than frames.
use Rattle.std.proofs.Common.{◌≡◌, ℕ, zero, suc, ◌<◌, ◌≤◌, Bool, true, false, ◌&&◌, ◌||◌, not, eqb, ltb, leb, Option}
use Rattle.std.proofs.Common.{Some, None, List, [], ◌∷◌, length, map, refl, sym, ◌∙◌, ap, arith, inl, inr}
use Rattle.std.proofs.lemmas.List.{get_or_past}
use Rattle.std.specs.List.{count_by, filter, list_all, list_any}
use Rattle.std.proofs.lemmas.Bool.Decides.{nat_tests}
use Rattle.std.proofs.lemmas.List.Filters.{length-filter_both}
use Rattle.std.proofs.lemmas.List.Sums.{length-filter}
use Rattle.page_table_set.proofs.Gone.{other_table}
use Rattle.page_table_set.proofs.OwnIds.{first_alone, own_parts}
use Rattle.page_table_set.specs.PageTables.{Hwpt, HwptStands, row_of, rows_of}
use Rattle.iofd_rows.proofs.Bools.{and_true, both_true, or_false}
use Rattle.iofd_rows.proofs.Each.{IsIn, of_all, of_any}
use Rattle.iofd_rows.proofs.ListTests.{any-filter, any_weaker, filter_all}
use Rattle.iofd_rows.specs.Ids.{have_own_ids}
use Rattle.iofd_runs.proofs.Runs.{tests_false}
use Rattle.frame_memory.specs.Pool.{FramePool}
use Rattle.iofd_words.specs.Levels.{levels_of}
use Rattle.iofd_words.specs.Limits.{first_outside}
use Rattle.iofd_words.specs.Objects.{is_object}
use Rattle.iofd_words.specs.Settings.{Settings, is_between, is_device_in_limits}
use Rattle.iofd_words.specs.TablePlaces.{is_table_of}
use Rattle.iofd_words.specs.World.{World}
use Rattle.iofd_words.specs.declared.config.ConfigError.{ConfigError}
use Rattle.iofd_words.specs.declared.config.ConfigError.TheVariants as field
use Rattle.iofd_words.specs.declared.rows.TableFrame.{TableFrame}
use Rattle.user_memory_rows.proofs.Counts.{count_split}
use Rattle.user_memory_rows.proofs.CountBy.{any_count, count-cons}
use Rattle.user_memory_rows.specs.Shown.{tables_in}
use Rattle.server_state.specs.Leads.{leads_of}
use Rattle.server_state.specs.Shows.{Shows}
use Rattle.server_state.specs.declared.state.State.{State}
use Rattle.page_table_words.proofs.Lookups.{none_or_some}
use Rattle.page_table_words.specs.Rows.{MappedPage, TableRow, table_at}

-- ---- tables and frames

abbrev is_below : ℕ → TableFrame → Bool
is_below end table = ltb table.frame.0 end

none_below : (tables : List TableFrame) → count_by (is_below 0) tables ≡ 0
none_below [] = refl
none_below (table ∷ tables) =
    let other : is_below 0 table ≡ false = grind (arith, nat_tests) in
    count-cons (is_below 0) table tables ∙ rw other (let rest = none_below tables in omega (arith, rest))

-- of those in the first frames there are no more than frames
below_few : (tables : List TableFrame) → ((frame : ℕ) → tables_in tables frame ≤ 1) → (end : ℕ)
    → count_by (is_below end) tables ≤ end
below_few tables once zero = let none = none_below tables in omega (arith, none)
below_few tables once (suc end) =
    let split = count_split (is_below (suc end)) (is_below end) (λ (table : TableFrame). eqb table.frame.0 end) tables
    (λ table. either table.frame.0 end) (λ table. apart table.frame.0 end) in
    let few = below_few tables once end in
    let one = once end in
    omega (arith, split, few, one)
  where
    either : (n end : ℕ) → ltb n (suc end) ≡ (ltb n end || eqb n end)
    either n end = grind (arith, nat_tests)

    apart : (n end : ℕ) → (ltb n end && eqb n end) ≡ false
    apart n end = grind (arith, nat_tests)

tables_few : (tables : List TableFrame) (end : ℕ) → ((frame : ℕ) → tables_in tables frame ≤ 1)
    → ((frame : ℕ) → end ≤ frame → tables_in tables frame ≡ 0) → length tables ≤ end
tables_few tables end once none =
    let all = of_all (is_below end) tables (λ table within. by_test table within (is_below end table) refl) in
    let same = ap length (sym (filter_all (is_below end) tables all)) ∙ length-filter (is_below end) tables in
    let few = below_few tables once end in
    omega (arith, same, few)
  where
    by_test : (table : TableFrame) → IsIn tables table → (b : Bool) → is_below end table ≡ b → b ≡ true
    by_test table within true is = refl
    by_test table within false is =
        let itself : eqb table.frame.0 table.frame.0 ≡ true = grind (arith, nat_tests) in
        let some = sym (any_count (λ (t : TableFrame). eqb t.frame.0 table.frame.0) tables)
        ∙ of_any (λ (t : TableFrame). eqb t.frame.0 table.frame.0) tables table within itself in
        let past : end ≤ table.frame.0 = search (is, arith, nat_tests) in
        let nowhere : ltb 0 0 ≡ true = ap (ltb 0) (sym (none table.frame.0 past)) ∙ some in
        cc

-- a pool has at most 4096 frames
pool_few : (s : Settings) → first_outside s ≡ None → s.pool ≤ 4096
pool_few s within = at_most (s.pool) (not_not (is_between 1 4096 s.pool) (tests_false rows 0 within))
  where
    rows : List (ConfigError × Bool)
    rows =
        (field.Pool, not (is_between 1 4096 s.pool))
        ∷ (field.Users, not (is_between 1 255 (length s.users)))
        ∷ (
          field.Files,
          not (is_between 1 1024 (length s.files)
              && list_all (λ user. is_between 1 (length s.users) user.0) s.files),
        )
        ∷ (field.Devices, not (leb (length s.devices) 256 && list_all is_device_in_limits s.devices))
        ∷ (field.Passes, not (is_between 1 1024 s.passes))
        ∷ []

    not_not : (b : Bool) → not b ≡ false → b ≡ true
    not_not true is = refl
    not_not false is = cc

    at_most : (n : ℕ) → is_between 1 4096 n ≡ true → n ≤ 4096
    at_most n is = let parts =
        and_true (leb 1 n) (leb n 4096) is in let few : leb n 4096 ≡ true = parts.1 in search (few, arith, nat_tests)

-- ---- page tables and tables

fewer_left : (p : TableFrame → Bool) (tables : List TableFrame) → list_any p tables ≡ true
    → length (filter (λ t. not (p t)) tables) < length tables
fewer_left p tables some =
    let both = length-filter_both p (λ (t : TableFrame). not (p t)) (λ t. refl) tables in
    let counted = length-filter p tables in
    let more : 0 < count_by p tables = let is = sym (any_count p tables) ∙ some in search (is, arith, nat_tests) in
    omega (arith, both, counted, more)

-- where each has a row there are no more of them than rows
hwpts_few : (hwpts : List Hwpt) (tables : List TableFrame) → have_own_ids (map (λ (h : Hwpt). h.object) hwpts) ≡ true
    → ((h : Hwpt) → IsIn hwpts h → list_any (is_table_of h.object.file h.object.id) tables ≡ true)
    → length hwpts ≤ length tables
hwpts_few [] tables own each = omega arith
hwpts_few (h ∷ hwpts) tables own each =
    let left = filter (λ (t : TableFrame). not (is_table_of h.object.file h.object.id t)) tables in
    let rest = hwpts_few hwpts left (own_parts h hwpts own).1
    (λ other within. others other within (first_alone h hwpts own other within) (each other (inr within))) in
    let fewer = fewer_left (is_table_of h.object.file h.object.id) tables (each h (inl refl)) in
    omega (arith, rest, fewer)
  where
    others : (other : Hwpt) → IsIn hwpts other → is_object h.object.file h.object.id other.object ≡ false
        → list_any (is_table_of other.object.file other.object.id) tables ≡ true
        → list_any (is_table_of other.object.file other.object.id)
        (filter (λ (t : TableFrame). not (is_table_of h.object.file h.object.id t)) tables) ≡ true
    others other within apart has =
        any-filter (is_table_of other.object.file other.object.id)
        (λ (t : TableFrame). not (is_table_of h.object.file h.object.id t)) tables
        ∙ any_weaker (is_table_of other.object.file other.object.id)
        (λ (t : TableFrame). not (is_table_of h.object.file h.object.id t)
        && is_table_of other.object.file other.object.id t) tables
        (λ t is. both_true _ _ (other_table h.object.file h.object.id other.object t apart is) is) has

none_pass : {X : Type 0} (p : X → Bool) (xs : List X) → list_any p xs ≡ false → filter p xs ≡ []
none_pass p [] none = refl
none_pass p (x ∷ xs) none =
    let parts = or_false (p x) (list_any p xs) none in
    rw parts.0 (none_pass p xs parts.1)

no_table : (levels : ℕ) → table_at [] levels 0 ≡ None
unfolding table_at
no_table levels = refl

-- one that stands has a row
has_root : (pool : FramePool) (tables : List TableFrame) (leads : ℕ → Option MappedPage) (h : Hwpt)
    → HwptStands pool tables leads h → list_any (is_table_of h.object.file h.object.id) tables ≡ true
has_root pool tables leads h stands = by_test (list_any (is_table_of h.object.file h.object.id) tables) refl
  where
    by_test : (b : Bool) → list_any (is_table_of h.object.file h.object.id) tables ≡ b → b ≡ true
    by_test true is = refl
    by_test false is =
        let none : rows_of tables h.object ≡ [] =
        ap (map row_of) (none_pass (is_table_of h.object.file h.object.id) tables is) in
        let root : table_at [] (levels_of h.table.width) 0 ≡ Some h.table.root =
        ap (λ (rows : List TableRow). table_at rows (levels_of h.table.width) 0) (sym none)
        ∙ stands.stands.at_root in
        none_or_some (table_at [] (levels_of h.table.width) 0) h.table.root (no_table (levels_of h.table.width)) root

-- ---- of what is kept

module _ {A : Type 0} (w : World) (s : State A) (shows : Shows w s) where
  past_pool : (frame : ℕ) → w.settings.pool ≤ frame → tables_in w.table_frames frame ≡ 0
  past_pool frame past =
      let nowhere = get_or_past s.pool.holds frame 0 (let size = shows.frames.size in omega (arith, size, past)) in
      let counted = shows.frames.holds frame in
      omega (arith, nowhere, counted)

  pub few_tables : first_outside w.settings ≡ None → length s.page_tables.tables ≤ 4096
  few_tables within =
      let fewer = hwpts_few s.page_tables.tables w.table_frames shows.tables.stand.own
      (λ h inside. has_root s.pool w.table_frames (leads_of w h.object) h (shows.tables.stand.each h inside)) in
      let few = tables_few w.table_frames w.settings.pool shows.frames.once past_pool in
      let pool = pool_few w.settings within in
      omega (arith, fewer, few, pool)

-- A slab's entries, each made a row, after one slot of the slab has changed.
use Rattle.std.proofs.Common.{◌≡◌, ◌≢◌, ℕ, zero, suc, ◌+◌, ◌<◌, ◌≤◌, Bool, true, false, cond, List, [], ◌∷◌, Option}
use Rattle.std.proofs.Common.{Some, None, map, get_or, set, refl, sym, arith}
use Rattle.std.specs.List.{filter, find, AllByRecursion}
use Rattle.slab.specs.Slab.{entries_from}
use Rattle.object_table.proofs.Lists.{filter_all, map_same, find_none, put_before, put_before_all}

module _ {T R : Type 0} (f : ℕ × T → R) where
  -- the rows of these slots, of which the first has this key
  abbrev pub rows_of_slots : ℕ → List (Option T) → List R
  rows_of_slots first slots = map f (entries_from first slots)

  -- no key is before that of the first slot
  pub keys_from : (P : R → Type 0) (first : ℕ) (slots : List (Option T)) → ((e : ℕ × T) → first ≤ e.0 → P (f e))
      → AllByRecursion P (rows_of_slots first slots)
  keys_from P first [] holds = tt
  keys_from P first (None ∷ rest) holds = keys_from P (first + 1) rest (λ e later. holds e (omega arith))
  keys_from P first (Some value ∷ rest) holds =
      (holds (first, value) (omega arith), keys_from P (first + 1) rest (λ e later. holds e (omega arith)))

  -- slots with the same values have the same rows
  pub rows_of_slots-same : (first : ℕ) (old new : List (Option T))
      → ((key : ℕ) → get_or new key None ≡ get_or old key None) → rows_of_slots first new ≡ rows_of_slots first old
  rows_of_slots-same first [] [] same = refl
  rows_of_slots-same first [] (Some value ∷ new) same = absurd (let e : Some value ≡ None = same 0 in cc)
  rows_of_slots-same first [] (None ∷ new) same = rows_of_slots-same (first + 1) [] new (λ key. same (suc key))
  rows_of_slots-same first (Some value ∷ old) [] same = absurd (let e : None ≡ Some value = same 0 in cc)
  rows_of_slots-same first (None ∷ old) [] same = rows_of_slots-same (first + 1) old [] (λ key. same (suc key))
  rows_of_slots-same first (None ∷ old) (None ∷ new) same =
      rows_of_slots-same (first + 1) old new (λ key. same (suc key))
  rows_of_slots-same first (None ∷ old) (Some other ∷ new) same = absurd (let e : Some other ≡ None = same 0 in cc)
  rows_of_slots-same first (Some value ∷ old) (None ∷ new) same = absurd (let e : None ≡ Some value = same 0 in cc)
  rows_of_slots-same first (Some value ∷ old) (Some other ∷ new) same =
      let here : Some other ≡ Some value = same 0 in
      let one : other ≡ value = cc in
      rw (one, rows_of_slots-same (first + 1) old new (λ key. same (suc key)))

  -- a test that tells the rows after a key from those before it
  pub record Parts (at : ℕ) (after : R → Bool) : Type 0 where
    pub early : (e : ℕ × T) → e.0 < at → after (f e) ≡ false
    pub late : (e : ℕ × T) → at < e.0 → after (f e) ≡ true

  -- a vacant slot that is filled puts its row before those that are after it
  pub rows_of_slots-filled : (at : ℕ) (after : R → Bool) → Parts at after → (value : T) (key first : ℕ)
      → first + key ≡ at → (old new : List (Option T)) → get_or old key None ≡ None → get_or new key None ≡ Some value
      → ((other : ℕ) → other ≢ key → get_or new other None ≡ get_or old other None)
      → rows_of_slots first new ≡ put_before after (f (at, value)) (rows_of_slots first old)
  rows_of_slots-filled at after parts value zero first is old [] vacant filled others = absurd (cc)
  rows_of_slots-filled at after parts value (suc key) first is old [] vacant filled others = absurd (cc)
  rows_of_slots-filled at after parts value zero first is [] (slot ∷ new) vacant filled others =
      let filled_here : slot ≡ Some value = filled in
      let same : first ≡ at = omega arith in
      let rest : rows_of_slots (first + 1) new ≡ [] =
      rows_of_slots-same (first + 1) [] new (λ other. others (suc other) (λ e. omega arith)) in
      rw (filled_here, rest, same)
  rows_of_slots-filled at after parts value zero first is (was ∷ old) (slot ∷ new) vacant filled others =
      let filled_here : slot ≡ Some value = filled in
      let was_vacant : was ≡ None = vacant in
      let same : first ≡ at = omega arith in
      let rest : rows_of_slots (first + 1) new ≡ rows_of_slots (first + 1) old =
      rows_of_slots-same (first + 1) old new (λ other. others (suc other) (λ e. omega arith)) in
      let all = put_before_all after (f (at, value)) _
      (keys_from (λ r. after r ≡ true) (first + 1) old (λ e later. parts.late e (omega arith))) in
      rw (filled_here, was_vacant, rest, all, same)
  rows_of_slots-filled at after parts value (suc key) first is [] (slot ∷ new) vacant filled others =
      let still_vacant : slot ≡ None = others 0 (λ e. omega arith) in
      rw (
        still_vacant,
        rows_of_slots-filled at after parts value key (first + 1) (omega arith) [] new refl filled
            (λ other differs. others (suc other) (λ e. differs (omega arith))),
      )
  rows_of_slots-filled at after parts value (suc key) first is (None ∷ old) (slot ∷ new) vacant filled others =
      let still_vacant : slot ≡ None = others 0 (λ e. omega arith) in
      rw (
        still_vacant,
        rows_of_slots-filled at after parts value key (first + 1) (omega arith) old new vacant filled
            (λ other differs. others (suc other) (λ e. differs (omega arith))),
      )
  rows_of_slots-filled at after parts value (suc key) first is (Some was ∷ old) (slot ∷ new) vacant filled others =
      let still_there : slot ≡ Some was = others 0 (λ e. omega arith) in
      let early = parts.early (first, was) (omega arith) in
      rw (
        still_there,
        early,
        rows_of_slots-filled at after parts value key (first + 1) (omega arith) old new vacant
            filled (λ other differs. others (suc other) (λ e. differs (omega arith))),
      )

  -- a slot that is emptied loses its row
  pub rows_of_slots-emptied : (at : ℕ) (keep : R → Bool) → ((e : ℕ × T) → e.0 ≡ at → keep (f e) ≡ false)
      → ((e : ℕ × T) → e.0 ≢ at → keep (f e) ≡ true) → (key first : ℕ) → first + key ≡ at → (slots : List (Option T))
      → rows_of_slots first (set slots key None) ≡ filter keep (rows_of_slots first slots)
  rows_of_slots-emptied at keep here elsewhere key first is [] = refl
  rows_of_slots-emptied at keep here elsewhere zero first is (None ∷ slots) =
      sym (filter_all keep _ (keys_from (λ r. keep r ≡ true) (first + 1) slots
      (λ e later. elsewhere e (λ same. omega arith))))
  rows_of_slots-emptied at keep here elsewhere zero first is (Some value ∷ slots) =
      let dropped = here (first, value) (omega arith) in
      rw dropped (sym (filter_all keep _ (keys_from (λ r. keep r ≡ true) (first + 1) slots
      (λ e later. elsewhere e (λ same. omega arith)))))
  rows_of_slots-emptied at keep here elsewhere (suc key) first is (None ∷ slots) =
      rows_of_slots-emptied at keep here elsewhere key (first + 1) (omega arith) slots
  rows_of_slots-emptied at keep here elsewhere (suc key) first is (Some value ∷ slots) =
      let kept = elsewhere (first, value) (λ same. omega arith) in
      rw (kept, rows_of_slots-emptied at keep here elsewhere key (first + 1) (omega arith) slots)

  -- a slot that is written changes its row
  pub rows_of_slots-written : (at : ℕ) (old new : T) (change : R → R) → change (f (at, old)) ≡ f (at, new)
      → ((e : ℕ × T) → e.0 ≢ at → change (f e) ≡ f e) → (key first : ℕ) → first + key ≡ at → (slots : List (Option T))
      → get_or slots key None ≡ Some old → rows_of_slots first (set slots key (Some new)) ≡ map change
      (rows_of_slots first slots)
  rows_of_slots-written at old new change here elsewhere key first is [] found = refl
  rows_of_slots-written at old new change here elsewhere zero first is (slot ∷ slots) found =
      let found_here : slot ≡ Some old = found in
      let same : first ≡ at = omega arith in
      let rest = map_same change _ (keys_from (λ r. change r ≡ r) (first + 1) slots
      (λ e later. elsewhere e (λ same. omega arith))) in
      rw (found_here, rest, same, here)
  rows_of_slots-written at old new change here elsewhere (suc key) first is (None ∷ slots) found =
      rows_of_slots-written at old new change here elsewhere key (first + 1) (omega arith) slots found
  rows_of_slots-written at old new change here elsewhere (suc key) first is (Some value ∷ slots) found =
      let kept = elsewhere (first, value) (λ same. omega arith) in
      rw (kept, rows_of_slots-written at old new change here elsewhere key (first + 1) (omega arith) slots found)

  -- the row that a search finds, by a test that fails at every other key
  abbrev pub found_at : (R → Bool) → ℕ → Option T → Option R
  found_at test at None = None
  found_at test at (Some value) = cond (test (f (at, value))) (Some (f (at, value))) None

  pub find-rows_of_slots : (at : ℕ) (test : R → Bool) → ((e : ℕ × T) → e.0 ≢ at → test (f e) ≡ false) → (key first : ℕ)
      → first + key ≡ at → (slots : List (Option T))
      → find test (rows_of_slots first slots) ≡ found_at test at (get_or slots key None)
  find-rows_of_slots at test elsewhere key first is [] = refl
  find-rows_of_slots at test elsewhere zero first is (None ∷ slots) =
      find_none test _ (keys_from (λ r. test r ≡ false) (first + 1) slots
      (λ e later. elsewhere e (λ same. omega arith)))
  find-rows_of_slots at test elsewhere zero first is (Some value ∷ slots) =
      let same : first ≡ at = omega arith in
      let rest : find test (rows_of_slots (first + 1) slots) ≡ None =
      find_none test _ (keys_from (λ r. test r ≡ false) (first + 1) slots
      (λ e later. elsewhere e (λ same. omega arith))) in
      rw (rest, same)
  find-rows_of_slots at test elsewhere (suc key) first is (None ∷ slots) =
      find-rows_of_slots at test elsewhere key (first + 1) (omega arith) slots
  find-rows_of_slots at test elsewhere (suc key) first is (Some value ∷ slots) =
      let passed = elsewhere (first, value) (λ same. omega arith) in
      rw (passed, find-rows_of_slots at test elsewhere key (first + 1) (omega arith) slots)

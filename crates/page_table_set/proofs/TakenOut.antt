-- The first page table of a file and id is taken out.
use Rattle.std.proofs.Common.{◌≡◌, ℕ, suc, ◌+◌, ◌≤◌, Bool, true, false, cond, not, Some, None, List, [], ◌∷◌}
use Rattle.std.proofs.Common.{length, get_or, refl, ap, sym, ◌∙◌, arith}
use Rattle.std.specs.List.{position, position_or_len, remove}
use Rattle.std.proofs.lemmas.List.Sums.{prefix_len-le-length}
use Rattle.iofd_words.specs.Objects.{is_object}
use Rattle.iofd_words.specs.declared.numbers.FileNo.{FileNo}
use Rattle.iofd_words.specs.declared.numbers.ObjId.{ObjId}
use Rattle.iofd_rows.proofs.Inserted.{place_found, place_none}
use Rattle.page_table_set.specs.PageTables.{Hwpt, hwpt_of}
use Rattle.page_table_set.specs.Removed.{without_hwpt}

module _ (file : FileNo) (id : ObjId) where
  abbrev is_it : Hwpt → Bool
  is_it h = is_object file id h.object

  none_at : (tables : List Hwpt) → position_or_len is_it tables ≡ length tables → hwpt_of tables file id ≡ None
  none_at [] at = refl
  none_at (t ∷ tables) at = by_test (is_it t) refl at (none_at tables)
    where
      by_test : (b : Bool) → is_it t ≡ b → position_or_len is_it (t ∷ tables) ≡ length (t ∷ tables)
          → (position_or_len is_it tables ≡ length tables → hwpt_of tables file id ≡ None)
          → cond b (Some t) (hwpt_of tables file id) ≡ None
      by_test true is at later = let here : 0 ≡ suc (length tables) = rw is at at in absurd (omega (arith, here))
      by_test false is at later =
          let there : 1 + position_or_len is_it tables ≡ suc (length tables) = rw is at at in
          let rest : position_or_len is_it tables ≡ length tables = omega (arith, there) in
          later rest

  some_at : (tables : List Hwpt) (n : ℕ) (d : Hwpt) → position_or_len is_it tables ≡ n → n ≤ length tables
      → (n ≡ length tables → ⊥) → (hwpt_of tables file id ≡ Some (get_or tables n d))
      × (remove tables n ≡ without_hwpt file id tables)
  some_at [] n d at below within = absurd (within (sym at))
  some_at (t ∷ tables) n d at below within =
      by_test (is_it t) refl (some_at tables (position_or_len is_it tables) d refl
      (prefix_len-le-length (λ (h : Hwpt). not (is_it h)) tables))
    where
      by_test : (b : Bool) → is_it t ≡ b
          → ((position_or_len is_it tables ≡ length tables → ⊥)
          → (hwpt_of tables file id ≡ Some (get_or tables (position_or_len is_it tables) d))
          × (remove tables (position_or_len is_it tables) ≡ without_hwpt file id tables))
          → (cond b (Some t) (hwpt_of tables file id) ≡ Some (get_or (t ∷ tables) n d))
          × (remove (t ∷ tables) n ≡ cond b tables (t ∷ without_hwpt file id tables))
      by_test true is later = let here : 0 ≡ n = rw is at at in rw (← here) (refl, refl)
      by_test false is later =
          let there : 1 + position_or_len is_it tables ≡ n = rw is at at in
          let next : suc (position_or_len is_it tables) ≡ n = omega (arith, there) in
          let rest = later (λ end. within (sym next ∙ ap suc end)) in
          rw (← next) (rest.0, ap (λ (l : List Hwpt). t ∷ l) rest.1)

  pub none_there : (tables : List Hwpt) → position is_it tables ≡ None → hwpt_of tables file id ≡ None
  none_there tables none = none_at tables (place_none is_it tables none)

  pub both_there : (tables : List Hwpt) (place : ℕ) (d : Hwpt) → position is_it tables ≡ Some place
      → (hwpt_of tables file id ≡ Some (get_or tables place d)) × (remove tables place ≡ without_hwpt file id tables)
  both_there tables place d found =
      let at = place_found is_it tables place found in
      some_at tables place d at.0 (omega (arith, at.0, at.1)) (λ end. omega (arith, at.0, at.1, end))

  pub taken_is : (tables : List Hwpt) (place : ℕ) (h : Hwpt) → position is_it tables ≡ Some place
      → h ≡ get_or tables place h → Some h ≡ hwpt_of tables file id
  taken_is tables place h found is = ap (λ (x : Hwpt). Some x) is ∙ sym (both_there tables place h found).0

  pub left_is : (tables : List Hwpt) (place : ℕ) (h : Hwpt) → position is_it tables ≡ Some place
      → remove tables place ≡ without_hwpt file id tables
  left_is tables place h found = (both_there tables place h found).1

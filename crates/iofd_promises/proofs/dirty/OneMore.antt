-- Lists that grow at their ends, and what is said of the records from one on.
use Rattle.std.proofs.Common.{◌≡◌, List, [], ◌∷◌, ◌++◌, Contains, refl, ap}
use Rattle.std.proofs.Common.{sym, ◌∙◌, subst, append_assoc, append-nil, ◌⊎◌, inl, inr}
use Rattle.iofd_steps.specs.Run.{world_of}
use Rattle.iofd_words.specs.Record.{Record}
use Rattle.iofd_words.specs.Settings.{Settings}
use Rattle.iofd_words.specs.declared.numbers.FileNo.{FileNo}
use Rattle.iofd_words.specs.declared.numbers.ObjId.{ObjId}
use Rattle.iofd_rows.proofs.Each.{IsIn}
use Rattle.iofd_promises.proofs.Lists.{in_append}
use Rattle.iofd_promises.proofs.Rows.{contains, within}
use Rattle.iofd_promises.specs.Marks.{HasTable}

-- ---- lists from their ends

pub grown : {X : Type 0} (P : List X → Type 0) → P [] → ((xs : List X) (x : X) → P xs → P (xs ++ x ∷ []))
    → (xs : List X) → P xs
grown {X = X} P none more xs = by_rest [] xs none
  where
    by_rest : (done rest : List X) → P done → P (done ++ rest)
    by_rest done [] p = subst P (sym (append-nil done)) p
    by_rest done (x ∷ rest) p =
        subst P (append_assoc done (x ∷ []) rest) (by_rest (done ++ x ∷ []) rest (more done x p))

-- a beginning of a list with one more is one of the list, or the whole
pub by_beginning : {X : Type 0} (xs : List X) (x : X) (first rest : List X) → xs ++ x ∷ [] ≡ first ++ rest
    → ((others : List X) × (xs ≡ first ++ others)) ⊎ (first ≡ xs ++ x ∷ [])
by_beginning xs x [] rest is = inl (xs, refl)
by_beginning [] x (y ∷ []) rest is =
    let same : x ≡ y = cc in inr (ap (λ z. z ∷ []) (sym same))
by_beginning [] x (y ∷ z ∷ first) rest is = cc
by_beginning {X = X} (z ∷ xs) x (y ∷ first) rest is =
    let same : z ≡ y = cc in
    let later : xs ++ x ∷ [] ≡ first ++ rest = cc in
    by_later same (by_beginning xs x first rest later)
  where
    by_later : z ≡ y → ((others : List X) × (xs ≡ first ++ others)) ⊎ (first ≡ xs ++ x ∷ [])
        → ((others : List X) × (z ∷ xs ≡ y ∷ first ++ others)) ⊎ (y ∷ first ≡ z ∷ xs ++ x ∷ [])
    by_later same (inl (others, is)) = inl (others, rw (same, is) refl)
    by_later same (inr is) = inr (rw (same, is) refl)

-- ---- one record more

module _ {A : Type 0} (settings : Settings) (records : List (Record A)) (c : Record A) (file : FileNo) (hwpt : ObjId)
    (before : List (Record A)) (r : Record A) (later : List (Record A)) (parts : records ≡ before ++ r ∷ later) where
  pub parts_more : records ++ c ∷ [] ≡ before ++ r ∷ (later ++ c ∷ [])
  parts_more = ap (λ (l : List (Record A)). l ++ c ∷ []) parts ∙ append_assoc before (r ∷ later) (c ∷ [])

  -- what none of the records does, and not this one either
  pub none_more : (D : Record A → Type 0) → ((d : Record A) → Contains later d → D d → ⊥) → (D c → ⊥) → (d : Record A)
      → Contains (later ++ c ∷ []) d → D d → ⊥
  none_more D none not_c d listed does =
      by_place (in_append later (c ∷ []) d (within (later ++ c ∷ []) d listed)) does
    where
      by_place : IsIn later d ⊎ IsIn (c ∷ []) d → D d → ⊥
      by_place (inl there) does = none d (contains later d there) does
      by_place (inr (inl same)) does = not_c (subst D (sym same) does)
      by_place (inr (inr never)) does = never

  pub stands_more : ((first rest : List (Record A)) → later ≡ first ++ rest
      → HasTable (world_of settings (before ++ r ∷ first)) file hwpt)
      → HasTable (world_of settings (records ++ c ∷ [])) file hwpt
      → (first rest : List (Record A)) → later ++ c ∷ [] ≡ first ++ rest
      → HasTable (world_of settings (before ++ r ∷ first)) file hwpt
  stands_more stands last first rest is = by_place (by_beginning later c first rest is)
    where
      by_place : ((others : List (Record A)) × (later ≡ first ++ others)) ⊎ (first ≡ later ++ c ∷ [])
          → HasTable (world_of settings (before ++ r ∷ first)) file hwpt
      by_place (inl (others, same)) = stands first others same
      by_place (inr whole) =
          subst (λ (l : List (Record A)). HasTable (world_of settings l) file hwpt)
          (parts_more ∙ ap (λ (l : List (Record A)). before ++ r ∷ l) (sym whole)) last

-- nothing is before this record's own later ones
pub none_later : {A : Type 0} (settings : Settings) (before : List (Record A)) (r : Record A) (file : FileNo)
    (hwpt : ObjId) → HasTable (world_of settings (before ++ r ∷ [])) file hwpt → (first rest : List (Record A))
    → (let none : List (Record A) = [] in none) ≡ first ++ rest
    → HasTable (world_of settings (before ++ r ∷ first)) file hwpt
none_later settings before r file hwpt table [] rest is = table
none_later settings before r file hwpt table (x ∷ first) rest is = cc

pub no_more : {A : Type 0} (D : Record A → Type 0) (d : Record A) → Contains [] d → D d → ⊥
no_more D d listed does = within [] d listed

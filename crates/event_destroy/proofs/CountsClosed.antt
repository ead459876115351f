-- How many rows of a file pass a test, after the rows of one file went: so its counts of users go with it.
use Rattle.std.proofs.Common.{◌≡◌, ℕ, ◌+◌, Bool, true, false, cond, ◌&&◌, not, eqb, Option, Some, None, List, [], ◌∷◌}
use Rattle.std.proofs.Common.{refl, sym, ap, ◌∙◌, arith}
use Rattle.std.specs.List.{count_by, filter, find}
use Rattle.std.proofs.lemmas.Bool.Decides.{nat_tests}
use Rattle.iofd_words.specs.Objects.{is_access_to, is_hwpt_over, is_ioas, is_object}
use Rattle.iofd_words.specs.declared.numbers.FileNo.{FileNo}
use Rattle.iofd_words.specs.declared.numbers.ObjId.{ObjId}
use Rattle.iofd_words.specs.declared.rows.Attachment.{Attachment}
use Rattle.iofd_words.specs.declared.rows.Object.{Object}
use Rattle.iofd_words.specs.declared.rows.ObjectKind.{ObjectKind}
use Rattle.user_memory_rows.proofs.CountBy.{count-cons}
use Rattle.object_table.specs.Table.{Row, is_of_file}
use Rattle.server_state.proofs.Counted.{counts_of}
use Rattle.server_state.specs.Users.{AccessSpaces, AreCounted, accesses_to, devices_on, tables_over, users_at}
use Rattle.server_state.specs.declared.held.Held.{Held}

-- 1 where the row is of this file and passes
abbrev one_of : {X : Type 0} → (X → FileNo) → (X → Bool) → FileNo → X → ℕ
one_of file_of p f x = cond (eqb (file_of x).0 f.0 && p x) 1 0

-- how many rows are of this file and pass
abbrev counted_in : {X : Type 0} → (X → FileNo) → (X → Bool) → FileNo → List X → ℕ
counted_in file_of p f xs = count_by (λ y. eqb (file_of y).0 f.0 && p y) xs

-- the rows of other files
abbrev others_of : {X : Type 0} → (X → FileNo) → FileNo → List X → List X
others_of file_of file xs = filter (λ y. not (eqb (file_of y).0 file.0)) xs

count-closed : {X : Type 0} (file_of : X → FileNo) (p : X → Bool) (xs : List X) (file f : FileNo)
    → count_by (λ x. eqb (file_of x).0 f.0 && p x) (filter (λ x. not (eqb (file_of x).0 file.0)) xs)
    ≡ cond (eqb f.0 file.0) 0 (count_by (λ x. eqb (file_of x).0 f.0 && p x) xs)
count-closed file_of p [] file f = by_file (eqb f.0 file.0)
  where
    by_file : (b : Bool) → ◌≡◌ {A = ℕ} 0 (cond b 0 0)
    by_file true = refl
    by_file false = refl
count-closed {X = X} file_of p (x ∷ xs) file f =
    let all = count-cons (λ (y : X). eqb (file_of y).0 f.0 && p y) x xs in
    let left = count-cons (λ (y : X). eqb (file_of y).0 f.0 && p y) x (others_of file_of file xs) in
    by_files (eqb (file_of x).0 file.0) (eqb f.0 file.0) (eqb (file_of x).0 f.0) refl refl refl all left
    (count-closed file_of p xs file f)
  where
    apart : (a b c : ℕ) → eqb a c ≡ true → eqb b c ≡ false → eqb a b ≡ true → ⊥
    apart a b c ac bc ab = grind (arith, nat_tests)

    alike : (a b c : ℕ) → eqb a c ≡ false → eqb b c ≡ true → eqb a b ≡ true → ⊥
    alike a b c ac bc ab = grind (arith, nat_tests)

    by_files : (b c d : Bool) → eqb (file_of x).0 file.0 ≡ b → eqb f.0 file.0 ≡ c → eqb (file_of x).0 f.0 ≡ d
        → counted_in file_of p f (x ∷ xs) ≡ one_of file_of p f x + counted_in file_of p f xs
        → counted_in file_of p f (x ∷ others_of file_of file xs)
        ≡ one_of file_of p f x + counted_in file_of p f (others_of file_of file xs)
        → counted_in file_of p f (others_of file_of file xs) ≡ cond c 0 (counted_in file_of p f xs)
        → counted_in file_of p f (cond (not b) (x ∷ others_of file_of file xs) (others_of file_of file xs))
        ≡ cond c 0 (counted_in file_of p f (x ∷ xs))
    by_files true true d ob fc od all left rest = rest
    by_files true false true ob fc od all left rest = absurd (apart (file_of x).0 f.0 file.0 ob fc od)
    by_files true false false ob fc od all left rest =
        let none : one_of file_of p f x ≡ 0 = ap (λ (b : Bool). cond (b && p x) 1 0) od in
        omega (arith, all, rest, none)
    by_files false true true ob fc od all left rest = absurd (alike (file_of x).0 f.0 file.0 ob fc od)
    by_files false true false ob fc od all left rest =
        let none : one_of file_of p f x ≡ 0 = ap (λ (b : Bool). cond (b && p x) 1 0) od in
        omega (arith, left, rest, none)
    by_files false false d ob fc od all left rest = omega (arith, all, left, rest)

-- the page tables over an address space
over-closed : (objects : List Object) (file f : FileNo) (i : ObjId)
    → tables_over (filter (λ (o : Object). not (eqb o.file.0 file.0)) objects) f i
    ≡ cond (eqb f.0 file.0) 0 (tables_over objects f i)
over-closed objects file f i =
    count-closed (λ (o : Object). o.file) (λ (o : Object). is_hwpt_over i o.kind) objects file f

-- the access objects that are attached to it
to-closed : (objects : List Object) (file f : FileNo) (i : ObjId)
    → accesses_to (filter (λ (o : Object). not (eqb o.file.0 file.0)) objects) f i
    ≡ cond (eqb f.0 file.0) 0 (accesses_to objects f i)
to-closed objects file f i =
    count-closed (λ (o : Object). o.file) (λ (o : Object). is_access_to i o.kind) objects file f

-- an object of another file is found
found_other : (objects : List Object) (file f : FileNo) (i : ObjId) → eqb f.0 file.0 ≡ false
    → find (is_object f i) (filter (λ (o : Object). not (eqb o.file.0 file.0)) objects) ≡ find (is_object f i) objects
found_other [] file f i other = refl
found_other (o ∷ objects) file f i other =
    let rest = found_other objects file f i other in grind (arith, nat_tests)

-- access objects are attached to address spaces alone, still
pub spaces_left : (objects : List Object) → AccessSpaces objects → (file : FileNo)
    → AccessSpaces (filter (λ (o : Object). not (eqb o.file.0 file.0)) objects)
spaces_left objects spaces file f i no_space = to-closed objects file f i ∙ by_file (eqb f.0 file.0) refl
  where
    by_file : (b : Bool) → eqb f.0 file.0 ≡ b → ◌≡◌ {A = ℕ} (cond b 0 (accesses_to objects f i)) 0
    by_file true is = refl
    by_file false is =
        spaces f i (ap (λ (o : Option Object). elim (elim o as (λ _. Option ObjectKind)
        [ Some x ↦ Some x.kind | None ↦ None ]) as (λ _. Bool) [ Some k ↦ is_ioas k | None ↦ false ])
        (sym (found_other objects file f i is)) ∙ no_space)

-- the devices that translate by a page table
devices-closed : (attachments : List Attachment) (file f : FileNo) (i : ObjId)
    → devices_on (filter (λ (a : Attachment). not (eqb a.file.0 file.0)) attachments) f i
    ≡ cond (eqb f.0 file.0) 0 (devices_on attachments f i)
devices-closed attachments file f i =
    count-closed (λ (a : Attachment). a.file) (λ (a : Attachment). eqb a.hwpt.0 i.0) attachments file f

module _ {A : Type 0} where
  users-closed : (rows : List (Row (Held A))) (file f : FileNo) (i : ObjId)
      → users_at (filter (λ row. not (is_of_file file row)) rows) f i ≡ cond (eqb f.0 file.0) 0 (users_at rows f i)
  users-closed [] file f i = by_file (eqb f.0 file.0)
    where
      by_file : (b : Bool) → ◌≡◌ {A = ℕ} 0 (cond b 0 0)
      by_file true = refl
      by_file false = refl
  users-closed (row ∷ rows) file f i = let rest = users-closed rows file f i in grind (arith, nat_tests)

  -- all of a file go
  pub file_goes : (objects : List Object) (attachments : List Attachment) (rows : List (Row (Held A)))
      → AreCounted objects attachments rows → (file : FileNo)
      → AreCounted (filter (λ (o : Object). not (eqb o.file.0 file.0)) objects)
      (filter (λ (a : Attachment). not (eqb a.file.0 file.0)) attachments)
      (filter (λ row. not (is_of_file file row)) rows)
  file_goes objects attachments rows counted file f i =
      users-closed rows file f i ∙ ap (cond (eqb f.0 file.0) 0) (counted f i)
      ∙ all (eqb f.0 file.0) (over-closed objects file f i) (to-closed objects file f i)
      (devices-closed attachments file f i)
    where
      all : (b : Bool) → tables_over (filter (λ (o : Object). not (eqb o.file.0 file.0)) objects) f i
          ≡ cond b 0 (tables_over objects f i)
          → accesses_to (filter (λ (o : Object). not (eqb o.file.0 file.0)) objects) f i
          ≡ cond b 0 (accesses_to objects f i)
          → devices_on (filter (λ (a : Attachment). not (eqb a.file.0 file.0)) attachments) f i
          ≡ cond b 0 (devices_on attachments f i)
          → cond b 0 (counts_of objects attachments f i)
          ≡ counts_of (filter (λ (o : Object). not (eqb o.file.0 file.0)) objects)
          (filter (λ (a : Attachment). not (eqb a.file.0 file.0)) attachments) f i
      all true over to on = omega (arith, over, to, on)
      all false over to on = omega (arith, over, to, on)

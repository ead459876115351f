-- An access object is attached or detached: it alone changes, and by its attachment alone. What tells no attachment of
-- an access object from another stays, and so does each object of another kind.
use Rattle.std.proofs.Common.{◌≡◌, ℕ, Bool, true, false, cond, ◌&&◌, eqb, Option, Some, None, List, [], ◌∷◌, refl}
use Rattle.std.proofs.Common.{ap, sym, ◌∙◌, ◌≤◌, subst, arith}
use Rattle.std.specs.List.{count_by, find, list_all, list_any}
use Rattle.iofd_rows.proofs.Each.{IsIn, in_map}
use Rattle.iofd_rows.proofs.PageCounts.{count-cons}
use Rattle.iofd_rows.specs.Ids.{AreBoundOnce, have_own_ids}
use Rattle.iofd_words.specs.Attachments.{is_attached_to}
use Rattle.iofd_words.specs.Objects.{has_hwpt, is_access, is_bound_as, is_hwpt_over, is_object, kind_of, with_access}
use Rattle.iofd_words.specs.declared.numbers.FileNo.{FileNo}
use Rattle.iofd_words.specs.declared.numbers.ObjId.{ObjId}
use Rattle.iofd_words.specs.declared.rows.Attachment.{Attachment}
use Rattle.iofd_words.specs.declared.rows.Object.{Object}
use Rattle.iofd_words.specs.declared.rows.ObjectKind.{ObjectKind}
use Rattle.iofd_words.specs.declared.rows.ObjectKind.TheVariants as kind
use Rattle.std.proofs.lemmas.Bool.Decides.{nat_tests}

-- the object with this attachment, if it is the access object that is meant
abbrev pub reattached : FileNo → ObjId → Option ObjId → Object → Object
reattached file id attached o = cond (is_object file id o && is_access o.kind) (record o {
  kind = kind.Access attached;
}) o

-- it is what it was, or an access object with this attachment in place of another
pub data IsReattached (attached : Option ObjId) (o new : Object) : Type 0 where
  Stays : new ≡ o → IsReattached attached o new
  Attaches : (before : Option ObjId) → o.kind ≡ kind.Access before → new ≡ record o { kind = kind.Access attached }
      → IsReattached attached o new

pub reattached_is : (file : FileNo) (id : ObjId) (attached : Option ObjId) (o : Object)
    → IsReattached attached o (reattached file id attached o)
reattached_is file id attached o = by_kind (is_object file id o) o.kind refl
  where
    by_kind : (named : Bool) (k : ObjectKind) → o.kind ≡ k
        → IsReattached attached o (cond (named && is_access o.kind) (record o { kind = kind.Access attached }) o)
    by_kind false k is = Stays refl
    by_kind true kind.Ioas is = rw is (Stays refl)
    by_kind true (kind.Hwpt ioas width automatic) is = rw is (Stays refl)
    by_kind true (kind.Device device) is = rw is (Stays refl)
    by_kind true (kind.Access before) is = rw is (Attaches before refl refl)

-- it keeps its name
pub same_name : (attached : Option ObjId) (o new : Object) → IsReattached attached o new
    → (new.file ≡ o.file) × (new.id ≡ o.id)
same_name attached o new (Stays is) = (ap (λ (x : Object). x.file) is, ap (λ (x : Object). x.id) is)
same_name attached o new (Attaches before is made) =
    (ap (λ (x : Object). x.file) made, ap (λ (x : Object). x.id) made)

-- ---- what tells no attachment of an access object from another

abbrev pub IsBlind : (Object → Bool) → Type 0
IsBlind p = (o : Object) (before attached : Option ObjId) → o.kind ≡ kind.Access before
    → p (record o { kind = kind.Access attached }) ≡ p o

pub blind_same : (p : Object → Bool) → IsBlind p → (attached : Option ObjId) (o new : Object)
    → IsReattached attached o new → p new ≡ p o
blind_same p blind attached o new (Stays is) = ap p is
blind_same p blind attached o new (Attaches before is made) = ap p made ∙ blind o before attached is

-- there is a kind that passes the test
abbrev passes : (ObjectKind → Bool) → Option ObjectKind → Bool
passes p o = elim o [ Some k ↦ p k | None ↦ false ]

module _ (file : FileNo) (id : ObjId) (attached : Option ObjId) where
  abbrev turned : Object → Object
  turned o = reattached file id attached o

  same_test : (p : Object → Bool) → IsBlind p → (o : Object) → p (turned o) ≡ p o
  same_test p blind o = blind_same p blind attached o (turned o) (reattached_is file id attached o)

  pub any_reattached : (p : Object → Bool) → IsBlind p → (objects : List Object)
      → list_any p (with_access file id attached objects) ≡ list_any p objects
  any_reattached p blind [] = refl
  any_reattached p blind (o ∷ objects) = rw (same_test p blind o, any_reattached p blind objects) refl

  pub all_reattached : (p : Object → Bool) → IsBlind p → (objects : List Object)
      → list_all p (with_access file id attached objects) ≡ list_all p objects
  all_reattached p blind [] = refl
  all_reattached p blind (o ∷ objects) = rw (same_test p blind o, all_reattached p blind objects) refl

  pub count_reattached : (p : Object → Bool) → IsBlind p → (objects : List Object)
      → count_by p (with_access file id attached objects) ≡ count_by p objects
  count_reattached p blind [] = refl
  count_reattached p blind (o ∷ objects) =
      rw (
        count-cons p (turned o) (with_access file id attached objects),
        count-cons p o objects,
        same_test p blind o,
        count_reattached p blind objects,
      ) refl

  -- the first object that passes a test which no access object passes
  pub found_reattached : (p : Object → Bool)
      → ((o : Object) (before : Option ObjId) → o.kind ≡ kind.Access before → p o ≡ false) → (objects : List Object)
      → find p (with_access file id attached objects) ≡ find p objects
  found_reattached p none [] = refl
  found_reattached p none (o ∷ objects) =
      by_change (turned o) (reattached_is file id attached o) (found_reattached p none objects)
    where
      by_change : (new : Object) → IsReattached attached o new
          → find p (with_access file id attached objects) ≡ find p objects
          → cond (p new) (Some new) (find p (with_access file id attached objects))
          ≡ cond (p o) (Some o) (find p objects)
      by_change new (Stays is) rest = rw (is, rest) refl
      by_change new (Attaches before is made) rest =
          rw (made, none o before is, none (record o { kind = kind.Access attached }) attached refl) rest

  -- an object of another kind has it still, under its name
  pub kind_reattached : (objects : List Object) (own : FileNo) (at : ObjId) (k : ObjectKind) → is_access k ≡ false
      → kind_of objects own at ≡ Some k → kind_of (with_access file id attached objects) own at ≡ Some k
  kind_reattached [] own at k other is = is
  kind_reattached (o ∷ objects) own at k other is =
      by_change (turned o) (reattached_is file id attached o) (is_object own at o) refl
      (kind_reattached objects own at k other) is
    where
      rest : Option Object
      rest = find (is_object own at) (with_access file id attached objects)

      by_change : (new : Object) → IsReattached attached o new → (b : Bool) → is_object own at o ≡ b
          → (kind_of objects own at ≡ Some k → kind_of (with_access file id attached objects) own at ≡ Some k)
          → elim (cond b (Some o) (find (is_object own at) objects)) as (λ _. Option ObjectKind)
          [ Some x ↦ Some x.kind | None ↦ None ] ≡ Some k
          → elim (cond (is_object own at new) (Some new) rest) as (λ _. Option ObjectKind)
          [ Some x ↦ Some x.kind | None ↦ None ] ≡ Some k
      by_change new (Stays same) true named later is = rw (same, named) is
      by_change new (Stays same) false named later is = rw (same, named) (later is)
      by_change new (Attaches before was made) false named later is = rw (made, named) (later is)
      by_change new (Attaches before was made) true named later is =
          let clash : is_access o.kind ≡ false =
          let here : o.kind ≡ k = cc in ap is_access here ∙ other in
          let access = ap is_access was in
          cc

  -- under another name the kind is the same
  pub kind_elsewhere : (objects : List Object) (own : FileNo) (at : ObjId)
      → (eqb own.0 file.0 && eqb at.0 id.0) ≡ false
      → kind_of (with_access file id attached objects) own at ≡ kind_of objects own at
  kind_elsewhere [] own at other = refl
  kind_elsewhere (o ∷ objects) own at other =
      by_name (is_object own at o) refl (is_object file id o) refl (kind_elsewhere objects own at other)
    where
      kind_from : Option Object → Option ObjectKind
      kind_from found = elim found as (λ _. Option ObjectKind) [ Some x ↦ Some x.kind | None ↦ None ]

      not_both : is_object own at o ≡ true → is_object file id o ≡ true → ⊥
      not_both here there =
          let never : (eqb own.0 file.0 && eqb at.0 id.0) ≡ true = grind (arith, nat_tests) in
          let clash = sym never ∙ other in
          cc

      by_name : (b : Bool) → is_object own at o ≡ b → (c : Bool) → is_object file id o ≡ c
          → kind_of (with_access file id attached objects) own at ≡ kind_of objects own at
          → kind_from (cond (is_object own at (turned o)) (Some (turned o))
          (find (is_object own at) (with_access file id attached objects)))
          ≡ kind_from (cond b (Some o) (find (is_object own at) objects))
      by_name b is false other_name rest =
          let stays : turned o ≡ o = rw other_name refl in rw (stays, is) (by_first b rest)
        where
          by_first : (b : Bool)
              → kind_of (with_access file id attached objects) own at ≡ kind_of objects own at
              → kind_from (cond b (Some o) (find (is_object own at) (with_access file id attached objects)))
              ≡ kind_from (cond b (Some o) (find (is_object own at) objects))
          by_first true rest = refl
          by_first false rest = rest
      by_name true is true same rest = absurd (not_both is same)
      by_name false is true same rest =
          let no : is_object own at (turned o) ≡ false =
          same_test (is_object own at) (λ x before after kind. refl) o ∙ is in
          rw no rest

  -- a test of the kind under a name, which tells no attachment of an access object from another
  pub test_reattached : (p : ObjectKind → Bool)
      → ((before after : Option ObjId) → p (kind.Access after) ≡ p (kind.Access before))
      → (objects : List Object) (own : FileNo) (at : ObjId)
      → passes p (kind_of (with_access file id attached objects) own at) ≡ passes p (kind_of objects own at)
  test_reattached p blind [] own at = refl
  test_reattached p blind (o ∷ objects) own at =
      by_change (turned o) (reattached_is file id attached o) (is_object own at o) refl
      (test_reattached p blind objects own at)
    where
      rest : Option Object
      rest = find (is_object own at) (with_access file id attached objects)

      tested : Option Object → Bool
      tested found = passes p (elim found as (λ _. Option ObjectKind) [ Some x ↦ Some x.kind | None ↦ None ])

      by_change : (new : Object) → IsReattached attached o new → (b : Bool) → is_object own at o ≡ b
          → tested rest ≡ tested (find (is_object own at) objects)
          → tested (cond (is_object own at new) (Some new) rest)
          ≡ tested (cond b (Some o) (find (is_object own at) objects))
      by_change new (Stays same) true named later = rw (same, named) refl
      by_change new (Stays same) false named later = rw (same, named) later
      by_change new (Attaches before was made) false named later = rw (made, named) later
      by_change new (Attaches before was made) true named later =
          rw (made, named) (blind before attached ∙ ap p (sym was))

  -- an object of another kind was there
  pub in_reattached : (objects : List Object) (x : Object) → is_access x.kind ≡ false
      → IsIn (with_access file id attached objects) x → IsIn objects x
  in_reattached objects x other within =
      let (old, before, same) = in_map turned objects x within in
      by_change old before (turned old) (reattached_is file id attached old) same
    where
      by_change : (old : Object) → IsIn objects old → (new : Object) → IsReattached attached old new → new ≡ x
          → IsIn objects x
      by_change old before new (Stays is) same = subst (IsIn objects) (sym is ∙ same) before
      by_change old before new (Attaches was is made) same =
          let access = ap (λ (o : Object). is_access o.kind) (sym made ∙ same) in cc

  -- each id is that of one object, and each device is bound once, as before
  pub own_ids-reattached : (objects : List Object) → have_own_ids objects ≡ true
      → have_own_ids (with_access file id attached objects) ≡ true
  own_ids-reattached objects own = same objects ∙ own
    where
      same : (xs : List Object) → have_own_ids (with_access file id attached xs) ≡ have_own_ids xs
      same [] = refl
      same (o ∷ xs) =
          let name = same_name attached o (turned o) (reattached_is file id attached o) in
          rw (name.0, name.1, any_reattached (is_object o.file o.id) (λ x before after is. refl) xs, same xs) refl

  pub once-reattached : (objects : List Object) → AreBoundOnce objects
      → AreBoundOnce (with_access file id attached objects)
  once-reattached objects once device =
      subst (λ (n : ℕ). n ≤ 1) (sym (count_reattached (λ o. is_bound_as device o.kind)
      (λ o before after is. ap (is_bound_as device) (sym is)) objects)) (once device)

  -- the same address spaces have page tables
  pub hwpt-reattached : (objects : List Object) (own : FileNo) (ioas : ObjId)
      → has_hwpt (with_access file id attached objects) own ioas ≡ has_hwpt objects own ioas
  hwpt-reattached objects own ioas =
      any_reattached (λ o. eqb o.file.0 own.0 && is_hwpt_over ioas o.kind) blind objects
    where
      blind : IsBlind (λ o. eqb o.file.0 own.0 && is_hwpt_over ioas o.kind)
      blind o before after is = ap (λ k. eqb o.file.0 own.0 && is_hwpt_over ioas k) (sym is)

  -- the same devices are attached to them
  pub attached-reattached : (objects : List Object) (own : FileNo) (ioas : ObjId) (a : Attachment)
      → is_attached_to (with_access file id attached objects) own ioas a ≡ is_attached_to objects own ioas a
  attached-reattached objects own ioas a =
      ap (λ b. eqb a.file.0 own.0 && b)
      (test_reattached (is_hwpt_over ioas) (λ before after. refl) objects a.file a.hwpt)

-- The page tables among the objects: what is left of them where objects go, and the one that is kept for an attachment.
use Rattle.std.proofs.Common.{◌≡◌, Bool, true, false, cond, List, [], ◌∷◌, map, refl, ap, sym, ◌∙◌}
use Rattle.std.proofs.Common.{Option, Some, None}
use Rattle.std.specs.List.{filter, find}
use Rattle.std.specs.Option.{option_map}
use Rattle.page_table_set.specs.PageTables.{Hwpt, hwpt_of}
use Rattle.iofd_rows.proofs.Each.{found_kept, in_filter, of_all}
use Rattle.iofd_rows.proofs.ListTests.{filter_all}
use Rattle.iofd_rows.proofs.Named.{object_of_kind}
use Rattle.iofd_words.specs.Objects.{is_hwpt, is_object, kind_of}
use Rattle.iofd_words.specs.declared.rows.Attachment.{Attachment}
use Rattle.iofd_words.specs.declared.rows.Object.{Object}
use Rattle.iofd_words.specs.declared.rows.ObjectKind.{ObjectKind}
use Rattle.server_state.proofs.PageTables.{found_among}
use Rattle.server_state.specs.Tables.{page_tables_among}

-- ---- where objects go

filter_swapped : {X : Type 0} (p q : X → Bool) (xs : List X) → filter p (filter q xs) ≡ filter q (filter p xs)
filter_swapped p q [] = refl
filter_swapped p q (x ∷ xs) = by_tests (p x) (q x) refl refl (filter_swapped p q xs)
  where
    by_tests : (a b : Bool) → p x ≡ a → q x ≡ b → filter p (filter q xs) ≡ filter q (filter p xs)
        → filter p (cond b (x ∷ filter q xs) (filter q xs)) ≡ filter q (cond a (x ∷ filter p xs) (filter p xs))
    by_tests true true is_p is_q rest = rw (is_p, is_q) (ap (λ l. x ∷ l) rest)
    by_tests true false is_p is_q rest = rw is_q rest
    by_tests false true is_p is_q rest = rw is_p rest
    by_tests false false is_p is_q rest = rest

pub among_left : (q : Object → Bool) (objects : List Object)
    → page_tables_among (filter q objects) ≡ filter q (page_tables_among objects)
among_left q objects = filter_swapped (λ (o : Object). is_hwpt o.kind) q objects

-- no page table goes
pub among_stay : (q : Object → Bool) (objects : List Object) → ((o : Object) → is_hwpt o.kind ≡ true → q o ≡ true)
    → page_tables_among (filter q objects) ≡ page_tables_among objects
among_stay q objects stays =
    among_left q objects
    ∙ filter_all q (page_tables_among objects)
    (of_all q (page_tables_among objects) (λ o within. stays o
    (in_filter (λ (x : Object). is_hwpt x.kind) objects o within).1))

-- ---- that of an attachment

-- the page table of an attachment is kept
pub found_hwpt : (objects : List Object) (tables : List Hwpt) (a : Attachment) (k : ObjectKind)
    → map (λ (h : Hwpt). h.object) tables ≡ page_tables_among objects
    → kind_of objects a.file a.hwpt ≡ Some k → is_hwpt k ≡ true → (h : Hwpt) × (hwpt_of tables a.file a.hwpt ≡ Some h)
    × (h.object.file ≡ a.file) × (h.object.kind ≡ k)
found_hwpt objects tables a k are is hwpt =
    let (object, found, within, of_file, of_id, of_kind) = object_of_kind objects a.file a.hwpt k is in
    let kept : find (is_object a.file a.hwpt) (map (λ (h : Hwpt). h.object) tables) ≡ Some object =
    ap (find (is_object a.file a.hwpt)) are ∙ found_kept (is_object a.file a.hwpt) (λ (o : Object). is_hwpt o.kind)
    objects object found (ap is_hwpt of_kind ∙ hwpt) in
    by_found (hwpt_of tables a.file a.hwpt) refl object (sym (found_among (is_object a.file a.hwpt) tables)
    ∙ kept) of_file of_kind
  where
    by_found : (o : Option Hwpt) → hwpt_of tables a.file a.hwpt ≡ o → (object : Object)
        → option_map (λ (h : Hwpt). h.object) (hwpt_of tables a.file a.hwpt) ≡ Some object → object.file ≡ a.file
        → object.kind ≡ k
        → (h : Hwpt) × (hwpt_of tables a.file a.hwpt ≡ Some h) × (h.object.file ≡ a.file) × (h.object.kind ≡ k)
    by_found None is object of of_file of_kind = absurd (never (sym (ap (option_map (λ (h : Hwpt). h.object)) is) ∙ of))
      where
        never : None ≡ Some object → ⊥
        never is = cc
    by_found (Some h) is object of of_file of_kind =
        let same : h.object ≡ object = inside (sym (ap (option_map (λ (h : Hwpt). h.object)) is) ∙ of) in
        (h, is, ap (λ (o : Object). o.file) same ∙ of_file, ap (λ (o : Object). o.kind) same ∙ of_kind)
      where
        inside : Some h.object ≡ Some object → h.object ≡ object
        inside is = cc

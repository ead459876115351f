-- Some row with some range, and some range with some row.
use Rattle.std.proofs.Common.{◌≡◌, Bool, true, false, ◌||◌, List, [], ◌∷◌, refl, ap, ◌∙◌}
use Rattle.std.specs.List.{list_any}
use Rattle.iofd_rows.specs.Reached.{ends_in, keeps_of}
use Rattle.iofd_rows.proofs.Unusable.{by_rows}
use Rattle.iofd_words.specs.Bounds.{Bounds}
use Rattle.iofd_words.specs.Ranges.{meets_some}
use Rattle.iofd_words.specs.Settings.{Settings}
use Rattle.iofd_words.specs.Usable.{unusable}
use Rattle.iofd_words.specs.declared.numbers.FileNo.{FileNo}
use Rattle.iofd_words.specs.declared.numbers.ObjId.{ObjId}
use Rattle.iofd_words.specs.declared.rows.Attachment.{Attachment}
use Rattle.iofd_words.specs.declared.rows.Object.{Object}

-- tests that agree on each element find alike
pub any_alike : {X : Type 0} (p q : X → Bool) (xs : List X) → ((x : X) → p x ≡ q x) → list_any p xs ≡ list_any q xs
any_alike p q [] same = refl
any_alike p q (x ∷ xs) same = rw (same x, any_alike p q xs same) refl

pub any_or : {X : Type 0} (p q : X → Bool) (xs : List X)
    → list_any (λ x. p x || q x) xs ≡ (list_any p xs || list_any q xs)
any_or p q [] = refl
any_or p q (x ∷ xs) = rw (any_or p q xs) (apart (p x) (q x) (list_any p xs) (list_any q xs))
  where
    apart : (a b c d : Bool) → ((a || b) || (c || d)) ≡ ((a || c) || (b || d))
    apart true b c d = refl
    apart false true true d = refl
    apart false true false d = refl
    apart false false c d = refl

pub any_swapped : {X Y : Type 0} (p : X → Y → Bool) (xs : List X) (ys : List Y)
    → list_any (λ y. list_any (λ x. p x y) xs) ys ≡ list_any (λ x. list_any (p x) ys) xs
any_swapped p [] ys = none ys
  where
    none : {Z : Type 0} (zs : List Z) → list_any (λ z. false) zs ≡ false
    none [] = refl
    none (z ∷ zs) = none zs
any_swapped p (x ∷ xs) ys =
    any_or (λ y. p x y) (λ y. list_any (λ z. p z y) xs) ys ∙ ap (λ b. list_any (p x) ys || b) (any_swapped p xs ys)

-- the ranges that can't be used, by objects and by attachments
pub unusable_by_rows : (settings : Settings) (objects : List Object) (attachments : List Attachment) (file : FileNo)
    (ioas : ObjId) (ranges : List Bounds)
    → list_any (meets_some (unusable settings objects attachments file ioas)) ranges
    ≡ (list_any (λ object. list_any (λ range. ends_in file ioas range object) ranges) objects
    || list_any (λ a. list_any (λ range. keeps_of settings objects file ioas range a) ranges) attachments)
unusable_by_rows settings objects attachments file ioas ranges =
    any_alike _ (λ range. list_any (ends_in file ioas range) objects
    || list_any (keeps_of settings objects file ioas range) attachments) ranges
    (λ range. by_rows settings objects attachments file ioas range)
    ∙ any_or (λ range. list_any (ends_in file ioas range) objects)
    (λ range. list_any (keeps_of settings objects file ioas range) attachments) ranges
    ∙ ap (λ b. b || list_any (λ range. list_any (keeps_of settings objects file ioas range) attachments) ranges)
    (any_swapped (λ object range. ends_in file ioas range object) objects ranges)
    ∙ ap (λ b. list_any (λ object. list_any (λ range. ends_in file ioas range object) ranges) objects || b)
    (any_swapped (λ a range. keeps_of settings objects file ioas range a) attachments ranges)

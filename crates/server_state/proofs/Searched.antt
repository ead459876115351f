-- Rows by numbers that don't fall: the one of a number is found where the lower ones end.
use Rattle.std.proofs.Common.{◌≡◌, ℕ, zero, suc, ◌+◌, ◌<◌, ◌≤◌, Bool, true, false, cond, ◌&&◌, eqb, ltb, leb, Option}
use Rattle.std.proofs.Common.{Some, None, List, [], ◌∷◌, length, refl, ap, sym, ◌∙◌, arith, ⊎_elim}
use Rattle.std.specs.List.{AllWithin, find, list_all, prefix_len, slice_get}
use Rattle.std.specs.List.Sorted.{IsPartitionedBy}
use Rattle.std.proofs.lemmas.Bool.{and_parts, cases_Bool}
use Rattle.std.proofs.lemmas.Bool.Decides.{nat_tests}
use Rattle.std.proofs.lemmas.List.Sums.{AllPass-from_list_all}
use Rattle.iofd_runs.specs.Fits.{devices_rise}
use Rattle.iofd_words.specs.Attachments.{attachment_of}
use Rattle.iofd_words.specs.declared.numbers.DeviceNo.{DeviceNo}
use Rattle.iofd_words.specs.declared.rows.Attachment.{Attachment}

-- the rows are good, and the number of none is above those of the rows behind it
abbrev pub rises : {X : Type 0} → (X → Bool) → (X → ℕ) → List X → Bool
rises good f [] = true
rises good f (x ∷ xs) = good x && (list_all (λ y. leb (f x) (f y)) xs && rises good f xs)

-- the row, if it passes
abbrev pub passing : {X : Type 0} → (X → Bool) → Option X → Option X
passing p None = None
passing p (Some x) = cond (p x) (Some x) None

-- where those that pass end, they do so as counted from the front
pub prefix_len-from_within : {X : Type 0} (p : X → Bool) (xs : List X) (i : ℕ) → i ≤ length xs
    → AllWithin (λ y. p y ≡ true) xs 0 i → AllWithin (λ y. p y ≡ false) xs i (length xs) → i ≡ prefix_len p xs
prefix_len-from_within p [] i within passing failing = omega arith
prefix_len-from_within p (x ∷ xs) zero within passing failing =
    let here : p x ≡ false = failing 0 x (omega arith) (omega arith) in
    grind (arith, nat_tests)
prefix_len-from_within p (x ∷ xs) (suc i) within passing failing =
    let here : p x ≡ true = passing 0 x (omega arith) (omega arith) in
    let rest = prefix_len-from_within p xs i (omega arith)
    (λ k d low high. passing (suc k) d (omega arith) (omega arith))
    (λ k d low high. failing (suc k) d (omega arith) (omega arith)) in
    grind (arith, nat_tests)

module _ {X : Type 0} (good : X → Bool) (f : X → ℕ) where
  parts : (x : X) (xs : List X) → rises good f (x ∷ xs) ≡ true
      → (good x ≡ true) × (list_all (λ y. leb (f x) (f y)) xs ≡ true) × (rises good f xs ≡ true)
  parts x xs rise =
      let first = and_parts (good x) (list_all (λ y. leb (f x) (f y)) xs && rises good f xs) rise in
      let rest = and_parts (list_all (λ y. leb (f x) (f y)) xs) (rises good f xs) first.1 in
      (first.0, rest.0, rest.1)

  -- those of a lower number come first
  pub partitioned : (n : ℕ) (xs : List X) → rises good f xs ≡ true → IsPartitionedBy (λ x. ltb (f x) n) xs
  partitioned n [] rise i j d up within holds = absurd (omega (arith, within))
  partitioned n (x ∷ xs) rise zero zero d up within holds = holds
  partitioned n (x ∷ xs) rise zero (suc j) d up within holds =
      let later = AllPass-from_list_all (λ (y : X). leb (f x) (f y)) xs (parts x xs rise).1 j d
      (omega (arith, within)) in
      grind (arith, nat_tests)
  partitioned n (x ∷ xs) rise (suc i) zero d up within holds = absurd (omega (arith, up))
  partitioned n (x ∷ xs) rise (suc i) (suc j) d up within holds =
      partitioned n xs (parts x xs rise).2 i j d (omega (arith, up)) (omega (arith, within)) holds

  module _ (p : X → Bool) (n : ℕ) (tells : (x : X) → good x ≡ true → p x ≡ eqb (f x) n) where
    -- behind a number that is above it there is none
    none_above : (x : X) (xs : List X) → n < f x → list_all (λ y. leb (f x) (f y)) xs ≡ true
        → rises good f xs ≡ true → find p xs ≡ None
    none_above x [] above low rise = refl
    none_above x (y ∷ ys) above low rise =
        let both = and_parts (leb (f x) (f y)) (list_all (λ z. leb (f x) (f z)) ys) low in
        let of_y = parts y ys rise in
        let first : leb (f x) (f y) ≡ true = both.0 in
        let other : eqb (f y) n ≡ false = grind (arith, nat_tests) in
        let fails : p y ≡ false = tells y of_y.0 ∙ other in
        rw fails (none_above x ys above both.1 of_y.2)

    pub searched : (xs : List X) → rises good f xs ≡ true
        → find p xs ≡ passing p (slice_get xs (prefix_len (λ x. ltb (f x) n) xs))
    searched [] rise = refl
    searched (x ∷ xs) rise =
        ⊎_elim
        (λ (below : ltb (f x) n ≡ true).
        let other : eqb (f x) n ≡ false = grind (arith, nat_tests) in
        let fails : p x ≡ false = tells x (parts x xs rise).0 ∙ other in
        let next : 1 + prefix_len (λ (y : X). ltb (f y) n) xs ≡ suc (prefix_len (λ (y : X). ltb (f y) n) xs) =
        omega arith in
        rw (below, fails, next) (searched xs (parts x xs rise).2))
        (λ (reached : ltb (f x) n ≡ false). rw reached (by_test (p x) refl reached))
        (cases_Bool (ltb (f x) n))
      where
        by_test : (b : Bool) → p x ≡ b → ltb (f x) n ≡ false
            → cond (p x) (Some x) (find p xs) ≡ cond (p x) (Some x) None
        by_test true is reached = rw is refl
        by_test false is reached =
            let other : eqb (f x) n ≡ false = sym (tells x (parts x xs rise).0) ∙ is in
            let above : n < f x = grind (arith, nat_tests) in
            rw (is, none_above x xs above (parts x xs rise).1 (parts x xs rise).2) refl

-- attachments rise by their devices
pub attachments_rise : (attachments : List Attachment) → devices_rise attachments ≡ true
    → rises (λ _. true) (λ (a : Attachment). a.device.0) attachments ≡ true
attachments_rise [] rise = refl
attachments_rise (a ∷ attachments) rise =
    let both = and_parts (list_all (λ (b : Attachment). ltb a.device.0 b.device.0) attachments)
    (devices_rise attachments) rise in
    rw (weaker attachments both.0) (attachments_rise attachments both.1)
  where
    weaker : (others : List Attachment) → list_all (λ (b : Attachment). ltb a.device.0 b.device.0) others ≡ true
        → list_all (λ (b : Attachment). leb a.device.0 b.device.0) others ≡ true
    weaker [] low = refl
    weaker (b ∷ others) low =
        let both = and_parts (ltb a.device.0 b.device.0) (list_all (λ (c : Attachment). ltb a.device.0 c.device.0)
        others) low in
        let first : ltb a.device.0 b.device.0 ≡ true = both.0 in
        let here : leb a.device.0 b.device.0 ≡ true = grind (arith, nat_tests) in
        rw here (weaker others both.1)

-- so the device's attachment is found where those of lower devices end
pub attachment_there : (attachments : List Attachment) (device : DeviceNo) → devices_rise attachments ≡ true
    → (o : Option Attachment)
    → slice_get attachments (prefix_len (λ (a : Attachment). ltb a.device.0 device.0) attachments) ≡ o
    → attachment_of attachments device ≡ passing (λ (a : Attachment). eqb a.device.0 device.0) o
attachment_there attachments device rise o is =
    searched (λ (a : Attachment). true) (λ (a : Attachment). a.device.0)
    (λ (a : Attachment). eqb a.device.0 device.0) device.0 (λ a good. refl) attachments
    (attachments_rise attachments rise)
    ∙ ap (passing (λ (a : Attachment). eqb a.device.0 device.0)) is

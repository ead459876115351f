-- The counts of devices' turns, at the opening and with each record.
use Rattle.std.proofs.Common.{◌≡◌, ◌<◌, ◌≤◌, ◌+◌, ◌^◌, ℕ, zero, suc, Bool, true, false, cond, eqb, Option, Some, None, List}
use Rattle.std.proofs.Common.{[], ◌∷◌, ◌++◌, length, replicate, refl, sym, ◌∙◌, ap, arith, slice_index, slice_set}
use Rattle.std.proofs.lemmas.Bool.Decides.{nat_tests}
use Rattle.std.proofs.lemmas.List.Sums.{count_by-le-length, sum_by-append}
use Rattle.std.specs.Option.{option_map}
use Rattle.std.specs.List.{slice_get}
use Rattle.iofd_words.specs.Files.{device_of, numbered}
use Rattle.iofd_words.specs.Record.{Record}
use Rattle.iofd_words.specs.Settings.{DeviceSettings, Settings}
use Rattle.iofd_words.specs.Turns.{is_turn_of, turns_of}
use Rattle.iofd_words.specs.declared.numbers.DeviceNo.{DeviceNo}
use Rattle.iommufd_core.specs.TurnCounts.{AreTurns, HaveRoom, count_for, counted_with}

-- ---- at the opening

zeros_numbered : {X : Type 0} (xs : List X) (n : ℕ)
    → numbered {A = ℕ} (replicate (length xs) 0) n ≡ option_map {T = X} {U = ℕ} (λ x. 0) (numbered xs n)
zeros_numbered xs zero = refl
zeros_numbered xs (suc n) = by_place xs n
  where
    by_place : {X : Type 0} (xs : List X) (n : ℕ)
        → slice_get {X = ℕ} (replicate (length xs) 0) n ≡ option_map {T = X} {U = ℕ} (λ x. 0) (slice_get xs n)
    by_place [] n = refl
    by_place (x ∷ xs) zero = refl
    by_place (x ∷ xs) (suc n) = by_place xs n

-- none is a turn
pub none_counted : (A : Type 0) (settings : Settings) → AreTurns {A = A} (replicate (length settings.devices) 0) settings []
none_counted A settings = λ device. zeros_numbered settings.devices device.0

-- ---- one more record

turns_more : {A : Type 0} (device : DeviceNo) (records : List (Record A)) (r : Record A)
    → turns_of device (records ++ r ∷ []) ≡ counted_with r.event device (turns_of device records)
turns_more {A = A} device records r =
    sum_by-append (λ (x : Record A). cond (is_turn_of device x.event) 1 0) records (r ∷ [])
    ∙ by_turn (is_turn_of device r.event) (turns_of device records)
  where
    by_turn : (b : Bool) (n : ℕ) → n + (0 + cond b 1 0) ≡ cond b (n + 1) n
    by_turn true n = refl
    by_turn false n = omega arith

module _ {A : Type 0} (counts later : List ℕ) (settings : Settings) (records : List (Record A)) (r : Record A) where
  pub one_counted : AreTurns counts settings records
      → ((device : DeviceNo) → count_for later device
      ≡ option_map (counted_with r.event device) (count_for counts device))
      → AreTurns later settings (records ++ r ∷ [])
  one_counted are counted = λ device.
      counted device ∙ ap (option_map (counted_with r.event device)) (are device)
      ∙ by_device device (device_of settings device)
    where
      by_device : (device : DeviceNo) (o : Option DeviceSettings)
          → option_map (counted_with r.event device) (option_map (λ there. turns_of device records) o)
          ≡ option_map (λ there. turns_of device (records ++ r ∷ [])) o
      by_device device None = refl
      by_device device (Some there) = ap Some (sym (turns_more device records r))

-- while there is place for one more record, there is for one more turn
pub room_for_one : {A : Type 0} (counts : List ℕ) (settings : Settings) (records : List (Record A))
    → AreTurns counts settings records → length records + 1 < 2 ^ 64 → HaveRoom counts
room_for_one {A = A} counts settings records are few = λ device count is.
    by_device device count (device_of settings device) (sym is ∙ are device)
  where
    by_device : (device : DeviceNo) (count : ℕ) (o : Option DeviceSettings)
        → Some count ≡ option_map (λ there. turns_of device records) o → count + 1 < 2 ^ 64
    by_device device count None is = cc
    by_device device count (Some there) is =
        let same : count ≡ turns_of device records = cc in
        let most = count_by-le-length (λ (r : Record A). is_turn_of device r.event) records in
        omega (arith, same, most, few)

-- ---- one more of a device

-- the count of this number where there is one more turn of the device of that
abbrev pub more_at : ℕ → ℕ → ℕ → ℕ
more_at turned other count = cond (eqb turned other) (count + 1) count

set_got : (counts : List ℕ) (place other count : ℕ) → count ≡ slice_index counts place
    → slice_get (slice_set counts place (count + 1)) other ≡ option_map (more_at place other) (slice_get counts other)
set_got [] place other count is = refl
set_got (x ∷ counts) zero zero count is = ap (λ n. Some (n + 1)) is
set_got (x ∷ counts) zero (suc other) count is = unmoved (slice_get counts other)
  where
    unmoved : (o : Option ℕ) → o ≡ option_map (more_at 0 (suc other)) o
    unmoved None = refl
    unmoved (Some count) =
        let off : eqb 0 (suc other) ≡ false = grind (arith, nat_tests) in
        ap (λ (b : Bool). Some (cond b (count + 1) count)) (sym off)
set_got (x ∷ counts) (suc place) zero count is =
    let off : eqb (suc place) 0 ≡ false = grind (arith, nat_tests) in
    ap (λ (b : Bool). Some (cond b (x + 1) x)) (sym off)
set_got (x ∷ counts) (suc place) (suc other) count is =
    let same : eqb place other ≡ eqb (suc place) (suc other) = grind (arith, nat_tests) in
    set_got counts place other count is
    ∙ ap (λ (b : Bool). option_map (λ count. cond b (count + 1) count) (slice_get counts other)) same

-- where there is a count at this place
pub set_counted : (counts : List ℕ) (turned place other count : ℕ) → turned ≡ suc place
    → count ≡ slice_index counts place
    → numbered (slice_set counts place (count + 1)) other ≡ option_map (more_at turned other) (numbered counts other)
set_counted counts turned place zero count number is = refl
set_counted counts turned place (suc other) count number is =
    let same : eqb place other ≡ eqb turned (suc other) = grind (arith, nat_tests, number) in
    set_got counts place other count is
    ∙ ap (λ (b : Bool). option_map (λ count. cond b (count + 1) count) (slice_get counts other)) same

-- where there is none of the device's number
pub none_set : (counts : List ℕ) (turned other : ℕ) → numbered counts turned ≡ None
    → numbered counts other ≡ option_map (more_at turned other) (numbered counts other)
none_set counts turned other none = by_number (eqb turned other) refl (numbered counts other) refl
  where
    never : (count : ℕ) → None ≡ Some count → ⊥
    never count is = cc

    by_number : (b : Bool) → eqb turned other ≡ b → (o : Option ℕ) → numbered counts other ≡ o
        → o ≡ option_map (λ count. cond b (count + 1) count) o
    by_number b same None is = refl
    by_number false same (Some count) is = refl
    by_number true same (Some count) is =
        let numbers : turned ≡ other = search (same, arith, nat_tests) in
        absurd (never count (sym none ∙ ap (numbered counts) numbers ∙ is))

-- ---- where a count is

got_at : (counts : List ℕ) (place : ℕ) → place < length counts
    → slice_get counts place ≡ Some (slice_index counts place)
got_at [] place within = absurd (omega (arith, within))
got_at (x ∷ counts) zero within = refl
got_at (x ∷ counts) (suc place) within = got_at counts place (omega (arith, within))

got_beyond : (counts : List ℕ) (place : ℕ) → length counts ≤ place → slice_get counts place ≡ None
got_beyond [] place beyond = refl
got_beyond (x ∷ counts) zero beyond = absurd (omega (arith, beyond))
got_beyond (x ∷ counts) (suc place) beyond = got_beyond counts place (omega (arith, beyond))

pub numbered_at : (counts : List ℕ) (number place : ℕ) → number ≡ suc place → place < length counts
    → numbered counts number ≡ Some (slice_index counts place)
numbered_at counts number place is within = ap (numbered counts) is ∙ got_at counts place within

pub numbered_beyond : (counts : List ℕ) (number place : ℕ) → number ≡ suc place → length counts ≤ place
    → numbered counts number ≡ None
numbered_beyond counts number place is beyond = ap (numbered counts) is ∙ got_beyond counts place beyond

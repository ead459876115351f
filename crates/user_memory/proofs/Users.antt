-- Users' accounts, and the limits that a contract sees of them.
use Rattle.std.proofs.Common.{◌≡◌, ℕ, zero, suc, ◌+◌, ◌-◌, Bool, true, false, ◌&&◌, cond, ltb, leb, Some, None, List}
use Rattle.std.proofs.Common.{[], ◌∷◌, map, length, get_or, refl, sym, ap, ◌∙◌, arith}
use Rattle.std.specs.Prelude.{IsSome}
use Rattle.std.specs.List.{slice_get}
use Rattle.std.proofs.lemmas.Bool.{le-ltb}
use Rattle.std.proofs.lemmas.Bool.Decides.{nat_tests}
use Rattle.iofd_words.specs.Files.{numbered}
use Rattle.iofd_words.specs.declared.numbers.UserNo.{UserNo}
use Rattle.iofd_words.specs.declared.rows.UserPage.{UserPage}
use Rattle.mem_account.specs.Accounts.{fresh, held_by, is_user, limit_of}
use Rattle.mem_account.specs.declared.Account.{Account}
use Rattle.memory_objects.specs.Objects.{MemoryEntry}
use Rattle.user_memory.specs.Invariant.{AccountsTell}
use Rattle.user_memory.specs.Memory as memory
use Rattle.user_memory.specs.Memory.{Memory}
use Rattle.user_memory.proofs.Counts.{held_told}

-- the limits of the accounts
abbrev pub limits_of : List Account → List ℕ
limits_of accounts = map (λ account. account.limit) accounts

limit_at : (accounts : List Account) (k : ℕ)
    → slice_get (limits_of accounts) k ≡ cond (ltb k (length accounts)) (Some (get_or accounts k (fresh 0)).limit) None
limit_at [] k = let past = le-ltb k 0 (omega arith) in rw past refl
limit_at (a ∷ accounts) zero =
    let here : ltb 0 (suc (length accounts)) ≡ true = search (arith, nat_tests) in rw here refl
limit_at (a ∷ accounts) (suc k) = let next : ltb (suc k) (suc (length accounts)) ≡ ltb k (length accounts) =
    grind (arith, nat_tests) in rw next (limit_at accounts k)

-- the user's limit, where there is such a user
pub limit_told : (accounts : List Account) (user : ℕ)
    → numbered (limits_of accounts) user ≡ cond (is_user accounts user) (Some (limit_of accounts user)) None
limit_told accounts zero = refl
limit_told accounts (suc k) =
    let low : leb 1 (suc k) ≡ true = search (arith, nat_tests) in
    let high : leb (suc k) (length accounts) ≡ ltb k (length accounts) = grind (arith, nat_tests) in
    let place : k ≡ suc k - 1 = omega arith in
    limit_at accounts k
    ∙ by_tests (ltb k (length accounts)) (leb 1 (suc k)) (leb (suc k) (length accounts))
    (get_or accounts k (fresh 0)).limit (limit_of accounts (suc k)) low high
    (ap (λ i. (get_or accounts i (fresh 0)).limit) place)
  where
    by_tests : (p a b : Bool) (x y : ℕ) → a ≡ true → b ≡ p → x ≡ y → cond p (Some x) None ≡ cond (a && b) (Some y) None
    by_tests p a b x y one two same = rw (one, two, same) refl

pub user_known : (accounts : List Account) (user : ℕ) → IsSome (numbered (limits_of accounts) user)
    → is_user accounts user ≡ true
user_known accounts user some = by_test (is_user accounts user) (rw (limit_told accounts user) at some)
  where
    by_test : (b : Bool) → IsSome (cond b (Some (limit_of accounts user)) None) → b ≡ true
    by_test true there = refl
    by_test false there = cc

-- what a contract says of the accounts
module _ (rows : List UserPage) (accounts : List Account) (objects : List MemoryEntry) (user : UserNo)
    (told : AccountsTell accounts objects) where
  abbrev pub seen : Memory
  seen = record { pages = rows; limits = limits_of accounts; objects = objects; room = 0 }

  pub held_seen : is_user accounts user.0 ≡ true → held_by accounts user.0 ≡ memory.held_by seen user
  held_seen known = told.held user.0 known ∙ sym (held_told seen user told.told)

  pub room_seen : (count : ℕ) → memory.has_room seen user count ≡ (is_user accounts user.0
      && leb (held_by accounts user.0 + count) (limit_of accounts user.0))
  room_seen count = rw (limit_told accounts user.0, memory.has_room) (by_test (is_user accounts user.0) refl)
    where
      by_test : (b : Bool) → is_user accounts user.0 ≡ b
          → elim (cond b (Some (limit_of accounts user.0)) None)
          [ Some limit ↦ leb (memory.held_by seen user + count) limit | None ↦ false ] ≡ (b
          && leb (held_by accounts user.0 + count) (limit_of accounts user.0))
      by_test true known = let same = held_seen known in rw same refl
      by_test false known = refl

-- accounts with the same limits
limits_same : (old new : List Account) → length new ≡ length old
    → ((k : ℕ) → (get_or new k (fresh 0)).limit ≡ (get_or old k (fresh 0)).limit) → limits_of new ≡ limits_of old
limits_same [] [] count each = refl
limits_same [] (a ∷ new) count each = absurd (omega (arith, count))
limits_same (a ∷ old) [] count each = absurd (omega (arith, count))
limits_same (a ∷ old) (b ∷ new) count each =
    let here : b.limit ≡ a.limit = each 0 in
    let rest = limits_same old new (omega (arith, count)) (λ k. each (suc k)) in
    cc

pub limits_stay : (old new : List Account) → length new ≡ length old
    → ((user : ℕ) → limit_of new user ≡ limit_of old user) → limits_of new ≡ limits_of old
limits_stay old new count each = limits_same old new count (λ k.
    let place : suc k - 1 ≡ k = omega arith in
    ap (λ i. (get_or new i (fresh 0)).limit) (sym place) ∙ each (suc k)
    ∙ ap (λ i. (get_or old i (fresh 0)).limit) place)

-- What a charge or a refund makes of the accounts.
use Rattle.std.proofs.Common.{◌≡◌, ◌≢◌, ℕ, ◌+◌, ◌-◌, ◌<◌, ◌≤◌, true, false, cond, eqb, leb, List, length, get_or, refl}
use Rattle.std.proofs.Common.{sym, ap, ◌∙◌, arith, ⊎_elim}
use Rattle.std.proofs.lemmas.Bool.{and_parts, cases_eq}
use Rattle.std.proofs.lemmas.Bool.Decides.{nat_tests}
use Rattle.std.proofs.lemmas.List.{get_or-set_other, get_or-set_same, length-set}
use Rattle.mem_account.specs.Accounts.{account_of, charged, fresh, held_by, is_user, limit_of, refunded, with_held}
use Rattle.mem_account.specs.declared.Account.{Account}

-- a user's account stands in the list
user_within : (accounts : List Account) (user : ℕ) → is_user accounts user ≡ true
    → (1 ≤ user) × (user - 1 < length accounts)
user_within accounts user known =
    let parts = and_parts (leb 1 user) (leb user (length accounts)) known in
    let low : 1 ≤ user = search (parts.0, arith, nat_tests) in
    let high : user ≤ length accounts = search (parts.1, arith, nat_tests) in
    (low, omega (arith, low, high))

module _ (accounts : List Account) (user held : ℕ) (known : is_user accounts user ≡ true) where
  pub length-held : length (with_held accounts user held) ≡ length accounts
  length-held = length-set accounts (user - 1) (record { limit = limit_of accounts user; held = held })

  at_place : (v : ℕ) → v - 1 ≡ user - 1 → account_of (with_held accounts user held)
      v ≡ record { limit = limit_of accounts user; held = held }
  at_place v same =
      let within = user_within accounts user known in
      rw same (get_or-set_same accounts (user - 1) (record {
        limit = limit_of accounts user;
        held = held;
      }) (fresh 0) within.1)

  elsewhere : (v : ℕ) → v - 1 ≢ user - 1 → account_of (with_held accounts user held) v ≡ account_of accounts v
  elsewhere v differ = get_or-set_other accounts (user - 1) (v - 1) (record {
    limit = limit_of accounts user;
    held = held;
  }) (fresh 0) differ

  pub same_limits : (v : ℕ) → limit_of (with_held accounts user held) v ≡ limit_of accounts v
  same_limits v =
      ⊎_elim
      (λ (same : v - 1 ≡ user - 1). ap (λ (a : Account). a.limit) (at_place v same)
      ∙ ap (λ k. (get_or accounts k (fresh 0)).limit) (sym same))
      (λ (differ : v - 1 ≢ user - 1). ap (λ (a : Account). a.limit) (elsewhere v differ))
      (cases_eq (v - 1) (user - 1))

  pub held_there : held_by (with_held accounts user held) user ≡ held
  held_there = ap (λ (a : Account). a.held) (at_place user refl)

  pub held_elsewhere : (v : ℕ) → is_user accounts v ≡ true → v ≢ user
      → held_by (with_held accounts user held) v ≡ held_by accounts v
  held_elsewhere v one differ =
      let within = user_within accounts user known in
      let other = user_within accounts v one in
      let apart : v - 1 ≢ user - 1 = λ same. differ (omega (arith, same, within.0, other.0)) in
      ap (λ (a : Account). a.held) (elsewhere v apart)

-- a user holds so many more
pub charged_held : (accounts : List Account) (user n v : ℕ) → is_user accounts user ≡ true → is_user accounts v ≡ true
    → held_by (charged accounts user n) v ≡ held_by accounts v + cond (eqb user v) n 0
charged_held accounts user n v known one =
    ⊎_elim
    (λ (same : v ≡ user).
    let here : eqb user v ≡ true = grind (arith, nat_tests) in
    rw (here, same) (held_there accounts user (held_by accounts user + n) known))
    (λ (differ : v ≢ user).
    let other : eqb user v ≡ false = grind (arith, nat_tests) in
    rw other (held_elsewhere accounts user (held_by accounts user + n) known v one differ ∙ omega arith))
    (cases_eq v user)

-- or so many less
pub refunded_held : (accounts : List Account) (user n v : ℕ) → is_user accounts user ≡ true → is_user accounts v ≡ true
    → n ≤ held_by accounts user → held_by (refunded accounts user n) v + cond (eqb user v) n 0 ≡ held_by accounts v
refunded_held accounts user n v known one enough =
    ⊎_elim
    (λ (same : v ≡ user).
    let here : eqb user v ≡ true = grind (arith, nat_tests) in
    let left = held_there accounts user (held_by accounts user - n) known in
    rw (here, same) (omega (arith, left, enough)))
    (λ (differ : v ≢ user).
    let other : eqb user v ≡ false = grind (arith, nat_tests) in
    let left = held_elsewhere accounts user (held_by accounts user - n) known v one differ in
    rw other (omega (arith, left)))
    (cases_eq v user)

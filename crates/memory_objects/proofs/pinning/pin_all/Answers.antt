use Rattle.std.proofs.Common.{◌≡◌, ◌+◌, ◌∷◌, ◌∙◌, drop, get_or, take, true, refl, sym, ap, subst}
use Rattle.std.proofs.lemmas.List.{drop_more, take_more}
use Rattle.memory_objects.proofs.Moved.{accounts_further, accounts_stay, holds_further, holds_stay}
use Rattle.memory_objects.proofs.PinAll.{can_first, can_next, pinned_next, pinned_none}
use Rattle.memory_objects.specs.Backed.{AccountsMove, CanPin, HoldsMove}
use Rattle.memory_objects.specs.Objects.{MemoryEntry, all_pinned, are_rising, standing}
use Rattle.std.proofs.Common.{List, ℕ, []}
use Rattle.memory_objects.proofs.pinning.pin_all.Goals as goal

pub loop-number-init : goal.loop-number-init
loop-number-init g c = record {
  entries = pinned_none c.args.users.now.pages (standing c.args.entries.now.items);
  gone = refl;
  rising = c.requires.rising;
  can = c.requires.can;
  pool = holds_stay (standing c.args.entries.now.items) c.args.pool.now;
  accounts = accounts_stay (standing c.args.entries.now.items) c.args.accounts.now;
  len = refl;
  capacity = refl;
}

pub pin_one-requires-clause-can : goal.pin_one-requires-clause-can
pin_one-requires-clause-can g c =
    let numbers = c.args.numbers.now in
    let i = c.loop-number.number-index in
    let rows = c.args.users.now.pages in
    let P : List ℕ → Type 0 =
    λ ns. CanPin (standing c.loop-number.entries.items) ns rows c.loop-number.pool.holds c.loop-number.accounts in
    can_first (standing c.loop-number.entries.items) (get_or numbers i 0) (drop (i + 1) numbers) rows
    c.loop-number.pool.holds c.loop-number.accounts
    (subst P (drop_more numbers i 0 c.loop-number-test.true) c.loop-number.invariant.can)

pub loop-number-preserved : goal.loop-number-preserved
loop-number-preserved g c =
    let numbers = c.args.numbers.now in
    let i = c.loop-number.number-index in
    let n = get_or numbers i 0 in
    let rows = c.args.users.now.pages in
    let before = (standing c.loop-number.entries.items) in
    let objects = (standing c.args.entries.now.items) in
    let P : List ℕ → Type 0 = λ ns. CanPin before ns rows c.loop-number.pool.holds c.loop-number.accounts in
    let can = subst P (drop_more numbers i 0 c.loop-number-test.true) c.loop-number.invariant.can in
    let is = c.pin_one.ensures.entries in
    let H : List MemoryEntry → Type 0 = λ xs. HoldsMove before xs c.loop-number.pool c.pin_one.new.pool in
    let A : List MemoryEntry → Type 0 = λ xs. AccountsMove before xs c.loop-number.accounts c.pin_one.new.accounts in
    let C : List MemoryEntry → Type 0 =
    λ xs. CanPin xs (drop (i + 1) numbers) rows c.pin_one.new.pool.holds c.pin_one.new.accounts in
    let R : List MemoryEntry → Type 0 = λ xs. are_rising xs ≡ true in
    record {
      entries = is ∙ ap (all_pinned rows (n ∷ [])) c.loop-number.invariant.entries
          ∙ pinned_next rows objects (take i numbers) n
          ∙ ap (λ ns. all_pinned rows ns objects) (sym (take_more numbers i 0 c.loop-number-test.true));
      gone = c.pin_one.ensures.gone ∙ c.loop-number.invariant.gone;
      rising = c.pin_one.ensures.rising;
      can = subst C (sym is) (can_next before n (drop (i + 1) numbers) rows c.loop-number.pool c.pin_one.new.pool
          c.loop-number.accounts c.pin_one.new.accounts can (subst H is c.pin_one.ensures.pool)
          (subst A is c.pin_one.ensures.accounts));
      pool = holds_further objects before (standing c.pin_one.new.entries.items) c.args.pool.now c.loop-number.pool
          c.pin_one.new.pool c.loop-number.invariant.pool c.pin_one.ensures.pool;
      accounts = accounts_further objects before (standing c.pin_one.new.entries.items) c.args.accounts.now
          c.loop-number.accounts c.pin_one.new.accounts c.loop-number.invariant.accounts c.pin_one.ensures.accounts;
      len = c.pin_one.ensures.len ∙ c.loop-number.invariant.len;
      capacity = c.pin_one.ensures.capacity ∙ c.loop-number.invariant.capacity;
    }

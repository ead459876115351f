use Rattle.std.proofs.Common.{◌≡◌, ℕ, ◌+◌, true, List, [], ◌∷◌, drop, get_or, take, refl, sym, ap, ◌∙◌, subst}
use Rattle.std.proofs.lemmas.List.{drop_more, take_more}
use Rattle.memory_objects.specs.Backed.{AccountsMove, AreBacked, HoldsMove}
use Rattle.memory_objects.specs.Objects.{MemoryEntry, all_unpinned, are_rising, have_pins, standing}
use Rattle.memory_objects.proofs.Moved.{accounts_further, accounts_stay, holds_further, holds_stay}
use Rattle.memory_objects.proofs.Unpinned.{backed_moved, pins_first, pins_next, unpin_at, unpinned_next, unpinned_none}
use Rattle.memory_objects.proofs.pinning.unpin_all.Goals as goal

pub loop-number-init : goal.loop-number-init
loop-number-init g c = record {
  entries = unpinned_none (standing c.args.entries.now.items);
  gone = refl;
  rising = c.requires.rising;
  pins = c.requires.pins;
  backed = c.requires.backed;
  pool = holds_stay (standing c.args.entries.now.items) c.args.pool.now;
  accounts = accounts_stay (standing c.args.entries.now.items) c.args.accounts.now;
  len = refl;
  capacity = refl;
}

pub unpin_one-requires-clause-pins : goal.unpin_one-requires-clause-pins
unpin_one-requires-clause-pins g c =
    let numbers = c.args.numbers.now in
    let i = c.loop-number.number-index in
    let P : List ℕ → Type 0 = λ ns. have_pins ns (standing c.loop-number.entries.items) ≡ true in
    pins_first (get_or numbers i 0) (drop (i + 1) numbers) (standing c.loop-number.entries.items)
    (subst P (drop_more numbers i 0 c.loop-number-test.true) c.loop-number.invariant.pins)

pub loop-number-preserved : goal.loop-number-preserved
loop-number-preserved g c =
    let numbers = c.args.numbers.now in
    let i = c.loop-number.number-index in
    let n = get_or numbers i 0 in
    let before = (standing c.loop-number.entries.items) in
    let objects = (standing c.args.entries.now.items) in
    let P : List ℕ → Type 0 = λ ns. have_pins ns before ≡ true in
    let pins = subst P (drop_more numbers i 0 c.loop-number-test.true) c.loop-number.invariant.pins in
    let is = c.unpin_one.ensures.entries in
    let H : List MemoryEntry → Type 0 = λ xs. HoldsMove before xs c.loop-number.pool c.unpin_one.new.pool in
    let A : List MemoryEntry → Type 0 = λ xs. AccountsMove before xs c.loop-number.accounts c.unpin_one.new.accounts in
    let B : List MemoryEntry → Type 0 = λ xs. AreBacked xs c.unpin_one.new.pool.holds c.unpin_one.new.accounts in
    let L : List MemoryEntry → Type 0 = λ xs. have_pins (drop (i + 1) numbers) xs ≡ true in
    let R : List MemoryEntry → Type 0 = λ xs. are_rising xs ≡ true in
    record {
      entries = is ∙ ap (all_unpinned (n ∷ [])) c.loop-number.invariant.entries
          ∙ unpinned_next objects (take i numbers) n
          ∙ ap (λ ns. all_unpinned ns objects) (sym (take_more numbers i 0 c.loop-number-test.true));
      gone = c.unpin_one.ensures.gone ∙ c.loop-number.invariant.gone;
      rising = c.unpin_one.ensures.rising;
      pins = subst L (sym is) (pins_next n (drop (i + 1) numbers) before pins);
      backed = subst B (sym is) (backed_moved (unpin_at n) (λ o. refl) before c.loop-number.pool c.unpin_one.new.pool
          c.loop-number.accounts c.unpin_one.new.accounts (subst H is c.unpin_one.ensures.pool)
          (subst A is c.unpin_one.ensures.accounts) c.loop-number.invariant.backed);
      pool = holds_further objects before (standing c.unpin_one.new.entries.items) c.args.pool.now c.loop-number.pool
          c.unpin_one.new.pool c.loop-number.invariant.pool c.unpin_one.ensures.pool;
      accounts = accounts_further objects before (standing c.unpin_one.new.entries.items) c.args.accounts.now
          c.loop-number.accounts c.unpin_one.new.accounts c.loop-number.invariant.accounts c.unpin_one.ensures.accounts;
      len = c.unpin_one.ensures.len ∙ c.loop-number.invariant.len;
      capacity = c.unpin_one.ensures.capacity ∙ c.loop-number.invariant.capacity;
    }

-- One memory object with other pins: how the pool's holds and the accounts move with them.
use Rattle.std.proofs.Common.{◌≡◌, ℕ, ◌+◌, ◌-◌, ◌≤◌, Bool, true, false, cond, eqb, Some, List, length, set, refl, sym}
use Rattle.std.proofs.Common.{◌∙◌, subst, arith}
use Rattle.std.specs.List.{slice_get}
use Rattle.std.proofs.lemmas.Bool.{eqb-true}
use Rattle.std.proofs.lemmas.List.Sums.{sum_by-set}
use Rattle.iofd_words.specs.declared.numbers.FrameNo.{FrameNo}
use Rattle.frame_memory.specs.Pool.{FramePool}
use Rattle.mem_account.specs.Accounts.{charged, held_by, is_user, refunded}
use Rattle.mem_account.specs.declared.Account.{Account}
use Rattle.memory_objects.specs.Backed.{AccountsMove, HoldsMove}
use Rattle.pinned_pages.specs.Holds.{HasMoreHolds, times}
use Rattle.memory_objects.specs.Objects.{MemoryEntry, pinned_by, pins_on}
use Rattle.pinned_pages.specs.Pages.{charged_first, count_of_others, held_frames, last_count, new_count, pinned_count}
use Rattle.pinned_pages.specs.Pages.{refunded_last}
use Rattle.memory_objects.proofs.Ledger.{charged_held, length-held, refunded_held, same_limits}
use Rattle.memory_objects.proofs.OneObject.{at_place}

-- ---- nothing moves

pub holds_stay : (objects : List MemoryEntry) (pool : FramePool) → HoldsMove objects objects pool pool
holds_stay objects pool = record { count = refl; holds = λ frame. refl; bytes = refl }

pub accounts_stay : (objects : List MemoryEntry) (accounts : List Account)
    → AccountsMove objects objects accounts accounts
accounts_stay objects accounts = record { count = refl; limits = λ user. refl; held = λ user known. refl }

-- ---- one after the other

pub holds_further : (a b c : List MemoryEntry) (p q r : FramePool) → HoldsMove a b p q → HoldsMove b c q r
    → HoldsMove a c p r
holds_further a b c p q r first next = record {
  count = next.count ∙ first.count;
  holds = λ frame. let one = first.holds frame in let two = next.holds frame in omega (arith, one, two);
  bytes = next.bytes ∙ first.bytes;
}

-- as many accounts have the same users
pub same_users : (old new : List Account) → length new ≡ length old → (user : ℕ) → is_user new user ≡ is_user old user
same_users old new same user = rw same refl

pub accounts_further : (a b c : List MemoryEntry) (p q r : List Account) → AccountsMove a b p q → AccountsMove b c q r
    → AccountsMove a c p r
accounts_further a b c p q r first next = record {
  count = next.count ∙ first.count;
  limits = λ user. next.limits user ∙ first.limits user;
  held = λ user known.
      let one = first.held user known in
      let two = next.held user (same_users p q first.count user ∙ known) in
      omega (arith, one, two);
}

-- ---- one object

charged_sum : (b : Bool) (new old pinned_old pinned_new x y n : ℕ) → new ≡ old + cond b n 0
    → pinned_new + cond b x 0 ≡ pinned_old + cond b y 0 → y ≡ x + n → new + pinned_old ≡ old + pinned_new
charged_sum true new old pinned_old pinned_new x y n now sums more = omega arith
charged_sum false new old pinned_old pinned_new x y n now sums more = omega arith

kept_sum : (b : Bool) (held pinned_old pinned_new x y : ℕ) → pinned_new + cond b x 0 ≡ pinned_old + cond b y 0
    → y ≡ x + 0 → held + pinned_old ≡ held + pinned_new
kept_sum true held pinned_old pinned_new x y sums more = omega arith
kept_sum false held pinned_old pinned_new x y sums more = omega arith

refunded_sum : (b : Bool) (new old pinned_old pinned_new x y n : ℕ) → new + cond b n 0 ≡ old
    → pinned_new + cond b x 0 ≡ pinned_old + cond b y 0 → x ≡ y + n → new + pinned_old ≡ old + pinned_new
refunded_sum true new old pinned_old pinned_new x y n now sums less = omega arith
refunded_sum false new old pinned_old pinned_new x y n now sums less = omega arith

module _ (objects : List MemoryEntry) (p : ℕ) (x y : MemoryEntry) (there : slice_get objects p ≡ Some x) where
  pins_set : (frame : ℕ) → pins_on (set objects p y) frame + times frame (held_frames x.pages.pages) ≡ pins_on objects
      frame + times frame (held_frames y.pages.pages)
  pins_set frame =
      let place = at_place objects p x x there in
      let sums = sum_by-set (λ (o : MemoryEntry). times frame (held_frames o.pages.pages)) objects p y x place.0 in
      rw place.1 at sums

  pinned_set : (user : ℕ) → y.pages.pages.user.0 ≡ x.pages.pages.user.0
      → pinned_by (set objects p y) user + cond (eqb x.pages.pages.user.0 user) (pinned_count x.pages.pages)
      0 ≡ pinned_by objects user + cond (eqb x.pages.pages.user.0 user) (pinned_count y.pages.pages) 0
  pinned_set user same =
      let place = at_place objects p x x there in
      let sums = sum_by-set (λ (o : MemoryEntry). cond (eqb o.pages.pages.user.0 user) (pinned_count o.pages.pages) 0)
      objects p y x place.0 in
      let Q : ℕ → Type 0 = λ u. pinned_by (set objects p y) user
      + cond (eqb x.pages.pages.user.0 user) (pinned_count x.pages.pages) 0 ≡ pinned_by objects user
      + cond (eqb u user) (pinned_count y.pages.pages) 0 in
      subst Q same (rw place.1 at sums)

  -- more frames are held
  pub holds_added : (before after : FramePool) (frames : List FrameNo) → HasMoreHolds before after frames
      → ((frame : ℕ) → times frame (held_frames y.pages.pages) ≡ times frame (held_frames x.pages.pages)
      + times frame frames) → HoldsMove objects (set objects p y) before after
  holds_added before after frames more held = record {
    count = more.count;
    holds = λ frame. let sums =
        pins_set frame in let own = held frame in let pool = more.holds frame in omega (arith, sums, own, pool);
    bytes = more.bytes;
  }

  -- fewer are
  pub holds_taken : (before after : FramePool) (frames : List FrameNo) → HasMoreHolds after before frames
      → ((frame : ℕ) → times frame (held_frames x.pages.pages) ≡ times frame (held_frames y.pages.pages)
      + times frame frames) → HoldsMove objects (set objects p y) before after
  holds_taken before after frames less held = record {
    count = sym less.count;
    holds = λ frame. let sums =
        pins_set frame in let own = held frame in let pool = less.holds frame in omega (arith, sums, own, pool);
    bytes = sym less.bytes;
  }

  module _ (before after : List Account) (same : y.pages.pages.user.0 ≡ x.pages.pages.user.0)
      (known : is_user before x.pages.pages.user.0 ≡ true) where
    -- so many pages more are charged, or given back
    pub accounts_more : (m : ℕ) → after ≡ charged before x.pages.pages.user.0 m
        → pinned_count y.pages.pages ≡ pinned_count x.pages.pages + m
        → AccountsMove objects (set objects p y) before after
    accounts_more m is more = record {
      count = rw is (length-held before x.pages.pages.user.0 (held_by before x.pages.pages.user.0 + m) known);
      limits = λ user. rw is (same_limits before x.pages.pages.user.0 (held_by before x.pages.pages.user.0 + m) known
          user);
      held = λ user one.
          let sums = pinned_set user same in
          let now = charged_held before x.pages.pages.user.0 m user known one in
          rw is (charged_sum (eqb x.pages.pages.user.0 user) (held_by (charged before x.pages.pages.user.0 m) user)
          (held_by before user) (pinned_by objects user) (pinned_by (set objects p y) user)
          (pinned_count x.pages.pages) (pinned_count y.pages.pages) m now sums more);
    }

    pub accounts_less : (m : ℕ) → after ≡ refunded before x.pages.pages.user.0 m
        → pinned_count x.pages.pages ≡ pinned_count y.pages.pages + m → m ≤ held_by before x.pages.pages.user.0
        → AccountsMove objects (set objects p y) before after
    accounts_less m is less enough = record {
      count = rw is (length-held before x.pages.pages.user.0 (held_by before x.pages.pages.user.0 - m) known);
      limits = λ user. rw is (same_limits before x.pages.pages.user.0 (held_by before x.pages.pages.user.0 - m) known
          user);
      held = λ user one.
          let sums = pinned_set user same in
          let now = refunded_held before x.pages.pages.user.0 m user known one enough in
          rw is (refunded_sum (eqb x.pages.pages.user.0 user) (held_by (refunded before x.pages.pages.user.0 m) user)
          (held_by before user) (pinned_by objects user) (pinned_by (set objects p y) user)
          (pinned_count x.pages.pages) (pinned_count y.pages.pages) m now sums less);
    }

    pub accounts_charged : after ≡ charged_first x.pages.pages before
        → pinned_count y.pages.pages ≡ pinned_count x.pages.pages + new_count x.pages.pages
        → AccountsMove objects (set objects p y) before after
    accounts_charged is more = by_test (eqb x.pages.pages.table_pins 0) is more
      where
        by_test : (b : Bool) → after ≡ cond b (charged before x.pages.pages.user.0 (count_of_others x.pages.pages))
            before
            → pinned_count y.pages.pages ≡ pinned_count x.pages.pages + cond b (count_of_others x.pages.pages) 0
            → AccountsMove objects (set objects p y) before after
        by_test true is more = accounts_more (count_of_others x.pages.pages) is more
        by_test false is more = record {
          count = rw is refl;
          limits = λ user. rw is refl;
          held = λ user one.
              let sums = pinned_set user same in
              rw is (kept_sum (eqb x.pages.pages.user.0 user) (held_by before user) (pinned_by objects user)
              (pinned_by (set objects p y) user) (pinned_count x.pages.pages)
              (pinned_count y.pages.pages) sums more);
        }

    pub accounts_refunded : after ≡ refunded_last x.pages.pages before
        → pinned_count x.pages.pages ≡ pinned_count y.pages.pages + last_count x.pages.pages
        → (x.pages.pages.table_pins ≡ 1 → (count_of_others x.pages.pages) ≤ held_by before x.pages.pages.user.0)
        → AccountsMove objects (set objects p y) before after
    accounts_refunded is less enough =
        by_test (eqb x.pages.pages.table_pins 1) is less (λ last. enough (eqb-true x.pages.pages.table_pins 1 last))
      where
        by_test : (b : Bool) → after ≡ cond b (refunded before x.pages.pages.user.0 (count_of_others x.pages.pages))
            before
            → pinned_count x.pages.pages ≡ pinned_count y.pages.pages + cond b (count_of_others x.pages.pages) 0
            → (b ≡ true → (count_of_others x.pages.pages) ≤ held_by before x.pages.pages.user.0)
            → AccountsMove objects (set objects p y) before after
        by_test true is less enough = accounts_less (count_of_others x.pages.pages) is less (enough refl)
        by_test false is less enough = record {
          count = rw is refl;
          limits = λ user. rw is refl;
          held = λ user one.
              let sums = pinned_set user same in
              let equal : pinned_count y.pages.pages ≡ pinned_count x.pages.pages + 0 = omega (arith, less) in
              rw is (kept_sum (eqb x.pages.pages.user.0 user) (held_by before user) (pinned_by objects user)
              (pinned_by (set objects p y) user) (pinned_count x.pages.pages)
              (pinned_count y.pages.pages) sums equal);
        }

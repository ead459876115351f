-- A pass that tries again is the same pass, of the same lock, and sees no less; a try that was refused had nothing.
use Rattle.std.proofs.Common.{append-nil, append_assoc, ◌≡◌, ℕ, ◌+◌, true, false, [], ◌++◌, sym, refl, ap, ◌∙◌, Result}
use Rattle.std.proofs.Common.{Ok, Err, OnOk, IfErr, is_ok}
use Rattle.std.proofs.lemmas.Bool.{false≢true}
use Rattle.lane_lock.specs.declared.kept.Kept as kept
use Rattle.lane_lock.specs.declared.lock.LaneLock.{LaneLock}
use Rattle.lane_lock.specs.declared.pass.Pass.{Pass}
use Rattle.lane_lock.specs.declared.refusal.Busy.{Busy}
use Rattle.lane_lock.specs.declared.refusal.NotNow.{NotNow}
use Rattle.lane_lock.specs.declared.refusal.NotNow.TheVariants.{Shared}
use Rattle.lane_lock.specs.declared.refusal.NotNow.TheVariants as refusal
use Rattle.lane_lock.specs.declared.table.View.{View}
use Rattle.lane_lock.specs.Outcomes.{HadAll, HadLane, HadNone, OnlySees, RefusesRead, RefusesWrite}
use Rattle.lane_lock.specs.Passes.{Owns, SamePass, view_of}

pub told_if_ok : {T E P : Type 0} (r : Result T E) → is_ok r ≡ true → OnOk r P → P
told_if_ok (Ok x) e told = told
told_if_ok (Err x) e told = absurd (false≢true e)

pub told_if_refused : {T E P : Type 0} (r : Result T E) (Q : E → Type 0) → is_ok r ≡ false → ((e : E) → Q e → P)
    → IfErr r Q → P
told_if_refused (Ok x) Q e f told = absurd (false≢true (sym e))
told_if_refused (Err x) Q e f told = f x told

module _ {E : Type 0} where
  pub none_had : (v : View E) → HadNone v v
  none_had v = record { reads = refl; writes = refl }

  pub none_then : (u v w : View E) → HadNone u v → HadNone v w → HadNone u w
  none_then u v w a b = record { reads = b.reads ∙ a.reads; writes = b.writes ∙ a.writes }

  pub lane_then : (u v w : View E) → HadNone u v → HadLane v w → HadLane u w
  lane_then u v w a b = record { reads = b.reads ∙ ap (λ (n : ℕ). n + 1) a.reads; writes = b.writes ∙ a.writes }

  pub all_then : (u v w : View E) → HadNone u v → HadAll v w → HadAll u w
  all_then u v w a b = record { reads = b.reads ∙ a.reads; writes = b.writes ∙ ap (λ (n : ℕ). n + 1) a.writes }

  -- a refused read had nothing
  pub read_had : (v w : View E) (lane : ℕ) (e : NotNow) → RefusesRead v w lane e → HadNone v w
  read_had v w lane (refusal.Busy b) r = r.5
  read_had v w lane Shared r = r.4

  -- nor had a refused write
  pub write_had : (v w : View E) (lanes : ℕ) (b : Busy) → RefusesWrite v w lanes b → HadNone v w
  write_had v w lanes b r = r.4

  pub sees_same : (v : View E) → OnlySees v v
  sees_same v = record {
    number = refl;
    opening = refl;
    passes = refl;
    made = refl;
    later = ([], sym (append-nil v.seen));
  }

  pub sees_then : (u v w : View E) → OnlySees u v → OnlySees v w → OnlySees u w
  sees_then u v w a b = record {
    number = b.number ∙ a.number;
    opening = b.opening ∙ a.opening;
    passes = b.passes ∙ a.passes;
    made = b.made ∙ a.made;
    later = (
      a.later.0 ++ b.later.0,
      b.later.1 ∙ (ap (λ l. l ++ b.later.0) a.later.1 ∙ append_assoc u.seen a.later.0 b.later.0),
    );
  }

module _ {K A S E : Type 0} {g : kept.Ghosts K A S E} where
  pub same_then : (p q r : Pass K A S E g) → SamePass p q → SamePass q r → SamePass p r
  same_then p q r a b =
      record { table = b.table ∙ a.table; number = b.number ∙ a.number; lane = b.lane ∙ a.lane }

  pub owned_still : (lock : LaneLock K A S E) (p q : Pass K A S E g) → Owns lock p → SamePass p q
      → OnlySees (view_of p) (view_of q) → Owns lock q
  owned_still lock p q own same sees = record {
    table = same.table ∙ own.table;
    opening = sees.opening ∙ own.opening;
    passes = sees.passes ∙ own.passes;
  }

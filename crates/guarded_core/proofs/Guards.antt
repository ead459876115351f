-- What a guard of the lock shows and makes, once it is gone.
use Rattle.std.proofs.Common.{◌≡◌, ℕ, List, [], ◌∷◌, ◌++◌, length, drop, ap, sym, ◌∙◌, subst, append-nil}
use Rattle.std.proofs.Common.{Result, Ok, Err, IfErr, IfOk, Some}
use Rattle.std.specs.Arc.{arc_value}
use Rattle.std.specs.Result.{OnErr}
use Rattle.lane_lock.specs.History.{Legal, StartsWith, made_by}
use Rattle.lane_lock.specs.Outcomes.{HadNoLane, KeepsHistory, OnlySees, RefusesRead}
use Rattle.lane_lock.specs.Passes.{Commits, IsWriting, Owns, SamePass, ShowsValue, number_of, opening_of, view_of}
use Rattle.lane_lock.specs.Steps.{share_history}
use Rattle.lane_lock.specs.Views.{IsBlank}
use Rattle.lane_lock.specs.declared.kept.Kept as kept
use Rattle.lane_lock.specs.declared.lock.LaneLock.{LaneLock}
use Rattle.lane_lock.specs.declared.pass.Pass.{Pass}
use Rattle.lane_lock.specs.declared.refusal.NotNow.{NotNow}
use Rattle.lane_lock.specs.declared.refusal.NotNow.TheVariants as refusal
use Rattle.lane_lock.specs.declared.refusal.NotNow.TheVariants.{Shared}
use Rattle.lane_lock.specs.declared.table.View.{View}
use Rattle.guarded_core.specs.Guarded.{Committed, RefusesCommit, Shown}
use Rattle.guarded_core.specs.declared.try_error.TryError.TheVariants as tried

module _ {K A S E : Type 0} {g : kept.Ghosts K A S E} where
  -- what the guard of a lock over p showed was shown to q, which the pass is once the guard is gone
  pub shown : (lock of_guard : LaneLock K A S E) (p q : Pass K A S E g) (value : K) → of_guard ≡ lock
      → g.history value ≡ (view_of p).seen → StartsWith (g.history value) (opening_of g.history of_guard)
      → Legal g.maker (length (opening_of g.history of_guard)) (g.history value) (number_of p) (view_of p).seen
      (view_of p).made → SamePass p q → KeepsHistory (view_of p) (view_of q) → IsBlank (view_of q)
      → (last : Pass K A S E g) → q ≡ last → Shown lock last value
  shown lock of_guard p q value is seen opened legal same keeps home last ends =
      subst (λ (r : Pass K A S E g). Shown lock r value) ends record {
        seen = keeps.seen ∙ sym seen;
        opened = subst (λ (l : LaneLock K A S E). StartsWith (g.history value) (opening_of g.history l)) is opened;
        legal = subst (λ (c : LaneLock K A S E × ℕ × List E × List E).
            Legal g.maker (length (opening_of g.history c.0)) (g.history value) c.1 c.2 c.3)
            (λ i. (is i, sym same.number i, sym keeps.seen i, sym keeps.made i)) legal;
        home = home;
      }

  -- a guard shows one value
  pub same_shown : (p : Pass K A S E g) (v w : K) → ShowsValue p v → ShowsValue p w → v ≡ w
  same_shown p v w (a, there, is) (b, here, same) =
      let one : a ≡ b = inside (sym there ∙ here) in
      sym is ∙ (ap arc_value one ∙ same)
    where
      inside : {X : Type 0} {x y : X} → Some x ≡ Some y → x ≡ y
      inside e = cc

  -- an act was committed under a guard; the pass was p before it, q under it, and is r once it is gone
  -- What holds of the value that the guard showed holds of the one before the act.
  pub committed_of : (lock : LaneLock K A S E) (p q r : Pass K A S E g) (act : A) (stamp : S) → Owns lock p
      → IsWriting lock q → SamePass p q → OnlySees (view_of p) (view_of q) → (commits : Commits q act stamp r)
      → IsBlank (view_of r) → (last : Pass K A S E g) → r ≡ last → (Holds : K → Type 0) → Holds commits.value
      → (c : Committed lock p act stamp last) × Holds c.before
  committed_of lock p q r act stamp owned writing same sees commits home last ends Holds holds =
      let all : g.history commits.value ≡ (view_of q).seen =
      ap g.history (sym commits.shown.2)
      ∙ (ap (λ x. share_history g.history x []) (sym commits.shown.1) ∙ writing.shows) in
      let opening : (view_of q).opening ≡ opening_of g.history lock = sees.opening ∙ owned.opening in
      let number : (view_of q).number ≡ number_of p = q.stands.1 ∙ same.number in
      subst (λ (s : Pass K A S E g). (c : Committed lock p act stamp s) × Holds c.before) ends (
        record {
          before = commits.value;
          after = commits.applied;
          entry = commits.entry;
          opened = subst (λ (c : List E × List E). StartsWith c.0 c.1) (λ i. (sym all i, opening i)) writing.opened;
          later = subst (λ (h : List E). StartsWith h (view_of p).seen) (sym all) sees.later;
          mine = subst (λ (c : ℕ × List E × List E × List E). made_by g.maker c.0 (drop (length c.1) c.2) ≡ c.3)
              (λ i. (number i, opening i, sym all i, sees.made i)) writing.legal;
          gives = subst (λ (n : ℕ). g.gives commits.value n act stamp commits.applied) same.number commits.gives;
          seen = commits.seen;
          grown = commits.appends.seen ∙ ap (λ (l : List E). l ++ commits.entry ∷ []) (sym all);
          own = commits.appends.made ∙ ap (λ (l : List E). l ++ commits.entry ∷ []) sees.made;
          home = home;
        },
        holds,
      )

  pub committed : (lock : LaneLock K A S E) (p q r : Pass K A S E g) (act : A) (stamp : S) → Owns lock p
      → IsWriting lock q → SamePass p q → OnlySees (view_of p) (view_of q) → Commits q act stamp r
      → IsBlank (view_of r) → (last : Pass K A S E g) → r ≡ last → Committed lock p act stamp last
  committed lock p q r act stamp owned writing same sees commits home last ends =
      (committed_of lock p q r act stamp owned writing same sees commits home last ends (λ value. Unit {0}) tt).0

module _ {E : Type 0} where
  keeps_sees : (v w : View E) → KeepsHistory v w → OnlySees v w
  keeps_sees v w keeps = record {
    number = keeps.number;
    opening = keeps.opening;
    passes = keeps.passes;
    made = keeps.made;
    later = ([], keeps.seen ∙ sym (append-nil v.seen));
  }

  pub refused_sees : (v w : View E) (lane : ℕ) (e : NotNow) → RefusesRead v w lane e → OnlySees v w
  refused_sees v w lane (refusal.Busy busy) refused = keeps_sees v w refused.0
  refused_sees v w lane Shared refused = keeps_sees v w refused.0

  -- a read that was refused has shown nothing
  pub sees_if_refused : {X : Type 0} (r : Result X NotNow) (e : NotNow) (same : Type 0) (v w : View E) (lane : ℕ)
      → r ≡ Err e → OnErr r (IfErr r (λ e. same × RefusesRead v w lane e)) → OnlySees v w
  sees_if_refused {X = X} r e same v w lane is refused = refused_sees v w lane e
      (subst (λ (r : Result X NotNow). OnErr r (IfErr r (λ e. same × RefusesRead v w lane e))) is refused).1

  -- a commit that was refused made nothing
  pub commit_sees : (lanes : ℕ) (v w : View E) (refused : NotNow) → RefusesCommit lanes v w (tried.NotNow refused)
      → OnlySees v w
  commit_sees lanes v w (refusal.Busy busy) denied = denied.0
  commit_sees lanes v w Shared denied = denied.0

  -- and never had a lane to read
  pub commit_had : (lanes : ℕ) (v w : View E) (refused : NotNow) → RefusesCommit lanes v w (tried.NotNow refused)
      → HadNoLane v w
  commit_had lanes v w (refusal.Busy busy) denied = denied.4.reads
  commit_had lanes v w Shared denied = denied.3.reads

-- what follows of the value of `Ok`
pub if_ok : {X E : Type 0} (r : Result X E) (P Q : X → Type 0) → IfOk r P → ((x : X) → P x → Q x) → IfOk r Q
if_ok (Ok x) P Q p follows = follows x p
if_ok (Err e) P Q p follows = tt

-- and of that of `Err`
pub if_err : {X E : Type 0} (r : Result X E) (P Q : E → Type 0) → IfErr r P → ((e : E) → P e → Q e) → IfErr r Q
if_err (Ok x) P Q p follows = tt
if_err (Err e) P Q p follows = follows e p

-- what holds anyway holds where a call fails
pub on_err : {X E : Type 0} (r : Result X E) (P : Type 0) → P → OnErr r P
on_err (Ok x) P p = tt
on_err (Err e) P p = p

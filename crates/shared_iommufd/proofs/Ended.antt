-- What the lock says of its end, said of settings and records.
use Rattle.std.proofs.Common.{◌≡◌, ℕ, ◌<◌, ◌≤◌, List, [], length, drop, slice_get, Some, sym, ◌∙◌, ap, subst}
use Rattle.iofd_steps.specs.Run.{IsRun}
use Rattle.iommufd_core.specs.History.{History}
use Rattle.lane_lock.specs.Ending.{HasNumber}
use Rattle.lane_lock.specs.History.{Legal, StartsWith, made_by}
use Rattle.lane_lock.specs.Passes.{number_of, passes_of, view_of}
use Rattle.shared_iommufd.specs.Ends.{Ends}
use Rattle.guarded_core.specs.Entries.{maker_of, told}
use Rattle.guarded_core.specs.Opening.{opened_with}
use Rattle.guarded_core.specs.Passes.{CoreGhosts, CoreLock, CorePass}
use Rattle.guarded_core.proofs.Entered.{one_entry, same_settings}

module _ {A : Type 0} {g : CoreGhosts A} where
  pub ends : (lock : CoreLock A) (passes : List (CorePass A g)) (h : History A) → (opened_with lock).records ≡ []
      → passes_of lock ≡ (opened_with lock).settings.passes → IsRun h.settings h.records
      → StartsWith (told h) (told (opened_with lock)) → ((n : ℕ) → n < passes_of lock → HasNumber passes n)
      → ((i : ℕ) (p : CorePass A g) → slice_get passes i ≡ Some p
      → Legal maker_of (length (told (opened_with lock))) (told h) (number_of p) (view_of p).seen (view_of p).made)
      → ((n : ℕ) → passes_of lock ≤ n → made_by maker_of n (drop (length (told (opened_with lock))) (told h)) ≡ [])
      → Ends lock passes h
  ends lock passes h fresh counted run starts all each foreign =
      let o = opened_with lock in
      let e : h.settings ≡ o.settings = same_settings h o starts in
      let base : length (told o) ≡ 1 = one_entry o fresh in
      let count : passes_of lock ≡ h.settings.passes = counted ∙ ap (λ s. s.passes) (sym e) in
      record {
        settings = e;
        run = run;
        all = λ n below. all n (subst (λ (m : ℕ). n < m) (sym count) below);
        each = λ i p at. subst
            (λ (b : ℕ). Legal maker_of b (told h) (number_of p) (view_of p).seen (view_of p).made) base (each i p at);
        foreign = λ n above. subst (λ (b : ℕ). made_by maker_of n (drop b (told h)) ≡ []) base
            (foreign n (subst (λ (m : ℕ). m ≤ n) (sym count) above));
      }

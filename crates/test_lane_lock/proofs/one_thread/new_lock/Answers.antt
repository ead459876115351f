use Rattle.std.proofs.Common.{◌≡◌, length, Result, Ok, Err, IfOk, IfSome, sym, subst}
use Rattle.std.specs.Result.{result_ok}
use Rattle.lane_lock.specs.Passes.{OwnsAll}
use Rattle.test_lane_lock.proofs.one_thread.new_lock.Goals as goal

-- what holds of the value of `Ok` holds of it in an option
still : {A E : Type 0} (P Q : A → Type 0) (r : Result A E) → IfOk r P → ((x : A) → P x → Q x) → IfSome (result_ok r) Q
still P Q (Ok x) p follows = follows x p
still P Q (Err e) p follows = tt

pub returns-clause-owned : goal.returns-clause-owned
returns-clause-owned c =
    subst (λ o. IfSome o (λ r. OwnsAll r.0 r.1.items)) (sym c.ok-2.ensures.value)
    (still _ _ c.new-2.result c.new-2.ensures.dealt (λ r all i p e. (all.each i p e).owned))

pub returns-clause-count : goal.returns-clause-count
returns-clause-count c =
    subst (λ o. IfSome o (λ r. length r.1.items ≡ c.args.passes)) (sym c.ok-2.ensures.value)
    (still _ _ c.new-2.result c.new-2.ensures.dealt (λ r all. all.count))

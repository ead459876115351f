-- Whether the answer to a device's write is one of those that may be given.
use Rattle.std.proofs.Common.{◌≡◌, ◌||◌, ℕ, zero, suc, Bool, true, false, Option, Some, None, List, [], ◌∷◌, ◌++◌, map}
use Rattle.std.proofs.Common.{Contains, sym, subst, ◌⊎◌}
use Rattle.std.proofs.Common.{inl, inr, ⊎_elim, arith}
use Rattle.iofd_rows.proofs.Each.{IsIn}
use Rattle.iofd_rows.proofs.ListTests.{contains_first, contains_later}
use Rattle.iofd_steps.specs.Answers.{write_reply}
use Rattle.iofd_words.specs.Policy.{Outcome, fault_of, outcomes, passing}
use Rattle.iofd_words.specs.Settings.{Settings}
use Rattle.iofd_words.specs.World.{World}
use Rattle.iofd_words.specs.declared.fault.AccessKind.TheVariants.{Write}
use Rattle.iofd_words.specs.declared.fault.FaultReason.{FaultReason}
use Rattle.iofd_words.specs.declared.numbers.DeviceNo.{DeviceNo}
use Rattle.iofd_words.specs.declared.numbers.FrameNo.{FrameNo}
use Rattle.iofd_words.specs.declared.reply.Reply.{Reply}
use Rattle.iofd_words.specs.declared.reply.Reply.TheVariants as reply
use Rattle.journal_audit_events.specs.Outcomes.{TellsFault, TellsPass, denying, outcomes_in}
use Rattle.journal_audit_events.specs.declared.outcomes.Outcomes.{Outcomes}
use Rattle.journal_audit_world.specs.Decides.{Decides}

pub decides_either : {P Q R : Type 0} (a b : Bool) → Decides a P → Decides b Q → (P → R) → (Q → R) → (R → P ⊎ Q)
    → Decides (a || b) R
decides_either true b first second p q r = p first
decides_either false true first second p q r = q second
decides_either false false first second p q r = λ x. ⊎_elim first second (r x)

is_in : {X : Type 0} (xs : List X) (x : X) → Contains xs x → IsIn xs x
is_in [] x (k, within, is) = absurd (omega (arith, within))
is_in (y ∷ ys) x (zero, within, is) = inl is
is_in (y ∷ ys) x (suc k, within, is) = inr (is_in ys x (k, omega (arith, within), is))

module _ (w : World) (device : DeviceNo) (address : ℕ) (answer : Reply) where
  abbrev among : List Outcome → Type 0
  among os = Contains (map (write_reply w device address) os) answer

  abbrev told : FaultReason → Reply
  told reason = reply.Fault (fault_of w.settings device address Write reason)

  by_parts : (frame : Option FrameNo) (reason : Option FaultReason) (a b : Bool) → Decides a (TellsPass frame answer)
      → Decides b (TellsFault w.settings device address reason answer)
      → Decides (a || b) (among (passing frame ++ denying reason))
  by_parts None None a b first second =
      decides_either a b first second (λ never. absurd never) (λ never. absurd never)
      (λ has. absurd (is_in [] answer has))
  by_parts (Some frame) None a b first second =
      let pass : Reply = reply.Passed frame in
      decides_either a b first second
      (λ is. subst (λ x. Contains (pass ∷ []) x) (sym is) (contains_first pass [])) (λ never. absurd never)
      (λ has. ⊎_elim (λ (same : pass ≡ answer). inl (sym same)) (λ never. absurd never) (is_in (pass ∷ []) answer has))
  by_parts None (Some reason) a b first second =
      let fault = told reason in
      decides_either a b first second (λ never. absurd never)
      (λ is. subst (λ x. Contains (fault ∷ []) x) (sym is) (contains_first fault []))
      (λ has. ⊎_elim (λ (same : fault ≡ answer). inr (sym same)) (λ never. absurd never)
      (is_in (fault ∷ []) answer has))
  by_parts (Some frame) (Some reason) a b first second =
      let pass : Reply = reply.Passed frame in
      let fault = told reason in
      decides_either a b first second
      (λ is. subst (λ x. Contains (pass ∷ fault ∷ []) x) (sym is) (contains_first pass (fault ∷ [])))
      (λ is. subst (λ x. Contains (pass ∷ fault ∷ []) x) (sym is)
      (contains_later fault pass (fault ∷ []) (contains_first fault [])))
      (λ has. ⊎_elim (λ (same : pass ≡ answer). inl (sym same))
      (λ (later : IsIn (fault ∷ []) answer). ⊎_elim (λ (same : fault ≡ answer). inr (sym same)) (λ never. absurd never)
      later) (is_in (pass ∷ fault ∷ []) answer has))

  pub write_decided : (settings : Settings) (o : Outcomes) (a b : Bool) → settings ≡ w.settings
      → outcomes_in o ≡ outcomes w device address Write → Decides a (TellsPass o.frame answer)
      → Decides b (TellsFault settings device address o.reason answer)
      → Decides (a || b) (among (outcomes w device address Write))
  write_decided settings o a b same is first second =
      subst (λ os. Decides (a || b) (among os)) is (by_parts o.frame o.reason a b first
      (subst (λ (s : Settings). Decides b (TellsFault s device address o.reason answer)) same second))

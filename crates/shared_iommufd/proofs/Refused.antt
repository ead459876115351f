-- A command for which there was no memory before any lane was asked for.
use Rattle.std.proofs.Common.{◌≡◌, ℕ, Err, List, inl, refl, subst}
use Rattle.iofd_words.specs.declared.call_error.CallError.{CallError}
use Rattle.iofd_words.specs.declared.call_error.CallError.TheVariants as failed
use Rattle.iofd_words.specs.declared.refusal.NoMemory.{NoMemory}
use Rattle.ioctl_codec.specs.Refusals.{OnMemory, SpellsEntries}
use Rattle.ioctl_codec.specs.Spelling.{Spells}
use Rattle.ioctl_codec.specs.declared.command.Command.{Command}
use Rattle.ioctl_codec.specs.declared.events.Asked.{Asked}
use Rattle.ioctl_codec.specs.declared.events.Asked.TheVariants as asks
use Rattle.lane_lock.specs.Passes.{view_of}
use Rattle.lane_lock.specs.Views.{IsBlank}
use Rattle.lane_lock.proofs.Retries.{none_had}
use Rattle.guarded_core.specs.Passes.{CoreGhosts, CorePass}
use Rattle.guarded_core.specs.declared.try_error.TryError.TheVariants as tried
use Rattle.shared_iommufd.specs.Ioctls.{FailsAsked, RefusesAsked}
use Rattle.shared_iommufd.proofs.Shown.{sees_same}

module _ {A : Type 0} where
  -- where memory was wanting for a command, the bytes spell one
  pub spelt_command : (number : ℕ) (bytes : List ℕ) (e : CallError) (no_memory : NoMemory) → e ≡ failed.Memory no_memory
      → OnMemory {T = Command A} (Err e) ((command : Command A) × SpellsEntries number bytes command)
      → (command : Command A) × Spells number bytes command
  spelt_command number bytes e no_memory is held =
      let found = subst (λ (x : CallError). OnMemory {T = Command A} (Err x)
      ((command : Command A) × SpellsEntries number bytes command)) is held in (found.0, found.1.0)

module _ {A : Type 0} {g : CoreGhosts A} where
  -- whatever it asks for isn't carried out, and the pass is as it was
  pub asked_in_vain : (lanes lane : ℕ) (what : Asked A) (p : CorePass A g) → IsBlank (view_of p) → (error : NoMemory)
      → RefusesAsked lanes lane what (view_of p) (view_of p) (tried.Call error)
  asked_in_vain lanes lane (asks.Event e) p blank error = (sees_same p, refl, blank, inl (none_had (view_of p)))
  asked_in_vain lanes lane (asks.Ranges request) p blank error = (sees_same p, refl, inl (none_had (view_of p)))
  asked_in_vain lanes lane (asks.Dirty request) p blank error = (sees_same p, refl, inl (none_had (view_of p)))

  -- and no lane was asked for
  pub failed_in_vain : (what : Asked A) (p : CorePass A g) → FailsAsked what (view_of p) (view_of p)
  failed_in_vain (asks.Event e) p = refl
  failed_in_vain (asks.Ranges request) p = inl (none_had (view_of p))
  failed_in_vain (asks.Dirty request) p = inl (none_had (view_of p))

-- What pinning an address space says where nothing is pinned, and of the call that pins.
use Rattle.std.proofs.Common.{◌≡◌, ℕ, Bool, true, false, Result, Ok, Err, List, [], refl, sym, subst, arith}
use Rattle.std.specs.Prelude.{if◌then◌else◌}
use Rattle.std.specs.Result.{OnErr, OnOk}
use Rattle.frame_memory.specs.Pool.{FramePool}
use Rattle.iofd_words.specs.declared.rows.Area.{Area}
use Rattle.user_memory_rows.proofs.Released.{settles_none}
use Rattle.user_memory_rows.specs.Moves.{ArePinnedMore, PinsAreKnown}
use Rattle.user_memory_rows.specs.Shown.{over}
use Rattle.user_memory.specs.Changes.{HasPins, SameObjects, Settles}
use Rattle.user_memory.specs.Memory.{Memory}
use Rattle.hwpt_device.specs.Pinning.{Stays}

module _ (m : Memory) (pool : FramePool) (known : PinsAreKnown m) where
  pinned_none : ArePinnedMore [] m m pool pool
  pinned_none = record {
    pins = record { rows = refl; areas = λ number. refl; pins = λ number. omega arith; access = λ page. refl };
    settles = settles_none m pool known.invariant known.only;
  }

  -- where it is translated already, or has no areas
  pub pinned_yet : (translated : Bool) (areas : List Area) → true ≡ translated
      → ArePinnedMore (if translated then [] else areas) m m pool pool
  pinned_yet translated areas is =
      subst (λ (b : Bool). ArePinnedMore (if b then [] else areas) m m pool pool) is pinned_none

  pub pinned_empty : (translated : Bool) (areas : List Area) → areas ≡ []
      → ArePinnedMore (if translated then [] else areas) m m pool pool
  pinned_empty translated areas none =
      subst (λ (l : List Area). ArePinnedMore (if translated then [] else l) m m pool pool) (sym none)
      (by_case translated)
    where
      by_case : (b : Bool) → ArePinnedMore (if b then [] else []) m m pool pool
      by_case true = pinned_none
      by_case false = pinned_none

  pub stays_same : Stays m m pool pool
  stays_same = record {
    pages = refl;
    limits = refl;
    objects = record {
      rows = refl;
      frames = λ page. refl;
      areas = λ number. refl;
      pins = λ number. refl;
      access = λ page. refl;
      named = λ frame. refl;
      kept = known.invariant;
    };
    pool = refl;
  }

-- by what the call that pins says
module _ {X E : Type 0} (old new : Memory) (before after : FramePool) where
  pub pinned_first : (result : Result X E) (translated : Bool) (areas : List Area) (more : ℕ → ℕ) → false ≡ translated
      → more ≡ over areas
      → OnOk result (HasPins more old new) → OnOk result (Settles old new before after)
      → OnOk result (ArePinnedMore (if translated then [] else areas) old new before after)
  pinned_first (Ok x) translated areas more is same pins settles =
      subst (λ (b : Bool). ArePinnedMore (if b then [] else areas) old new before after) is
      (record { pins = subst (λ (n : ℕ → ℕ). HasPins n old new) same pins; settles = settles })
  pinned_first (Err e) translated areas more is same pins settles = tt

  pub stays_told : (result : Result X E) → new.pages ≡ old.pages → new.limits ≡ old.limits
      → OnErr result (SameObjects old new) → OnErr result (after ≡ before) → OnErr result (Stays old new before after)
  stays_told (Ok x) pages limits objects pool = tt
  stays_told (Err e) pages limits objects pool =
      record { pages = pages; limits = limits; objects = objects; pool = pool }

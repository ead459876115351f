-- Why device 1's entry isn't backed.
use Rattle.std.proofs.Common.{ℕ, ◌≡◌, true, List, [], ◌∷◌, sym, subst, Contains}
use Rattle.iofd_words.specs.declared.fault.Fault.{Fault}
use Rattle.iofd_words.specs.declared.query.Answer.TheVariants as answer
use Rattle.iofd_words.specs.World.{World}
use Rattle.iofd_words.specs.declared.rows.Area.{Area}
use Rattle.iofd_words.specs.declared.rows.Phase.{Phase}
use Rattle.iofd_words.specs.declared.rows.Phase.TheVariants.{Leaving}
use Rattle.iofd_examples.specs.Words.{device}
use Rattle.iofd_examples.proofs.Contained.{contained_in_one}
use Rattle.iofd_examples.proofs.Never.{never}
use Rattle.iofd_promises.proofs.Rows.{within}
use Rattle.iofd_interleavings.specs.Caches.{IsBacked, may_use}
use Rattle.iofd_interleavings_examples.specs.Worked.{entry}

-- the only area is leaving, and device 2 alone owes it
pub not_owed : (w : World) (area : Area) → w.areas ≡ area ∷ [] → area.phase ≡ Leaving (2 ∷ []) 1
    → IsBacked w (device 1) entry → ⊥
not_owed w area only phase backed =
    let same = contained_in_one area backed.area
    (subst (λ (areas : List Area). Contains areas backed.area) only backed.there) in
    never (subst (λ (p : Phase). may_use (device 1) p ≡ true) phase
    (subst (λ (a : Area). may_use (device 1) a.phase ≡ true) (sym same) backed.phase))

-- there is no area
pub gone_area : (w : World) → w.areas ≡ [] → IsBacked w (device 1) entry → ⊥
gone_area w none backed =
    absurd (within [] backed.area (subst (λ (areas : List Area). Contains areas backed.area) none backed.there))

-- nothing is pinned
pub gone_pin : (w : World) → w.pins ≡ [] → IsBacked w (device 1) entry → ⊥
gone_pin w none backed = cc

-- ---- why what it reads is no answer

pub only_fault : (f : Fault) (bytes : List ℕ) → Contains (answer.Fault f ∷ []) (answer.Read bytes) → ⊥
only_fault f bytes has = let is = contained_in_one (answer.Fault f) (answer.Read bytes) has in cc

pub no_answer : (bytes : List ℕ) → Contains [] (answer.Read bytes) → ⊥
no_answer bytes has = absurd (within [] (answer.Read bytes) has)

-- What is no answer.
use Rattle.std.proofs.Common.{◌≡◌, ◌<◌, ℕ, true, false, Some, None, Option, List, [], ◌∷◌, ap, arith}
use Rattle.iofd_words.specs.declared.numbers.Iova.{Iova}
use Rattle.iofd_words.specs.declared.numbers.ObjId.{ObjId}
use Rattle.iofd_words.specs.declared.refusal.Cause.{Cause}
use Rattle.iofd_words.specs.declared.reply.Reply.{Reply}
use Rattle.iofd_words.specs.declared.reply.Reply.TheVariants as reply

pub never : false ≡ true → ⊥
never is = cc

pub lower : (a b : ℕ) → a < b → a ≡ b → ⊥
lower a b less is = absurd (omega (arith, less, is))

pub higher : (a b : ℕ) → b < a → a ≡ b → ⊥
higher a b less is = absurd (omega (arith, less, is))

pub lower_iova : (a b : Iova) → a.0 < b.0 → a ≡ b → ⊥
lower_iova a b less is = lower _ _ less (ap (λ i. i.0) is)

pub higher_id : (a b : ObjId) → b.0 < a.0 → a ≡ b → ⊥
higher_id a b less is = higher _ _ less (ap (λ i. i.0) is)

abbrev first : List ℕ → ℕ
first [] = 0
first (word ∷ words) = word

-- words of which the first differs
pub lower_word : (a b : ℕ) (rest others : List ℕ) → a < b → ◌≡◌ {A = List ℕ} (a ∷ rest) (b ∷ others) → ⊥
lower_word a b rest others less is = let same : a ≡ b = ap first is in absurd (omega (arith, less, same))

pub higher_word : (a b : ℕ) (rest others : List ℕ) → b < a → ◌≡◌ {A = List ℕ} (a ∷ rest) (b ∷ others) → ⊥
higher_word a b rest others less is = let same : a ≡ b = ap first is in absurd (omega (arith, less, same))

abbrev cause_in : Reply → Option Cause
cause_in (reply.Refused refusal) = Some refusal.cause
cause_in _ = None

pub same_cause : (a b : Reply) → a ≡ b → cause_in a ≡ cause_in b
same_cause a b is = ap cause_in is

-- Records, one behind the other.
use Rattle.std.proofs.Common.{◌≡◌, ℕ, zero, suc, ◌+◌, ◌<◌, List, [], ◌∷◌, ◌++◌, length, get_or, take, refl, sym, ap}
use Rattle.std.proofs.Common.{subst, ◌∙◌, append_assoc, append-nil, arith}
use Rattle.iofd_words.specs.Record.{Record}
use Rattle.iofd_words.specs.Settings.{Settings}
use Rattle.journal_audit_bytes.specs.Journal.{HasSpelling, IsFirstUnspelt, SpellRecords, SpellsRecord}
use Rattle.journal_audit_bytes.specs.declared.version.Version.TheVariants.{Two}
use Rattle.journal_audit_writing.proofs.Appended.{take_next, then}

module _ {A : Type 0} (s : Settings) where
  -- what is written of the records so far
  abbrev pub Written : List (Record A) → List ℕ → List ℕ → Type 0
  Written rs old now = (text : List ℕ) × SpellRecords Two s rs text × (now ≡ old ++ text)

  push : (rs : List (Record A)) (r : Record A) (text front : List ℕ) → SpellRecords Two s rs text
      → SpellsRecord Two s r front → SpellRecords Two s (rs ++ r ∷ []) (text ++ front)
  push [] r text front h is =
      (front, [], is, refl, ap (λ (t : List ℕ). t ++ front) h ∙ sym (append-nil front))
  push (x ∷ rs) r text front h is = (
    h.0,
    h.1 ++ front,
    h.2,
    push rs r h.1 front h.3 is,
    ap (λ (t : List ℕ). t ++ front) h.4 ∙ append_assoc h.0 h.1 front,
  )

  pub one_more : (rs : List (Record A)) (i : ℕ) (r : Record A) (old now new : List ℕ) → i < length rs
      → r ≡ get_or rs i r → Written (take i rs) old now
      → (text : List ℕ) × SpellsRecord Two s r text × (new ≡ now ++ text) → Written (take (i + 1) rs) old new
  one_more rs i r old now new less is before after = (
    before.0 ++ after.0,
    subst (λ (ys : List (Record A)). SpellRecords Two s ys (before.0 ++ after.0)) (sym (take_next rs i r less is))
        (push (take i rs) r before.0 after.0 before.1 after.1),
    then old now new before.0 after.0 before.2 after.2,
  )

  pub first_unspelt : (rs : List (Record A)) (i : ℕ) (r : Record A) (text : List ℕ) → i < length rs
      → r ≡ get_or rs i r → SpellRecords Two s (take i rs) text → ¬ HasSpelling Two s r → IsFirstUnspelt Two s rs i
  first_unspelt [] i r text less is before none = absurd (omega (arith, less))
  first_unspelt (x ∷ rs) zero r text less is before none =
      subst (λ (y : Record A). ¬ HasSpelling Two s y) is none
  first_unspelt (x ∷ rs) (suc i) r text less is before none = (
    (before.0, before.2),
    first_unspelt rs i r before.1 (omega (arith, less)) is before.3 none,
  )

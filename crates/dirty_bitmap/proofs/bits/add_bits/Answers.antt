use Rattle.std.proofs.Common.{ℕ, Option, ap, refl, subst, sym}
use Rattle.std.specs.Int.RustNames.{bit_or}
use Rattle.std.specs.Option.{unwrap_or}
use Rattle.std.specs.Prelude.{IsSome}
use Rattle.dirty_bitmap.proofs.Kept.{word_changed}
use Rattle.dirty_bitmap.proofs.bits.add_bits.Goals as goal

pub returns-in-Some-clause-words : goal.returns-in-Some-clause-words
returns-in-Some-clause-words g c =
    let held = c.get_mut.follows.holds (bit_or c.in-Some.word.now c.args.bits) in
    word_changed c.args.words.now.entries _ c.args.number c.in-Some.word.now _ (λ word. bit_or word c.args.bits)
    (ap (λ (o : Option ℕ). unwrap_or o 0) (sym c.in-Some.ensures.value)) refl (held.3 (subst (λ (o : Option ℕ). IsSome o) c.in-Some.ensures.value refl)).0

pub returns-in-Ok-clause-words : goal.returns-in-Ok-clause-words
returns-in-Ok-clause-words g c =
    word_changed c.args.words.now.entries _ c.args.number 0 _ (λ word. bit_or word c.args.bits)
    (ap (λ (o : Option ℕ). unwrap_or o 0) (sym c.in_default.ensures.value)) refl
    (rw c.get_mut.follows.holds-at-none at c.in-Ok.ensures.updates.0)

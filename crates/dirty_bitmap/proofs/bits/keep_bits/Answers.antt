use Rattle.std.proofs.Common.{ℕ, Option, ap, refl, subst, sym}
use Rattle.std.specs.Int.RustNames.{bit_and}
use Rattle.std.specs.Option.{unwrap_or}
use Rattle.std.specs.Prelude.{IsSome}
use Rattle.dirty_bitmap.proofs.Kept.{removed_again, word_changed}
use Rattle.dirty_bitmap.proofs.bits.keep_bits.Goals as goal

pub returns-else-word-eq0 : goal.returns-else-word-eq0
returns-else-word-eq0 g c =
    let held = c.get_mut.follows.holds (bit_and c.in-Some.word.now c.args.bits) in
    word_changed c.args.words.now.entries _ c.args.number c.in-Some.word.now _ (λ word. bit_and word c.args.bits)
    (ap (λ (o : Option ℕ). unwrap_or o 0) (sym c.in-Some.ensures.value)) refl (held.3 (subst (λ (o : Option ℕ). IsSome o) c.in-Some.ensures.value refl)).0

pub returns-then-word-eq0 : goal.returns-then-word-eq0
returns-then-word-eq0 g c =
    let held = c.get_mut.follows.holds (bit_and c.in-Some.word.now c.args.bits) in
    word_changed c.args.words.now.entries _ c.args.number c.in-Some.word.now _ (λ word. bit_and word c.args.bits)
    (ap (λ (o : Option ℕ). unwrap_or o 0) (sym c.in-Some.ensures.value)) (sym c.if-word-eq0.true)
    (removed_again c.args.words.now.entries _ _ c.args.number _ (held.3 (subst (λ (o : Option ℕ). IsSome o) c.in-Some.ensures.value refl)).0 c.remove.ensures.updates.0)

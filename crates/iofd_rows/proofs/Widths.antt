-- A width is told by its bits.
use Rattle.std.proofs.Common.{◌≡◌, ℕ, true, cond, eqb, refl, ap, sym, ◌∙◌}
use Rattle.std.proofs.lemmas.Bool.{eqb-true}
use Rattle.iofd_words.specs.Width.{bits_of}
use Rattle.iofd_words.specs.declared.width.Width.{Width}
use Rattle.iofd_words.specs.declared.width.Width.TheVariants.{Bits39, Bits48, Bits57}

-- the width of so many bits: so a new width has one line here and one below, and not one with each other
of_bits : ℕ → Width
of_bits bits = cond (eqb bits 39) Bits39 (cond (eqb bits 48) Bits48 Bits57)

has_bits : (width : Width) → of_bits (bits_of width) ≡ width
unfolding of_bits
has_bits Bits39 = refl
has_bits Bits48 = refl
has_bits Bits57 = refl

pub one_width : (a b : Width) → bits_of a ≡ bits_of b → a ≡ b
one_width a b is = sym (has_bits a) ∙ ap of_bits is ∙ has_bits b

pub same_width : (a b : Width) → eqb (bits_of a) (bits_of b) ≡ true → a ≡ b
same_width a b is = one_width a b (eqb-true (bits_of a) (bits_of b) is)

-- Address widths (VT-d, "Context Entry").
use Rattle.std.specs.Prelude.{ℕ}
use Rattle.iofd_words.specs.declared.width.Width.{Width}
use Rattle.iofd_words.specs.declared.width.Width.TheVariants.{Bits39, Bits48, Bits57}

abbrev pub bits_of : Width → ℕ
bits_of Bits39 = 39
bits_of Bits48 = 48
bits_of Bits57 = 57

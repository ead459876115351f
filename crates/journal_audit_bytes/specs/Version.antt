-- What the head of each version of the format has, and another may have otherwise; the tags of a record's event and
-- reply are in `Format`.
use Rattle.std.specs.Prelude.{ℕ, ◌==◌, Option, List, [], ◌∷◌, codes, find}
use Rattle.iofd_words.specs.Width.{bits_of}
use Rattle.iofd_words.specs.declared.width.Width.{Width}
use Rattle.iofd_words.specs.declared.width.Width.TheVariants.{Bits39, Bits48, Bits57}
use Rattle.journal_audit_bytes.specs.declared.version.Version.{Version}
use Rattle.journal_audit_bytes.specs.declared.version.Version.TheVariants.{One, Two}

-- the first bytes of a journal
abbrev pub mark : Version → List ℕ
mark One = codes "IOFDJNL1"
mark Two = codes "IOFDJNL2"

-- the widths of addresses that can be spelled
abbrev pub widths : Version → List Width
widths One = Bits39 ∷ Bits48 ∷ []
widths Two = Bits39 ∷ Bits48 ∷ Bits57 ∷ []

-- the width of so many bits, if it can be spelled
abbrev pub width_of : Version → ℕ → Option Width
width_of version bits = find (λ width. bits_of width == bits) (widths version)

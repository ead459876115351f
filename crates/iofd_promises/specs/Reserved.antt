-- Which addresses page tables and devices leave for areas.
use Rattle.std.specs.Prelude.{◌≡◌, ◌≤◌, ℕ, ◌^◌, Contains, true}
use Rattle.iofd_words.specs.Bounds.{Bounds}
use Rattle.iofd_words.specs.Settings.{DeviceSettings}
use Rattle.iofd_words.specs.declared.rows.Area.{Area}
use Rattle.iofd_words.specs.declared.width.Width.{Width}
use Rattle.iofd_words.specs.declared.width.Width.TheVariants.{Bits39, Bits48, Bits57}

-- the first address that tables of the width don't translate
abbrev pub end_of : Width → ℕ
end_of Bits39 = 2 ^ 39
end_of Bits48 = 2 ^ 48
end_of Bits57 = 2 ^ 57

-- no address of the area is one that the device keeps for itself: of its reserved spans, or of an x86 device's
-- interrupts
pub record Avoids (area : Area) (device : DeviceSettings) : Type 0 where
  pub reserved : (span : Bounds) (address : ℕ) → Contains device.reserved span
      → area.span.first ≤ address → address ≤ area.span.last → span.first ≤ address →
      address ≤ span.last → ⊥
  pub interrupts : (address : ℕ) → device.x86 ≡ true
      → area.span.first ≤ address → address ≤ area.span.last → 0xfee0_0000 ≤ address →
      address ≤ 0xfeef_ffff → ⊥

-- What an entry says.
use Rattle.std.proofs.Common.{◌≡◌, ◌≢◌, ℕ, ◌/◌, ◌%◌, ◌^◌, ◌<◌, Option, Some, None, refl, ap, arith}
use Rattle.iofd_words.specs.declared.numbers.FrameNo.{FrameNo}
use Rattle.page_table_words.specs.Entries.{table_entry}
use Rattle.page_table_words.proofs.Lookups.{same_frame}

-- an entry above the last level
pub table_present : (below : Option FrameNo) (entry : ℕ) (frame : FrameNo) → entry ≡ table_entry below → entry % 4 ≢ 0
    → frame.0 ≡ entry / 4096 → (below ≡ Some frame) × (entry % 4 ≡ 3)
table_present None entry frame is present named = absurd (present (omega (arith, is)))
table_present (Some table) entry frame is present named =
    let same : table.0 ≡ frame.0 = omega (arith, is, named) in
    (ap (λ (f : FrameNo). Some f) (same_frame table frame same), omega (arith, is))

pub table_absent : (below : Option FrameNo) (entry : ℕ) → entry ≡ table_entry below → entry % 4 ≡ 0 → below ≡ None
table_absent None entry is absent = refl
table_absent (Some table) entry is absent = absurd (omega (arith, is, absent))

pub table_small : (below : Option FrameNo) (entry : ℕ) → entry ≡ table_entry below
    → ((table : FrameNo) → below ≡ Some table → table.0 < 2 ^ 32) → entry / 4096 < 2 ^ 32
table_small None entry is small = omega (arith, is)
table_small (Some table) entry is small = omega (arith, is, small table refl)

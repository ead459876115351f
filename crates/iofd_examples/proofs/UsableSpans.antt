-- Which numbers are in the spans that can be used: those below 2^64 that are in none that can't.
use Rattle.std.proofs.Common.{◌≡◌, ℕ, ◌&&◌, ◌||◌, false, not, nat_le, nat_lt, arith}
use Rattle.std.proofs.lemmas.Bool.Decides.{nat_tests}

pub of_file_1 : (n : ℕ) →
    ((nat_le 0 n && nat_le n 0xfedf_ffff) || ((nat_le 0xfef0_0000 n && nat_le n 0x7f_ffff_ffff) || false))
    ≡ (nat_lt n 0x1_0000_0000_0000_0000
    && not ((nat_le 0x80_0000_0000 n && nat_le n 0xffff_ffff_ffff_ffff)
    || ((nat_le 0x80_0000_0000 n && nat_le n 0xffff_ffff_ffff_ffff)
    || ((nat_le 0xfee0_0000 n && nat_le n 0xfeef_ffff) || false))))
of_file_1 n = grind (arith, nat_tests)

pub of_file_2 : (n : ℕ) →
    ((nat_le 0 n && nat_le n 0x7fff) || ((nat_le 0x9000 n && nat_le n 0xffff_ffff_ffff) || false))
    ≡ (nat_lt n 0x1_0000_0000_0000_0000
    && not ((nat_le 0x1_0000_0000_0000 n && nat_le n 0xffff_ffff_ffff_ffff)
    || ((nat_le 0x8000 n && nat_le n 0x8fff) || false)))
of_file_2 n = grind (arith, nat_tests)

pub of_all : (n : ℕ) →
    ((nat_le 0 n && nat_le n 0xffff_ffff_ffff_ffff) || false) ≡ (nat_lt n 0x1_0000_0000_0000_0000 && not false)
of_all n = grind (arith, nat_tests)

pub mod Signed
pub mod Size
pub mod Modulus
pub mod Quotient
pub mod Clamp
pub mod Octets
pub mod Bits
pub mod Text
pub use Signed.{above, add_is, apart, below, diff_is, mul_is, neg_is, of_eq, signed}
pub use Size.{abs_diff, abs_is, diff-fits, diff-reads, fits-abs, mul-le, quot_le, reads, to-nat}
pub use Modulus.{modulo-alike, modulo-has, modulo-is, modulo-lt}
pub use Quotient.{Splits, around, quotient-most, splits, splits-rest, splits-whole}
pub use Clamp.{clamp-within}
pub use Octets.{big_endian-lt, big_endian-octets, big_endian-part, big_endian-snoc, firsts, four-numbers, four-parts, known, then-number}
pub use Bits.{at-is, flag, flag-lt}
pub use Text.{over-again, over_first, over-next, part_end, part-over}

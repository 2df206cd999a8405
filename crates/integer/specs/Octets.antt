-- Octets are counted from 1, and numbers of several octets have the most significant first (document 01, its opening lines).
use Rattle.std.specs.Prelude.{ℕ, zero, suc, ◌+◌, ◌-◌, ◌*◌, ◌/◌, ◌%◌, ◌^◌, List, [], ◌∷◌, ◌++◌, length, get_or, take, drop}

-- octet k of a telegram
abbrev pub octet : ℕ → List ℕ → ℕ
octet k os = get_or os (k - 1) 0

-- its octets k to l
abbrev pub part : ℕ → ℕ → List ℕ → List ℕ
part k l os = take (l - (k - 1)) (drop (k - 1) os)

-- the number that octets stand for
unfoldable pub big_endian : List ℕ → ℕ
big_endian [] = 0
big_endian (o ∷ os) = o * 256 ^ length os + big_endian os

-- the number n in k octets
unfoldable pub octets : ℕ → ℕ → List ℕ
octets zero n = []
octets (suc k) n = octets k (n / 256) ++ (n % 256 ∷ [])

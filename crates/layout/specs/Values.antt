-- Numbers as bytes. "All are little-endian": the lowest byte first.
use Rattle.std.specs.Prelude.{cond, List, [], ◌∷◌, ℕ, zero, suc, ◌+◌, ◌*◌, ◌-◌, ◌/◌, ◌%◌, ◌^◌, ltb, ℤ, pos, negsuc}

-- The k lowest bytes of x, the lowest first.
unfoldable pub bytes_of : ℕ → ℕ → List ℕ
bytes_of zero x = []
bytes_of (suc k) x = x % 256 ∷ bytes_of k (x / 256)

-- The number that bytes stand for.
unfoldable pub value_of : List ℕ → ℕ
value_of [] = 0
value_of (b ∷ rest) = b + 256 * value_of rest

-- "two's complement": in k bytes a negative z stands as 256 ^ k + z.
abbrev pub wrapped : ℕ → ℤ → ℕ
wrapped k (pos n) = n
wrapped k (negsuc n) = 256 ^ k - suc n

-- What a number of k bytes stands for: those of the upper half are negative.
abbrev pub unwrapped : ℕ → ℕ → ℤ
unwrapped k x = cond (ltb x (256 ^ k / 2)) (pos x) (negsuc (256 ^ k - suc x))

-- The k bytes of an integer.
abbrev pub signed_bytes : ℕ → ℤ → List ℕ
signed_bytes k z = bytes_of k (wrapped k z)

-- The integer that k bytes stand for.
abbrev pub signed_value : ℕ → List ℕ → ℤ
signed_value k bytes = unwrapped k (value_of bytes)

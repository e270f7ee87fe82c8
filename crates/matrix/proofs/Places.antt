-- Places of a matrix in row order. Assumes nothing.
use Prim.Native.Nat.{ℕ, ◌+◌, ◌*◌, ◌<◌}
use native.Mathlib.Nat.{mul-le-mul_right}
use native.Mathlib.Omega.{arith}

-- A row below m and a column below n make a place below m * n.
pub place_in : (m n i j : ℕ) → i < m → j < n → i * n + j < m * n
place_in m n i j l h = omega (arith, mul-le-mul_right n l)

-- Of a square.
pub place-below : (n i j : ℕ) → i < n → j < n → i * n + j < n * n
place-below n = place_in n n

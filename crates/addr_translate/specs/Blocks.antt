-- Blocks of registers, and the place of a hash in one.
use Rattle.std.specs.Prelude.{◌≡◌, ℕ, ◌-◌, ◌/◌, ◌%◌, ◌^◌, ◌≤◌}

-- 2 ^ bits registers, from base on
pub record Block : Type 0 where
  pub base : ℕ
  pub bits : ℕ

-- so many registers, at most 2 ^ 20, begin at a multiple of their number
pub record IsAligned (base bits : ℕ) : Type 0 where
  pub small : bits ≤ 20
  pub multiple : base % 2 ^ bits ≡ 0

-- the top bits of a hash of 32 bits
abbrev pub index_of : ℕ → ℕ → ℕ
index_of h bits = h / 2 ^ (32 - bits)

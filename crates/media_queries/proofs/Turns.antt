-- The turns that a loop has left.
use Rattle.std.proofs.Common.{◌≡◌, ℕ, suc, ◌+◌, ◌-◌, ◌<◌, arith}

pub one_less : (turns i : ℕ) → i < turns → turns - i ≡ suc (turns - (i + 1))
one_less turns i within = omega arith

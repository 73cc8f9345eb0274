-- Numbers of at most 7 digits.
use Rattle.std.proofs.Common.{ℕ, ◌^◌, ◌≤◌, lit<}
use native.Mathlib.Nat.{pow-le-pow_right}

pub few : (i : ℕ) → i ≤ 7 → 10 ^ i ≤ 10 ^ 7
few i h = pow-le-pow_right (lit< tt) h

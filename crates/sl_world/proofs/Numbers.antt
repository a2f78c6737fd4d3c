-- Small facts on numbers and their tests.
use Rattle.std.proofs.Common.{◌≡◌, ℕ, ◌==◌, ◌<◌, true, false, nat_lt, max, arith}

pub same_number : (n : ℕ) → (n == n) ≡ true
same_number n = grind arith

pub not_less : (n : ℕ) → nat_lt n n ≡ false
not_less n = grind arith

pub twice : (n : ℕ) → max n n ≡ n
twice n = grind arith

pub not_same : (m n : ℕ) → nat_lt m n ≡ true → (m == n) ≡ false
not_same m n less = grind arith

pub not_greater : (m n : ℕ) → nat_lt m n ≡ true → nat_lt n m ≡ false
not_greater m n less = grind arith

pub same_by : (m n : ℕ) → nat_lt m n ≡ false → nat_lt n m ≡ false → n ≡ m
same_by m n a b = grind arith

pub less_by : (m n : ℕ) → nat_lt m n ≡ true → m < n
less_by m n less = grind arith

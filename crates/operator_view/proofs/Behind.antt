-- Texts put behind one another.
use Rattle.std.proofs.Common.{◌≡◌, ℕ, List, ◌++◌, append_assoc}

pub five : (x a b c d e : List ℕ) → ((((x ++ a) ++ b) ++ c) ++ d) ++ e ≡ x ++ (a ++ (b ++ (c ++ (d ++ e))))
five x a b c d e = simp append_assoc

pub six : (x a b c d e f : List ℕ) → (((((x ++ a) ++ b) ++ c) ++ d) ++ e) ++ f ≡ x ++ (a ++ (b ++ (c ++ (d ++ (e ++ f)))))
six x a b c d e f = simp append_assoc

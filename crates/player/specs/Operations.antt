-- The words that operations give. Only proofs and the contracts of inner functions use this.
use Rattle.std.proofs.Math.Bool
use Rattle.std.specs.Prelude.{ℕ, ◌+◌, ◌-◌, cond, ◌&&◌, ◌||◌, nat_lt}
use Rattle.design.specs.Designs.{Word, carry, less_below, equal_below, single}

abbrev pub and_word : Word → Word → Word
and_word a b k = a k && b k

abbrev pub or_word : Word → Word → Word
or_word a b k = a k || b k

abbrev pub xor_word : Word → Word → Word
xor_word a b k = Bool.xor (a k) (b k)

abbrev pub sum_word : Word → Word → Word
sum_word a b k = Bool.xor (Bool.xor (a k) (b k)) (carry a b k)

abbrev pub not_word : Word → Word
not_word a k = Bool.not (a k)

-- of words of a width
abbrev pub less_word : Word → Word → ℕ → Word
less_word a b w = single (less_below a b w)

abbrev pub equal_word : Word → Word → ℕ → Word
equal_word a b w = single (equal_below a b w)

abbrev pub mux_word : (choice one zero : Word) → Word
mux_word c a b k = cond (c 0) (a k) (b k)

abbrev pub slice_word : ℕ → Word → Word
slice_word l a k = a (l + k)

-- the bits of the second, as many as the width says, and above them those of the first
abbrev pub concat_word : Word → Word → ℕ → Word
concat_word a b w k = cond (nat_lt k w) (b k) (a (k - w))

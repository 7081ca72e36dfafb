-- Lists of numbers that are made from their places.
use Rattle.std.proofs.Common.{◌≡◌, ℕ, List, map, arith}
use Rattle.std.proofs.lemmas.List.FromFn.{length-map-range_with_len, get_or-map-range_with_len}
use Rattle.std.specs.List.{range_with_len}
use Rattle.player.specs.Plays.{Lists}

pub lists_map : (n : ℕ) (at : ℕ → ℕ) (xs : List ℕ) → xs ≡ map at (range_with_len 0 n) → Lists n at xs
lists_map n at xs e = rw e (record {
  long = length-map-range_with_len at 0 n;
  right = λ k l. get_or-map-range_with_len at 0 n k k 0 l (omega arith);
})

pub lists_end : (k n : ℕ) (at : ℕ → ℕ) (xs : List ℕ) → k ≡ n → Lists k at xs → Lists n at xs
lists_end k n at xs e h = rw e at h

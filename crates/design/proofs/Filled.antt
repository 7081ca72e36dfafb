-- An array that holds one value everywhere.
use Rattle.std.proofs.Common.{◌≡◌, ℕ, zero, suc, get_or, replicate, refl}

-- past its end too, where the default is that value
pub get_or-filled : {A : Type 0} (n k : ℕ) (x : A) → get_or (replicate n x) k x ≡ x
get_or-filled zero k x = refl
get_or-filled (suc n) zero x = refl
get_or-filled (suc n) (suc k) x = get_or-filled n k x

-- Want of memory: what the exit of a `?` returns.
use Rattle.std.proofs.Common.{◌≡◌, IsErrAnd, Result, MatchResult}
use Rattle.std.proofs.lemmas.Result.{err_from_is_err_and}
use Rattle.player.specs.declared.fault.Fault.{Fault}
use Rattle.player.specs.declared.fault.Fault.TheVariants.{Memory}

pub no_memory : {T : Type 0} (P : T → Type 0) (r : Result T Fault) → IsErrAnd r (λ f. f ≡ Memory) → MatchResult r P (λ f. f ≡ Memory)
no_memory P r h = let p = err_from_is_err_and r h in rw p.1 p.2

-- the fault is handed on
pub handed_on : {T : Type 0} (P : T → Type 0) (r : Result T Fault) (e : Fault) → IsErrAnd r (λ f. f ≡ e) → e ≡ Memory → MatchResult r P (λ f. f ≡ Memory)
handed_on P r e h m = let p = err_from_is_err_and r h in rw (p.1, p.2) m

-- What a place that waits for what it wants is given.
use Rattle.std.proofs.Common.{◌≡◌, ℕ, Option, Some, sym, ◌∙◌, subst}
use Rattle.std.specs.Prelude.{IfSome}
use Rattle.tokio.specs.declared.sync.semaphore.AcquireOwned.{AcquireOwned}
use Rattle.http_port.specs.Room.{WaitsFor}

pub waits_for : (units : ℕ) (held taken : Option AcquireOwned) (wanted : AcquireOwned) → IfSome held (WaitsFor units)
    → taken ≡ held → taken ≡ Some wanted → WaitsFor units wanted
waits_for units held taken wanted waits same is = subst (λ (o : Option AcquireOwned). IfSome o (WaitsFor units)) (sym same ∙ is) waits

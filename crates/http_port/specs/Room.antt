-- The room that bodies have while they are under way.
use Rattle.std.specs.Prelude.{◌≡◌, ℕ, min}
use Rattle.std.specs.Int.{div_ceil}
use Rattle.tokio.specs.declared.sync.semaphore.AcquireOwned.{AcquireOwned}
use Rattle.tokio.specs.declared.sync.semaphore.OwnedSemaphorePermit.{OwnedSemaphorePermit}
use Rattle.tokio.specs.Locks.{CanAcquire, owned_num_permits, owned_permits_wanted}

-- how many units of 1024 bytes so many bytes take, as far as they can be counted
abbrev pub units_in : ℕ → ℕ
units_in bytes = min (div_ceil bytes 1024) 4294967295

-- it can be waited for what gives so many permits, and no other number
abbrev pub WaitsFor : ℕ → AcquireOwned → Type 0
WaitsFor units wanted =
    CanAcquire wanted × ((permit : OwnedSemaphorePermit) → owned_num_permits permit ≡ owned_permits_wanted wanted → owned_num_permits permit ≡ units)

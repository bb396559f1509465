-- Who watches a claim.
use Rattle.std.specs.Prelude.{◌≡◌, None}
use Rattle.disk_claim.specs.Volume.{VolumeView, IsSameVolume}
use Rattle.disk_claim.specs.Token.{token_in}
use Rattle.disk_claim.specs.declared.holding.Holding.{Holding}
use Rattle.disk_claim.specs.declared.holding.Holding.TheVariants.{Held}
use Rattle.disk_claim.specs.declared.token.Token.{Token}
use Rattle.disk_claim.specs.declared.watch.Watch.{Watch}

-- it is the same token's, and its volume is as honest as before
pub record IsSameWatch {V : Type 0} (view : V → VolumeView) (old new : Watch V) : Type 0 where
  pub own : new.own ≡ old.own
  pub volume : IsSameVolume (view old.volume) (view new.volume)

-- this token stands in the claim on the device of an honest volume
abbrev pub Shows : {V : Type 0} → (V → VolumeView) → Watch V → Watch V → Token → Type 0
Shows view old new found = (view old.volume).honest → found.bytes ≡ token_in (view new.volume).device

-- where the claim is told to be held, the own token stands on the device of an honest volume
abbrev pub SeesOwn : {V : Type 0} → (V → VolumeView) → Watch V → Watch V → Holding → Type 0
SeesOwn view old new found = (view old.volume).honest → found ≡ Held → token_in (view new.volume).device ≡ old.own.bytes

-- the machine keeps nothing of an honest volume's claim
abbrev pub KeepsNothing : {V : Type 0} → (V → VolumeView) → Watch V → Watch V → Type 0
KeepsNothing view old new = (view old.volume).honest → (view new.volume).kept ≡ None

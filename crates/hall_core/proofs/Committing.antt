-- Lemmas: why a commit was refused, by what the broker says of it.
use Rattle.std.proofs.Common.{◌≡◌, ◌⊎◌, ◌≤◌, true, false, Bool, List, [], ◌∷◌, length, refl, arith, inl, inr}
use Rattle.sector_disk.specs.declared.disk.Disk.{Ghosts}
use Rattle.invoke_records.specs.declared.command.Command.{Command}
use Rattle.broker_core.specs.declared.broker.Broker.{Broker}
use Rattle.broker_core.specs.declared.error.CommitError.{CommitError}
use Rattle.broker_core.specs.declared.error.CommitError.TheVariants as commit_error
use Rattle.broker_core.specs.Broker.{disk_of, pending_of, is_broken, IsSameBroker, Breaks}
use Rattle.broker_core.specs.Refusals.{NeedsSwitch, IsWornOut, HasBadTable}
use Rattle.hall_plans.specs.declared.error.HallError.TheVariants as error
use Rattle.hall_core.specs.Hall.{commit_error_of}
use Rattle.hall_core.specs.Committing.{HasToWrite, IsCommitReason}

unbroken : (b : Bool) → (b ≡ true → ⊥) → b ≡ false
unbroken false never = refl
unbroken true never = absurd (never refl)

some : (pending : List Command) → (pending ≡ [] → ⊥) → 1 ≤ length pending
some [] never = absurd (never refl)
some (c ∷ rest) never = omega arith

-- a commit is told to be one of a broken broker where it is
pub told_broken : (why : CommitError) → commit_error_of why ≡ error.Broken → why ≡ commit_error.Broken
told_broken commit_error.Broken is = refl
told_broken commit_error.WornOut is = absurd (cc)
told_broken commit_error.BadKind is = absurd (cc)
told_broken commit_error.OutOfMemory is = absurd (cc)
told_broken commit_error.Fault is = absurd (cc)

module _ {D : Type 0} {g : Ghosts D} (old new : Broker D g) where
  same_of : (why : CommitError) → ((why ≡ commit_error.Fault) ⊎ IsSameBroker old new) → (why ≡ commit_error.Fault → ⊥) → IsSameBroker old new
  same_of why (inl fault) never = absurd (never fault)
  same_of why (inr same) _ = same

  has_to_write : (why : CommitError) → (why ≡ commit_error.Broken → ⊥) → (is_broken old ≡ true → why ≡ commit_error.Broken)
      → (is_broken old ≡ false → pending_of old ≡ [] → ⊥) → HasToWrite old
  has_to_write why never broken nothing =
      let whole : is_broken old ≡ false = unbroken (is_broken old) (λ is. never (broken is)) in
      record { whole = whole; some = some (pending_of old) (nothing whole) }

  -- a commit of a broken broker leaves the disk alone
  pub disk_is_left : (why : CommitError) → (is_broken old ≡ true → why ≡ commit_error.Broken) → ((why ≡ commit_error.Fault) ⊎ IsSameBroker old new)
      → is_broken old ≡ true → disk_of new ≡ disk_of old
  disk_is_left why broken kept is = (same_of why kept (λ fault. let told = broken is in cc)).disk

  pub not_committed : (why : CommitError) → (why ≡ commit_error.Broken → is_broken old ≡ true) → (is_broken old ≡ true → why ≡ commit_error.Broken)
      → (is_broken old ≡ false → pending_of old ≡ [] → ⊥) → (why ≡ commit_error.WornOut → IsWornOut old × NeedsSwitch old)
      → (why ≡ commit_error.BadKind → HasBadTable old × NeedsSwitch old) → (why ≡ commit_error.Fault → Breaks old new)
      → ((why ≡ commit_error.Fault) ⊎ IsSameBroker old new) → IsCommitReason old new why
  not_committed commit_error.Broken told broken nothing worn bad breaks kept =
      (told refl, same_of commit_error.Broken kept (λ wrong. cc))
  not_committed commit_error.WornOut told broken nothing worn bad breaks kept =
      (has_to_write commit_error.WornOut (λ wrong. cc) broken nothing, (worn refl).1, (worn refl).0, same_of commit_error.WornOut kept (λ wrong. cc))
  not_committed commit_error.BadKind told broken nothing worn bad breaks kept =
      (has_to_write commit_error.BadKind (λ wrong. cc) broken nothing, (bad refl).1, (bad refl).0, same_of commit_error.BadKind kept (λ wrong. cc))
  not_committed commit_error.OutOfMemory told broken nothing worn bad breaks kept =
      (has_to_write commit_error.OutOfMemory (λ wrong. cc) broken nothing, same_of commit_error.OutOfMemory kept (λ wrong. cc))
  not_committed commit_error.Fault told broken nothing worn bad breaks kept =
      (has_to_write commit_error.Fault (λ wrong. cc) broken nothing, breaks refl)

-- Each refusal has a status of 400 or above, which is the same in each dialect.
use Rattle.std.proofs.Common.{◌≡◌, ◌≤◌, lit≤, refl}
use Rattle.retry_rules.specs.declared.settings.Settings.{Settings}
use Rattle.api_core.specs.declared.dialect.Dialect.{Dialect}
use Rattle.api_core.specs.declared.dialect.Dialect.TheVariants.{Profile, Aws}
use Rattle.api_core.specs.declared.dialect.Audience.{Audience}
use Rattle.api_core.specs.declared.dialect.Audience.TheVariants.{Caller, Environment}
use Rattle.api_core.specs.Replies.{refusing}
use Rattle.api_core.specs.declared.refusal.Refusal.{Refusal}
use Rattle.api_core.specs.declared.refusal.Refusal.TheVariants.{UnsupportedInvocationType, InvalidRequestContent, InvalidRequestId, InvalidExtensionHeader, BadSubscription, UnknownExtension, RegistrationClosed, TooManyExtensions, WrongPhase, NotFound, UnknownEvent, MethodNotAllowed, Replaced, NotEnded, TooLarge, TooManyEvents, EnvironmentReset, IdInUse, Unavailable}
use Rattle.api_core.specs.Refusals.{fault_of}

pub refuses : (why : Refusal) → 400 ≤ (fault_of why).status
refuses UnsupportedInvocationType = lit≤ tt
refuses InvalidRequestContent = lit≤ tt
refuses InvalidRequestId = lit≤ tt
refuses InvalidExtensionHeader = lit≤ tt
refuses BadSubscription = lit≤ tt
refuses UnknownExtension = lit≤ tt
refuses RegistrationClosed = lit≤ tt
refuses TooManyExtensions = lit≤ tt
refuses WrongPhase = lit≤ tt
refuses NotFound = lit≤ tt
refuses UnknownEvent = lit≤ tt
refuses MethodNotAllowed = lit≤ tt
refuses Replaced = lit≤ tt
refuses NotEnded = lit≤ tt
refuses TooLarge = lit≤ tt
refuses TooManyEvents = lit≤ tt
refuses EnvironmentReset = lit≤ tt
refuses IdInUse = lit≤ tt
refuses Unavailable = lit≤ tt

pub status_of : (d : Dialect) (s : Settings) (who : Audience) (why : Refusal) → (refusing d s who why).status ≡ (fault_of why).status
status_of Profile s Caller why = refl
status_of Profile s Environment why = refl
status_of Aws s Caller why = refl
status_of Aws s Environment why = refl

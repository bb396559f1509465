-- Laws: a reply of status 202 without a body, or with that of InvokeAsync, says that an event was accepted.
use Rattle.std.proofs.Common.{◌≡◌, ℕ, List, [], Bool, true, false, refl, sym, ap, ◌∙◌, arith}
use Rattle.std.specs.Prelude.{bytes_eq}
use Rattle.std.proofs.lemmas.Bool.{true≢false}
use Rattle.retry_rules.specs.declared.settings.Settings.{Settings}
use Rattle.api_core.specs.declared.dialect.Dialect.{Dialect}
use Rattle.api_core.specs.declared.dialect.Dialect.TheVariants.{Profile, Aws}
use Rattle.api_core.specs.declared.dialect.Audience.{Audience}
use Rattle.api_core.specs.declared.dialect.Audience.TheVariants.{Caller, Environment}
use Rattle.api_core.specs.declared.dialect.Stream.{Stream}
use Rattle.api_core.specs.declared.dialect.Stream.TheVariants.{Telemetry, Logs}
use Rattle.api_core.specs.declared.dialect.Description.{Description}
use Rattle.api_core.specs.declared.dialect.Description.TheVariants.{DryRun, Function, Configuration}
use Rattle.api_core.specs.declared.refusal.Refusal.{Refusal}
use Rattle.api_core.specs.declared.refusal.Refusal.TheVariants.{UnsupportedInvocationType, InvalidRequestContent, InvalidRequestId, InvalidExtensionHeader, BadSubscription, UnknownExtension, RegistrationClosed, TooManyExtensions, WrongPhase, NotFound, UnknownEvent, MethodNotAllowed, Replaced, NotEnded, TooLarge, TooManyEvents, EnvironmentReset, IdInUse, Unavailable}
use Rattle.api_core.specs.Refusals.{fault_of}
use Rattle.api_core.specs.Replies.{Told, accepted, accepted_async, record_of, no_record, deleted, not_ended, table_full, described, taken, registered, runtime_event, invoke_event, shutdown_event, not_supported, refused, Words, reply_in, reply_of_told, refusing, describing, async_body, ok_body, not_supported_text}

refused_apart : {A : Type 0} (why : Refusal) → (fault_of why).status ≡ 202 → A
refused_apart UnsupportedInvocationType h = absurd (omega arith)
refused_apart InvalidRequestContent h = absurd (omega arith)
refused_apart InvalidRequestId h = absurd (omega arith)
refused_apart InvalidExtensionHeader h = absurd (omega arith)
refused_apart BadSubscription h = absurd (omega arith)
refused_apart UnknownExtension h = absurd (omega arith)
refused_apart RegistrationClosed h = absurd (omega arith)
refused_apart TooManyExtensions h = absurd (omega arith)
refused_apart WrongPhase h = absurd (omega arith)
refused_apart NotFound h = absurd (omega arith)
refused_apart UnknownEvent h = absurd (omega arith)
refused_apart MethodNotAllowed h = absurd (omega arith)
refused_apart Replaced h = absurd (omega arith)
refused_apart NotEnded h = absurd (omega arith)
refused_apart TooLarge h = absurd (omega arith)
refused_apart TooManyEvents h = absurd (omega arith)
refused_apart EnvironmentReset h = absurd (omega arith)
refused_apart IdInUse h = absurd (omega arith)
refused_apart Unavailable h = absurd (omega arith)

refusing_apart : {A : Type 0} (d : Dialect) (s : Settings) (who : Audience) (why : Refusal) → (refusing d s who why).status ≡ 202 → A
refusing_apart Profile s who why h = refused_apart why h
refusing_apart Aws s Caller why h = refused_apart why h
refusing_apart Aws s Environment why h = refused_apart why h

described_apart : {A : Type 0} (s : Settings) (what : Description) → (describing s what).status ≡ 202 → A
described_apart s DryRun h = absurd (omega arith)
described_apart s Function h = absurd (omega arith)
described_apart s Configuration h = absurd (omega arith)

-- what is told with the status 202
abbrev is_202 : Told → Bool
is_202 (accepted id) = true
is_202 (accepted_async id) = true
is_202 taken = true
is_202 (not_supported stream) = true
is_202 told = false

others_apart : {A : Type 0} (d : Dialect) (s : Settings) (told : Told) → is_202 told ≡ false → (reply_of_told d s told).status ≡ 202 → A
others_apart d s (accepted id) not h = absurd (true≢false not)
others_apart d s (accepted_async id) not h = absurd (true≢false not)
others_apart Profile s (record_of e) not h = absurd (omega arith)
others_apart Aws s (record_of e) not h = absurd (omega arith)
others_apart d s no_record not h = absurd (omega arith)
others_apart Profile s (deleted id) not h = absurd (omega arith)
others_apart Aws s (deleted id) not h = absurd (omega arith)
others_apart Profile s (not_ended id) not h = refusing_apart Profile s Caller NotEnded h
others_apart Aws s (not_ended id) not h = refusing_apart Aws s Caller NotEnded h
others_apart Profile s (table_full successes failures) not h = absurd (omega arith)
others_apart Aws s (table_full successes failures) not h = absurd (omega arith)
others_apart d s (described what) not h = described_apart s what h
others_apart d s taken not h = absurd (true≢false not)
others_apart d s (registered identifier account) not h = absurd (omega arith)
others_apart d s (runtime_event id deadline payload) not h = absurd (omega arith)
others_apart d s (invoke_event id deadline) not h = absurd (omega arith)
others_apart d s (shutdown_event reason deadline) not h = absurd (omega arith)
others_apart d s (not_supported stream) not h = absurd (true≢false not)
others_apart d s (refused who why) not h = refusing_apart d s who why h

-- ## Without a body

async_has_text : {A : Type 0} → async_body ≡ [] → A
async_has_text h = absurd (cc)

taken_has_text : {A : Type 0} → ok_body ≡ [] → A
taken_has_text h = absurd (cc)

stream_has_text : {A : Type 0} (stream : Stream) → not_supported_text stream ≡ [] → A
stream_has_text Telemetry h = absurd (cc)
stream_has_text Logs h = absurd (cc)

pub accepts : (w : Words) (told : Told) → (reply_in w told).status ≡ 202 → (reply_in w told).body ≡ [] → (id : List ℕ) × (told ≡ accepted id)
accepts w (accepted id) status body = (id, refl)
accepts w (accepted_async id) status body = async_has_text body
accepts w taken status body = taken_has_text body
accepts w (not_supported stream) status body = stream_has_text stream body
accepts w told status body = others_apart w.dialect w.settings told refl status

-- ## With the body that says so

says_not : {A : Type 0} (text : List ℕ) → bytes_eq async_body text ≡ false → text ≡ async_body → A
says_not text not is = absurd (true≢false (sym (ap (bytes_eq async_body) is) ∙ not))

stream_says_not : {A : Type 0} (stream : Stream) → not_supported_text stream ≡ async_body → A
stream_says_not Telemetry is = says_not (not_supported_text Telemetry) refl is
stream_says_not Logs is = says_not (not_supported_text Logs) refl is

pub accepts_async : (w : Words) (told : Told) → (reply_in w told).status ≡ 202 → (reply_in w told).body ≡ async_body → (id : List ℕ) × (told ≡ accepted_async id)
accepts_async w (accepted id) status body = async_has_text (sym body)
accepts_async w (accepted_async id) status body = (id, refl)
accepts_async w taken status body = says_not ok_body refl body
accepts_async w (not_supported stream) status body = stream_says_not stream body
accepts_async w told status body = others_apart w.dialect w.settings told refl status

-- A hall as contracts see it, and what its calls have done.
use Rattle.std.specs.Prelude.{◌≡◌, ℕ, ◌-◌, ◌^◌, ◌≤◌, Bool, true, false, ◌&&◌, List, [], ◌∷◌, Option, None, Some, ◌⊎◌, nat_le, slice_index, is_some, option_map}
use Rattle.retry_rules.specs.declared.settings.Settings.{Settings}
use Rattle.env_phase.specs.State.{EnvState}
use Rattle.api_core.specs.declared.call.Call.{Call}
use Rattle.broker_core.specs.declared.issuer.Issuer.{Ghosts}
use Rattle.broker_core.specs.declared.error.CommitError.{CommitError}
use Rattle.broker_core.specs.declared.error.CommitError.TheVariants as commit_error
use Rattle.broker_core.specs.Issuer.{IssuerView, issued_in, state_in, IsSameIssuer}
use Rattle.hall_core.specs.declared.hall.Hall.{Hall}
use Rattle.hall_plans.specs.declared.error.HallError.{HallError}
use Rattle.hall_plans.specs.declared.error.HallError.TheVariants as error
use Rattle.hall_plans.specs.declared.issued.Issued.{Issued}
use Rattle.invoke_records.specs.declared.command.Command.{Command}
use Rattle.hall_core.specs.Issuing.{Continues, IsAnswered}
use Rattle.hall_plans.specs.Past.{HallCall, arrive, tick, Past, SlotEvent, is_stopping}
use Rattle.hall_plans.specs.Effects.{id_of, command_of}
use Rattle.hall_plans.specs.Asked.{AsksFor}
use Rattle.hall_plans.specs.Run.{past_after, issued_by, polls_answered}
use Rattle.hall_core.specs.declared.released.Released.{Released}
use Rattle.api_core.specs.declared.dialect.Dialect.{Dialect}
use Rattle.api_core.specs.Replies.{Words, reply_in}
use Rattle.hall_plans.specs.Slots.{Reply, released, released_in}
use Rattle.hall_plans.specs.Refusals.{first_failed, why_refused}
use Rattle.hall_plans.specs.Agreement.{IsFit}
use Rattle.hall_plans.specs.Answering.{words_of}
use Rattle.hall_plans.specs.Plans.{Meets, IsToOneOf}
use Rattle.hall_core.specs.OpenSlots.{Entries, KeepFor, has_open, open_count}

-- the parts of a hall at a moment
pub record HallView : Type 1 where
  pub issuer : IssuerView
  pub environments : List EnvState
  -- for how many extensions each of them waits
  pub wanted : ℕ
  -- what is kept of slots
  pub slots : Entries
  -- in which words replies are told
  pub dialect : Dialect
  -- a request asked it to stop
  pub stops : Bool

abbrev pub view_of : {I : Type 0} {g : Ghosts I} → (I → IssuerView) → Hall I g → HallView
view_of view hall = record {
  issuer = view hall.issuer;
  environments = hall.environments;
  wanted = hall.wanted;
  slots = hall.slots;
  dialect = hall.dialect;
  stops = hall.stops;
}

-- the slots of the polls that the last request or move answered, until they are handed out
abbrev pub answered_slots : {I : Type 0} {g : Ghosts I} → Hall I g → List ℕ
answered_slots hall = hall.answered.items

abbrev pub settings_in : HallView → Settings
settings_in hall = hall.issuer.settings

-- the words in which it tells its replies
abbrev pub words_in : HallView → Words
words_in hall = words_of hall.dialect (settings_in hall)

-- the slot is open
abbrev pub is_slot_open : HallView → ℕ → Bool
is_slot_open hall slot = has_open hall.issuer.broken hall.slots slot

-- how many slots are open
abbrev pub open_slot_count : HallView → ℕ
open_slot_count hall = open_count hall.issuer.broken hall.slots

-- ## What it has done

-- each part of the hall is what these calls left
pub record StandsFor (hall : HallView) (past : Past) : Type 0 where
  pub history : hall.issuer.stands past.history
  pub environments : Meets (state_in hall.issuer) hall.environments past
  pub waits : hall.wanted ≡ past.wanted
  pub slots : KeepFor (words_in hall) hall.slots past.slots
  pub stopping : hall.stops ≡ is_stopping past

-- this holds of all that the hall can have done
abbrev pub ForEachPast : HallView → (Past → Type 0) → Type 0
ForEachPast hall holds = (past : Past) → StandsFor hall past → holds past

-- a request with two random words, as a call of the hall
abbrev pub request : ℕ → Call → ℕ → List ℕ → HallCall
request slot call now words = arrive slot call now (slice_index words 0, slice_index words 1)

-- the slot is not open, the environment is there, and the conditions of the call are met
pub record CanBeAsked (hall : HallView) (slot : ℕ) (call : Call) (now : ℕ) (words : List ℕ) : Type 0 where
  pub free : is_slot_open hall slot ≡ false
  pub environment : IsToOneOf hall.environments call
  pub fit : IsFit (settings_in hall) (request slot call now words)

-- ## What a call makes of it

-- whatever was done before, the call answers its command, and is done
abbrev pub Does : HallView → HallView → HallCall → Option Issued → Type 0
Does old new call issued =
    ForEachPast old (λ past. (issued ≡ issued_by (settings_in old) past call) × StandsFor new (past_after (settings_in old) past call))

-- whether a history is known or not, it issued one command or none, and what it tells of that is so
pub record IssuesAtMostOne (old new : IssuerView) (issued : Option Issued) : Type 0 where
  pub command : Option Command
  pub continues : Continues old new command
  pub answered : IsAnswered old command issued

-- whatever was done before, the call answers the polls of these slots, in this order
abbrev pub AnswersPolls : HallView → HallCall → List ℕ → Type 0
AnswersPolls old call slots = ForEachPast old (λ past. slots ≡ polls_answered (settings_in old) past call)

-- nothing has become durable in between, and the device did not fail
abbrev pub IsAsDurable : HallView → HallView → Type 0
IsAsDurable old new = (new.issuer.durable ≡ old.issuer.durable) × (new.issuer.broken ≡ old.issuer.broken)

-- it is the first check that fails, or want of memory where none does
abbrev pub IsReason : Option HallError → HallError → Type 0
IsReason refused why = (refused ≡ Some why) ⊎ ((refused ≡ None) × (why ≡ error.OutOfMemory))

-- whatever was done before, the call is refused for this reason
abbrev pub Refuses : HallView → HallCall → HallError → Type 0
Refuses hall call why =
    ForEachPast hall (λ past. IsReason (why_refused hall.issuer.broken hall.issuer.durable (settings_in hall) past call) why)

-- two moments of a hall between which nothing was done
pub record IsSameHall (old new : HallView) : Type 0 where
  pub issuer : IsSameIssuer old.issuer new.issuer
  pub environments : new.environments ≡ old.environments
  pub wanted : new.wanted ≡ old.wanted
  pub slots : (events : List SlotEvent) → KeepFor (words_in old) old.slots events → KeepFor (words_in old) new.slots events
  pub dialect : new.dialect ≡ old.dialect
  pub stops : new.stops ≡ old.stops

-- ## Its own refusals

-- how many commands are not durable
abbrev pub pending_in : IssuerView → ℕ
pending_in issuer = issued_in issuer - issuer.durable

-- by what it keeps, with whether the call has a command
abbrev pub refusal_of_arrival : HallView → Bool → Option HallError
refusal_of_arrival hall has_command =
    first_failed (
    (hall.issuer.broken, error.Broken)
    ∷ (hall.stops, error.Stopping)
    ∷ (has_command && nat_le (2 ^ 62) (issued_in hall.issuer), error.WornOut)
    ∷ (nat_le 1024 (open_slot_count hall), error.Backlog)
    ∷ (has_command && nat_le 256 (pending_in hall.issuer), error.Backlog)
    ∷ []
    )

abbrev pub refusal_of_moving : HallView → Bool → Option HallError
refusal_of_moving hall has_command =
    first_failed (
    (hall.issuer.broken, error.Broken)
    ∷ (has_command && nat_le (2 ^ 62) (issued_in hall.issuer), error.WornOut)
    ∷ (has_command && nat_le 256 (pending_in hall.issuer), error.Backlog)
    ∷ []
    )

-- its own refusal of a call
abbrev pub own_refusal : HallView → HallCall → Bool → Option HallError
own_refusal hall (arrive slot call now words) has_command = refusal_of_arrival hall has_command
own_refusal hall (tick now) has_command = refusal_of_moving hall has_command
own_refusal hall call has_command = None

-- no check fails of a call that is answered so: by what the hall keeps, and whatever was done before
pub record Passes (hall : HallView) (call : HallCall) (issued : Option Issued) : Type 0 where
  pub by_parts : own_refusal hall call (is_some issued) ≡ None
  pub by_past : ForEachPast hall (λ past. why_refused hall.issuer.broken hall.issuer.durable (settings_in hall) past call ≡ None)

-- a request may have the command by itself; a tick has one only where the hall is not stopping
abbrev pub MayHave : HallView → HallCall → Command → Type 0
MayHave hall (arrive slot call now words) c = AsksFor (id_of words) call c.kind c.id
MayHave hall (tick now) c = hall.stops ≡ false
MayHave hall call c = ⊥

-- the call would issue this command, by itself and by whatever was done before it
pub record WouldIssue (hall : HallView) (call : HallCall) : Type 0 where
  pub command : Command
  pub may : MayHave hall call command
  pub has : ForEachPast hall (λ past. command_of (settings_in hall) past call ≡ Some command)

abbrev pub IsRequest : HallCall → Type 0
IsRequest (arrive slot call now words) = Unit {0}
IsRequest call = ⊥

-- a request needs memory for its replies, a tick only where it has a command
abbrev pub NeedsMemory : HallView → HallCall → Type 0
NeedsMemory hall (tick now) = WouldIssue hall (tick now)
NeedsMemory hall call = Unit {0}

-- why a call is refused, by what the hall keeps, whether a history is known or not
abbrev pub KeepsReason : HallView → HallCall → HallError → Type 0
KeepsReason hall call error.Broken = hall.issuer.broken ≡ true
KeepsReason hall call error.Stopping = IsRequest call × (hall.stops ≡ true)
KeepsReason hall call error.WornOut = WouldIssue hall call × (2 ^ 62 ≤ issued_in hall.issuer)
KeepsReason hall call error.Backlog =
    (IsRequest call × (1024 ≤ open_slot_count hall)) ⊎ (WouldIssue hall call × (256 ≤ pending_in hall.issuer))
KeepsReason hall call error.NoHistory = ForEachPast hall (λ past. ⊥)
KeepsReason hall call error.OutOfMemory = NeedsMemory hall call
KeepsReason hall call other = ⊥

-- ## Replies

-- a reply that is told to this slot, with its receipt
abbrev pub released_to : Words → ℕ → Reply → Released
released_to w slot told = record { reply = reply_in w told.0; receipt = told.1; slot = slot }

-- the slot that it is told to
abbrev pub slot_told : Released → ℕ
slot_told released = released.slot

-- the slot is told what these events release, where the hall has these words
abbrev pub GivesFor : HallView → ℕ → Option Released → Words → List SlotEvent → Type 0
GivesFor hall slot given w events =
    given ≡ option_map (released_to w slot) (released_in hall.issuer.broken hall.issuer.durable events slot)

-- whatever was done, the slot is told this
abbrev pub Gives : HallView → ℕ → Option Released → Type 0
Gives hall slot given =
    ForEachPast hall (λ past.
    given ≡ option_map (released_to (words_in hall) slot) (released hall.issuer.broken hall.issuer.durable past slot))

-- whatever was done before, the call is done
abbrev pub IsDone : HallView → HallView → HallCall → Type 0
IsDone old new call = ForEachPast old (λ past. StandsFor new (past_after (settings_in old) past call))

-- all that was issued is durable, which is so much
abbrev pub IsAllDurable : HallView → ℕ → Type 0
IsAllDurable hall durable = (durable ≡ issued_in hall.issuer) × (hall.issuer.durable ≡ issued_in hall.issuer)

-- how the hall tells why a commit was refused
abbrev pub commit_error_of : CommitError → HallError
commit_error_of commit_error.Broken = error.Broken
commit_error_of commit_error.WornOut = error.WornOut
commit_error_of commit_error.BadKind = error.BadKind
commit_error_of commit_error.OutOfMemory = error.OutOfMemory
commit_error_of commit_error.Fault = error.Fault

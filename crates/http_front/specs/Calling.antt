-- Whom a request calls.
use Rattle.std.specs.Prelude.{◌≡◌, Bool, true, false, Option, Some, None, IfSome, is_some}
use Rattle.futures.specs.declared.task.source.Source.{Source}
use Rattle.invoke_records.specs.declared.command.Kind.{Kind}
use Rattle.invoke_records.specs.declared.command.Kind.TheVariants.{Fail, Throttle}
use Rattle.hall_plans.specs.declared.issued.Issued.{Issued}
use Rattle.api_core.specs.declared.call.Call.{Call}
use Rattle.api_core.specs.declared.call.Call.TheVariants.{StopBroker}
use Rattle.http_front.specs.declared.wake.Called.{Called}

abbrev pub is_put_off : Kind → Bool
is_put_off (Fail why) = true
is_put_off Throttle = true
is_put_off other = false

-- an event waits since this was issued
abbrev pub puts_off : Issued → Bool
puts_off issued = is_put_off issued.kind

abbrev pub puts_one_off : Option Issued → Bool
puts_one_off (Some issued) = puts_off issued
puts_one_off None = false

-- where this was issued, there is something to commit, and where that puts an event off, a move may be near
pub record CallFor (issued : Option Issued) (has_command is_move_near : Bool) : Type 0 where
  pub commit : is_some issued ≡ true → has_command ≡ true
  pub move : puts_one_off issued ≡ true → is_move_near ≡ true

abbrev pub stops : Call → Bool
stops StopBroker = true
stops other = false

-- who was called was called at this wake
abbrev pub IsCalledAt : Source → Option Called → Type 0
IsCalledAt wake called = IfSome called (λ c. c.at.value ≡ wake)

-- a call that issued this had the committer called where there was something to commit, or the broker is to stop, and the ticker
-- where an event was put off: each at its wake
pub record CallsFor (committer ticker : Source) (call : Call) (issued : Option Issued) (commits moves : Option Called) : Type 0 where
  pub commit : is_some issued ≡ true → is_some commits ≡ true
  pub stop : stops call ≡ true → is_some commits ≡ true
  pub move : puts_one_off issued ≡ true → is_some moves ≡ true
  pub committer_at : IsCalledAt committer commits
  pub ticker_at : IsCalledAt ticker moves

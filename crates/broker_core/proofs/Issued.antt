-- What one command more does to a broker that stands for a history.
use Rattle.std.proofs.Common.{◌≡◌, ℕ, ◌≤◌, Option, None, Some, List, length, take, [], ◌∷◌, ◌++◌, Result, Ok, Err, sym, ap, subst, ◌∙◌, arith, length-append}
use Rattle.std.specs.Prelude.{IfOk, IfSome}
use Rattle.std.proofs.lemmas.List.{take-append-le, drop-append-le}
use Rattle.retry_rules.specs.declared.settings.Settings.{Settings}
use Rattle.invoke_records.specs.declared.snapshot.Snapshot.{Snapshot}
use Rattle.invoke_records.specs.declared.command.Command.{Command}
use Rattle.async_core.specs.Rules.{refusal_at, table_after}
use Rattle.async_core.specs.History.{refusal_of, table_of}
use Rattle.async_core.specs.laws.Tables.{refusal-of_table, table_of-more, IsLegal-more}
use Rattle.sector_disk.specs.Disk.{DiskView}
use Rattle.gate_journal.specs.declared.staged.Staged.{Staged}
use Rattle.gate_journal.specs.Staged.{count_of}
use Rattle.checkpoint.specs.declared.opened.Opened.{Opened}
use Rattle.checkpoint.specs.Live.{IsLive, RecoversTo}
use Rattle.checkpoint.specs.Ahead.{IsLiveAhead}
use Rattle.broker_core.specs.History.{IsLegalStop}
use Rattle.sector_disk.specs.declared.disk.Disk.{Ghosts}
use Rattle.broker_core.specs.declared.broker.Broker.{Broker}
use Rattle.broker_core.specs.declared.error.IssueError.{IssueError}
use Rattle.broker_core.specs.declared.error.IssueError.TheVariants as issue_error
use Rattle.broker_core.specs.Broker.{BrokerState, StandsFor, IsReason}
use Rattle.broker_core.specs.Steps.{IsTakeReason}

-- a fact of what is Ok, and what follows from it
pub if_ok : {T E : Type 0} (P Q : T → Type 0) (r : Result T E) → ((x : T) → P x → Q x) → IfOk r P → IfOk r Q
if_ok P Q (Ok x) step is = step x is
if_ok P Q (Err e) step is = tt

-- a legal stop of a history is one of a longer history
pub stop_of_more : (s : Settings) (history later : List Command) (durable : ℕ) (image : List ℕ) → IsLegalStop s history durable image → IsLegalStop s (history ++ later) durable image
stop_of_more s history later durable image stop = record {
  size = stop.size;
  least = stop.least;
  most = omega (arith, stop.most, length-append history later);
  recovers = subst (λ (h : List Command). RecoversTo s (table_of s h) image) (sym (take-append-le stop.size history later stop.most)) stop.recovers;
}

-- why a broker that stands for a history refuses a command
pub refusal_is : {broker : BrokerState} (history : List Command) → StandsFor broker history → (command : Command) → refusal_at broker.settings broker.table command ≡ refusal_of broker.settings history command
refusal_is {broker} history stands command =
    ap (λ (t : Snapshot). refusal_at broker.settings t command) stands.table_is ∙ refusal-of_table broker.settings history command stands.good.check stands.legal

-- the broker with one command more
abbrev pub with_command : BrokerState → Command → BrokerState
with_command broker command = record broker {
  table = table_after broker.settings broker.table command;
  pending = broker.pending ++ command ∷ [];
}

-- what is staged stays the front of what is pending
front_more : (staged : Option Staged) (pending : List Command) (command : Command) → IfSome staged (λ group. count_of group ≤ length pending)
    → IfSome staged (λ group. count_of group ≤ length (pending ++ command ∷ []))
front_more None pending command is = tt
front_more (Some group) pending command is = omega (arith, is, length-append pending (command ∷ []))

ahead_more : (disk : DiskView) (opened : Opened) (before after : Snapshot) (pending : List Command) (command : Command) (staged : Option Staged) → before ≡ after
    → IfSome staged (λ group. count_of group ≤ length pending) → IfSome staged (λ group. IsLiveAhead disk opened before (take (count_of group) pending) group)
    → IfSome staged (λ group. IsLiveAhead disk opened after (take (count_of group) (pending ++ command ∷ [])) group)
ahead_more disk opened before after pending command None same front is = tt
ahead_more disk opened before after pending command (Some group) same front is =
    subst (λ (t : Snapshot). IsLiveAhead disk opened t (take (count_of group) (pending ++ command ∷ [])) group) same
    (subst (λ (l : List Command). IsLiveAhead disk opened before l group) (sym (take-append-le (count_of group) pending (command ∷ []) front)) is)

-- and what it stands for with one that it accepts
pub stands_more : {broker : BrokerState} (history : List Command) → StandsFor broker history → (command : Command) → refusal_at broker.settings broker.table command ≡ None
    → StandsFor (with_command broker command) (history ++ command ∷ [])
stands_more {broker} history stands command accepted =
    let s = broker.settings in
    let legal : refusal_of s history command ≡ None = sym (refusal_is history stands command) ∙ accepted in
    record {
      good = stands.good;
      legal = IsLegal-more s history command stands.legal legal;
      table_is = ap (λ (t : Snapshot). table_after s t command) stands.table_is ∙ table_of-more s history command stands.good.check stands.legal legal;
      durable_is = omega (arith, stands.durable_is, length-append history (command ∷ []));
      pending_is = ap (λ (l : List Command). l ++ command ∷ []) stands.pending_is ∙ sym (drop-append-le broker.durable history (command ∷ []) stands.durable_is);
      stops = λ honest image left. stop_of_more s history (command ∷ []) broker.durable image (stands.stops honest image left);
      live = λ whole honest.
          subst (λ (h : List Command). IsLive broker.disk broker.opened (table_of s h)) (sym (take-append-le broker.durable history (command ∷ []) stands.durable_is)) (stands.live whole honest);
      front = front_more broker.staged broker.pending command stands.front;
      ahead = λ whole honest.
          ahead_more broker.disk broker.opened _ _ broker.pending command broker.staged
          (ap (table_of s) (sym (take-append-le broker.durable history (command ∷ []) stands.durable_is))) stands.front (stands.ahead whole honest);
    }

-- a broker of equal parts stands for the same history
pub stands_along : (was now : BrokerState) (history : List Command) → now.disk ≡ was.disk → now.opened ≡ was.opened → now.settings ≡ was.settings → now.table ≡ was.table
    → now.pending ≡ was.pending → now.durable ≡ was.durable → now.broken ≡ was.broken → now.staged ≡ was.staged → StandsFor was history → StandsFor now history
stands_along was now history disk opened settings table pending durable broken staged stands =
    let same : was ≡ now = λ i. record {
      disk = sym disk i;
      opened = sym opened i;
      settings = sym settings i;
      table = sym table i;
      pending = sym pending i;
      durable = sym durable i;
      broken = sym broken i;
      staged = sym staged i;
    } in
    subst (λ (b : BrokerState). StandsFor b history) same stands

-- why a table and what is pending on it refuse a command, is why the broker does
pub reason_of : {D : Type 0} {g : Ghosts D} (broker : Broker D g) (command : Command) (why : IssueError) → IsTakeReason broker.table broker.pending.items command why → IsReason broker command why
reason_of broker command issue_error.Broken reason = absurd reason
reason_of broker command issue_error.WornOut reason = reason
reason_of broker command (issue_error.Illegal why) reason = reason
reason_of broker command issue_error.Backlog reason = reason
reason_of broker command issue_error.OutOfMemory reason = reason

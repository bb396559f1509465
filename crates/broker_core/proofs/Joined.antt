-- What two halves are joined to.
use Rattle.std.proofs.Common.{◌≡◌, ℕ, ◌+◌, ◌-◌, ◌<◌, ◌≤◌, true, None, Some, List, ◌++◌, length, take, drop, sym, ap, subst, ◌∙◌, arith, ⊎_elim, length-append, length-drop}
use Rattle.std.specs.Prelude.{slice_get, IfSome, IsSome}
use Rattle.std.proofs.lemmas.List.{drop-drop, take_all, take-append-drop, length-take-le}
use Rattle.std.proofs.lemmas.Bool.{cases_lt}
use Rattle.sector_disk.specs.Disk.{DiskView}
use Rattle.sector_disk.specs.declared.disk.Disk.{Ghosts}
use Rattle.retry_rules.specs.declared.settings.Settings.{Settings}
use Rattle.invoke_records.specs.declared.snapshot.Snapshot.{Snapshot}
use Rattle.invoke_records.specs.declared.command.Command.{Command}
use Rattle.async_core.specs.Rules.{refusal_at, replay}
use Rattle.async_core.specs.State.{State}
use Rattle.async_core.specs.laws.Tables.{number-table_of}
use Rattle.broker_core.specs.declared.broker.Broker.{Broker}
use Rattle.broker_core.specs.declared.issue_half.IssueHalf.{IssueHalf}
use Rattle.broker_core.specs.declared.taking.TakeError.TheVariants as take_error
use Rattle.broker_core.specs.Broker.{settings_of, table_in, issued_of, pending_of, BrokerState, StandsFor, Stands}
use Rattle.broker_core.specs.Issuer.{state_in}
use Rattle.broker_core.specs.IssuerHalf.{half_view}
use Rattle.broker_core.specs.Splitting.{Takes, Agree, ahead_of}
use Rattle.broker_core.specs.Taking.{IllegalNext, StopsBefore, HasJoined}
use Rattle.broker_core.proofs.Taken.{replay_stops}

-- the front of a list, and what of its end is ahead of that
whole_of : (history pending : List Command) (n d : ℕ) → d ≤ length history → pending ≡ drop d history → n + length (drop (n - d) pending) ≡ length history
    → take n history ++ drop (n - d) pending ≡ history
whole_of history pending n d within is size =
    let left : length pending ≡ length history - d = ap length is ∙ length-drop d history in
    let known : d ≤ n =
    ⊎_elim (λ (less : n < d). absurd (omega (arith, less, left, within, size, length-drop (n - d) pending))) (λ (le : d ≤ n). le) (cases_lt n d) in
    let ahead : drop (n - d) pending ≡ drop n history =
    ap (drop (n - d)) is ∙ drop-drop (n - d) d history ∙ ap (λ (m : ℕ). drop m history) (omega (arith, known)) in
    ap (λ (l : List Command). take n history ++ l) ahead ∙ take-append-drop n history

-- a broker that is said to be broken stands for what it did
pub stands_broken : {broker : BrokerState} {history : List Command} → StandsFor broker history → StandsFor (record broker { broken = true }) history
stands_broken stands = record {
  good = stands.good;
  legal = stands.legal;
  table_is = stands.table_is;
  durable_is = stands.durable_is;
  pending_is = stands.pending_is;
  stops = stands.stops;
  live = λ sound honest. absurd cc;
  front = stands.front;
  ahead = λ sound honest. absurd cc;
}

module _ {D : Type 0} {g : Ghosts D} (view : D → DiskView) (issue : IssueHalf) (old new : Broker D g) (takes : Takes old new (ahead_of issue old) (issued_of new - issued_of old)) where
  abbrev ahead : List Command
  ahead = ahead_of issue old

  -- where all was taken, the commands that are ahead lead to the broker's table
  pub leads : issued_of new ≡ issued_of old + length ahead → replay (settings_of old) (table_in old) ahead ≡ Some (table_in new)
  leads all =
      let count : issued_of new - issued_of old ≡ length ahead = omega (arith, all) in
      ap (replay (settings_of old) (table_in old)) (sym (take_all (issued_of new - issued_of old) ahead (omega (arith, count)))) ∙ takes.table

  -- equal tables agree
  pub joined : issued_of new ≡ issued_of old + length ahead → record { settings = settings_of new; table = table_in new } ≡ state_in (half_view issue) → HasJoined issue old new
  joined all same =
      let table : table_in new ≡ (half_view issue).table = ap (λ (t : State). t.table) same in
      record {
        all = all;
        agree = record {
          settings = sym takes.settings ∙ ap (λ (t : State). t.settings) same;
          table = leads all ∙ ap (λ (t : Snapshot). Some t) table;
        };
        table = table;
      }

  -- tables that agree are equal
  pub agreed : issued_of new ≡ issued_of old + length ahead → Agree issue old → record { settings = settings_of new; table = table_in new } ≡ state_in (half_view issue)
  agreed all agree =
      let some : Some (table_in new) ≡ Some (half_view issue).table = sym (leads all) ∙ agree.table in
      let table : table_in new ≡ (half_view issue).table = cc in
      let settings : settings_of new ≡ (half_view issue).settings = takes.settings ∙ agree.settings in
      λ i. record { settings = settings i; table = table i }

  -- a command that is not legal leads to no table
  pub apart : issued_of new - issued_of old < length ahead → IllegalNext old new ahead → Agree issue old → ⊥
  apart lt illegal agree =
      let stops : replay (settings_of old) (table_in old) ahead ≡ None =
      replay_stops (settings_of old) (table_in old) (table_in new) ahead (issued_of new - issued_of old) lt takes.table
      (subst (λ (s : Settings). IfSome (slice_get ahead (issued_of new - issued_of old)) (λ c. IsSome (refusal_at s (table_in new) c))) takes.settings illegal) in
      let wrong : None ≡ Some (half_view issue).table = sym stops ∙ agree.table in
      cc

  -- where the broker stood for a front of the issue half's history, it stands for that history
  pub stands_whole : (history : List Command) → HasJoined issue old new → (half_view issue).stands history
      → Stands view new (take (issued_of old) history ++ take (issued_of new - issued_of old) ahead) → Stands view new history
  stands_whole history has stands there =
      let number : (half_view issue).table.number ≡ length history = ap (λ (t : Snapshot). t.number) stands.table_is ∙ number-table_of (half_view issue).settings history in
      let size : issued_of old + length ahead ≡ length history = sym has.all ∙ ap (λ (t : Snapshot). t.number) has.table ∙ number in
      let count : issued_of new - issued_of old ≡ length ahead = omega (arith, has.all) in
      let all : take (issued_of new - issued_of old) ahead ≡ ahead = take_all (issued_of new - issued_of old) ahead (omega (arith, count)) in
      subst (λ (l : List Command). Stands view new l)
      (ap (λ (l : List Command). take (issued_of old) history ++ l) all
      ∙ whole_of history (half_view issue).pending (issued_of old) (half_view issue).durable stands.durable_is stands.pending_is size)
      there

-- what was taken of a copy of what is ahead, was taken of that
module _ {D : Type 0} {g : Ghosts D} (view : D → DiskView) (issue : IssueHalf) (old new : Broker D g) (issued : ℕ) (commands : List Command) (number : issued ≡ issued_of old) (copied : commands ≡ drop (issued - (half_view issue).durable) (half_view issue).pending) where
  abbrev count : ℕ
  count = issued_of new - issued_of old

  ahead_is : commands ≡ ahead_of issue old
  ahead_is = copied ∙ ap (λ (n : ℕ). drop (n - (half_view issue).durable) (half_view issue).pending) number

  pub takes_ahead : Takes old new commands count → Takes old new (ahead_of issue old) count
  takes_ahead takes = subst (λ (l : List Command). Takes old new l count) ahead_is takes

  pub stands_ahead : (history : List Command) → Stands view new (history ++ take count commands) → Stands view new (history ++ take count (ahead_of issue old))
  stands_ahead history stands = subst (λ (l : List Command). Stands view new (history ++ take count l)) ahead_is stands

  pub all_ahead : issued_of new ≡ issued_of old + length commands → issued_of new ≡ issued_of old + length (ahead_of issue old)
  all_ahead all = subst (λ (l : List Command). issued_of new ≡ issued_of old + length l) ahead_is all

  pub full_ahead : Takes old new commands count → StopsBefore old new commands take_error.Backlog → (length (pending_of new) ≡ 256) × (256 < length (pending_of old) + length (ahead_of issue old))
  full_ahead takes stops =
      let size : length (take count commands) ≡ count = length-take-le count commands takes.most in
      let left : count < length (ahead_of issue old) = subst (λ (l : List Command). count < length l) ahead_is stops.0 in
      (stops.1, omega (arith, stops.1, ap (λ (l : List Command). length l) takes.pending, length-append (pending_of old) (take count commands), size, left))

  pub apart_ahead : Takes old new commands count → StopsBefore old new commands take_error.Illegal → Agree issue old → ⊥
  apart_ahead takes stops =
      let there : StopsBefore old new (ahead_of issue old) take_error.Illegal = subst (λ (l : List Command). StopsBefore old new l take_error.Illegal) ahead_is stops in
      apart view issue old new (takes_ahead takes) there.0 there.1

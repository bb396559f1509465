-- What an opened disk says of the history that its images are legal stops of.
use Rattle.std.proofs.Common.{◌≡◌, ℕ, ◌≤◌, List, length, take, Result, Ok, sym, ap, subst, ◌∙◌, arith}
use Rattle.std.proofs.lemmas.List.{length-take, take_all}
use Rattle.retry_rules.specs.declared.settings.Settings.{Settings}
use Rattle.invoke_records.specs.declared.snapshot.Snapshot.{Snapshot}
use Rattle.invoke_records.specs.declared.command.Command.{Command}
use Rattle.async_core.specs.State.{State}
use Rattle.async_core.specs.History.{IsLegal, table_of}
use Rattle.async_core.specs.laws.Held.{IsLegal-take}
use Rattle.async_core.specs.laws.Tables.{number-table_of}
use Rattle.checkpoint.specs.declared.error.OpenError.{OpenError}
use Rattle.checkpoint.specs.Live.{RecoversTo}
use Rattle.broker_core.specs.History.{IsLegalStop}

abbrev read : State → Result State OpenError
read state = Ok state

same_state : (a b : State) → read a ≡ read b → a ≡ b
same_state a b e = cc

-- an image recovers to one state
pub one_settings : (s s' : Settings) (t t' : Snapshot) (image : List ℕ) → RecoversTo s t image → RecoversTo s' t' image → s' ≡ s
one_settings s s' t t' image first second =
    ap (λ (state : State). state.settings) (same_state (record { settings = s'; table = t' }) (record { settings = s; table = t }) (sym second ∙ first))

pub one_table : (s s' : Settings) (t t' : Snapshot) (image : List ℕ) → RecoversTo s t image → RecoversTo s' t' image → t' ≡ t
one_table s s' t t' image first second =
    ap (λ (state : State). state.table) (same_state (record { settings = s'; table = t' }) (record { settings = s; table = t }) (sym second ∙ first))

-- what a legal stop that recovers to this table says of it
pub record Reopens (s : Settings) (history : List Command) (durable : ℕ) (s' : Settings) (t : Snapshot) : Type 0 where
  pub least : durable ≤ t.number
  pub most : t.number ≤ length history
  pub settings : s' ≡ s
  pub legal : IsLegal s' (take t.number history)
  pub table : t ≡ table_of s' (take t.number history)

pub reopens : (s : Settings) (history : List Command) (durable : ℕ) (s' : Settings) (t : Snapshot) (image : List ℕ) → IsLegal s history → IsLegalStop s history durable image → RecoversTo s' t image
    → Reopens s history durable s' t
reopens s history durable s' t image legal stop is =
    let settings = one_settings s s' (table_of s (take stop.size history)) t image stop.recovers is in
    let table : t ≡ table_of s (take stop.size history) = one_table s s' (table_of s (take stop.size history)) t image stop.recovers is in
    let number : t.number ≡ stop.size =
    ap (λ (u : Snapshot). u.number) table ∙ number-table_of s (take stop.size history) ∙ omega (arith, length-take stop.size history, stop.most) in
    record {
      least = omega (arith, stop.least, number);
      most = omega (arith, stop.most, number);
      settings = settings;
      legal = subst (λ (r : Settings). IsLegal r (take t.number history)) (sym settings) (IsLegal-take s history t.number legal);
      table = table ∙ (λ i. table_of (sym settings i) (take (sym number i) history));
    }

-- the whole of a prefix is a legal stop of it
pub stops_at_end : (s : Settings) (history : List Command) (n : ℕ) (t : Snapshot) (image : List ℕ) → n ≤ length history → t ≡ table_of s (take n history) → RecoversTo s t image
    → IsLegalStop s (take n history) n image
stops_at_end s history n t image within table is =
    let all : length (take n history) ≡ n = omega (arith, length-take n history) in
    record {
      size = n;
      least = omega arith;
      most = omega (arith, all);
      recovers = subst (λ (u : Snapshot). RecoversTo s u image) (table ∙ ap (table_of s) (sym (take_all n (take n history) (omega (arith, all))))) is;
    }

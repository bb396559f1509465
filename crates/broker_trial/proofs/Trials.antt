-- The history of the trial, step by step.
use Rattle.std.proofs.Common.{◌≡◌, ℕ, List, [], ◌∷◌, length, Result, Ok, Err, refl, sym, subst, arith}
use Rattle.std.specs.Prelude.{IfOk}
use Rattle.sector_disk.specs.Disk.{DiskView, HasOneImage}
use Rattle.sector_disk.specs.Memory.{memory_view}
use Rattle.sector_disk.specs.declared.disk.Disk.{Ghosts}
use Rattle.sector_disk.specs.declared.memory.MemDisk.{MemDisk}
use Rattle.retry_rules.specs.declared.settings.Settings.{Settings}
use Rattle.invoke_records.specs.declared.command.Command.{Command}
use Rattle.invoke_records.specs.declared.snapshot.Snapshot.{Snapshot}
use Rattle.invoke_records.specs.declared.row.Standing.TheVariants as standing
use Rattle.async_core.specs.Rules.{empty_table}
use Rattle.async_core.specs.History.{IsLegal, standing_in, table_of}
use Rattle.async_core.specs.laws.Tables.{table_of-nil}
use Rattle.async_core.specs.Lives.{life}
use Rattle.checkpoint.specs.Live.{RecoversTo}
use Rattle.broker_core.specs.declared.broker.Broker.{Broker}
use Rattle.broker_core.specs.History.{IsLegalStop}
use Rattle.broker_core.specs.Broker.{disk_of, settings_of}
use Rattle.broker_trial.specs.Trial.{trial_settings, trial_acceptance, Holds, IsOpened}

-- what is Ok was Ok before
pub ok_from : {T E F : Type 0} (P : T → Type 0) (before : Result T F) (after : Result T E) → IfOk after (λ x. before ≡ Ok x) → IfOk before P → IfOk after P
ok_from P before (Ok x) same is = subst (λ (r : Result _ _). IfOk r P) same is
ok_from P before (Err e) same is = tt

-- each image of a formatted disk is a legal stop of nothing
pub formatted_stops : (disk : DiskView) → HasOneImage disk → RecoversTo trial_settings (empty_table trial_settings) disk.content → (image : List ℕ) → disk.may_leave image → IsLegalStop trial_settings [] 0 image
formatted_stops disk one recovers image left = record {
  size = 0;
  least = omega arith;
  most = omega arith;
  recovers = subst (λ (x : List ℕ). RecoversTo trial_settings (table_of trial_settings []) x) (sym (one image left)) (subst (λ (t : Snapshot). RecoversTo trial_settings t disk.content) (sym (table_of-nil trial_settings)) recovers);
}

-- where the accepted event stands
pub accepted_standing : standing_in trial_settings (trial_acceptance ∷ []) trial_acceptance.id ≡ standing.Waiting 1573755365568
unfolding standing_in life
accepted_standing = refl

-- what a broker's disk holds once all is durable
pub closed_holds : {g : Ghosts MemDisk} (broker : Broker MemDisk g) (disk : MemDisk) (history : List Command) → IsOpened history broker → disk ≡ disk_of broker → Holds (memory_view disk) history
closed_holds broker disk history is closed = record {
  legal = subst (λ (s : Settings). IsLegal s history) is.0 is.2.legal;
  stops = λ image left.
      subst (λ (s : Settings). IsLegalStop s history (length history) image) is.0
      (subst (λ (n : ℕ). IsLegalStop (settings_of broker) history n image) is.1
      (is.2.stops tt image (subst (λ (d : MemDisk). (memory_view d).may_leave image) closed left)));
}

-- two facts of what is Ok
pub if_ok_both : {T E : Type 0} (P Q R : T → Type 0) (r : Result T E) → ((x : T) → P x → Q x → R x) → IfOk r P → IfOk r Q → IfOk r R
if_ok_both P Q R (Ok x) step p q = step x p q
if_ok_both P Q R (Err e) step p q = tt

-- Interrupts after interrupts, until nothing runs.
use Rattle.std.proofs.Common.{◌≡◌, ℕ, Bool, true, false, List, [], ◌∷◌, ◌++◌, Option, Some, None, Result, Ok, Err, refl, sym, ◌∙◌, ap, subst, append_assoc}
use Rattle.std.specs.Prelude.{is_some, not, take, IfOk}
use Rattle.std.proofs.lemmas.List.{append-nil}
use Rattle.std.proofs.lemmas.Bool.{true≢false}
use Rattle.std.proofs.lemmas.List.Elements.{All-append, All-cons, All-nil}
use Rattle.sector_disk.specs.Disk.{DiskView}
use Rattle.sector_disk.specs.declared.disk.Disk.{Ghosts}
use Rattle.invoke_records.specs.declared.command.Command.{Command}
use Rattle.retry_rules.specs.declared.settings.Settings.{Settings}
use Rattle.broker_core.specs.declared.broker.Broker.{Broker}
use Rattle.broker_core.specs.declared.error.IssueError.{IssueError}
use Rattle.broker_core.specs.Broker.{settings_of, issued_of, Stands}
use Rattle.broker_core.specs.Promises.{IsRecovered}
use Rattle.broker_core.specs.Resume.{interrupt_of, Resumes, TellsRest, AllAtRest}
use Rattle.hall_core.specs.Hall.{HallView, StandsFor}
use Rattle.hall_plans.specs.Past.{opening}
use Rattle.broker_opening.specs.Opening.{IsInterrupt, IsInterrupted, ComesToRest, OpensAtRest, RecoversAtRest}

-- before the first interrupt
pub uninterrupted : {D : Type 0} {g : Ghosts D} (view : D → DiskView) (history : List Command) (broker : Broker D g)
    → Stands view broker history → IsInterrupted view history broker
uninterrupted view history broker stands = record {
  interrupts = [];
  are_interrupts = All-nil IsInterrupt;
  stands = subst (λ (h : List Command). Stands view broker h) (sym (append-nil history)) stands;
}

-- one more interrupt
pub one_interrupt_more : {D : Type 0} {g : Ghosts D} (view : D → DiskView) (history : List Command) (old new : Broker D g) (now ticket : ℕ)
    (interrupted : IsInterrupted view history old) → Resumes view old (history ++ interrupted.interrupts) now (Ok (Some ticket)) new → IsInterrupted view history new
one_interrupt_more view history old new now ticket interrupted resumed =
    let interrupt : Command = interrupt_of (history ++ interrupted.interrupts) now resumed.1.0 in
    let next : resumed.0 ≡ (history ++ interrupted.interrupts) ++ interrupt ∷ [] = resumed.1.4 in record {
      interrupts = interrupted.interrupts ++ interrupt ∷ [];
      are_interrupts = All-append IsInterrupt interrupted.interrupts (interrupt ∷ []) interrupted.are_interrupts (All-cons IsInterrupt interrupt [] refl (All-nil IsInterrupt));
      stands = subst (λ (h : List Command). Stands view new h) (next ∙ append_assoc history interrupted.interrupts (interrupt ∷ [])) resumed.2;
    }

-- where a resumption answered a number, one interrupt more
pub pushed_back : {D : Type 0} {g : Ghosts D} (view : D → DiskView) (history : List Command) (old new : Broker D g) (now : ℕ)
    (result : Result (Option ℕ) IssueError) (found : Option ℕ) (none : Bool) → result ≡ Ok found → is_some found ≡ not none → none ≡ false
    → (interrupted : IsInterrupted view history old) → Resumes view old (history ++ interrupted.interrupts) now result new → IsInterrupted view history new
pushed_back view history old new now result None none is told some interrupted resumed = absurd (true≢false (sym (told ∙ ap not some)))
pushed_back view history old new now result (Some ticket) none is told some interrupted resumed =
    one_interrupt_more view history old new now ticket interrupted
    (subst (λ (r : Result (Option ℕ) IssueError). Resumes view old (history ++ interrupted.interrupts) now r new) is resumed)

-- nothing is left to interrupt
at_rest : {D : Type 0} {g : Ghosts D} (view : D → DiskView) (history : List Command) (old new : Broker D g) (now : ℕ)
    → settings_of new ≡ settings_of old → (interrupted : IsInterrupted view history old)
    → Resumes view old (history ++ interrupted.interrupts) now (Ok None) new → AllAtRest (settings_of old) (history ++ interrupted.interrupts)
    → ComesToRest view history new
at_rest view history old new now same interrupted resumed rests = record {
  interrupted = record {
    interrupts = interrupted.interrupts;
    are_interrupts = interrupted.are_interrupts;
    stands = subst (λ (h : List Command). Stands view new h) resumed.1.1 resumed.2;
  };
  rests = subst (λ (s : Settings). AllAtRest s (history ++ interrupted.interrupts)) (sym same) rests;
}

-- where a resumption answered nothing, all is at rest
pub rested : {D : Type 0} {g : Ghosts D} (view : D → DiskView) (history : List Command) (old new : Broker D g) (now : ℕ)
    (result : Result (Option ℕ) IssueError) (found : Option ℕ) (none : Bool) → result ≡ Ok found → is_some found ≡ not none → none ≡ true
    → settings_of new ≡ settings_of old → (interrupted : IsInterrupted view history old)
    → Resumes view old (history ++ interrupted.interrupts) now result new → TellsRest (settings_of old) (history ++ interrupted.interrupts) result
    → ComesToRest view history new
rested view history old new now result (Some ticket) none is told nothing same interrupted resumed tells = absurd (true≢false (told ∙ ap not nothing))
rested view history old new now result None none is told nothing same interrupted resumed tells =
    at_rest view history old new now same interrupted
    (subst (λ (r : Result (Option ℕ) IssueError). Resumes view old (history ++ interrupted.interrupts) now r new) is resumed)
    (subst (TellsRest (settings_of old) (history ++ interrupted.interrupts)) is tells refl)

-- what keeps the settings and the history keeps it
pub rest_kept : {D : Type 0} {g : Ghosts D} (view : D → DiskView) (history : List Command) (old new : Broker D g) → settings_of new ≡ settings_of old
    → ((h : List Command) → Stands view old h → Stands view new h) → ComesToRest view history old → ComesToRest view history new
rest_kept view history old new same kept rest = record {
  interrupted = record {
    interrupts = rest.interrupted.interrupts;
    are_interrupts = rest.interrupted.are_interrupts;
    stands = kept (history ++ rest.interrupted.interrupts) rest.interrupted.stands;
  };
  rests = subst (λ (s : Settings). AllAtRest s (history ++ rest.interrupted.interrupts)) (sym same) rest.rests;
}

-- two facts of what is Ok
pub if_ok_both : {T E : Type 0} (P Q R : T → Type 0) (r : Result T E) → ((x : T) → P x → Q x → R x) → IfOk r P → IfOk r Q → IfOk r R
if_ok_both P Q R (Ok x) step p q = step x p q
if_ok_both P Q R (Err e) step p q = tt

-- a hall over the broker that came to rest
pub opens_at_rest : {D : Type 0} {g : Ghosts D} (view : D → DiskView) (extensions : ℕ) (history : List Command) (broker issuer : Broker D g) (hall : HallView)
    (rest : ComesToRest view history broker) → issuer ≡ broker → StandsFor hall (opening extensions (history ++ rest.interrupted.interrupts))
    → OpensAtRest view extensions history issuer hall
opens_at_rest view extensions history broker issuer hall rest same stands =
    subst (λ (b : Broker _ _). OpensAtRest view extensions history b hall) (sym same) (record { rest = rest; stands = stands })

-- a hall at rest over the broker that recovery gave
pub recovers_at_rest : {D : Type 0} {g : Ghosts D} (view : D → DiskView) (extensions : ℕ) (s : Settings) (history : List Command) (durable : ℕ)
    (recovered broker : Broker D g) (hall : HallView) → IsRecovered view s history durable recovered
    → ((h : List Command) → Stands view recovered h → OpensAtRest view extensions h broker hall)
    → RecoversAtRest view extensions history durable broker hall
recovers_at_rest view extensions s history durable recovered broker hall is opens = record {
  size = issued_of recovered;
  at_least = is.0;
  at_most = is.1;
  rests = opens (take (issued_of recovered) history) is.3;
}

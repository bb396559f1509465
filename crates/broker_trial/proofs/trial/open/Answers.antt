use Rattle.std.proofs.Common.{◌≡◌, List, length, ◌∙◌, subst, arith}
use Rattle.std.proofs.lemmas.List.{take_all}
use Rattle.sector_disk.specs.Memory.{memory_view}
use Rattle.invoke_records.specs.declared.command.Command.{Command}
use Rattle.broker_core.specs.Broker.{issued_of, Stands}
use Rattle.broker_trial.specs.Trial.{trial_settings}
use Rattle.broker_trial.proofs.Trials.{ok_from, if_ok_both}
use Rattle.broker_trial.proofs.trial.open.Goals as goal

pub returns : goal.returns
returns c history holds =
    ok_from _ c.open.result c.without_disk.result c.without_disk.ensures.ok
    (if_ok_both _ _ _ c.open.result
    (λ b fresh facts.
    let all : issued_of b ≡ length history = omega (arith, facts.0, facts.1) in (
      facts.2,
      fresh.2 ∙ all,
      subst (λ (h : List Command). Stands memory_view b h) (take_all (issued_of b) history (omega (arith, all))) facts.3,
    ))
    c.open.ensures.fresh
    (c.open.ensures.stands tt trial_settings history (length history) holds.legal holds.stops))

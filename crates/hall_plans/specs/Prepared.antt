-- What a call will change, as it is made before anything changes.
use Rattle.std.specs.Prelude.{◌≡◌, List, option_map}
use Rattle.async_core.specs.State.{State}
use Rattle.env_phase.specs.State.{EnvState}
use Rattle.api_core.specs.declared.dialect.Dialect.{Dialect}
use Rattle.api_core.specs.Replies.{reply_in}
use Rattle.hall_plans.specs.declared.preparing.Prepared.{Prepared}
use Rattle.hall_plans.specs.Effects.{Effect}
use Rattle.hall_plans.specs.Run.{slots_of}
use Rattle.hall_plans.specs.Plans.{ForEachPast}
use Rattle.hall_plans.specs.Answering.{words_of, polls_told}
use Rattle.hall_plans.specs.Changes.{IsWithin, LeadsTo, answered_to}

-- it is what this effect changes, of a table and environments whatever past they meet, with replies in this dialect
pub record IsPreparedFor (dialect : Dialect) (table : State) (environments : List EnvState) (effect : Effect) (p : Prepared) : Type 0 where
  pub command : p.command ≡ effect.command
  pub within : IsWithin environments p.changes
  pub leads : LeadsTo environments p.changes effect.made
  pub replies : ForEachPast table environments (λ past.
      p.replies.items ≡ polls_told (words_of dialect table.settings) past.history (answered_to past.made effect.made))
  pub answered : ForEachPast table environments (λ past. p.answered.items ≡ slots_of (answered_to past.made effect.made))
  pub own : p.own ≡ option_map (reply_in (words_of dialect table.settings)) effect.reply

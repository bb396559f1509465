-- Laws: what one call adds to what a hall has done.
use Rattle.std.proofs.Common.{◌≡◌, ℕ, List, [], ◌∷◌, ◌++◌, refl, ap, ◌∙◌, ◌==◌}
use Rattle.std.specs.Prelude.{map, filter}
use Rattle.retry_rules.specs.declared.settings.Settings.{Settings}
use Rattle.env_phase.specs.declared.call.EnvCall.{EnvCall}
use Rattle.hall_plans.specs.Past.{HallCall, Past, calls_of}
use Rattle.hall_plans.specs.Effects.{Effect, command_of}
use Rattle.hall_plans.specs.Run.{option_list, past_after, after}
use Rattle.std.proofs.lemmas.List.{map-append}
use Rattle.std.proofs.lemmas.List.Elements.{filter-append}
use Rattle.hall_plans.specs.Past.{calls_in}
use Rattle.hall_plans.specs.Run.{past_by}

-- ## Runs

-- a run and then another
pub runs_join : (s : Settings) (past : Past) (run later : List HallCall) → after s past (run ++ later) ≡ after s (after s past run) later
runs_join s past [] later = refl
runs_join s past (call ∷ run) later = runs_join s (past_after s past call) run later

-- a call adds its command to the history, and nothing else adds any
pub history_grows : (s : Settings) (past : Past) (call : HallCall) → (past_after s past call).history ≡ past.history ++ option_list (command_of s past call)
unfolding past_after
history_grows s past call = refl

-- a call keeps for how many extensions the environments wait
pub wanted_stays : (s : Settings) (past : Past) (call : HallCall) → (past_after s past call).wanted ≡ past.wanted
unfolding past_after
wanted_stays s past call = refl

-- the calls of one environment
pub calls_more : (past : Past) (call : HallCall) (effect : Effect) (environment : ℕ) → calls_of (past_by past call effect) environment ≡ calls_of past environment ++ calls_in environment effect.made
unfolding calls_of
calls_more past call effect environment =
    ap (map (λ (m : ℕ × EnvCall). m.1)) (filter-append (λ (m : ℕ × EnvCall). m.0 == environment) past.made effect.made)
    ∙ map-append (λ (m : ℕ × EnvCall). m.1) (filter (λ (m : ℕ × EnvCall). m.0 == environment) past.made) (filter (λ (m : ℕ × EnvCall). m.0 == environment) effect.made)

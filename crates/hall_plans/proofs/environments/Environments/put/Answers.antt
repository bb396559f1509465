use Rattle.std.proofs.Common.{◌≡◌, ◌+◌, ◌-◌, ◌++◌, ◌∷◌, [], List, sym, subst, arith, slice_set}
use Rattle.env_phase.specs.State.{EnvState}
use Rattle.hall_plans.specs.Environments.{HoldFor}
use Rattle.hall_plans.proofs.Holding.{put_holds}
use Rattle.hall_plans.proofs.environments.Environments.put.Goals as goal

-- src/environments.rt:141:5
pub returns-clause-hold : goal.returns-clause-hold
returns-clause-hold c = λ wanted made hold call stands.
    let number : c.args.env.number ≡ (c.from-place.result - 1) + 1 = omega (arith, c.number.ensures, c.from-place.ensures, c.requires) in
    subst (λ (envs : List EnvState). HoldFor wanted (slice_set envs (c.from-place.result - 1) c.args.env) (made ++ (c.args.env.number, call) ∷ []))
    (sym c.self.view_is)
    (put_holds wanted c.args.self.now made (c.from-place.result - 1) c.args.env call number hold stands)

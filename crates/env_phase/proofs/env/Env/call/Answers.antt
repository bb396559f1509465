use Rattle.std.proofs.Common.{rules, ◌≡◌, refl, None}
use Rattle.env_phase.specs.Steps as step
use Rattle.env_phase.specs.laws.States.{is_accepted}
use Rattle.env_phase.proofs.env.Env.call.Goals as goal

-- src/calls.rt:99:5
pub returns-clause-ok : goal.returns-clause-ok
returns-clause-ok c =
    let passes : step.refusal_in c.args.self.now c.args.call ≡ None = search rules in
    rw (c.in_ok-change.ensures.ok, c.in_ok-answers.ensures)
    ((λ calls stands. is_accepted c.args.self.now calls c.args.call stands passes), refl, refl)

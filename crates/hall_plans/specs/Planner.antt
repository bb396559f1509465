-- The scenes that a planner stands for.
use Rattle.hall_plans.specs.declared.planner.Planner.{Planner}
use Rattle.hall_plans.specs.Past.{Past}
use Rattle.hall_plans.specs.Effects.{Scene}
use Rattle.hall_plans.specs.Plans.{Meets, scene_at}

-- this holds of each scene whose past the planner's table and environments meet, at its moment
abbrev pub ForEachScene : Planner → (Scene → Type 0) → Type 0
ForEachScene p holds = (past : Past) → Meets p.table.now p.environments.now past → holds (scene_at p.table.now past p.moment)

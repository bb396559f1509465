use Rattle.std.proofs.Common.{sym, ◌∙◌}
use Rattle.std.specs.Int.{w16, w32}
use Rattle.invoke_records.specs.Reading.{small_at, limit_at, limits_at}
use Rattle.invoke_records.proofs.Steps.{step, stop}
use Rattle.invoke_records.proofs.settings_reading.read_limits.Goals as goal

pub returns : goal.returns
unfolding limits_at
returns c =
    sym (step (small_at 0 2) _ _ _ _ c.small.ensures
    ∙ step (limit_at w32 60 21600) _ _ _ _ c.limit32.ensures
    ∙ step (limit_at w16 1 900) _ _ _ _ c.limit16.ensures
    ∙ step (small_at 1 64) _ _ _ _ c.small-2.ensures
    ∙ step (small_at 1 16) _ _ _ _ c.small-3.ensures
    ∙ step (limit_at w16 1 1024) _ _ _ _ c.limit16-2.ensures
    ∙ step (limit_at w32 2 1048576) _ _ _ _ c.limit32-2.ensures
    ∙ step (limit_at w32 2 262144) _ _ _ _ c.limit32-3.ensures
    ∙ stop _ _)

-- The first key from the index's first possible one on decides.
use Rattle.std.proofs.Common.{sym, ◌∙◌}
use Rattle.async_core.proofs.FirstKeys.{no_key, found_key, other_key}
use Rattle.async_core.proofs.keys.first_key.Goals as goal

pub returns-in_default : goal.returns-in_default
returns-in_default c = no_key c.args.keys.now c.args.index c.args.low _ (rw (← c.rank-rank.ensures) (c.range.ensures.in_range tt)) c.in_default.ensures.steps.0

pub returns-then-first-rank : goal.returns-then-first-rank
returns-then-first-rank c = found_key c.args.keys.now c.args.index c.args.low _ (rw (← c.rank-rank.ensures) (c.range.ensures.in_range tt)) _ _ c.in-Some.ensures.steps (c.if-first-rank.true ∙ c.rank-rank.ensures)

pub returns : goal.returns
returns c = other_key c.args.keys.now c.args.index c.args.low _ (rw (← c.rank-rank.ensures) (c.range.ensures.in_range tt)) _ _ c.in-Some.ensures.steps (λ same. c.if-first-rank.false (same ∙ sym c.rank-rank.ensures))

use Rattle.std.proofs.Common.{List, ℕ, length, ap, arith}
use Rattle.invoke_records.specs.laws.Settings.{settings_length_most}
use Rattle.checkpoint.proofs.writing.spell_header.Goals as goal

pub overflow_cast-len : goal.overflow_cast-len
overflow_cast-len c = omega (arith, c.len.ensures, ap (λ (l : List ℕ). length l) c.in-Ok.ensures.ok, settings_length_most c.args.settings.now c.requires)

-- Laws: the marks of a ticker add up, and it knows still when nothing was due.
use Rattle.std.specs.Prelude.{ℕ, List, [], ◌++◌, Option, refl}
use Rattle.std.proofs.Common.{arith, ◌∙◌}
use Rattle.std.proofs.lemmas.List.Sums.{sum_by-append}
use Rattle.commit_loop.specs.Ticker.{Step}
use Rattle.port_meters.specs.declared.moment.Moment.{Moment}
use Rattle.http_front.specs.Marking.{moves_in, looks_in, HasMarked, KeepsQuiet}

pub marked_nothing : (marks : ℕ) → HasMarked marks [] marks
marked_nothing marks = omega arith

pub marked_more : (first second third : ℕ) (before after : List Step) → HasMarked first before second → HasMarked second after third
    → HasMarked first (before ++ after) third
marked_more first second third before after one two = omega (arith, sum_by-append moves_in before after)

pub quiet_at_first : (quiet : Option Moment) → KeepsQuiet quiet [] quiet
quiet_at_first quiet none = refl

pub quiet_more : (first second third : Option Moment) (before after : List Step) → KeepsQuiet first before second → KeepsQuiet second after third
    → KeepsQuiet first (before ++ after) third
quiet_more first second third before after one two none =
    two (omega (arith, none, sum_by-append looks_in before after)) ∙ one (omega (arith, none, sum_by-append looks_in before after))

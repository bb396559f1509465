-- Laws: what a committer has learned is known later too.
use Rattle.std.specs.Prelude.{ℕ, ◌≤◌, Bool, List, [], ◌∷◌, ◌++◌, Result, Ok, Err, IfOk}
use Rattle.std.proofs.Common.{arith, get_or}
use Rattle.std.proofs.lemmas.List.Elements.{All-nil, All-cons, All-append}
use Rattle.commit_loop.specs.Committer.{Step, counted, committed, failed, commit_step, raised, said_broken, rang, rang_all, slept}
use Rattle.http_front.specs.Learning.{Known, known, IsKnown, HasLearned}

-- what was known is known later
IsKnown-later : (old new : Known) (step : Step) → old.told ≤ new.told → old.seen ≤ new.seen → IsKnown old step → IsKnown new step
IsKnown-later old new (counted pending) told seen before = tt
IsKnown-later old new (committed durable) told seen before = omega arith
IsKnown-later old new (failed broke) told seen before = tt
IsKnown-later old new (raised durable) told seen before = omega arith
IsKnown-later old new said_broken told seen before = tt
IsKnown-later old new (rang durable) told seen before = tt
IsKnown-later old new rang_all told seen before = tt
IsKnown-later old new slept told seen before = tt

pub learned_nothing : (now : Known) → HasLearned now [] now
learned_nothing now = record { told = omega arith; seen = omega arith; each = All-nil (IsKnown now) }

pub learned_one : (old new : Known) (step : Step) → old.told ≤ new.told → old.seen ≤ new.seen → IsKnown new step → HasLearned old (step ∷ []) new
learned_one old new step told seen here = record { told = told; seen = seen; each = All-cons (IsKnown new) step [] here (All-nil (IsKnown new)) }

pub learned_more : (first second third : Known) (before after : List Step) → HasLearned first before second → HasLearned second after third
    → HasLearned first (before ++ after) third
learned_more first second third before after one two =
    let told = one.told in
    let seen = one.seen in
    let told_later = two.told in
    let seen_later = two.seen in record {
      told = omega arith;
      seen = omega arith;
      each =
          All-append (IsKnown third) before after (λ k d inside. IsKnown-later second third (get_or before k d) told_later seen_later (one.each k d inside)) two.each;
    }

-- a commit, of which the desk was told
pub learned_commit : {F : Type 0} (breaks : F → Bool) (old new seen : ℕ) (result : Result ℕ F) → IfOk result (λ durable. durable ≤ new) → old ≤ new
    → HasLearned (known old seen) (commit_step (λ durable. durable) breaks result ∷ []) (known new seen)
learned_commit breaks old new seen (Ok durable) told later = learned_one (known old seen) (known new seen) (committed durable) later (omega arith) told
learned_commit breaks old new seen (Err why) told later = learned_one (known old seen) (known new seen) (failed (breaks why)) later (omega arith) tt

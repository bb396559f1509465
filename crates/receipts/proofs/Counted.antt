-- One mark more is counted beside those before it.
use Rattle.std.proofs.Common.{◌≡◌, ◌+◌, ◌<◌, ◌^◌, Bool, List, [], ◌∷◌, ◌++◌, cond, length, arith}
use Rattle.std.proofs.lemmas.List.Sums.{sum_by-append, count_by-le-length}
use Rattle.invoke_records.specs.declared.command.Kind.{Kind}
use Rattle.invoke_records.specs.declared.command.Kind.TheVariants.{Accept, Start, Succeed, Fail, Throttle, Interrupt, Expire, Collect, Configure}
use Rattle.receipts.specs.declared.mark.Mark.{Mark}
use Rattle.receipts.specs.declared.command_counters.CommandCounters.{CommandCounters}
use Rattle.receipts.specs.Counters.{is_accept, is_start, is_success, is_failure, is_throttle, is_interrupt, is_expiry, is_collection, is_policy, count_of, counters_of, counted, HasRoom}

one_more : (is : Kind → Bool) (marks : List Mark) (mark : Mark) → count_of is (marks ++ mark ∷ []) ≡ count_of is marks + cond (is mark.kind) 1 0
one_more is marks mark =
    let e = sum_by-append (λ (m : Mark). cond (is m.kind) 1 0) marks (mark ∷ []) in
    omega (arith, e)

more_of : (old new : CommandCounters) (kind : Kind)
    → new.accepted ≡ old.accepted + cond (is_accept kind) 1 0
    → new.started ≡ old.started + cond (is_start kind) 1 0
    → new.succeeded ≡ old.succeeded + cond (is_success kind) 1 0
    → new.failed ≡ old.failed + cond (is_failure kind) 1 0
    → new.throttled ≡ old.throttled + cond (is_throttle kind) 1 0
    → new.interrupted ≡ old.interrupted + cond (is_interrupt kind) 1 0
    → new.expired ≡ old.expired + cond (is_expiry kind) 1 0
    → new.collected ≡ old.collected + cond (is_collection kind) 1 0
    → new.configured ≡ old.configured + cond (is_policy kind) 1 0
    → new ≡ counted old kind
more_of old new Accept a b c d e f g h i = grind arith
more_of old new Start a b c d e f g h i = grind arith
more_of old new Succeed a b c d e f g h i = grind arith
more_of old new (Fail cause) a b c d e f g h i = grind arith
more_of old new Throttle a b c d e f g h i = grind arith
more_of old new Interrupt a b c d e f g h i = grind arith
more_of old new Expire a b c d e f g h i = grind arith
more_of old new Collect a b c d e f g h i = grind arith
more_of old new (Configure policy) a b c d e f g h i = grind arith

pub counters_more : (marks : List Mark) (mark : Mark) → counters_of (marks ++ mark ∷ []) ≡ counted (counters_of marks) mark.kind
unfolding counters_of
counters_more marks mark =
    more_of (counters_of marks) (counters_of (marks ++ mark ∷ [])) mark.kind
    (one_more is_accept marks mark) (one_more is_start marks mark) (one_more is_success marks mark)
    (one_more is_failure marks mark) (one_more is_throttle marks mark) (one_more is_interrupt marks mark)
    (one_more is_expiry marks mark) (one_more is_collection marks mark) (one_more is_policy marks mark)

few : (is : Kind → Bool) (marks : List Mark) → length marks + 1 < 2 ^ 64 → count_of is marks + 1 < 2 ^ 64
few is marks short = let most = count_by-le-length (λ (m : Mark). is m.kind) marks in omega (arith, most)

pub has_room : (marks : List Mark) → length marks + 1 < 2 ^ 64 → HasRoom (counters_of marks)
unfolding counters_of
has_room marks short = record {
  accepted = few is_accept marks short;
  started = few is_start marks short;
  succeeded = few is_success marks short;
  failed = few is_failure marks short;
  throttled = few is_throttle marks short;
  interrupted = few is_interrupt marks short;
  expired = few is_expiry marks short;
  collected = few is_collection marks short;
  configured = few is_policy marks short;
}

-- Laws: the test of equality is true exactly where two snapshots are equal, the other one where the settings are equal too.
use Rattle.std.proofs.Common.{◌≡◌, ℕ, List, Bool, true, ◌==◌, refl, sym, ap, subst}
use Rattle.std.specs.Bool.{Decides}
use Rattle.std.specs.Cmp.{IsPartialEquivalence, partial_equiv_from_equiv, decided, on_per}
use Rattle.std.specs.Cmp.Lexicographic.{pointwise}
use Rattle.std.specs.Str.{bytes_eq}
use Rattle.std.proofs.lemmas.Bool.{true≢false, and_parts, and_from, eqb-true, eq-eqb}
use Rattle.std.proofs.lemmas.Slice.Eq.{bytes_eq-Decides, slice_eq-Decides}
use Rattle.retry_rules.specs.declared.policy.RetryPolicy.{RetryPolicy}
use Rattle.retry_rules.specs.declared.settings.Settings.{Settings}
use Rattle.invoke_records.specs.declared.row.Outcome.{Outcome}
use Rattle.invoke_records.specs.declared.row.Outcome.TheVariants.{Success, RetriesExhausted, EventAgeExceeded}
use Rattle.invoke_records.specs.declared.row.Answer.{Answer}
use Rattle.invoke_records.specs.declared.row.Answer.TheVariants as answer
use Rattle.invoke_records.specs.declared.row.EventRow.{EventRow}
use Rattle.invoke_records.specs.declared.snapshot.Snapshot.{Snapshot}
use Rattle.invoke_records.specs.declared.row.Standing.{Standing}
use Rattle.invoke_records.specs.declared.row.Standing.TheVariants as standing
use Rattle.async_core.specs.State.{State}
use Rattle.async_core.specs.Equality.{same_outcome, same_standing, same_answer, same_policy, same_numbers, same_row, same_rules, same_settings, same_table, same_snapshot, same_state}

number : (a b : ℕ) → (a == b) ≡ true → a ≡ b
number a b h = eqb-true a b h

number-itself : (a : ℕ) → (a == a) ≡ true
number-itself a = eq-eqb a a refl

bytes : (a b : List ℕ) → bytes_eq a b ≡ true → a ≡ b
bytes a b h = (bytes_eq-Decides a b).0 h

bytes-itself : (a : List ℕ) → bytes_eq a a ≡ true
bytes-itself a = (bytes_eq-Decides a a).1 refl

-- a test decides equality where what passes is equal, and each value passes with itself
decides : {K : Type 0} (test : K → K → Bool) → ((a b : K) → test a b ≡ true → a ≡ b) → ((a : K) → test a a ≡ true) → (a b : K) → Decides (test a b) (a ≡ b)
decides test equal itself a b = (equal a b, λ e. subst (λ x. test a x ≡ true) e (itself a))

-- ## How an event ended, and where it stands

same_outcome-equal : (a b : Outcome) → same_outcome a b ≡ true → a ≡ b
same_outcome-equal Success Success h = refl
same_outcome-equal Success RetriesExhausted h = absurd (true≢false (sym h))
same_outcome-equal Success EventAgeExceeded h = absurd (true≢false (sym h))
same_outcome-equal RetriesExhausted Success h = absurd (true≢false (sym h))
same_outcome-equal RetriesExhausted RetriesExhausted h = refl
same_outcome-equal RetriesExhausted EventAgeExceeded h = absurd (true≢false (sym h))
same_outcome-equal EventAgeExceeded Success h = absurd (true≢false (sym h))
same_outcome-equal EventAgeExceeded RetriesExhausted h = absurd (true≢false (sym h))
same_outcome-equal EventAgeExceeded EventAgeExceeded h = refl

same_outcome-itself : (a : Outcome) → same_outcome a a ≡ true
same_outcome-itself Success = refl
same_outcome-itself RetriesExhausted = refl
same_outcome-itself EventAgeExceeded = refl

running_from : (e o d l : ℕ) → ((e == o) ≡ true) × ((d == l) ≡ true) → standing.Running e d ≡ standing.Running o l
running_from e o d l both = rw (number e o both.0, number d l both.1) refl

ended_from : (o p : Outcome) (m n : ℕ) → (same_outcome o p ≡ true) × ((m == n) ≡ true) → standing.Ended o m ≡ standing.Ended p n
ended_from o p m n both = rw (same_outcome-equal o p both.0, number m n both.1) refl

same_standing-equal : (a b : Standing) → same_standing a b ≡ true → a ≡ b
same_standing-equal standing.Unknown standing.Unknown h = refl
same_standing-equal standing.Unknown (standing.Waiting other) h = absurd (true≢false (sym h))
same_standing-equal standing.Unknown (standing.DueAgain other) h = absurd (true≢false (sym h))
same_standing-equal standing.Unknown (standing.Running e d) h = absurd (true≢false (sym h))
same_standing-equal standing.Unknown (standing.Ended o a) h = absurd (true≢false (sym h))
same_standing-equal (standing.Waiting due) standing.Unknown h = absurd (true≢false (sym h))
same_standing-equal (standing.Waiting due) (standing.Waiting other) h = ap standing.Waiting (number due other h)
same_standing-equal (standing.Waiting due) (standing.DueAgain other) h = absurd (true≢false (sym h))
same_standing-equal (standing.Waiting due) (standing.Running e d) h = absurd (true≢false (sym h))
same_standing-equal (standing.Waiting due) (standing.Ended o a) h = absurd (true≢false (sym h))
same_standing-equal (standing.DueAgain due) standing.Unknown h = absurd (true≢false (sym h))
same_standing-equal (standing.DueAgain due) (standing.Waiting other) h = absurd (true≢false (sym h))
same_standing-equal (standing.DueAgain due) (standing.DueAgain other) h = ap standing.DueAgain (number due other h)
same_standing-equal (standing.DueAgain due) (standing.Running e d) h = absurd (true≢false (sym h))
same_standing-equal (standing.DueAgain due) (standing.Ended o a) h = absurd (true≢false (sym h))
same_standing-equal (standing.Running environment deadline) standing.Unknown h = absurd (true≢false (sym h))
same_standing-equal (standing.Running environment deadline) (standing.Waiting other) h = absurd (true≢false (sym h))
same_standing-equal (standing.Running environment deadline) (standing.DueAgain other) h = absurd (true≢false (sym h))
same_standing-equal (standing.Running environment deadline) (standing.Running e d) h = running_from environment e deadline d (and_parts _ _ h)
same_standing-equal (standing.Running environment deadline) (standing.Ended o a) h = absurd (true≢false (sym h))
same_standing-equal (standing.Ended outcome at) standing.Unknown h = absurd (true≢false (sym h))
same_standing-equal (standing.Ended outcome at) (standing.Waiting other) h = absurd (true≢false (sym h))
same_standing-equal (standing.Ended outcome at) (standing.DueAgain other) h = absurd (true≢false (sym h))
same_standing-equal (standing.Ended outcome at) (standing.Running e d) h = absurd (true≢false (sym h))
same_standing-equal (standing.Ended outcome at) (standing.Ended o a) h = ended_from outcome o at a (and_parts _ _ h)

same_standing-itself : (a : Standing) → same_standing a a ≡ true
same_standing-itself standing.Unknown = refl
same_standing-itself (standing.Waiting due) = number-itself due
same_standing-itself (standing.DueAgain due) = number-itself due
same_standing-itself (standing.Running environment deadline) = and_from _ _ (number-itself environment) (number-itself deadline)
same_standing-itself (standing.Ended outcome at) = and_from _ _ (same_outcome-itself outcome) (number-itself at)

-- ## Answers

same_answer-equal : (a b : Answer) → same_answer a b ≡ true → a ≡ b
same_answer-equal answer.None answer.None h = refl
same_answer-equal answer.None (answer.Response b) h = absurd (true≢false (sym h))
same_answer-equal answer.None (answer.Error b) h = absurd (true≢false (sym h))
same_answer-equal (answer.Response a) answer.None h = absurd (true≢false (sym h))
same_answer-equal (answer.Response a) (answer.Response b) h = ap answer.Response (bytes a b h)
same_answer-equal (answer.Response a) (answer.Error b) h = absurd (true≢false (sym h))
same_answer-equal (answer.Error a) answer.None h = absurd (true≢false (sym h))
same_answer-equal (answer.Error a) (answer.Response b) h = absurd (true≢false (sym h))
same_answer-equal (answer.Error a) (answer.Error b) h = ap answer.Error (bytes a b h)

same_answer-itself : (a : Answer) → same_answer a a ≡ true
same_answer-itself answer.None = refl
same_answer-itself (answer.Response a) = bytes-itself a
same_answer-itself (answer.Error a) = bytes-itself a

-- ## Policies

policy_from : (a b : RetryPolicy) → a.retries ≡ b.retries → a.age ≡ b.age → record { retries = a.retries; age = a.age } ≡ b
policy_from a b r g = rw (r, g) refl

same_policy-equal : (a b : RetryPolicy) → same_policy a b ≡ true → a ≡ b
same_policy-equal a b h = let both = and_parts _ _ h in policy_from a b (number _ _ both.0) (number _ _ both.1)

same_policy-itself : (a : RetryPolicy) → same_policy a a ≡ true
same_policy-itself a = and_from _ _ (number-itself a.retries) (number-itself a.age)

-- ## Rows

row_from : (a b : EventRow) → a.id ≡ b.id → a.accepted ≡ b.accepted → a.number ≡ b.number → a.last_number ≡ b.last_number → a.standing ≡ b.standing → a.starts ≡ b.starts → a.failures ≡ b.failures → a.push_backs ≡ b.push_backs → a.policy ≡ b.policy → a.payload ≡ b.payload → a.answer ≡ b.answer
    → record { id = a.id; accepted = a.accepted; number = a.number; last_number = a.last_number; standing = a.standing; starts = a.starts; failures = a.failures; push_backs = a.push_backs; policy = a.policy; payload = a.payload; answer = a.answer } ≡ b
row_from a b i c n l s t f p o y w = rw (i, c, n, l, s, t, f, p, o, y, w) refl

same_row-equal : (a b : EventRow) → same_row a b ≡ true → a ≡ b
same_row-equal a b h =
    let answers = and_parts _ _ h in
    let payloads = and_parts _ _ answers.0 in
    let stands = and_parts _ _ payloads.0 in
    let policies = and_parts _ _ stands.0 in
    let ids = and_parts _ _ policies.0 in
    let pushed = and_parts _ _ ids.1 in
    let failed = and_parts _ _ pushed.0 in
    let started = and_parts _ _ failed.0 in
    let last = and_parts _ _ started.0 in
    let first = and_parts _ _ last.0 in
    row_from a b (bytes _ _ ids.0) (number _ _ first.0) (number _ _ first.1) (number _ _ last.1) (same_standing-equal _ _ stands.1)
    (number _ _ started.1) (number _ _ failed.1) (number _ _ pushed.1) (same_policy-equal _ _ policies.1) (bytes _ _ payloads.1) (same_answer-equal _ _ answers.1)

same_numbers-itself : (a : EventRow) → same_numbers a a ≡ true
same_numbers-itself a = rw (number-itself a.accepted, number-itself a.number, number-itself a.last_number, number-itself a.starts, number-itself a.failures, number-itself a.push_backs) refl

same_row-itself : (a : EventRow) → same_row a a ≡ true
same_row-itself a = rw (bytes-itself a.id, same_numbers-itself a, same_policy-itself a.policy, same_standing-itself a.standing, bytes-itself a.payload, same_answer-itself a.answer) refl

pub same_rows-Decides : (a b : List EventRow) → Decides (pointwise same_row a b) (a ≡ b)
same_rows-Decides a b = slice_eq-Decides (decides same_row same_row-equal same_row-itself) a b _ refl

-- ## Settings

settings_from : (a b : Settings) → a.retries ≡ b.retries → a.age ≡ b.age → a.timeout ≡ b.timeout → a.concurrency ≡ b.concurrency → a.environments ≡ b.environments → a.events ≡ b.events → a.payload ≡ b.payload → a.response ≡ b.response → a.name ≡ b.name → a.handler ≡ b.handler → a.arn ≡ b.arn
    → record { retries = a.retries; age = a.age; timeout = a.timeout; concurrency = a.concurrency; environments = a.environments; events = a.events; payload = a.payload; response = a.response; name = a.name; handler = a.handler; arn = a.arn } ≡ b
settings_from a b r g t c e v p s n h u = rw (r, g, t, c, e, v, p, s, n, h, u) refl

same_settings-equal : (a b : Settings) → same_settings a b ≡ true → a ≡ b
same_settings-equal a b h =
    let arns = and_parts _ _ h in
    let handlers = and_parts _ _ arns.0 in
    let names = and_parts _ _ handlers.0 in
    let response = and_parts _ _ names.0 in
    let payload = and_parts _ _ response.0 in
    let events = and_parts _ _ payload.0 in
    let environments = and_parts _ _ events.0 in
    let concurrency = and_parts _ _ environments.0 in
    let timeout = and_parts _ _ concurrency.0 in
    let age = and_parts _ _ timeout.0 in
    settings_from a b (number _ _ age.0) (number _ _ age.1) (number _ _ timeout.1) (number _ _ concurrency.1) (number _ _ environments.1)
    (number _ _ events.1) (number _ _ payload.1) (number _ _ response.1) (bytes _ _ names.1) (bytes _ _ handlers.1) (bytes _ _ arns.1)

same_rules-itself : (a : Settings) → same_rules a a ≡ true
same_rules-itself a =
    rw (number-itself a.retries, number-itself a.age, number-itself a.timeout, number-itself a.concurrency, number-itself a.environments, number-itself a.events, number-itself a.payload, number-itself a.response) refl

same_settings-itself : (a : Settings) → same_settings a a ≡ true
same_settings-itself a = rw (same_rules-itself a, bytes-itself a.name, bytes-itself a.handler, bytes-itself a.arn) refl

-- ## Tables

table_from : (a b : Snapshot) → a.number ≡ b.number → a.last_moment ≡ b.last_moment → a.policy ≡ b.policy → a.rows ≡ b.rows
    → record { number = a.number; last_moment = a.last_moment; policy = a.policy; rows = a.rows } ≡ b
table_from a b n m p r = rw (n, m, p, r) refl

same_table-equal : (a b : Snapshot) → same_table a b ≡ true → a ≡ b
same_table-equal a b h =
    let rows = and_parts _ _ h in
    let policies = and_parts _ _ rows.0 in
    let numbers = and_parts _ _ policies.0 in
    table_from a b (number _ _ numbers.0) (number _ _ numbers.1) (same_policy-equal _ _ policies.1) ((same_rows-Decides _ _).0 rows.1)

same_table-itself : (a : Snapshot) → same_table a a ≡ true
same_table-itself a = rw (number-itself a.number, number-itself a.last_moment, same_policy-itself a.policy, (same_rows-Decides a.rows a.rows).1 refl) refl

-- the test is true exactly where both snapshots are equal
pub same_snapshot-Decides : (a b : State) → Decides (same_snapshot a b) (a.table ≡ b.table)
unfolding same_snapshot
same_snapshot-Decides a b = decides same_table same_table-equal same_table-itself a.table b.table

pub same_snapshot-laws : IsPartialEquivalence same_snapshot
unfolding same_snapshot
same_snapshot-laws = on_per (λ (s : State). s.table) (partial_equiv_from_equiv (decided same_table (decides same_table same_table-equal same_table-itself)))

state_from : (a b : State) → a.settings ≡ b.settings → a.table ≡ b.table → record { settings = a.settings; table = a.table } ≡ b
state_from a b s t = rw (s, t) refl

same_state-equal : (a b : State) → same_state a b ≡ true → a ≡ b
unfolding same_state
same_state-equal a b h =
    let states = and_parts _ _ h in
    state_from a b (same_settings-equal _ _ states.0) (same_table-equal _ _ states.1)

same_state-itself : (a : State) → same_state a a ≡ true
unfolding same_state
same_state-itself a = rw (same_settings-itself a.settings, same_table-itself a.table) refl

-- the other test is true exactly where both are equal, settings and all
pub same_state-Decides : (a b : State) → Decides (same_state a b) (a ≡ b)
same_state-Decides = decides same_state same_state-equal same_state-itself

-- Commands behind their gates, folded one after another.
use Rattle.std.proofs.Common.{◌≡◌, ℕ, List, [], ◌∷◌, ◌++◌, map, Option, Some, None, Result, Ok, Err, IsOk, refl, ◌∙◌, ap}
use Rattle.retry_rules.specs.declared.settings.Settings.{Settings}
use Rattle.invoke_records.specs.declared.command.Command.{Command}
use Rattle.invoke_records.specs.declared.snapshot.Snapshot.{Snapshot}
use Rattle.async_core.specs.declared.illegal.Illegal.{Illegal}
use Rattle.async_core.specs.Rules.{refusal_at, table_after, where_legal, replay}
use Rattle.gate_journal.specs.Frames.{behind_gate}
use Rattle.checkpoint.specs.declared.error.OpenError.{OpenError}
use Rattle.invoke_records.specs.declared.version.Version.{Version}
use Rattle.invoke_records.specs.declared.version.Version.TheVariants.{Two}
use Rattle.checkpoint.specs.Image.{folded, kinds_in, folded_in}
use Rattle.checkpoint.specs.ReadSteps.{legal_or_damaged, next_to}

-- the value of a result that is Ok
pub value_of : {A E : Type 0} (r : Result A E) → IsOk r → (x : A) × (r ≡ Ok x)
value_of (Ok x) is = (x, refl)
value_of (Err e) is = absurd cc

legal_ok : {A : Type 0} (gate : ℕ) (refusal : Option Illegal) (rest : Result A OpenError) (x : A) → legal_or_damaged gate refusal rest ≡ Ok x → (refusal ≡ None) × (rest ≡ Ok x)
legal_ok gate None rest x is = (refl, is)
legal_ok gate (Some why) rest x is = absurd cc

replay_ok : {A : Type 0} (refusal : Option Illegal) (rest : Option A) (x : A) → where_legal refusal rest ≡ Some x → (refusal ≡ None) × (rest ≡ Some x)
replay_ok None rest x is = (refl, is)
replay_ok (Some why) rest x is = absurd cc

table_is : (a b : Snapshot) → ◌≡◌ {A = Result Snapshot OpenError} (Ok a) (Ok b) → a ≡ b
table_is a b is = cc

-- what the commands are folded to, they are replayed to
pub replays : (s : Settings) (table : Snapshot) (behind : List (ℕ × Command)) (after : Snapshot) → folded s table behind ≡ Ok after → replay s table (map (λ c. c.1) behind) ≡ Some after
replays s table [] after is = ap (λ (t : Snapshot). Some t) (table_is table after is)
replays s table (c ∷ behind) after is =
    let legal = legal_ok c.0 (refusal_at s table c.1) (folded s (table_after s table c.1) behind) after is in
    ap (λ (refusal : Option Illegal). where_legal refusal (replay s (table_after s table c.1) (map (λ c. c.1) behind))) legal.0
    ∙ replays s (table_after s table c.1) behind after legal.1

-- a batch behind one gate
folds_batch : (s : Settings) (table : Snapshot) (gate : ℕ) (batch : List Command) (after : Snapshot) → replay s table batch ≡ Some after → folded s table (behind_gate gate batch) ≡ Ok after
folds_batch s table gate [] after is = let same : table ≡ after = cc in ap (λ (t : Snapshot). Ok t) same
folds_batch s table gate (c ∷ batch) after is =
    let legal = replay_ok (refusal_at s table c) (replay s (table_after s table c) batch) after is in
    ap (λ (refusal : Option Illegal). legal_or_damaged gate refusal (folded s (table_after s table c) (behind_gate gate batch))) legal.0
    ∙ folds_batch s (table_after s table c) gate batch after legal.1

-- and behind other commands
pub folds_more : (s : Settings) (table : Snapshot) (behind : List (ℕ × Command)) (before : Snapshot) (gate : ℕ) (batch : List Command) (after : Snapshot) → folded s table behind ≡ Ok before
    → replay s before batch ≡ Some after → folded s table (behind ++ behind_gate gate batch) ≡ Ok after
folds_more s table [] before gate batch after is replayed =
    ap (λ (t : Snapshot). folded s t (behind_gate gate batch)) (table_is table before is) ∙ folds_batch s before gate batch after replayed
folds_more s table (c ∷ behind) before gate batch after is replayed =
    let legal = legal_ok c.0 (refusal_at s table c.1) (folded s (table_after s table c.1) behind) before is in
    ap (λ (refusal : Option Illegal). legal_or_damaged c.0 refusal (folded s (table_after s table c.1) (behind ++ behind_gate gate batch))) legal.0
    ∙ folds_more s (table_after s table c.1) behind before gate batch after legal.1 replayed

-- ## In a version

next_ok : {A : Type 0} (first : Result (Unit {0}) OpenError) (rest : Result A OpenError) (x : A) → next_to first rest ≡ Ok x → rest ≡ Ok x
next_ok (Err why) rest x is = absurd cc
next_ok (Ok done) rest x is = is

-- what a segment's commands are folded to in its version, they are folded to
pub folds_so : (version : Version) (s : Settings) (table : Snapshot) (behind : List (ℕ × Command)) (after : Snapshot) → folded_in version s table behind ≡ Ok after → folded s table behind ≡ Ok after
folds_so version s table behind after is = next_ok (kinds_in version behind) (folded s table behind) after is

-- and where each is of a kind that the version has, nothing else is asked
pub all_kinds : (version : Version) (s : Settings) (table : Snapshot) (behind : List (ℕ × Command)) → kinds_in version behind ≡ Ok tt → folded_in version s table behind ≡ folded s table behind
all_kinds version s table behind is = ap (λ (r : Result (Unit {0}) OpenError). next_to r (folded s table behind)) is

-- a command of another kind is damage
pub kinds_damaged : (version : Version) (s : Settings) (table : Snapshot) (behind : List (ℕ × Command)) (why : OpenError) → kinds_in version behind ≡ Err why → folded_in version s table behind ≡ Err why
kinds_damaged version s table behind why is = ap (λ (r : Result (Unit {0}) OpenError). next_to r (folded s table behind)) is

kinds_new : (behind : List (ℕ × Command)) → kinds_in Two behind ≡ Ok tt
kinds_new [] = refl
kinds_new (c ∷ behind) = kinds_new behind

-- version 2 has all kinds
pub folded_new : (s : Settings) (table : Snapshot) (behind : List (ℕ × Command)) → folded_in Two s table behind ≡ folded s table behind
folded_new s table behind = all_kinds Two s table behind (kinds_new behind)

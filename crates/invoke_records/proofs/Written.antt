-- What is written piece by piece is written at once: lemmas.
use Rattle.std.proofs.Common.{◌≡◌, ℕ, true, List, [], ◌∷◌, ◌++◌, Vec, Result, Ok, Err, IfOk, MatchResult, sym, ap, subst, ◌∙◌, append_assoc}
use Rattle.std.specs.Global.{Global}
use Rattle.std.specs.List.{flat_map}
use Rattle.std.specs.Int.{w16, w32, to_be_bytes}
use Rattle.retry_rules.specs.declared.settings.Settings.{Settings}
use Rattle.invoke_records.specs.declared.row.EventRow.{EventRow}
use Rattle.invoke_records.specs.declared.snapshot.Snapshot.{Snapshot}
use Rattle.invoke_records.specs.declared.error.RecordError.{RecordError}
use Rattle.invoke_records.specs.declared.error.RecordError.TheVariants.{OutOfMemory}
use Rattle.invoke_records.specs.declared.writer.Writer.{Writer}
use Rattle.invoke_records.specs.Spelling.{answer_bytes, life_text, counts_text, row_text, short_text, limits_text, settings_text, snapshot_text}
use Rattle.invoke_records.specs.Steps.{Adds}

pub adds_then : (a b : List ℕ) (first between last : Writer) → Adds a first between → Adds b between last → Adds (a ++ b) first last
adds_then a b first between last f g whole =
    let after = g whole in
    let before = f after.0 in
    (before.0, after.1 ∙ ap (λ (t : List ℕ). t ++ b) before.1 ∙ append_assoc first.bytes.items a b)

pub ended : (result : Result (Vec ℕ Global) RecordError) (text : List ℕ) (first last : Writer) → first.bytes.items ≡ [] → Adds text first last
    → MatchResult result (λ bytes. (last.is_whole ≡ true) × (bytes.items ≡ last.bytes.items)) (λ e. e ≡ OutOfMemory) → IfOk result (λ bytes. bytes.items ≡ text)
ended (Ok bytes) text first last e adds h = h.1 ∙ (adds h.0).1 ∙ ap (λ (t : List ℕ). t ++ text) e
ended (Err d) text first last e adds h = tt

pub row_written : (r : EventRow) (w0 w1 w2 w3 : Writer)
    → Adds (life_text r ++ counts_text r) w0 w1
    → Adds (r.payload) w1 w2
    → Adds (answer_bytes r.answer) w2 w3
    → Adds (row_text r) w0 w3
unfolding row_text
row_written r w0 w1 w2 w3 h0 h1 h2 =
    subst (λ (t : List ℕ). Adds t w0 w3) (append_assoc (life_text r) (counts_text r) (r.payload ++ answer_bytes r.answer))
    (adds_then (life_text r ++ counts_text r) _ w0 w1 w3 h0 (
    adds_then (r.payload) _ w1 w2 w3 h1 (h2)))

pub limits_written : (s : Settings) (w0 w1 w2 w3 w4 w5 w6 w7 : Writer)
    → Adds (s.retries ∷ []) w0 w1
    → Adds (to_be_bytes w32 s.age) w1 w2
    → Adds (to_be_bytes w16 s.timeout) w2 w3
    → Adds (s.concurrency ∷ s.environments ∷ []) w3 w4
    → Adds (to_be_bytes w16 s.events) w4 w5
    → Adds (to_be_bytes w32 s.payload) w5 w6
    → Adds (to_be_bytes w32 s.response) w6 w7
    → Adds (limits_text s) w0 w7
limits_written s w0 w1 w2 w3 w4 w5 w6 w7 h0 h1 h2 h3 h4 h5 h6 =
    adds_then (s.retries ∷ []) _ w0 w1 w7 h0 (
    adds_then (to_be_bytes w32 s.age) _ w1 w2 w7 h1 (
    adds_then (to_be_bytes w16 s.timeout) _ w2 w3 w7 h2 (
    adds_then (s.concurrency ∷ s.environments ∷ []) _ w3 w4 w7 h3 (
    adds_then (to_be_bytes w16 s.events) _ w4 w5 w7 h4 (
    adds_then (to_be_bytes w32 s.payload) _ w5 w6 w7 h5 h6)))))

pub settings_written : (s : Settings) (w0 w1 w2 w3 w4 : Writer)
    → Adds (limits_text s) w0 w1
    → Adds (short_text s.name) w1 w2
    → Adds (short_text s.handler) w2 w3
    → Adds (short_text s.arn) w3 w4
    → Adds (settings_text s) w0 w4
unfolding settings_text
settings_written s w0 w1 w2 w3 w4 h0 h1 h2 h3 =
    adds_then (limits_text s) _ w0 w1 w4 h0 (
    adds_then (short_text s.name) _ w1 w2 w4 h1 (
    adds_then (short_text s.handler) _ w2 w3 w4 h2 (h3)))

pub snapshot_written : (s : Snapshot) (head : List ℕ) → snapshot_text s ≡ head ++ flat_map row_text s.rows → (w0 w1 w2 : Writer) → Adds head w0 w1 → Adds (flat_map row_text s.rows) w1 w2
    → Adds (snapshot_text s) w0 w2
snapshot_written s head is w0 w1 w2 h0 h1 = subst (λ (t : List ℕ). Adds t w0 w2) (sym is) (adds_then head _ w0 w1 w2 h0 h1)

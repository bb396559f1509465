-- What is read step by step is what is read at once: lemmas.
use Rattle.std.proofs.Common.{◌≡◌, ℕ, Bool, true, false, not, ◌||◌, ltb, List, length, Option, Some, None, if◌then◌else◌, Result, Ok, Err, refl, sym, ap, subst, ◌∙◌}
use Rattle.std.specs.List.{list_all}
use Rattle.std.specs.Int.{Width, w16, w32, w64}
use Rattle.retry_rules.specs.declared.policy.RetryPolicy.{RetryPolicy}
use Rattle.retry_rules.specs.Settings.{is_outside, is_name_byte, is_plain_byte}
use Rattle.invoke_records.specs.declared.limits.Limits.{Limits}
use Rattle.invoke_records.specs.declared.command.Kind.{Kind}
use Rattle.invoke_records.specs.declared.command.Command.{Command}
use Rattle.invoke_records.specs.declared.head.Head.{Head}
use Rattle.invoke_records.specs.declared.row.Standing.{Standing}
use Rattle.invoke_records.specs.declared.row.Answer.{Answer}
use Rattle.invoke_records.specs.declared.row.EventRow.{EventRow}
use Rattle.invoke_records.specs.declared.snapshot.Snapshot.{Snapshot}
use Rattle.invoke_records.specs.declared.version.Version.{Version}
use Rattle.invoke_records.specs.declared.version.Version.TheVariants.{One}
use Rattle.invoke_records.specs.declared.row_fields.Life.{Life}
use Rattle.invoke_records.specs.declared.row_fields.Counts.{Counts}
use Rattle.invoke_records.specs.Spelling.{is_bad_environment, is_bad_id, greatest_moment, greatest_number, are_in_order}
use Rattle.invoke_records.specs.declared.error.RecordError.{RecordError}
use Rattle.invoke_records.specs.declared.error.RecordError.TheVariants as fault
use Rattle.invoke_records.specs.Reading.{◌>>=◌, Fails, Misses, unless, byte_at, bytes_at, number_at, small_at, limit_at, policy_at, policy_in, sized_at, text_at, limits_at, with_texts, settings_at, least_length, most_length, kind_at, fields_at, head_fault, body_at, command_at, life_at, counts_at, standing_of, answer_of, row_at, rows_at, snapshot_at, sound}
use Rattle.invoke_records.specs.Versions.{most_payload}
use Rattle.invoke_records.specs.laws.Fields.{done}
use Rattle.invoke_records.specs.Steps.{Left, beside, with_rest, Reads, refused, refused_by, kind_behind, command_of, row_of}

-- the step that was made, and what follows it
pub step : {A B : Type 0} (at : List ℕ → Result (A × List ℕ) RecordError) (old : Left) (value : A) (new : Left) (next : A × List ℕ → Result B RecordError)
    → Reads at old value new → (old >>= λ bytes. at bytes >>= next) ≡ (new >>= λ rest. next (value, rest))
step at (Ok bytes) value (Ok rest) next e = ap (λ r. r >>= next) (sym e)
step at (Ok bytes) value (Err f) next e = ap (λ r. r >>= next) (sym e)
step at (Err f) value (Ok rest) next e = absurd cc
step at (Err f) value (Err g) next e = cc

-- what stopped the steps stops what follows them
pub fails_then : {A B : Type 0} (why : RecordError) (read : Result A RecordError) (next : A → Result B RecordError) → Fails why read → Fails why (read >>= next)
fails_then fault.OutOfMemory read next e = tt
fails_then fault.Truncated read next e = ap (λ r. r >>= next) e
fails_then fault.BadKind read next e = ap (λ r. r >>= next) e
fails_then fault.TooLong read next e = ap (λ r. r >>= next) e

-- and is told
pub stopped : {A B : Type 0} (why : RecordError) (read : Result A RecordError) (next : A → Result B RecordError) → read ≡ Err why → Misses why (read >>= next)
stopped {A} why read next e = subst (λ (r : Result A RecordError). Misses why (r >>= next)) (sym e) refl

-- what is told of what stopped the steps, is told where want of memory may come first
pub fails_by : {A : Type 0} (why : RecordError) (read : Result A RecordError) → Misses why read → Fails why read
fails_by fault.OutOfMemory read e = tt
fails_by fault.Truncated (Ok x) e = absurd cc
fails_by fault.Truncated (Err f) e = ap Err (sym e)
fails_by fault.BadKind (Ok x) e = absurd cc
fails_by fault.BadKind (Err f) e = ap Err (sym e)
fails_by fault.TooLong (Ok x) e = absurd cc
fails_by fault.TooLong (Err f) e = ap Err (sym e)

-- the last step
pub stop : {A : Type 0} (value : A) (left : Left) → (left >>= λ rest. Ok (value, rest)) ≡ beside value left
stop value (Ok rest) = refl
stop value (Err f) = refl

-- equal steps after what is left
under : {B : Type 0} (left : Left) (f g : List ℕ → Result B RecordError) → ((rest : List ℕ) → f rest ≡ g rest) → (left >>= f) ≡ (left >>= g)
under (Ok rest) f g same = same rest
under (Err e) f g same = refl

-- a value that was found, and what is left
abbrev pub found : {A : Type 0} → A → List ℕ → Result (A × List ℕ) RecordError
found value rest = Ok (value, rest)

-- a refusal, and what follows it
pub step_refused : {A B : Type 0} (bad : Bool) (why : RecordError) (left : Left) (value : List ℕ → A) (next : List ℕ → Result B RecordError)
    → (left >>= λ rest. unless bad why (value rest) >>= λ same. next rest) ≡ (refused bad why left >>= next)
step_refused true why (Ok rest) value next = refl
step_refused false why (Ok rest) value next = refl
step_refused bad why (Err f) value next = refl

-- a refusal at the end
pub stop_refused : {A : Type 0} (bad : Bool) (why : RecordError) (left : Left) (value : A)
    → (left >>= λ rest. unless bad why (value, rest)) ≡ beside value (refused bad why left)
stop_refused true why (Ok rest) value = refl
stop_refused false why (Ok rest) value = refl
stop_refused bad why (Err f) value = refl

-- two refusals of one kind
refused_twice : (a b : Bool) (why : RecordError) (left : Left) → refused (a || b) why left ≡ refused b why (refused a why left)
refused_twice true b why (Ok rest) = refl
refused_twice false b why (Ok rest) = refl
refused_twice a b why (Err f) = refl

pub small_read : (least most : ℕ) (old : Left) (n : ℕ) (new : Left) → Reads byte_at old n new
    → Reads (small_at least most) old n (refused (ltb most n) fault.BadKind (refused (ltb n least) fault.BadKind new))
unfolding small_at
small_read least most old n new e =
    sym (step byte_at old n new (λ x. unless (is_outside least most x.0) fault.BadKind x) e
    ∙ stop_refused (is_outside least most n) fault.BadKind new n ∙ ap (beside n) (refused_twice (ltb n least) (ltb most n) fault.BadKind new))

pub limit_read : (w : Width) (least most : ℕ) (old : Left) (n : ℕ) (new : Left) → Reads (number_at w) old n new
    → Reads (limit_at w least most) old n (refused (ltb most n) fault.BadKind (refused (ltb n least) fault.BadKind new))
unfolding limit_at
limit_read w least most old n new e =
    sym (step (number_at w) old n new (λ x. unless (is_outside least most x.0) fault.BadKind x) e
    ∙ stop_refused (is_outside least most n) fault.BadKind new n ∙ ap (beside n) (refused_twice (ltb n least) (ltb most n) fault.BadKind new))

pub policy_read : (s0 s1 s2 : Left) (p : RetryPolicy) → Reads (small_at 0 2) s0 p.retries s1 → Reads (limit_at w32 60 21600) s1 p.age s2 → Reads policy_at s0 p s2
unfolding policy_at
policy_read s0 s1 s2 p a b = sym (step (small_at 0 2) s0 p.retries s1 _ a ∙ step (limit_at w32 60 21600) s1 p.age s2 _ b ∙ stop p s2)

-- the policy that version 1 is given stands nowhere
pub given_policy : (policy : RetryPolicy) (left : Left) → Reads (policy_in (One policy)) left policy left
given_policy policy (Ok rest) = refl
given_policy policy (Err f) = refl

pub sized_read : (least most : ℕ) (old : Left) (n : ℕ) (new : Left) → Reads (number_at w32) old n new
    → Reads (sized_at least most) old n (refused (ltb n least) fault.BadKind (refused (ltb most n) fault.TooLong new))
unfolding sized_at
sized_read least most old n new e =
    sym (step (number_at w32) old n new (λ x. unless (ltb most x.0) fault.TooLong x >>= λ long. unless (ltb x.0 least) fault.BadKind x) e
    ∙ step_refused (ltb most n) fault.TooLong new (λ rest. (n, rest)) (λ rest. unless (ltb n least) fault.BadKind (n, rest))
    ∙ stop_refused (ltb n least) fault.BadKind (refused (ltb most n) fault.TooLong new) n)

pub text_read : (most : ℕ) (is_good : ℕ → Bool) (old : Left) (size : ℕ) (behind : Left) (text : List ℕ) (new : Left) → Reads byte_at old size behind
    → Reads (bytes_at size) (refused (ltb size 1) fault.BadKind (refused (ltb most size) fault.TooLong behind)) text new
    → Reads (text_at most is_good) old text (refused (not (list_all is_good text)) fault.BadKind new)
unfolding text_at
text_read most is_good old size behind text new e f =
    let good : List ℕ × List ℕ → Result (List ℕ × List ℕ) RecordError = λ x. unless (not (list_all is_good x.0)) fault.BadKind x in
    let long : Left = refused (ltb most size) fault.TooLong behind in
    sym (step byte_at old size behind _ e
    ∙ step_refused (ltb most size) fault.TooLong behind (λ rest. (size, rest)) (λ rest. unless (ltb size 1) fault.BadKind (size, rest) >>= λ none. bytes_at size rest >>= good)
    ∙ step_refused (ltb size 1) fault.BadKind long (λ rest. (size, rest)) (λ rest. bytes_at size rest >>= good)
    ∙ step (bytes_at size) (refused (ltb size 1) fault.BadKind long) text new good f
    ∙ stop_refused (not (list_all is_good text)) fault.BadKind new text)

pub settings_read : (bytes : List ℕ) (old s1 s2 s3 new : Left) (limits : Limits) (name handler arn : List ℕ) → old ≡ Ok bytes → Reads limits_at old limits s1
    → Reads (text_at 64 is_name_byte) s1 name s2 → Reads (text_at 128 is_plain_byte) s2 handler s3 → Reads (text_at 200 is_plain_byte) s3 arn new
    → settings_at bytes ≡ (new >>= λ rest. Ok (with_texts limits name handler arn, rest))
unfolding settings_at
settings_read bytes old s1 s2 s3 new limits name handler arn e l n h a =
    ap (λ left. left >>= settings_at) (sym e)
    ∙ step limits_at old limits s1 _ l
    ∙ step (text_at 64 is_name_byte) s1 name s2 _ n
    ∙ step (text_at 128 is_plain_byte) s2 handler s3 _ h
    ∙ step (text_at 200 is_plain_byte) s3 arn new _ a

-- ## Rows

pub life_read : (s0 s1 s2 s3 s4 s5 s6 s7 s8 : Left) (l : Life) → Reads (bytes_at 16) s0 l.id s1 → Reads (limit_at w64 0 greatest_moment) s1 l.accepted s2
    → Reads (number_at w64) s2 l.number s3 → Reads (number_at w64) s3 l.last_number s4 → Reads (small_at 1 4) s4 l.standing s5
    → Reads (small_at 0 3) s5 l.outcome s6 → Reads (limit_at w16 0 16) s6 l.environment s7 → Reads (number_at w64) s7 l.moment s8
    → Reads life_at s0 l s8
unfolding life_at
life_read s0 s1 s2 s3 s4 s5 s6 s7 s8 l a b c d e f g h =
    sym (step (bytes_at 16) s0 l.id s1 _ a
    ∙ step (limit_at w64 0 greatest_moment) s1 l.accepted s2 _ b
    ∙ step (number_at w64) s2 l.number s3 _ c
    ∙ step (number_at w64) s3 l.last_number s4 _ d
    ∙ step (small_at 1 4) s4 l.standing s5 _ e
    ∙ step (small_at 0 3) s5 l.outcome s6 _ f
    ∙ step (limit_at w16 0 16) s6 l.environment s7 _ g
    ∙ step (number_at w64) s7 l.moment s8 _ h
    ∙ stop l s8)

pub counts_read : (version : Version) (s0 s1 s2 s3 s4 sp s5 s6 : Left) (n : Counts) → Reads (number_at w32) s0 n.starts s1 → Reads (number_at w32) s1 n.failures s2
    → Reads (number_at w32) s2 n.push_backs s3 → Reads (small_at 0 2) s3 n.answer s4 → Reads (policy_in version) s4 n.policy sp → Reads (sized_at 1 (most_payload version)) sp n.payload_size s5
    → Reads (sized_at 0 262144) s5 n.answer_size s6 → Reads (counts_at version) s0 n s6
unfolding counts_at
counts_read version s0 s1 s2 s3 s4 sp s5 s6 n a b c d p e f =
    sym (step (number_at w32) s0 n.starts s1 _ a
    ∙ step (number_at w32) s1 n.failures s2 _ b
    ∙ step (number_at w32) s2 n.push_backs s3 _ c
    ∙ step (small_at 0 2) s3 n.answer s4 _ d
    ∙ step (policy_in version) s4 n.policy sp _ p
    ∙ step (sized_at 1 (most_payload version)) sp n.payload_size s5 _ e
    ∙ step (sized_at 0 262144) s5 n.answer_size s6 _ f
    ∙ stop n s6)

abbrev pub row_with : Life → Counts → List ℕ → Standing → Answer → EventRow
row_with life counts payload standing given =
    record { id = life.id; accepted = life.accepted; number = life.number; last_number = life.last_number; standing = standing; starts = counts.starts; failures = counts.failures; push_backs = counts.push_backs; policy = counts.policy; payload = payload; answer = given }

row_then : (life : Life) (counts : Counts) (payload rest : List ℕ) (a : Result Standing RecordError) (b : Result Answer RecordError)
    → (a >>= λ standing. b >>= λ given. found (row_with life counts payload standing given) rest)
    ≡ with_rest (a >>= λ standing. b >>= λ given. done (row_with life counts payload standing given)) rest
row_then life counts payload rest (Ok standing) (Ok given) = refl
row_then life counts payload rest (Ok standing) (Err e) = refl
row_then life counts payload rest (Err e) b = refl

pub row_read : (version : Version) (bytes : List ℕ) (s0 s1 s2 s3 s4 : Left) (life : Life) (counts : Counts) (payload text : List ℕ) → s0 ≡ Ok bytes → Reads life_at s0 life s1
    → Reads (counts_at version) s1 counts s2 → Reads (bytes_at counts.payload_size) s2 payload s3 → Reads (bytes_at counts.answer_size) s3 text s4
    → row_at version bytes ≡ (s4 >>= with_rest (row_of life counts payload text))
unfolding row_at row_of
row_read version bytes s0 s1 s2 s3 s4 life counts payload text e a b c d =
    ap (λ left. left >>= row_at version) (sym e)
    ∙ step life_at s0 life s1 _ a
    ∙ step (counts_at version) s1 counts s2 _ b
    ∙ step (bytes_at counts.payload_size) s2 payload s3 _ c
    ∙ step (bytes_at counts.answer_size) s3 text s4 _ d
    ∙ under s4 _ _ (λ rest. row_then life counts payload rest (standing_of life) (answer_of counts.answer text))

-- ## Commands

bind_assoc : {A B C : Type 0} (r : Result A RecordError) (f : A → Result B RecordError) (g : B → Result C RecordError) → (r >>= λ x. f x >>= g) ≡ ((r >>= f) >>= g)
bind_assoc (Ok x) f g = refl
bind_assoc (Err e) f g = refl

pub head_read : (s0 s1 s2 s3 s4 s5 s6 : Left) (byte : ℕ) (h : Head) → Reads byte_at s0 byte s1 → Reads (bytes_at 16) s1 h.id s2 → Reads (number_at w16) s2 h.environment s3
    → Reads (number_at w64) s3 h.time s4 → Reads (number_at w32) s4 h.size s5 → Reads (kind_behind byte) s5 h.kind s6 → Reads fields_at s0 h s6
unfolding fields_at
head_read s0 s1 s2 s3 s4 s5 s6 byte h a b c d e f =
    let made : Kind × List ℕ → Result (Head × List ℕ) RecordError = λ k. found (record h { kind = k.0 }) k.1 in
    sym (step byte_at s0 byte s1 _ a
    ∙ step (bytes_at 16) s1 h.id s2 _ b
    ∙ step (number_at w16) s2 h.environment s3 _ c
    ∙ step (number_at w64) s3 h.time s4 _ d
    ∙ step (number_at w32) s4 h.size s5 _ e
    ∙ under s5 _ _ (λ rest. bind_assoc (kind_at byte) (λ kind. found kind rest) made)
    ∙ step (kind_behind byte) s5 h.kind s6 made f
    ∙ stop h s6)

step_sound : {A B : Type 0} (why : Option RecordError) (left : Left) (value : A) (next : List ℕ → Result B RecordError)
    → (left >>= λ rest. sound why value >>= λ same. next rest) ≡ (refused_by why left >>= next)
step_sound None (Ok rest) value next = refl
step_sound (Some e) (Ok rest) value next = refl
step_sound why (Err f) value next = refl

faults : (a b c : Bool) (left : Left)
    → refused_by (if a then Some fault.BadKind else if b then Some fault.TooLong else if c then Some fault.BadKind else None) left
    ≡ refused c fault.BadKind (refused b fault.TooLong (refused a fault.BadKind left))
faults a b c (Err e) = refl
faults true b c (Ok rest) = refl
faults false true c (Ok rest) = refl
faults false false true (Ok rest) = refl
faults false false false (Ok rest) = refl

pub head_checked : (h : Head) (left : Left)
    → refused (ltb h.size (least_length h.kind)) fault.BadKind (refused (ltb (most_length h.kind) h.size) fault.TooLong (refused (ltb greatest_moment h.time) fault.BadKind (refused (is_bad_id h.kind h.id) fault.BadKind (refused (is_bad_environment h.kind h.environment) fault.BadKind left))))
    ≡ refused_by (head_fault h) left
head_checked h left =
    let id = is_bad_id h.kind h.id in
    let late = ltb greatest_moment h.time in
    let placed = is_bad_environment h.kind h.environment in
    sym (faults (placed || (id || late)) (ltb (most_length h.kind) h.size) (ltb h.size (least_length h.kind)) left
    ∙ ap (λ (l : Left). refused (ltb h.size (least_length h.kind)) fault.BadKind (refused (ltb (most_length h.kind) h.size) fault.TooLong l))
    (refused_twice placed (id || late) fault.BadKind left ∙ refused_twice id late fault.BadKind (refused placed fault.BadKind left)))

command_then : (made : Kind × List ℕ → Command) (rest : List ℕ) (r : Result (Kind × List ℕ) RecordError)
    → (r >>= λ parts. found (made parts) rest) ≡ with_rest (r >>= λ parts. done (made parts)) rest
command_then made rest (Ok parts) = refl
command_then made rest (Err e) = refl

pub command_read : (bytes : List ℕ) (s0 s1 s2 s3 s4 : Left) (h : Head) (body : List ℕ) → s0 ≡ Ok bytes → s1 ≡ refused (ltb (length bytes) 31) fault.Truncated s0
    → Reads fields_at s1 h s2 → s3 ≡ refused_by (head_fault h) s2 → Reads (bytes_at h.size) s3 body s4
    → command_at bytes ≡ (s4 >>= with_rest (command_of h body))
unfolding command_at command_of
command_read bytes s0 s1 s2 s3 s4 h body e long a good b =
    let made : Kind × List ℕ → Command = λ parts. record { kind = parts.0; id = h.id; environment = h.environment; time = h.time; bytes = parts.1 } in
    let carried : List ℕ × List ℕ → Result (Command × List ℕ) RecordError = λ x. body_at h.kind x.0 >>= λ parts. found (made parts) x.1 in
    let checked : Head × List ℕ → Result (Command × List ℕ) RecordError = λ x. sound (head_fault x.0) x.0 >>= λ good. bytes_at x.0.size x.1 >>= λ given. body_at x.0.kind given.0 >>= λ parts.
    found (record { kind = parts.0; id = x.0.id; environment = x.0.environment; time = x.0.time; bytes = parts.1 }) given.1 in
    step_refused (ltb (length bytes) 31) fault.Truncated (Ok bytes) (λ rest. rest) (λ rest. fields_at rest >>= checked)
    ∙ ap (λ (l : Left). l >>= λ rest. fields_at rest >>= checked) (sym (long ∙ ap (refused (ltb (length bytes) 31) fault.Truncated) e))
    ∙ step fields_at s1 h s2 checked a
    ∙ step_sound (head_fault h) s2 h (λ rest. bytes_at h.size rest >>= carried)
    ∙ ap (λ (l : Left). l >>= λ rest. bytes_at h.size rest >>= carried) (sym good)
    ∙ step (bytes_at h.size) s3 body s4 carried b
    ∙ under s4 _ _ (λ rest. command_then made rest (body_at h.kind body))

-- ## Snapshots

-- the snapshot of these numbers and rows, where the rows are in order
abbrev pub with_rows : ℕ → ℕ → RetryPolicy → List EventRow × List ℕ → Result (Snapshot × List ℕ) RecordError
with_rows number last_moment policy rows =
    unless (not (are_in_order rows.0)) fault.BadKind rows >>= λ ordered. found (record { number = number; last_moment = last_moment; policy = policy; rows = rows.0 }) rows.1

pub snapshot_read : (version : Version) (bytes : List ℕ) (s0 s1 s2 sp s3 : Left) (number last_moment : ℕ) (policy : RetryPolicy) (count : ℕ) → s0 ≡ Ok bytes → Reads (limit_at w64 0 greatest_number) s0 number s1
    → Reads (limit_at w64 0 greatest_moment) s1 last_moment s2 → Reads (policy_in version) s2 policy sp → Reads (sized_at 0 1024) sp count s3
    → snapshot_at version bytes ≡ (s3 >>= λ rest. rows_at version count rest >>= with_rows number last_moment policy)
unfolding snapshot_at
snapshot_read version bytes s0 s1 s2 sp s3 number last_moment policy count e a b p c =
    ap (λ left. left >>= snapshot_at version) (sym e)
    ∙ step (limit_at w64 0 greatest_number) s0 number s1 _ a
    ∙ step (limit_at w64 0 greatest_moment) s1 last_moment s2 _ b
    ∙ step (policy_in version) s2 policy sp _ p
    ∙ step (sized_at 0 1024) sp count s3 _ c

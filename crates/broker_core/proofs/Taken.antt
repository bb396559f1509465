-- What a broker stands for that takes commands, one after another.
use Rattle.std.proofs.Common.{◌≡◌, ℕ, zero, suc, ◌+◌, ◌-◌, ◌<◌, ◌≤◌, None, Some, Option, List, [], ◌∷◌, ◌++◌, length, take, drop, refl, sym, ap, subst, ◌∙◌, arith, inl, inr, append_assoc, length-append}
use Rattle.std.specs.Prelude.{slice_get, IfSome, IsSome}
use Rattle.std.proofs.Math.Seq.{take-append_seam, take-append-add, get_or-append_seam}
use Rattle.std.proofs.lemmas.List.{append-nil}
use Rattle.std.proofs.lemmas.Option.{slice_get-get_or}
use Rattle.sector_disk.specs.Disk.{DiskView}
use Rattle.sector_disk.specs.declared.disk.Disk.{Ghosts}
use Rattle.retry_rules.specs.declared.settings.Settings.{Settings}
use Rattle.invoke_records.specs.declared.snapshot.Snapshot.{Snapshot}
use Rattle.invoke_records.specs.declared.command.Command.{Command}
use Rattle.async_core.specs.declared.illegal.Illegal.{Illegal}
use Rattle.async_core.specs.Rules.{refusal_at, table_after, where_legal, replay}
use Rattle.broker_core.specs.declared.broker.Broker.{Broker}
use Rattle.broker_core.specs.Broker.{settings_of, table_in, issued_of, pending_of, Stands, IsSameBroker, Issues}
use Rattle.broker_core.specs.Splitting.{Takes}
use Rattle.broker_core.specs.declared.batch.Batch.{Batch}
use Rattle.broker_core.specs.Batch.{first_of, last_of, commands_of}
use Rattle.broker_core.specs.Taking.{IllegalNext, TakesMissing}
use Rattle.broker_core.specs.Writing.{IsApart, missing_in, taken_from}

-- ## Replaying one command more

legal_first : {A : Type 0} (refusal : Option Illegal) (rest : Option A) (x : A) → where_legal refusal rest ≡ Some x → (refusal ≡ None) × (rest ≡ Some x)
legal_first None rest x is = (refl, is)
legal_first (Some why) rest x is = absurd cc

pub replay_more : (s : Settings) (before after : Snapshot) (commands : List Command) (c : Command) → replay s before commands ≡ Some after → refusal_at s after c ≡ None
    → replay s before (commands ++ c ∷ []) ≡ Some (table_after s after c)
replay_more s before after [] c is legal =
    let same : before ≡ after = cc in
    ap (λ (t : Snapshot). where_legal (refusal_at s t c) (Some (table_after s t c))) same
    ∙ ap (λ (r : Option Illegal). where_legal r (Some (table_after s after c))) legal
replay_more s before after (x ∷ commands) c is legal =
    let first = legal_first (refusal_at s before x) (replay s (table_after s before x) commands) after is in
    ap (λ (r : Option Illegal). where_legal r (replay s (table_after s before x) (commands ++ c ∷ []))) first.0
    ∙ replay_more s (table_after s before x) after commands c first.1 legal

-- the table on the way, behind so many of them
pub record SplitAt (s : Settings) (before end : Snapshot) (commands : List Command) (n : ℕ) : Type 0 where
  pub middle : Snapshot
  pub first : replay s before (take n commands) ≡ Some middle
  pub rest : replay s middle (drop n commands) ≡ Some end

pub replay_split : (s : Settings) (before end : Snapshot) (commands : List Command) (n : ℕ) → replay s before commands ≡ Some end → SplitAt s before end commands n
replay_split s before end commands zero is = record { middle = before; first = refl; rest = is }
replay_split s before end [] (suc n) is = record { middle = before; first = refl; rest = is }
replay_split s before end (c ∷ commands) (suc n) is =
    let next = legal_first (refusal_at s before c) (replay s (table_after s before c) commands) end is in
    let later = replay_split s (table_after s before c) end commands n next.1 in
    record {
      middle = later.middle;
      first = ap (λ (r : Option Illegal). where_legal r (replay s (table_after s before c) (take n commands))) next.0 ∙ later.first;
      rest = later.rest;
    }

-- a command that is refused on the way stops them
stopped : {A : Type 0} (refusal : Option Illegal) (rest : Option A) → IsSome refusal → where_legal refusal rest ≡ None
stopped None rest is = absurd cc
stopped (Some why) rest is = refl

pub replay_stops : (s : Settings) (before after : Snapshot) (commands : List Command) (k : ℕ) → k < length commands → replay s before (take k commands) ≡ Some after
    → IfSome (slice_get commands k) (λ c. IsSome (refusal_at s after c)) → replay s before commands ≡ None
replay_stops s before after [] k lt is stop = absurd (omega (arith, lt))
replay_stops s before after (c ∷ commands) zero lt is stop =
    let same : before ≡ after = cc in
    stopped (refusal_at s before c) (replay s (table_after s before c) commands) (subst (λ (t : Snapshot). IsSome (refusal_at s t c)) (sym same) stop)
replay_stops s before after (c ∷ commands) (suc k) lt is stop =
    let first = legal_first (refusal_at s before c) (replay s (table_after s before c) (take k commands)) after is in
    ap (λ (r : Option Illegal). where_legal r (replay s (table_after s before c) commands)) first.0
    ∙ replay_stops s (table_after s before c) after commands k (omega (arith, lt)) first.1 stop

-- ## The next command

pub record NextAt (commands : List Command) (k : ℕ) (command : Command) : Type 0 where
  pub front : take (k + 1) commands ≡ take k commands ++ command ∷ []
  pub there : slice_get commands k ≡ Some command
  pub within : k < length commands

next_there : (came : List Command) (command : Command) (rest : List Command) → NextAt (came ++ command ∷ rest) (length came) command
next_there came command rest =
    let within : length came < length (came ++ command ∷ rest) = omega (arith, length-append came (command ∷ rest)) in
    record {
      front = take-append-add came (command ∷ rest) 1 ∙ ap (λ (l : List Command). l ++ command ∷ []) (sym (take-append_seam came (command ∷ rest)));
      there = slice_get-get_or (came ++ command ∷ rest) (length came) command within ∙ ap (λ (c : Command). Some c) (get_or-append_seam came command rest command);
      within = within;
    }

pub next_at : (came : List Command) (command : Command) (rest commands : List Command) → came ++ command ∷ rest ≡ commands → NextAt commands (length came) command
next_at came command rest commands is = subst (λ (l : List Command). NextAt l (length came) command) is (next_there came command rest)

-- ## Taking

module _ {D : Type 0} {g : Ghosts D} (view : D → DiskView) (old mid new : Broker D g) (commands : List Command) (k : ℕ) where
  pub takes_more : (command : Command) (ticket : ℕ) → NextAt commands k command → Takes old mid commands k → Issues mid new command ticket → Takes old new commands (k + 1)
  takes_more command ticket next takes issues = record {
    most = omega (arith, next.within);
    disk = issues.disk ∙ takes.disk;
    opened = issues.opened ∙ takes.opened;
    settings = issues.settings ∙ takes.settings;
    table =
        ap (replay (settings_of old) (table_in old)) next.front
        ∙ replay_more (settings_of old) (table_in old) (table_in mid) (take k commands) command takes.table
        (subst (λ (s : Settings). refusal_at s (table_in mid) command ≡ None) takes.settings issues.legal)
        ∙ ap (λ (t : Snapshot). Some t) (ap (λ (s : Settings). table_after s (table_in mid) command) (sym takes.settings) ∙ sym issues.table);
    issued = omega (arith, takes.issued, issues.issued);
    pending = issues.pending ∙ ap (λ (l : List Command). l ++ command ∷ []) takes.pending ∙ append_assoc (pending_of old) (take k commands) (command ∷ []) ∙ ap (λ (l : List Command). pending_of old ++ l) (sym next.front);
    durable = issues.durable ∙ takes.durable;
    broken = issues.broken ∙ takes.broken;
    staged = issues.staged ∙ takes.staged;
  }

  pub takes_same : Takes old mid commands k → IsSameBroker mid new → Takes old new commands k
  takes_same takes same = record {
    most = takes.most;
    disk = same.disk ∙ takes.disk;
    opened = same.opened ∙ takes.opened;
    settings = same.settings ∙ takes.settings;
    table = takes.table ∙ ap (λ (t : Snapshot). Some t) (sym same.table);
    issued = ap (λ (t : Snapshot). t.number) same.table ∙ takes.issued;
    pending = same.pending ∙ takes.pending;
    durable = same.durable ∙ takes.durable;
    broken = same.broken ∙ takes.broken;
    staged = same.staged ∙ takes.staged;
  }

  -- how many were taken
  pub count_is : Takes old mid commands k → issued_of mid - issued_of old ≡ k
  count_is takes = omega (arith, takes.issued)

  pub stands_next : (command : Command) (history : List Command) → NextAt commands k command → Stands view new ((history ++ take k commands) ++ command ∷ [])
      → Stands view new (history ++ take (k + 1) commands)
  stands_next command history next stands =
      subst (λ (l : List Command). Stands view new l) (append_assoc history (take k commands) (command ∷ []) ∙ ap (λ (l : List Command). history ++ l) (sym next.front)) stands

  -- what was taken, by numbers
  pub stands_by_count : (history : List Command) → Takes old new commands k → Stands view new (history ++ take k commands) → Stands view new (history ++ take (issued_of new - issued_of old) commands)
  stands_by_count history takes stands =
      let same : issued_of new - issued_of old ≡ k = omega (arith, takes.issued) in
      subst (λ (n : ℕ). Stands view new (history ++ take n commands)) (sym same) stands

  pub takes_by_count : Takes old new commands k → Takes old new commands (issued_of new - issued_of old)
  takes_by_count takes =
      let same : issued_of new - issued_of old ≡ k = omega (arith, takes.issued) in
      subst (λ (n : ℕ). Takes old new commands n) (sym same) takes

  -- some are left
  pub stopped_before : (command : Command) → NextAt commands k command → Takes old mid commands k → IsSameBroker mid new → issued_of new - issued_of old < length commands
  stopped_before command next takes same = omega (arith, next.within, takes.issued, ap (λ (t : Snapshot). t.number) same.table)

  -- the next is not legal, and nothing more was taken
  pub illegal_next : (command : Command) (why : Illegal) → NextAt commands k command → Takes old mid commands k → IsSameBroker mid new → refusal_at (settings_of mid) (table_in mid) command ≡ Some why
      → (issued_of new - issued_of old < length commands) × IllegalNext old new commands
  illegal_next command why next takes same refused =
      let count : issued_of new - issued_of old ≡ k = omega (arith, takes.issued, ap (λ (t : Snapshot). t.number) same.table) in
      let there : slice_get commands (issued_of new - issued_of old) ≡ Some command = ap (slice_get commands) count ∙ next.there in
      let is : refusal_at (settings_of new) (table_in new) command ≡ Some why = (λ i. refusal_at (same.settings i) (same.table i) command) ∙ refused in (
        omega (arith, count, next.within),
        subst (λ (o : Option Command). IfSome o (λ c. IsSome (refusal_at (settings_of new) (table_in new) c))) (sym there) (subst (λ (o : Option Illegal). IsSome o) (sym is) refl),
      )

-- ## None taken

pub takes_none : {D : Type 0} {g : Ghosts D} (broker : Broker D g) (commands : List Command) → Takes broker broker commands (issued_of broker - issued_of broker)
takes_none broker commands =
    let zero_is : issued_of broker - issued_of broker ≡ 0 = omega arith in
    subst (λ (n : ℕ). Takes broker broker commands n) (sym zero_is)
    (record {
      most = omega arith;
      disk = refl;
      opened = refl;
      settings = refl;
      table = refl;
      issued = omega arith;
      pending = sym (append-nil (pending_of broker));
      durable = refl;
      broken = refl;
      staged = refl;
    })

pub stands_none : {D : Type 0} {g : Ghosts D} (view : D → DiskView) (broker : Broker D g) (commands history : List Command) → Stands view broker history
    → Stands view broker (history ++ take (issued_of broker - issued_of broker) commands)
stands_none view broker commands history stands =
    let zero_is : issued_of broker - issued_of broker ≡ 0 = omega arith in
    subst (λ (n : ℕ). Stands view broker (history ++ take n commands)) (sym zero_is) (subst (λ (l : List Command). Stands view broker l) (sym (append-nil history)) stands)

pub same_broker : {D : Type 0} {g : Ghosts D} (broker : Broker D g) → IsSameBroker broker broker
same_broker broker = record { disk = refl; settings = refl; table = refl; pending = refl; durable = refl; broken = refl; opened = refl; staged = refl }

-- ## A batch

module _ {D : Type 0} {g : Ghosts D} (view : D → DiskView) (old new : Broker D g) (batch : Batch) (issued : ℕ) (number : issued ≡ issued_of old) where
  pub not_apart : first_of batch ≤ issued + 1 → issued ≤ last_of batch → IsApart old batch → ⊥
  not_apart joined reaches (inl gap) = omega (arith, joined, number, gap)
  not_apart joined reaches (inr short) = omega (arith, reaches, number, short)

  -- what was left of the batch is what is missing
  module _ (rest : List Command) (dropped : rest ≡ drop (issued + 1 - first_of batch) (commands_of batch)) where
    rest_is : rest ≡ missing_in old batch
    rest_is = dropped ∙ ap (λ (n : ℕ). drop (n + 1 - first_of batch) (commands_of batch)) number

    pub takes_rest : Takes old new rest (issued_of new - issued_of old) → TakesMissing old batch new
    takes_rest takes = subst (λ (l : List Command). Takes old new l (issued_of new - issued_of old)) rest_is takes

    pub stands_rest : (history : List Command) → Stands view new (history ++ take (issued_of new - issued_of old) rest) → Stands view new (history ++ taken_from old new batch)
    stands_rest history stands = subst (λ (l : List Command). Stands view new (history ++ take (issued_of new - issued_of old) l)) rest_is stands

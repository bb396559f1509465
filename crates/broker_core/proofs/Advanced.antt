-- What is staged and opened makes of a broker that stands for a history.
use Rattle.std.proofs.Common.{◌≡◌, ◌⊎◌, ℕ, ◌+◌, ◌≤◌, false, Option, None, Some, List, length, take, drop, Result, Ok, Err, refl, sym, ap, subst, ◌∙◌, arith, inl, inr, ⊎_elim, length-drop}
use Rattle.std.specs.Prelude.{IfSome, OnOk, OnErr}
use Rattle.std.proofs.lemmas.List.{take_all, take-take, length-take-le, drop-take, drop-drop}
use Rattle.sector_disk.specs.Disk.{DiskView, IsDisk, IsSameDisk}
use Rattle.sector_disk.specs.declared.disk.Disk.{Ghosts}
use Rattle.sector_disk.specs.declared.disk.Fault.{Fault}
use Rattle.sector_disk.specs.Moments.{LeavesOnly}
use Rattle.retry_rules.specs.declared.settings.Settings.{Settings}
use Rattle.retry_rules.specs.Settings.{bad_field}
use Rattle.invoke_records.specs.declared.snapshot.Snapshot.{Snapshot}
use Rattle.invoke_records.specs.declared.command.Command.{Command}
use Rattle.async_core.specs.Rules.{replay}
use Rattle.async_core.specs.History.{IsLegal, table_of}
use Rattle.async_core.specs.laws.Held.{IsLegal-take}
use Rattle.async_core.specs.laws.Tables.{replay-history}
use Rattle.gate_journal.specs.declared.staged.Staged.{Staged}
use Rattle.gate_journal.specs.Staged.{count_of}
use Rattle.checkpoint.specs.declared.opened.Opened.{Opened}
use Rattle.checkpoint.specs.Live.{RecoversTo, RecoversToEither, IsLive, live_recovers}
use Rattle.checkpoint.specs.Ahead.{IsLiveAhead}
use Rattle.broker_core.specs.declared.broker.Broker.{Broker}
use Rattle.broker_core.specs.declared.error.CommitError.{CommitError}
use Rattle.broker_core.specs.declared.error.CommitError.TheVariants as commit_error
use Rattle.broker_core.specs.History.{IsLegalStop}
use Rattle.broker_core.specs.Broker.{disk_of, settings_of, table_in, pending_of, durable_of, is_broken, opened_of, staged_of, BrokerState, state_of, StandsFor, Stands, IsSameBroker, Breaks}
use Rattle.broker_core.specs.AdvanceSteps.{IsLiveWith, StagesAs, table_with, OpensFront, ForBothFronts, LeavesOneOf}
use Rattle.broker_core.proofs.Issued.{stands_along}
use Rattle.broker_core.proofs.Committed.{weaker, stop_before, stands_committed, stands_broken, stands_same}

-- ## Images

-- what a stop leaves of a staging, said of equal settings
pub only_before : (old new : DiskView) (s there : Settings) (before after : Snapshot) → s ≡ there → LeavesOnly old new (RecoversTo there before) → LeavesOnly old new (RecoversToEither s before after)
only_before old new s there before after kept leaves =
    weaker (λ image is. inl (subst (λ (r : Settings). RecoversTo r before image) (sym kept) is)) leaves

-- what a stop leaves of an opening, said of equal settings
pub either_of : (old new : DiskView) (s there : Settings) (before after : Snapshot) (commands : List Command) → s ≡ there → replay s before commands ≡ Some after
    → (replay there before commands ≡ Some after → LeavesOnly old new (RecoversToEither there before after)) → LeavesOnly old new (RecoversToEither s before after)
either_of old new s there before after commands kept replays leaves =
    subst (λ (r : Settings). LeavesOnly old new (RecoversToEither r before after)) (sym kept) (leaves (subst (λ (r : Settings). replay r before commands ≡ Some after) kept replays))

-- all of it is staged
pub whole_staged : (disk : DiskView) (opened : Opened) (table : Snapshot) (commands pending : List Command) (group : Staged) → commands ≡ pending → count_of group ≡ length commands
    → IsLiveAhead disk opened table commands group → IsLiveWith disk opened table pending (Some group)
whole_staged disk opened table commands pending group same count ahead =
    let all : take (count_of group) pending ≡ pending = take_all (count_of group) pending (omega (arith, count, ap length same)) in
    record { live = ahead.live; ahead = subst (λ (l : List Command). IsLiveAhead disk opened table l group) (same ∙ sym all) ahead }

-- nothing is staged
pub none_staged : (disk : DiskView) (opened : Opened) (table : Snapshot) (pending : List Command) (staged : Option Staged) → staged ≡ None → IsLive disk opened table
    → IsLiveWith disk opened table pending staged
none_staged disk opened table pending staged none live =
    record { live = live; ahead = subst (λ (o : Option Staged). IfSome o (λ group. IsLiveAhead disk opened table (take (count_of group) pending) group)) (sym none) tt }

pub none_staged_in : (result : Result (Unit {0}) Fault) (disk : DiskView) (opened : Opened) (table : Snapshot) (pending : List Command) (staged : Option Staged) → OnOk result (staged ≡ None)
    → OnOk result (IsLive disk opened table) → OnOk result (IsLiveWith disk opened table pending staged)
none_staged_in (Ok done) disk opened table pending staged none live = none_staged disk opened table pending staged none live
none_staged_in (Err why) disk opened table pending staged none live = tt

-- what is staged is no more than what is pending
front_in : (staged : Option Staged) (pending : List Command) → ((group : Staged) → staged ≡ Some group → (1 ≤ count_of group) × (count_of group ≤ length pending))
    → IfSome staged (λ group. count_of group ≤ length pending)
front_in None pending front = tt
front_in (Some group) pending front = (front group refl).1

-- what holds of what is staged holds of this group
pub ahead_in : (P : Staged → Type 0) (staged : Option Staged) (group : Staged) → staged ≡ Some group → IfSome staged P → P group
ahead_in P staged group is holds = subst (λ (o : Option Staged). IfSome o P) is holds

-- ## What a history says

-- the table on the way from the durable commands to those with so many more
pub front_replays : (s : Settings) (history pending : List Command) (durable n : ℕ) → bad_field s ≡ None → IsLegal s history → durable ≤ length history → pending ≡ drop durable history
    → n ≤ length pending → replay s (table_of s (take durable history)) (take n pending) ≡ Some (table_of s (take (durable + n) history))
front_replays s history pending durable n good legal within is most =
    let room : durable + n ≤ length history = omega (arith, within, most, ap length is, length-drop durable history) in
    let front : List Command = take (durable + n) history in
    let size : durable ≤ length front = omega (arith, room, length-take-le (durable + n) history room) in
    let same : take durable front ≡ take durable history = take-take durable (durable + n) history (omega arith) in
    let rest : drop durable front ≡ take n pending = drop-take durable n history ∙ ap (take n) (sym is) in
    (λ i. replay s (table_of s (sym same i)) (sym rest i)) ∙ replay-history s front durable good (IsLegal-take s history (durable + n) legal) size

module _ {D : Type 0} {g : Ghosts D} (view : D → DiskView) (laws : (disk : D) → (view disk).honest → IsDisk (view disk)) (old new : Broker D g) (history : List Command)
    (stands : Stands view old history) (whole : is_broken old ≡ false) where
  abbrev s : Settings
  s = settings_of old

  abbrev before : Snapshot
  before = table_of s (take (durable_of old) history)

  -- what is pending is staged, or durable
  pub stands_staged : (staged : Option Staged) → staged_of new ≡ staged → IsSameDisk (view (disk_of old)) (view (disk_of new)) → StagesAs staged old new
      → ((view (disk_of old)).honest → IsLiveWith (view (disk_of new)) (opened_of new) (table_with staged before (table_in old)) (pending_of new) staged) → Stands view new history
  stands_staged None is same commits live =
      stands_committed view laws old new history stands whole (durable_of new) same commits
      (λ honest. subst (λ (t : Snapshot). IsLive (view (disk_of new)) (opened_of new) t) stands.table_is (live honest).live)
  stands_staged (Some group) is same (settings, table, pending, durable, broken, opened, count) live =
      let there = λ (honest : (view (disk_of new)).honest). live (same.honest.0 honest) in
      let kept : s ≡ (opened_of new).settings = sym settings ∙ new.settings in
      let was : BrokerState = record (state_of view old) { disk = view (disk_of new); opened = opened_of new; pending = pending_of new; staged = Some group } in
      let base : StandsFor was history =
      record {
        good = stands.good;
        legal = stands.legal;
        table_is = stands.table_is;
        durable_is = stands.durable_is;
        pending_is = pending ∙ stands.pending_is;
        stops = λ honest image left.
            stop_before s history (durable_of old) image stands.durable_is
            (subst (λ (r : Settings). RecoversTo r before image) (sym kept) (live_recovers _ _ _ (there honest).live image left));
        live = λ sound honest. (there honest).live;
        front = omega (arith, count);
        ahead = λ sound honest. (there honest).ahead;
      } in
      stands_along was (state_of view new) history refl refl settings table refl durable broken is base

  -- whatever the staging answers
  pub stage_stands : (result : Result (Unit {0}) CommitError) → IsSameDisk (view (disk_of old)) (view (disk_of new)) → OnOk result (StagesAs (staged_of new) old new)
      → (result ≡ Err commit_error.Fault → Breaks old new) → OnErr result ((result ≡ Err commit_error.Fault) ⊎ IsSameBroker old new)
      → ((view (disk_of old)).honest → OnOk result (IsLiveWith (view (disk_of new)) (opened_of new) (table_with (staged_of new) before (table_in old)) (pending_of new) (staged_of new)))
      → ((view (disk_of old)).honest → LeavesOnly (view (disk_of old)) (view (disk_of new)) (IsLegalStop s history (durable_of old))) → Stands view new history
  stage_stands (Ok done) same ok breaks kept live leaves = stands_staged (staged_of new) refl same ok live
  stage_stands (Err why) same ok breaks kept live leaves =
      ⊎_elim (λ fault. stands_broken view laws old new history stands whole same (breaks fault) leaves) (stands_same view laws old new history stands whole) kept

  module _ (group : Staged) (most : count_of group ≤ length (pending_of old)) where
    abbrev after : Snapshot
    after = table_of s (take (durable_of old + count_of group) history)

    pub replays_front : replay s before (take (count_of group) (pending_of old)) ≡ Some after
    replays_front = front_replays s history (pending_of old) (durable_of old) (count_of group) stands.good.check stands.legal stands.durable_is stands.pending_is most

    pub within : durable_of old + count_of group ≤ length history
    within = omega (arith, stands.durable_is, most, ap length stands.pending_is, length-drop (durable_of old) history)

    -- each image of an opening is a legal stop
    pub is_front_stop : (image : List ℕ) → RecoversToEither s before after image → IsLegalStop s history (durable_of old) image
    is_front_stop image = ⊎_elim (stop_before s history (durable_of old) image stands.durable_is)
        (λ is. record { size = durable_of old + count_of group; least = omega arith; most = within; recovers = is })

    -- what was staged is durable
    pub stands_opened : IsSameDisk (view (disk_of old)) (view (disk_of new)) → OpensFront old new group
        → ((view (disk_of old)).honest → IsLiveWith (view (disk_of new)) (opened_of new) after (pending_of new) (staged_of new)) → Stands view new history
    stands_opened same opens live =
        let there = λ (honest : (view (disk_of new)).honest). live (same.honest.0 honest) in
        let kept : s ≡ (opened_of new).settings = sym opens.settings ∙ new.settings in
        let was : BrokerState = record (state_of view new) { settings = s; table = table_in old; durable = durable_of old + count_of group; broken = is_broken old } in
        let base : StandsFor was history =
        record {
          good = stands.good;
          legal = stands.legal;
          table_is = stands.table_is;
          durable_is = within;
          pending_is = opens.pending ∙ ap (drop (count_of group)) stands.pending_is ∙ drop-drop (count_of group) (durable_of old) history
              ∙ ap (λ (n : ℕ). drop n history) (omega arith);
          stops = λ honest image left.
              stop_before s history (durable_of old + count_of group) image within
              (subst (λ (r : Settings). RecoversTo r after image) (sym kept) (live_recovers _ _ _ (there honest).live image left));
          live = λ sound honest. (there honest).live;
          front = front_in (staged_of new) (pending_of new) new.front;
          ahead = λ sound honest. (there honest).ahead;
        } in
        stands_along was (state_of view new) history refl refl opens.settings opens.table refl opens.durable opens.broken refl base

  module _ (group : Staged) (is : staged_of old ≡ Some group) where
    most : count_of group ≤ length (pending_of old)
    most = ahead_in (λ (g : Staged). count_of g ≤ length (pending_of old)) (staged_of old) group is stands.front

    ahead : (view (disk_of old)).honest → IsLiveAhead (view (disk_of old)) (opened_of old) before (take (count_of group) (pending_of old)) group
    ahead honest =
        ahead_in (λ (g : Staged). IsLiveAhead (view (disk_of old)) (opened_of old) before (take (count_of g) (pending_of old)) g) (staged_of old) group is (stands.ahead whole honest)

    -- whatever the opening answers, a stop leaves a legal one
    pub front_stops : ForBothFronts view old group (LeavesOneOf view old new) → (view (disk_of old)).honest
        → LeavesOnly (view (disk_of old)) (view (disk_of new)) (IsLegalStop s history (durable_of old))
    front_stops leaves honest = weaker (is_front_stop group most) (leaves honest before (after group most) (ahead honest) (replays_front group most))

    pub front_stands : IsSameDisk (view (disk_of old)) (view (disk_of new)) → OpensFront old new group
        → ForBothFronts view old group (λ before after. IsLiveWith (view (disk_of new)) (opened_of new) after (pending_of new) (staged_of new)) → Stands view new history
    front_stands same opens live = stands_opened group most same opens (λ honest. live honest before (after group most) (ahead honest) (replays_front group most))

-- ## A broker that is as it was

module _ {D : Type 0} {g : Ghosts D} (view : D → DiskView) (old mid new : Broker D g) (group : Staged) (same : IsSameBroker old mid) where
  pub breaks_from : Breaks mid new → Breaks old new
  breaks_from breaks = record {
    settings = breaks.settings ∙ same.settings;
    table = breaks.table ∙ same.table;
    pending = breaks.pending ∙ same.pending;
    durable = breaks.durable ∙ same.durable;
    broken = breaks.broken;
    opened = breaks.opened ∙ same.opened;
    staged = breaks.staged ∙ same.staged;
  }

  pub opens_from : OpensFront mid new group → OpensFront old new group
  opens_from opens = record {
    settings = opens.settings ∙ same.settings;
    table = opens.table ∙ same.table;
    pending = opens.pending ∙ ap (drop (count_of group)) same.pending;
    durable = opens.durable ∙ ap (λ (n : ℕ). n + count_of group) same.durable;
    broken = opens.broken ∙ same.broken;
    switched = opens.switched ∙ ap (λ (o : Opened). o.generation + 0) same.opened;
  }

  pub fronts_from : (P Q : Snapshot → Snapshot → Type 0) → ((before after : Snapshot) → P before after → Q before after) → ForBothFronts view mid group P → ForBothFronts view old group Q
  fronts_from P Q step holds honest before after ahead replays =
      step before after
      (holds (subst (λ (x : D). (view x).honest) (sym same.disk) honest) before after
      (subst (λ (x : D). IsLiveAhead (view x) (opened_of mid) before (take (count_of group) (pending_of mid)) group) (sym same.disk)
      (subst (λ (o : Opened). IsLiveAhead (view (disk_of old)) o before (take (count_of group) (pending_of mid)) group) (sym same.opened)
      (subst (λ (l : List Command). IsLiveAhead (view (disk_of old)) (opened_of old) before (take (count_of group) l) group) (sym same.pending) ahead)))
      ((λ i. replay (same.settings i) before (take (count_of group) (same.pending i))) ∙ replays))

  pub leaves_from : (before after : Snapshot) → LeavesOneOf view mid new before after → LeavesOneOf view old new before after
  leaves_from before after leaves =
      subst (λ (x : D). LeavesOnly (view x) (view (disk_of new)) (RecoversToEither (settings_of old) before after)) same.disk
      (subst (λ (r : Settings). LeavesOnly (view (disk_of mid)) (view (disk_of new)) (RecoversToEither r before after)) same.settings leaves)

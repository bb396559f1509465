-- Why a hall refuses a call, and which command a request has, whether a history is known or not.
use Rattle.std.proofs.Common.{◌≡◌, inl, inr, ℕ, ◌≤◌, ◌^◌, List, [], ◌∷◌, Bool, true, false, ◌&&◌, refl, sym, ap, ◌∙◌, subst, Option, Some, None}
use Rattle.std.specs.Prelude.{nat_le, option_map, is_some, slice_index}
use Rattle.std.proofs.lemmas.Bool.{leb-true, false≢true}
use Rattle.std.proofs.lemmas.Option.{none-some, same_Some}
use Rattle.env_phase.specs.State.{EnvState}
use Rattle.env_phase.specs.declared.call.EnvCall.{EnvCall}
use Rattle.invoke_records.specs.declared.command.Command.{Command}
use Rattle.api_core.specs.declared.call.Call.{Call}
use Rattle.broker_core.specs.Issuer.{IssuerView, issued_in, state_in}
use Rattle.hall_plans.specs.declared.error.HallError.{HallError}
use Rattle.hall_plans.specs.declared.error.HallError.TheVariants as error
use Rattle.hall_plans.specs.Refusals.{first_failed}
use Rattle.hall_plans.specs.Asked.{AsksFor, MayAsk, IsAsked}
use Rattle.hall_plans.specs.Past.{HallCall, arrive, tick}
use Rattle.hall_plans.specs.Effects.{Effect, id_of}
use Rattle.hall_plans.specs.Plans.{drawn_by, PlansRequest, PlansTick}
use Rattle.hall_plans.specs.Changes.{IsUncalled}
use Rattle.hall_core.specs.Issuing.{IsWanting, told_of}
use Rattle.hall_core.specs.Hall.{HallView, ForEachPast, settings_in, pending_in, open_slot_count, request, refusal_of_arrival, refusal_of_moving, WouldIssue, NeedsMemory, KeepsReason}
use Rattle.hall_core.proofs.Arriving.{effect_is}
use Rattle.hall_core.proofs.Ticking.{tick_effect_is}

-- ## Its own checks

at_least : (P : Type 0) (has : Bool) (m n : ℕ) → (has ≡ true → P) → (has && nat_le m n) ≡ true → P × (m ≤ n)
at_least P true m n would is = (would refl, leb-true m n is)
at_least P false m n would is = absurd (cc)

module _ (P : HallError → Type 0) (why : HallError) where
  first_of_five : (b st w o p : Bool) → (b ≡ true → P error.Broken) → (st ≡ true → P error.Stopping) → (w ≡ true → P error.WornOut)
      → (o ≡ true → P error.Backlog) → (p ≡ true → P error.Backlog)
      → first_failed ((b, error.Broken) ∷ (st, error.Stopping) ∷ (w, error.WornOut) ∷ (o, error.Backlog) ∷ (p, error.Backlog) ∷ []) ≡ Some why → P why
  first_of_five true st w o p hb hs hw ho hp is = subst P (same_Some _ _ is) (hb refl)
  first_of_five false true w o p hb hs hw ho hp is = subst P (same_Some _ _ is) (hs refl)
  first_of_five false false true o p hb hs hw ho hp is = subst P (same_Some _ _ is) (hw refl)
  first_of_five false false false true p hb hs hw ho hp is = subst P (same_Some _ _ is) (ho refl)
  first_of_five false false false false true hb hs hw ho hp is = subst P (same_Some _ _ is) (hp refl)
  first_of_five false false false false false hb hs hw ho hp is = absurd (none-some why is)

  first_of_three : (b w p : Bool) → (b ≡ true → P error.Broken) → (w ≡ true → P error.WornOut) → (p ≡ true → P error.Backlog)
      → first_failed ((b, error.Broken) ∷ (w, error.WornOut) ∷ (p, error.Backlog) ∷ []) ≡ Some why → P why
  first_of_three true w p hb hw hp is = subst P (same_Some _ _ is) (hb refl)
  first_of_three false true p hb hw hp is = subst P (same_Some _ _ is) (hw refl)
  first_of_three false false true hb hw hp is = subst P (same_Some _ _ is) (hp refl)
  first_of_three false false false hb hw hp is = absurd (none-some why is)

module _ (hall : HallView) (has : Bool) (why : HallError) where
  pub arrival_reason : (slot : ℕ) (call : Call) (now : ℕ) (words : ℕ × ℕ) → (has ≡ true → WouldIssue hall (arrive slot call now words))
      → refusal_of_arrival hall has ≡ Some why → KeepsReason hall (arrive slot call now words) why
  arrival_reason slot call now words would is =
      let issues = WouldIssue hall (arrive slot call now words) in
      first_of_five (KeepsReason hall (arrive slot call now words)) why hall.issuer.broken hall.stops (has && nat_le (2 ^ 62) (issued_in hall.issuer))
      (nat_le 1024 (open_slot_count hall)) (has && nat_le 256 (pending_in hall.issuer))
      (λ e. e) (λ e. (tt, e)) (at_least issues has (2 ^ 62) (issued_in hall.issuer) would)
      (λ e. inl (tt, leb-true 1024 (open_slot_count hall) e)) (λ e. inr (at_least issues has 256 (pending_in hall.issuer) would e)) is

  pub moving_reason : (now : ℕ) → (has ≡ true → WouldIssue hall (tick now)) → refusal_of_moving hall has ≡ Some why → KeepsReason hall (tick now) why
  moving_reason now would is =
      let issues = WouldIssue hall (tick now) in
      first_of_three (KeepsReason hall (tick now)) why hall.issuer.broken (has && nat_le (2 ^ 62) (issued_in hall.issuer))
      (has && nat_le 256 (pending_in hall.issuer)) (λ e. e) (at_least issues has (2 ^ 62) (issued_in hall.issuer) would)
      (λ e. inr (at_least issues has 256 (pending_in hall.issuer) would e)) is

-- ## Preparing and issuing

-- what is refused for want of memory wherever a past is known, and otherwise by a table that is that of no history
module _ (hall : HallView) (call : HallCall) (needs : NeedsMemory hall call) where
  abbrev Only : HallError → Type 0
  Only why = ForEachPast hall (λ past. why ≡ error.OutOfMemory)

  none_known : Only error.NoHistory → ForEachPast hall (λ past. ⊥)
  none_known only past stands = let wrong : error.NoHistory ≡ error.OutOfMemory = only past stands in cc

  pub uncalled_reason : (envs : List EnvState) (more : List (ℕ × EnvCall)) (why : HallError) → Only why → IsUncalled envs more why → KeepsReason hall call why
  uncalled_reason envs more error.OutOfMemory only is = needs
  uncalled_reason envs more error.NoHistory only is = none_known only
  uncalled_reason envs more error.BadKind only is = absurd is
  uncalled_reason envs more error.Broken only is = absurd is
  uncalled_reason envs more error.Stopping only is = absurd is
  uncalled_reason envs more error.WornOut only is = absurd is
  uncalled_reason envs more error.Backlog only is = absurd is
  uncalled_reason envs more error.Fault only is = absurd is
  uncalled_reason envs more error.Lent only is = absurd is
  uncalled_reason envs more error.OtherHalf only is = absurd is
  uncalled_reason envs more (error.Mismatch told found) only is = absurd is
  uncalled_reason envs more error.Unfit only is = absurd is

  pub wanting_reason : (issuer : IssuerView) (command : Option Command) (why : HallError) → Only why → IsWanting issuer command why → KeepsReason hall call why
  wanting_reason issuer command error.OutOfMemory only is = needs
  wanting_reason issuer command error.NoHistory only is = none_known only
  wanting_reason issuer None error.BadKind only is = absurd is
  wanting_reason issuer None error.Broken only is = absurd is
  wanting_reason issuer None error.Stopping only is = absurd is
  wanting_reason issuer None error.WornOut only is = absurd is
  wanting_reason issuer None error.Backlog only is = absurd is
  wanting_reason issuer None error.Fault only is = absurd is
  wanting_reason issuer None error.Lent only is = absurd is
  wanting_reason issuer None error.OtherHalf only is = absurd is
  wanting_reason issuer None (error.Mismatch told found) only is = absurd is
  wanting_reason issuer None error.Unfit only is = absurd is
  wanting_reason issuer (Some c) error.BadKind only is = absurd is
  wanting_reason issuer (Some c) error.Broken only is = absurd is
  wanting_reason issuer (Some c) error.Stopping only is = absurd is
  wanting_reason issuer (Some c) error.WornOut only is = absurd is
  wanting_reason issuer (Some c) error.Backlog only is = absurd is
  wanting_reason issuer (Some c) error.Fault only is = absurd is
  wanting_reason issuer (Some c) error.Lent only is = absurd is
  wanting_reason issuer (Some c) error.OtherHalf only is = absurd is
  wanting_reason issuer (Some c) (error.Mismatch told found) only is = absurd is
  wanting_reason issuer (Some c) error.Unfit only is = absurd is

-- ## The command of a request

pub told_asked : (drawn : List ℕ) (call : Call) (n : ℕ) (command : Option Command) → MayAsk drawn call command
    → IsAsked drawn call (option_map (told_of n) command)
told_asked drawn call n None may = tt
told_asked drawn call n (Some c) may = may

-- ## The command that a call would issue

drawn_is : (words : List ℕ) → drawn_by words ≡ id_of (slice_index words 0, slice_index words 1)
unfolding drawn_by
drawn_is words = refl

pub request_would : (hall : HallView) (slot : ℕ) (call : Call) (now : ℕ) (words : List ℕ) (effect : Effect)
    → PlansRequest (state_in hall.issuer) hall.environments slot call now words effect → MayAsk (drawn_by words) call effect.command
    → is_some effect.command ≡ true → WouldIssue hall (request slot call now words)
request_would hall slot call now words effect plans may some = would effect.command refl may some
  where
    would : (o : Option Command) → effect.command ≡ o → MayAsk (drawn_by words) call o → is_some o ≡ true → WouldIssue hall (request slot call now words)
    would None is may some = absurd (false≢true some)
    would (Some c) is may some = record {
      command = c;
      may = subst (λ drawn. AsksFor drawn call c.kind c.id) (drawn_is words) may;
      has = λ past stands.
          sym (ap (λ (e : Effect). e.command) (plans past stands.environments ∙ effect_is (settings_in hall) past slot call now words)) ∙ is;
    }

pub tick_would : (hall : HallView) (now : ℕ) (effect : Effect) → PlansTick (state_in hall.issuer) hall.environments hall.stops now effect
    → (is_some effect.command ≡ true → hall.stops ≡ false) → is_some effect.command ≡ true → WouldIssue hall (tick now)
tick_would hall now effect plans moving some = would effect.command refl some
  where
    would : (o : Option Command) → effect.command ≡ o → is_some o ≡ true → WouldIssue hall (tick now)
    would None is none = absurd (false≢true none)
    would (Some c) is so = record {
      command = c;
      may = moving some;
      has = λ past stands.
          sym (ap (λ (e : Effect). e.command) (plans past stands.environments stands.stopping ∙ tick_effect_is (settings_in hall) past now)) ∙ is;
    }

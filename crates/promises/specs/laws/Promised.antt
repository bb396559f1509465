-- Laws: what a hall told holds of each later history.
use Rattle.std.proofs.Common.{◌≡◌, ℕ, ◌≤◌, List, [], ◌∷◌, ◌++◌, take, refl, sym, subst, ap, ◌∙◌, ◌⊎◌, inl, inr}
use Rattle.std.proofs.lemmas.List.{append_assoc}
use Rattle.retry_rules.specs.declared.settings.Settings.{Settings}
use Rattle.invoke_records.specs.declared.command.Command.{Command}
use Rattle.async_core.specs.declared.choice.Side.{Side}
use Rattle.async_core.specs.History.{table_of, IsLegal}
use Rattle.async_core.specs.Readers.{Ending, ending_after}
use Rattle.async_core.specs.laws.Tables.{standing_at-table_of, accepted-by_history, counts-by_history, judge-by_history, ending-by_history}
use Rattle.async_core.proofs.Nexts.{next_move-by_history}
use Rattle.api_core.specs.declared.dialect.Audience.TheVariants.{Caller}
use Rattle.api_core.specs.declared.refusal.Refusal.TheVariants.{Unavailable}
use Rattle.api_core.specs.Replies.{Told, record_of, refused}
use Rattle.hall_plans.specs.Firsts.{oldest_ended}
use Rattle.hall_plans.specs.Past.{Past, opening}
use Rattle.hall_plans.specs.Run.{past_after, after}
use Rattle.hall_plans.specs.Slots.{reply_of}
use Rattle.hall_plans.specs.laws.Sound.{every_run_is_sound}
use Rattle.promises.specs.Promises.{done, Telling, issued, WasAnswered202, IsToldOfPrefix, GoesOn, IsKept, IsShown, FollowsRules, WasShown, oldest_record}
use Rattle.promises.specs.laws.Histories.{goes_on_itself, kept_or_collected}
use Rattle.promises.specs.laws.Endings.{told_again}
use Rattle.promises.specs.laws.Telling.{IsOwn, IsPolled, Origin, origin, released_is, run_parts, history_then, point_within}
use Rattle.promises.specs.laws.Saying.{SaysAccepted, accepts_it, shows_it, of_event}

module _ (s : Settings) (t : Telling s) where
  abbrev began : Past
  began = opening t.life.wanted t.life.opened

  -- it was computed by a call, and is durable up to its point, or it is that the broker is not available
  where_from : (Origin s began t.life.calls t.slot (t.told, t.point) × (t.point ≤ t.durable)) ⊎ (t.told ≡ refused Caller Unavailable)
  where_from =
      elim (released_is t.broken t.durable (done s t.life) t.slot (t.told, t.point) t.given) [
        | inl (is, within) ↦ inl (origin s t.life.wanted t.life.opened t.life.calls t.slot (t.told, t.point) is, within)
        | inr unavailable ↦ inr unavailable
      ]

  module _ (o : Origin s began t.life.calls t.slot (t.told, t.point)) where
    abbrev met : Past
    met = after s began o.front

    in_words : (told : Told) → t.told ≡ told → IsPolled met told ⊎ IsOwn s met o.call t.slot told
    in_words told is = subst (λ v. IsPolled met v ⊎ IsOwn s met o.call t.slot v) is o.computed.told

    then_was : take t.point (issued s t) ≡ (past_after s met o.call).history
    then_was = history_then s began t.life.calls t.slot (t.told, t.point) o

    accepted_so : (id : List ℕ) → SaysAccepted t.told id → t.point ≤ t.durable → (payload : List ℕ) × WasAnswered202 s t id payload
    accepted_so id told within =
        let a = accepts_it s met o.call t.slot t.told id told (in_words t.told refl) in (
          a.payload,
          record {
            invoked = a.request;
            told = a.invokes;
            request = record {
              before = o.front;
              now = a.now;
              words = a.words;
              later = o.later;
              calls = o.split ∙ ap (λ c. o.front ++ c ∷ o.later) a.is;
              last = o.unasked;
            };
            durable = within;
            before = met.history;
            time = a.time;
            accepts = then_was ∙ a.history;
          },
        )

    shown_so : (e : Ending) → t.told ≡ record_of e → t.point ≤ t.durable → (side : Side) × WasShown s t side e
    shown_so e told within =
        let a = shows_it s met o.call t.slot e (in_words (record_of e) told) in
        let front : take t.point (issued s t) ≡ met.history = then_was ∙ a.history in (
          a.side,
          record {
            told = told;
            request = record {
              before = o.front;
              now = a.now;
              words = a.words;
              later = o.later;
              calls = o.split ∙ ap (λ c. o.front ++ c ∷ o.later) a.is;
              last = o.unasked;
            };
            durable = within;
            is_oldest = ap (λ l. oldest_record s l a.side) front ∙ a.first;
            is_its = ap (λ l. ending_after s e.id l) front ∙ of_event s met.history (oldest_ended s met.history a.side) e a.first;
          },
        )

    prefix_so : t.point ≤ t.durable → IsToldOfPrefix s t
    prefix_so within =
        let there = run_parts s began o.front o.call [] in
        record {
          front = o.front ++ o.call ∷ [];
          later = o.later;
          calls = o.split ∙ sym (append_assoc o.front (o.call ∷ []) o.later);
          computed = ap (λ p. reply_of p t.slot) there ∙ o.there;
          history = ap (λ (p : Past). p.history) there ∙ sym then_was;
          there = point_within s began t.life.calls t.slot (t.told, t.point) o;
          durable = within;
        }

  -- ## What was told

  unavailable_accepts_none : {A : Type 0} (id : List ℕ) → SaysAccepted t.told id → t.told ≡ refused Caller Unavailable → A
  unavailable_accepts_none id (inl told) not = absurd (cc)
  unavailable_accepts_none id (inr told) not = absurd (cc)

  unavailable_shows_none : {A : Type 0} (e : Ending) → t.told ≡ record_of e → t.told ≡ refused Caller Unavailable → A
  unavailable_shows_none e told not = absurd (cc)

  pub answered : (id : List ℕ) → SaysAccepted t.told id → (payload : List ℕ) × WasAnswered202 s t id payload
  answered id told =
      elim where_from [ inl (o, within) ↦ accepted_so o id told within | inr not ↦ unavailable_accepts_none id told not ]

  pub shown : (e : Ending) → t.told ≡ record_of e → (side : Side) × WasShown s t side e
  shown e told = elim where_from [ inl (o, within) ↦ shown_so o e told within | inr not ↦ unavailable_shows_none e told not ]

  pub prefix : IsToldOfPrefix s t ⊎ (t.told ≡ refused Caller Unavailable)
  prefix = elim where_from [ inl (o, within) ↦ inl (prefix_so o within) | inr not ↦ inr not ]

-- ## What comes later

-- the history that was issued when it was told goes on with it
pub issued_goes_on : (s : Settings) (t : Telling s) → (t.told ≡ refused Caller Unavailable → ⊥) → GoesOn s t.point (issued s t) (issued s t)
issued_goes_on s t available =
    elim (prefix s t) [
      | inl told ↦ goes_on_itself s t.point (issued s t) (every_run_is_sound s t.life.wanted t.life.opened t.life.calls t.life.made.0 t.life.made.1).legal told.there
      | inr unavailable ↦ absurd (available unavailable)
    ]

pub event_is_kept : (s now : Settings) (t : Telling s) (id payload : List ℕ) (later : List Command) → WasAnswered202 s t id payload → GoesOn now t.point (issued s t) later → IsKept now t.point later id payload
event_is_kept s now t id payload later was goes = kept_or_collected now t.point (issued s t) later was.before id payload was.time was.accepts goes

pub record_is_shown : (s : Settings) (t : Telling s) (side : Side) (e : Ending) (later : List Command) → WasShown s t side e → GoesOn s t.point (issued s t) later → IsShown s t.point later e
record_is_shown s t side e later was goes = told_again s t.point (issued s t) later e.id e was.is_its goes

-- ## The rules

pub rules_hold : (s : Settings) (history : List Command) → IsLegal s history → FollowsRules s history (table_of s history)
rules_hold s history legal = record {
  stands = standing_at-table_of s history legal;
  accepted = λ id. accepted-by_history s (table_of s history) history id legal refl;
  attempts = λ id. counts-by_history s (table_of s history) history id legal refl;
  judged = λ id. judge-by_history s (table_of s history) history id legal refl;
  ended = λ id. ending-by_history s (table_of s history) history id legal refl;
  moves = λ now ready move next. next_move-by_history s (table_of s history) history now ready move refl next;
}

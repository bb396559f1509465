-- Laws: a hall that gave a slot a 202 without a body, or with that of InvokeAsync, answered that an event was accepted.
use Rattle.std.proofs.Common.{◌≡◌, ℕ, List, [], sym, ap, ◌∙◌, ◌⊎◌, inl, inr, Some}
use Rattle.retry_rules.specs.declared.settings.Settings.{Settings}
use Rattle.api_core.specs.declared.call.Call.{Call}
use Rattle.api_core.specs.Replies.{accepted, accepted_async, async_body, reply_in}
use Rattle.hall_core.specs.declared.released.Released.{Released}
use Rattle.hall_core.specs.Hall.{HallView, StandsFor, Gives, settings_in, words_in}
use Rattle.promises.specs.Promises.{Life, done, Telling}
use Rattle.promises.specs.Giving.{IsTold}
use Rattle.promises.specs.laws.Answers202.{accepts, accepts_async}
use Rattle.promises.specs.laws.Given.{given_is_told}
use Rattle.promises.specs.laws.Promised.{answered}
use Rattle.http_front.specs.Accepting.{AnsweredAt}
use Rattle.http_front.proofs.Asked.{last_request_is}

module _ (hall : HallView) (life : Life (settings_in hall)) (slot : ℕ) (call : Call) (given : Released)
    (told : IsTold (settings_in hall) (words_in hall) hall.issuer.broken hall.issuer.durable life slot given) where
  abbrev s : Settings
  s = settings_in hall

  abbrev t : Telling s
  t = told.telling

  of_event : (id : List ℕ) → (t.told ≡ accepted id) ⊎ (t.told ≡ accepted_async id) → AnsweredAt hall life slot call
  of_event id is =
      let it = answered s t id is in
      record {
        telling = t;
        life_is = told.life_is;
        slot_is = told.slot_is;
        broken_is = told.broken_is;
        durable_is = told.durable_is;
        id = id;
        payload = it.0;
        was = it.1;
        is_its = λ last. last_request_is s t it.1.invoked call it.1.request last;
      }

  status_is : given.reply.status ≡ (reply_in (words_in hall) t.told).status
  status_is = ap (λ (r : Released). r.reply.status) told.reply

  body_is : given.reply.body ≡ (reply_in (words_in hall) t.told).body
  body_is = ap (λ (r : Released). r.reply.body) told.reply

  pub of_told : given.reply.status ≡ 202 → (given.reply.body ≡ []) ⊎ (given.reply.body ≡ async_body) → AnsweredAt hall life slot call
  of_told status (inl body) =
      let it = accepts (words_in hall) t.told (sym status_is ∙ status) (sym body_is ∙ body) in of_event it.0 (inl it.1)
  of_told status (inr body) =
      let it = accepts_async (words_in hall) t.told (sym status_is ∙ status) (sym body_is ∙ body) in of_event it.0 (inr it.1)

pub answered_by : (hall : HallView) (slot : ℕ) (call : Call) (given : Released) → Gives hall slot (Some given)
    → given.reply.status ≡ 202 → (given.reply.body ≡ []) ⊎ (given.reply.body ≡ async_body)
    → (life : Life (settings_in hall)) → StandsFor hall (done (settings_in hall) life) → AnsweredAt hall life slot call
answered_by hall slot call given gives status body life stands =
    of_told hall life slot call given (given_is_told hall life slot given stands gives) status body

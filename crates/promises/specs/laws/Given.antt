-- Laws: what a take gives was told by the hall's run.
use Rattle.std.proofs.Common.{◌≡◌, ℕ, refl, sym, Option, Some, None}
use Rattle.std.specs.Prelude.{option_map}
use Rattle.std.proofs.lemmas.Option.{none-some}
use Rattle.retry_rules.specs.declared.settings.Settings.{Settings}
use Rattle.api_core.specs.Replies.{Words}
use Rattle.hall_core.specs.declared.released.Released.{Released}
use Rattle.hall_plans.specs.Slots.{Reply, released}
use Rattle.hall_core.specs.Hall.{HallView, StandsFor, Gives, settings_in, words_in, released_to}
use Rattle.promises.specs.Promises.{Life, done}
use Rattle.promises.specs.Giving.{IsTold}

same : (a b : Released) → Some a ≡ Some b → a ≡ b
same a b h = cc

told_of : (broken : _) (durable slot : ℕ) (s : Settings) (words : Words) (life : Life s) (given : Released) (r : Option Reply) → released broken durable (done s life) slot ≡ r
    → Some given ≡ option_map (released_to words slot) r → IsTold s words broken durable life slot given
told_of broken durable slot s words life given None is h = absurd (none-some given (sym h))
told_of broken durable slot s words life given (Some (told, point)) is h = record {
  telling = record { life = life; broken = broken; durable = durable; slot = slot; told = told; point = point; given = is };
  life_is = refl;
  broken_is = refl;
  durable_is = refl;
  slot_is = refl;
  reply = same given (released_to words slot (told, point)) h;
}

pub given_is_told : (hall : HallView) (life : Life (settings_in hall)) (slot : ℕ) (given : Released) → StandsFor hall (done (settings_in hall) life) → Gives hall slot (Some given)
    → IsTold (settings_in hall) (words_in hall) hall.issuer.broken hall.issuer.durable life slot given
given_is_told hall life slot given stands gives =
    told_of hall.issuer.broken hall.issuer.durable slot (settings_in hall) (words_in hall) life given (released hall.issuer.broken hall.issuer.durable (done (settings_in hall) life) slot) refl
    (gives (done (settings_in hall) life) stands)

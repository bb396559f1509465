-- A reply that a take of a hall gave, as what the hall told.
use Rattle.std.specs.Prelude.{◌≡◌, ℕ, Bool}
use Rattle.retry_rules.specs.declared.settings.Settings.{Settings}
use Rattle.api_core.specs.Replies.{Words}
use Rattle.hall_core.specs.declared.released.Released.{Released}
use Rattle.hall_core.specs.Hall.{HallView, settings_in, words_in, released_to}
use Rattle.promises.specs.Promises.{Life, Telling}

-- the hall that lived so, of which so much is durable and which is broken or not, told the slot this, in these words
pub record IsTold (s : Settings) (words : Words) (broken : Bool) (durable : ℕ) (life : Life s) (slot : ℕ) (given : Released) : Type 0 where
  pub telling : Telling s
  pub life_is : telling.life ≡ life
  pub broken_is : telling.broken ≡ broken
  pub durable_is : telling.durable ≡ durable
  pub slot_is : telling.slot ≡ slot
  pub reply : given ≡ released_to words slot (telling.told, telling.point)

-- this hall, which lived so, told the slot this
abbrev pub IsToldBy : (hall : HallView) → Life (settings_in hall) → ℕ → Released → Type 0
IsToldBy hall life slot given = IsTold (settings_in hall) (words_in hall) hall.issuer.broken hall.issuer.durable life slot given

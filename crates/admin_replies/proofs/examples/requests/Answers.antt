-- Each one computes.
use Rattle.std.proofs.Common.{refl}
use Rattle.std.specs.Char.{encode_utf8}
use Rattle.std.specs.Str.{is_utf8, chars}
use Rattle.uuid.proofs.OnLiterals.{uuid_on_literals}
use Rattle.admin_replies.specs.Requests.{named_by, asked_at, fits, given}
use Rattle.admin_replies.proofs.examples.requests.Goals as goal

pub returns : goal.returns
unfolding encode_utf8 is_utf8 chars uuid_on_literals named_by asked_at fits given
returns c = record {
  page = refl;
  metrics = refl;
  history = refl;
  health = refl;
  deep = refl;
  events = refl;
  some_events = refl;
  behind = refl;
  event = refl;
  success = refl;
  failure = refl;
}

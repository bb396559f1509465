-- Each one computes.
use Rattle.std.proofs.Common.{refl}
use Rattle.std.specs.Char.{encode_utf8}
use Rattle.std.specs.Str.{chars}
use Rattle.uuid.proofs.OnLiterals.{uuid_on_literals}
use Rattle.admin_replies.proofs.examples.lists.Goals as goal

pub returns : goal.returns
unfolding encode_utf8 chars uuid_on_literals
returns c = record {
  brought = refl;
  got = refl;
  query = refl;
  ids = refl;
  ended = refl;
}

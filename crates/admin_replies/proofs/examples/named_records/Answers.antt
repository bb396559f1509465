-- Each one computes.
use Rattle.std.proofs.Common.{refl}
use Rattle.std.specs.Char.{encode_utf8}
use Rattle.std.specs.Str.{is_utf8, chars}
use Rattle.uuid.proofs.OnLiterals.{uuid_on_literals}
use Rattle.admin_replies.specs.Retrying.{named_in}
use Rattle.admin_replies.proofs.examples.named_records.Goals as goal

pub returns : goal.returns
unfolding encode_utf8 is_utf8 chars uuid_on_literals named_in
returns c = record {
  named = refl;
  plain = refl;
  no_id = refl;
  empty = refl;
  short = refl;
  query = refl;
  got = refl;
}

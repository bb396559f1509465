-- Each one computes.
use Rattle.std.proofs.Common.{refl}
use Rattle.std.specs.Fmt.{digits}
use Rattle.api_core.proofs.examples.refusals_aws.Goals as goal

pub returns : goal.returns
unfolding digits
returns c = record {
  mode = refl;
  no_json = refl;
  not_found = refl;
  unknown_event = refl;
  method_not_allowed = refl;
  not_ended = refl;
  too_large = refl;
  full = refl;
  full_in_profile = refl;
  id_in_use = refl;
  unavailable = refl;
}

-- Settings that are not refused for a copy allow all that the old ones do.
use Rattle.std.proofs.Common.{◌≡◌, Bool, true, false, List, [], ◌∷◌, Option, Some, None, refl, ap}
use Rattle.std.proofs.lemmas.Bool.{ltb-false}
use Rattle.retry_rules.specs.Settings.{bad_field, first_bad}
use Rattle.retry_rules.specs.declared.settings.Settings.{Settings}
use Rattle.retry_rules.specs.declared.settings.Field.{Field}
use Rattle.disk_copy.specs.Limits.{AllowsAll}
use Rattle.disk_copy.specs.Change.{settings_with, limit_checks, smaller_field, first_refusal, refusal_between}
use Rattle.disk_copy.specs.declared.change.Change.{Change}

abbrev NoneBad : List (Bool × Field) → Type 0
NoneBad [] = Unit {0}
NoneBad (check ∷ checks) = (check.0 ≡ false) × NoneBad checks

none_bad : (checks : List (Bool × Field)) → first_bad checks ≡ None → NoneBad checks
none_bad [] none = tt
none_bad ((true, field) ∷ checks) none = absurd (cc)
none_bad ((false, field) ∷ checks) none = (refl, none_bad checks none)

none_smaller : (bad smaller : Option Field) → first_refusal bad smaller ≡ None → smaller ≡ None
none_smaller (Some field) smaller none = absurd (cc)
none_smaller None (Some field) none = absurd (cc)
none_smaller None None none = refl

pub allows_all : (old new : Settings) (change : Change) → new ≡ settings_with change old → refusal_between old new ≡ None → AllowsAll old new
allows_all old new change is none =
    let least : NoneBad (limit_checks old new) = none_bad (limit_checks old new) (none_smaller (bad_field new) (smaller_field old new) none) in
    record {
      environments = ltb-false _ _ least.0;
      events = ltb-false _ _ least.1.0;
      payload = ltb-false _ _ least.1.1.0;
      response = ltb-false _ _ least.1.1.1.0;
      timeout = ap (λ (s : Settings). s.timeout) is;
      concurrency = ap (λ (s : Settings). s.concurrency) is;
      retries = ap (λ (s : Settings). s.retries) is;
      age = ap (λ (s : Settings). s.age) is;
    }

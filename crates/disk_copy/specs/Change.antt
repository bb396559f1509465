-- The settings that a copy has, and why they are refused.
use Rattle.std.specs.Prelude.{◌≡◌, Bool, nat_lt, List, [], ◌∷◌, Option, Some, None, unwrap_or}
use Rattle.retry_rules.specs.Settings.{bad_field, first_bad}
use Rattle.retry_rules.specs.declared.settings.Settings.{Settings}
use Rattle.retry_rules.specs.declared.settings.Field.{Field}
use Rattle.retry_rules.specs.declared.settings.Field.TheVariants as field
use Rattle.disk_copy.specs.declared.change.Change.{Change}
use Rattle.disk_copy.specs.declared.change.ChangeError.{ChangeError}
use Rattle.disk_copy.specs.declared.change.ChangeError.TheVariants as change_error

-- the old settings with what the change names
abbrev pub settings_with : Change → Settings → Settings
settings_with change old = record old {
  environments = unwrap_or change.environments old.environments;
  events = unwrap_or change.events old.events;
  payload = unwrap_or change.payload old.payload;
  response = unwrap_or change.response old.response;
  name = unwrap_or change.name old.name;
  handler = unwrap_or change.handler old.handler;
  arn = unwrap_or change.arn old.arn;
}

-- each limit, in the order in which settings are checked, and whether it is below the old one
abbrev pub limit_checks : Settings → Settings → List (Bool × Field)
limit_checks old new =
    (nat_lt new.environments old.environments, field.Environments)
    ∷ (nat_lt new.events old.events, field.Events)
    ∷ (nat_lt new.payload old.payload, field.Payload)
    ∷ (nat_lt new.response old.response, field.Response)
    ∷ []

-- the first limit that is below the old one
abbrev pub smaller_field : Settings → Settings → Option Field
smaller_field old new = first_bad (limit_checks old new)

abbrev pub first_refusal : Option Field → Option Field → Option ChangeError
first_refusal (Some bad) smaller = Some (change_error.BadSettings bad)
first_refusal None (Some smaller) = Some (change_error.Smaller smaller)
first_refusal None None = None

-- why these new settings are refused for a copy of a disk with the old ones, if they are
abbrev pub refusal_between : Settings → Settings → Option ChangeError
refusal_between old new = first_refusal (bad_field new) (smaller_field old new)

-- what refuses them; the memory may fail at any moment
abbrev pub IsChangeReason : Settings → Settings → ChangeError → Type 0
IsChangeReason old new change_error.OutOfMemory = Unit {0}
IsChangeReason old new why = refusal_between old new ≡ Some why

-- Which settings are good.
use Rattle.std.specs.Prelude.{ℕ, ◌==◌, Bool, not, ◌&&◌, ◌||◌, nat_lt, nat_le, List, [], ◌∷◌, length, Option, Some, None, if◌then◌else◌}
use Rattle.std.specs.List.{list_all}
use Rattle.retry_rules.specs.declared.settings.Settings.{Settings}
use Rattle.retry_rules.specs.declared.policy.RetryPolicy.{RetryPolicy}
use Rattle.retry_rules.specs.declared.settings.Field.{Field}
use Rattle.retry_rules.specs.declared.settings.Field.TheVariants as field

-- the number is outside these bounds
abbrev pub is_outside : ℕ → ℕ → ℕ → Bool
is_outside least most n = nat_lt n least || nat_lt most n

abbrev pub is_between : ℕ → ℕ → ℕ → Bool
is_between least most n = nat_le least n && nat_le n most

-- a letter, a digit, `-` or `_`
abbrev pub is_name_byte : ℕ → Bool
is_name_byte b = is_between 97 122 b || is_between 65 90 b || is_between 48 57 b || (b == 45) || (b == 95)

-- a byte that can be seen, but no `"` and no `\`
abbrev pub is_plain_byte : ℕ → Bool
is_plain_byte b = is_between 33 126 b && not (b == 34) && not (b == 92)

-- a text is too short, too long, or has a byte that it may not have
abbrev pub is_bad_text : ℕ → (ℕ → Bool) → List ℕ → Bool
is_bad_text most is_good text = is_outside 1 most (length text) || not (list_all is_good text)

-- each field, in the order of the checks, and whether it is outside its range
abbrev pub checks : Settings → List (Bool × Field)
checks s =
    (is_outside 0 2 s.retries, field.Retries)
    ∷ (is_outside 60 21600 s.age, field.Age)
    ∷ (is_outside 1 900 s.timeout, field.Timeout)
    ∷ (is_outside 1 64 s.concurrency, field.Concurrency)
    ∷ (is_outside 1 16 s.environments, field.Environments)
    ∷ (is_outside 1 1024 s.events, field.Events)
    ∷ (is_outside 2 1048576 s.payload, field.Payload)
    ∷ (is_outside 2 262144 s.response, field.Response)
    ∷ (is_bad_text 64 is_name_byte s.name, field.Name)
    ∷ (is_bad_text 128 is_plain_byte s.handler, field.Handler)
    ∷ (is_bad_text 200 is_plain_byte s.arn, field.Arn)
    ∷ []

abbrev pub first_bad : List (Bool × Field) → Option Field
first_bad [] = None
first_bad (check ∷ checks) = if check.0 then Some check.1 else first_bad checks

-- the first field outside its range
abbrev pub bad_field : Settings → Option Field
bad_field s = first_bad (checks s)

-- ## Retry policies

-- the retry policy that the settings bring
abbrev pub policy_of : Settings → RetryPolicy
policy_of s = record { retries = s.retries; age = s.age }

-- its retries or its age are outside their ranges
abbrev pub is_bad_policy : RetryPolicy → Bool
is_bad_policy p = is_outside 0 2 p.retries || is_outside 60 21600 p.age

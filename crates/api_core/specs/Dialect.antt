-- What the dialects differ in, but for replies.
use Rattle.std.specs.Prelude.{ℕ, List, [], ◌∷◌, ◌++◌, ◌==◌, Bool, false, ◌&&◌, codes, bytes_eq}
use Rattle.std.specs.List.{before_first, after_first, slice_split, list_any}
use Rattle.std.specs.Str.{byte, is_utf8, trim}
use Rattle.retry_rules.specs.declared.settings.Settings.{Settings}
use Rattle.destination_json.specs.Record.{with_version}
use Rattle.api_core.specs.declared.dialect.Dialect.{Dialect}
use Rattle.api_core.specs.declared.dialect.Dialect.TheVariants.{Profile, Aws}

-- ## Names of the function

abbrev pub is_colon : ℕ → Bool
is_colon b = b == byte ":"

abbrev pub after_colon : List ℕ → List ℕ
after_colon text = after_first is_colon text

-- the account of an ARN is the fifth of its parts: arn:aws:lambda:REGION:ACCOUNT:function:NAME
unfoldable pub account_of : List ℕ → List ℕ
account_of arn = before_first is_colon (after_colon (after_colon (after_colon (after_colon arn))))

-- a name with and without the only version
abbrev pub both : List ℕ → List (List ℕ)
both name = name ∷ with_version name ∷ []

abbrev pub short_arn : Settings → List ℕ
short_arn s = codes "function:" ++ s.name

-- this name behind an account, where the ARN has one
abbrev pub of_account : List ℕ → List ℕ → List (List ℕ)
of_account [] short = []
of_account (b ∷ account) short = both ((b ∷ account) ++ 58 ∷ short)

-- the partial ARNs, and the name behind its account, that name the function
abbrev pub partial_names : Dialect → Settings → List (List ℕ)
partial_names Profile s = []
partial_names Aws s =
    both (short_arn s) ++ (of_account (account_of s.arn) (short_arn s) ++ of_account (account_of s.arn) s.name)

-- the function's name or ARN, each with or without its only version
abbrev pub function_names : Dialect → Settings → List (List ℕ)
function_names d s = both s.name ++ (both s.arn ++ partial_names d s)

abbrev pub is_function : Dialect → Settings → List ℕ → Bool
is_function d s name = list_any (bytes_eq name) (function_names d s)

-- ## What an extension accepts

abbrev pub between_commas : List ℕ → List (List ℕ)
between_commas text = slice_split (λ b. b == byte ",") text

abbrev pub is_account_feature : List ℕ → Bool
is_account_feature feature = bytes_eq (codes "accountId") (trim feature)

-- the features that an extension accepts have the account's id among them
unfoldable pub has_account_feature : List ℕ → Bool
has_account_feature features = is_utf8 features && list_any is_account_feature (between_commas features)

-- by the value of its header, which only one dialect reads
abbrev pub accepts_account : Dialect → List ℕ → Bool
accepts_account Profile features = false
accepts_account Aws features = has_account_feature features

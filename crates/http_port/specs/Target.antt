-- The target of a request.
use Rattle.std.specs.Prelude.{ℕ, List, codes}
use Rattle.std.specs.Option.{option_map_or}
use Rattle.http.specs.declared.request.Parts.{Parts}
use Rattle.http.specs.Grammar.{or_slash}
use Rattle.http.specs.Uri.{uri_path_and_query}

-- its path and query, or `/`
abbrev pub target_in : Parts → List ℕ
target_in head = option_map_or or_slash (uri_path_and_query head.uri) (codes "/")

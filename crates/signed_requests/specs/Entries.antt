-- The keys that the code holds, as those of the definitions.
use Rattle.std.specs.Prelude.{List, map, Option, option_map}
use Rattle.std.specs.Borrow.{Bor}
use Rattle.signed_requests.specs.Keys.{Entry}
use Rattle.signed_requests.specs.declared.keys.Key.{Key}

abbrev pub entry_of : Key → Entry
entry_of k = record { access = k.access.items; secret = k.secret.items; rights = k.rights }

abbrev pub entries_of : List Key → List Entry
entries_of keys = map entry_of keys

abbrev pub option_entry : Option (Bor Key) → Option Entry
option_entry key = option_map (λ (k : Bor Key). entry_of k.now) key

abbrev pub owned_entry : Option Key → Option Entry
owned_entry key = option_map entry_of key

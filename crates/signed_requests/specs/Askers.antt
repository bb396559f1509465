-- Who asks, as the code holds it and as the definitions have it.
use Rattle.signed_requests.specs.Judging as judging
use Rattle.signed_requests.specs.Claims.{signed_of}
use Rattle.signed_requests.specs.Entries.{entry_of}
use Rattle.signed_requests.specs.declared.judging.Asker.{Asker}

abbrev pub asker_of : Asker → judging.Asker
asker_of a = record { said = signed_of a.said; key = entry_of a.key.now }

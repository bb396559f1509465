-- Which right a key has.
use Rattle.std.specs.Prelude.{Bool, true, false}
use Rattle.signed_requests.specs.declared.keys.Right.{Right}
use Rattle.signed_requests.specs.declared.keys.Right.TheVariants.{Invoke, Collect, Configure, Stop}
use Rattle.signed_requests.specs.declared.keys.Rights.{Rights}

abbrev pub no_rights : Rights
no_rights = record { invoke = false; collect = false; configure = false; stop = false }

abbrev pub has_right : Rights → Right → Bool
has_right r Invoke = r.invoke
has_right r Collect = r.collect
has_right r Configure = r.configure
has_right r Stop = r.stop

abbrev pub with_right : Rights → Right → Rights
with_right r Invoke = record r { invoke = true }
with_right r Collect = record r { collect = true }
with_right r Configure = record r { configure = true }
with_right r Stop = record r { stop = true }

-- What a port shows whose disk is gone.
use Rattle.std.specs.Prelude.{◌≡◌, ℕ, Bool, List, Option, Some, None, ◌&&◌, bytes_eq, codes, if◌then◌else◌}
use Rattle.http.specs.declared.request.Parts.{Parts}
use Rattle.http_port.specs.Answering.{Message}
use Rattle.http_port.specs.Target.{target_in}
use Rattle.saving_port.specs.declared.held.Held.{Held}
use Rattle.saving_port.specs.declared.replies.Shown.{Shown}
use Rattle.saving_port.specs.declared.replies.Shown.TheVariants.{Stopping, Metrics}

-- this method and this target
abbrev pub asks : (method target wanted_method wanted_target : List ℕ) → Bool
asks method target wanted_method wanted_target = bytes_eq method wanted_method && bytes_eq target wanted_target

-- an operator is shown the metrics, a caller that all ends, where he asks to lose what was told
abbrev pub shown_for : Bool → List ℕ → List ℕ → Option Shown
shown_for is_operators method target =
    if is_operators
    then (if asks method target (codes "GET") (codes "/metrics") then Some Metrics else None)
    else (if asks method target (codes "POST") (codes "/broker/stop?lose") then Some Stopping else None)

abbrev pub shown_to : Held → Parts → Option Shown
shown_to held head = shown_for held.is_operators head.method (target_in head)

abbrev pub status_of : Shown → ℕ
status_of Stopping = 202
status_of Metrics = 200

-- the broker is not available
abbrev pub IsRefused : Message → Type 0
IsRefused told = told.status ≡ 503

-- The text that a monitor collects, in Prometheus' text form, version 0.0.4: the numbers of the table, and the version and
-- the function as labels.
use Rattle.std.specs.Prelude.{ℕ, Bool, true, false, List, [], ◌++◌, codes, string_bytes}
use Rattle.std.specs.List.{flat_map}
use Rattle.std.specs.Option.{option_map_or}
use Rattle.port_meters.specs.declared.version.Version.{Version}
use Rattle.retry_rules.specs.declared.settings.Settings.{Settings}
use Rattle.admin_replies.specs.declared.metrics.Metrics.{Metrics}
use Rattle.admin_replies.specs.declared.phase_memory.SeenPhase.{SeenPhase}
use Rattle.admin_replies.specs.declared.table.Section.{Section}
use Rattle.admin_replies.specs.Lines.{line_text}
use Rattle.admin_replies.specs.Phases.{phases_text}
use Rattle.admin_replies.specs.Table.{family, lines_of, sections, stalled_sections}

-- the lines of a part of the table
unfoldable pub section_text : Metrics → Section → List ℕ
section_text f section = flat_map (line_text f) (lines_of section)

-- ## The version and the function

-- a label, its value between quotes, and a comma, which Prometheus reads behind the last one too
unfoldable pub label_text : (name value : List ℕ) → List ℕ
label_text name value = name ++ (codes "=\"" ++ (value ++ codes "\","))

unfoldable pub build_begin : List ℕ
build_begin = family "build_info" "gauge" "The version of the program." ++ codes "lambda_broker_build_info{"

unfoldable pub info_begin : List ℕ
info_begin = codes "} 1\n" ++ (family "settings_info" "gauge" "The function." ++ codes "lambda_broker_settings_info{")

-- with which kit it was built, nothing where that is not known
abbrev pub kit_text : Version → List ℕ
kit_text v = option_map_or (λ kit. string_bytes kit) v.kit []

abbrev pub state_text : Bool → List ℕ
state_text true = codes "proved"
state_text false = codes "unproved"

unfoldable pub build_text : Version → List ℕ
build_text v =
    build_begin
    ++ (label_text (codes "version") (string_bytes v.text)
    ++ (label_text (codes "kit") (kit_text v) ++ label_text (codes "state") (state_text v.is_proved)))

unfoldable pub settings_text : Settings → List ℕ
settings_text s =
    info_begin
    ++ (label_text (codes "function") s.name
    ++ (label_text (codes "arn") s.arn ++ (label_text (codes "handler") s.handler ++ codes "} 1\n")))

unfoldable pub info_text : Version → Settings → List ℕ
info_text v s = build_text v ++ settings_text s

-- ## The whole

-- with the phases that were seen up to then
abbrev pub metrics_text : Metrics → List SeenPhase → ℕ → Version → Settings → List ℕ
metrics_text f seen now v s = flat_map (section_text f) sections ++ (phases_text seen now ++ info_text v s)

-- while a flush hangs
abbrev pub stalled_text : Metrics → Version → Settings → List ℕ
stalled_text f v s = flat_map (section_text f) stalled_sections ++ info_text v s

use Rattle.std.proofs.Common.{◌≡◌, string_bytes, take}
use Rattle.operator_view.specs.ListText.{events_text}
use Rattle.operator_view.proofs.list_json.events_text.Given as goal

abbrev pub invariant-loop-index : goal.invariant-loop-index
invariant-loop-index l = string_bytes l.out ≡ events_text l.rows (take l.index l.places)

-- What is told of a page is told of the places that it shows.
use Rattle.std.proofs.Common.{◌≡◌, ℕ, List, Option, Some, None, IfSome, ◌∙◌}
use Rattle.retry_rules.specs.declared.settings.Settings.{Settings}
use Rattle.invoke_records.specs.declared.row.EventRow.{EventRow}
use Rattle.async_core.specs.declared.choice.Side.{Side}
use Rattle.operator_view.specs.declared.page.Page.{Page}
use Rattle.operator_view.specs.declared.standings.Which.{Which}
use Rattle.operator_view.specs.ListText.{list_text}
use Rattle.operator_view.specs.Lines.{Tells}
use Rattle.operator_view.specs.Page.{event_places, record_places, IsFirst, IsFirstEnded}
use Rattle.admin_replies.specs.Lists.{first_text}

pub events_told : (start : Option ℕ) (rows : List EventRow) (which : Which) (limit : ℕ) (page : Page) (status : ℕ) (body : List ℕ)
    → IfSome start (λ at. IsFirst rows (event_places which at rows) limit page)
    → status ≡ 200 → body ≡ list_text rows page.places.items page.next
    → IfSome start (λ at. (status ≡ 200) × (body ≡ first_text rows (event_places which at rows) limit))
events_told None rows which limit page status body first good is = tt
events_told (Some at) rows which limit page status body first good is = (good, is ∙ (cc))

pub records_told : (behind : Option (Option ℕ)) (s : Settings) (rows : List EventRow) (side : Side) (limit most : ℕ) (page : Page)
    (status : ℕ) (body : List ℕ) (next : Option (List ℕ))
    → IfSome behind (λ at. IsFirstEnded rows (record_places (Some side) at rows) limit page)
    → status ≡ 200 → Tells s rows page most body next
    → IfSome behind (λ at. (p : Page) × (status ≡ 200) × IsFirstEnded rows (record_places (Some side) at rows) limit p
    × Tells s rows p most body next)
records_told None s rows side limit most page status body next first good tells = tt
records_told (Some at) s rows side limit most page status body next first good tells = (page, good, first, tells)

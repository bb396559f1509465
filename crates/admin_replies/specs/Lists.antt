-- What a reply tells of the rows of a table.
use Rattle.std.specs.Prelude.{◌≡◌, ℕ, List, Option, Some, None, IfSome, IsNone, take, find, length, nat_lt, if◌then◌else◌}
use Rattle.retry_rules.specs.declared.settings.Settings.{Settings}
use Rattle.invoke_records.specs.declared.row.EventRow.{EventRow}
use Rattle.async_core.specs.declared.choice.Side.{Side}
use Rattle.async_core.specs.Rules.{has_id}
use Rattle.operator_view.specs.declared.page.Page.{Page}
use Rattle.operator_view.specs.declared.standings.Which.{Which}
use Rattle.operator_view.specs.EventText.{detail_text}
use Rattle.operator_view.specs.Lines.{Tells}
use Rattle.operator_view.specs.ListText.{list_text}
use Rattle.operator_view.specs.Page.{start_behind, event_places, last_id, number_behind, record_places, IsFirstEnded}
use Rattle.admin_replies.specs.declared.admin_reply.AdminReply.{AdminReply}

-- the first of these places as a list, at most so many, with the id to go on after where there are more
abbrev pub first_text : List EventRow → List ℕ → ℕ → List ℕ
first_text rows places limit =
    list_text rows (take limit places) (if nat_lt limit (length places) then last_id rows (take limit places) else None)

-- the events that stand so, behind the one that is named, from the first on, at most so many; or that it is not held
pub record TellsEvents (which : Which) (after : Option (List ℕ)) (limit : ℕ) (rows : List EventRow) (reply : AdminReply) : Type 0 where
  pub shown : IfSome (start_behind after rows) (λ start.
      (reply.status ≡ 200) × (reply.body.items ≡ first_text rows (event_places which start rows) limit))
  pub gone : IsNone (start_behind after rows) → reply.status ≡ 404

-- the event of this id, or that it is not held
pub record TellsEvent (s : Settings) (id : List ℕ) (rows : List EventRow) (reply : AdminReply) : Type 0 where
  pub shown : IfSome (find (has_id id) rows) (λ row. (reply.status ≡ 200) × (reply.body.items ≡ detail_text s row))
  pub gone : IsNone (find (has_id id) rows) → reply.status ≡ 404

-- the records of those that ended on a side behind the one that is named, in the order in which they ended, at most so many, in at
-- most so many bytes, with the id to go on after; or that it is not held, or has not ended so
pub record TellsRecords (s : Settings) (side : Side) (after : Option (List ℕ)) (limit most : ℕ) (rows : List EventRow) (reply : AdminReply) : Type 0 where
  pub shown : IfSome (number_behind (Some side) after rows) (λ behind.
      (page : Page) × (reply.status ≡ 200) × IsFirstEnded rows (record_places (Some side) behind rows) limit page
      × Tells s rows page most reply.body.items reply.next)
  pub gone : IsNone (number_behind (Some side) after rows) → reply.status ≡ 404

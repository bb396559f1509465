-- What is told to an operator of what was seen of a broker.
use Rattle.std.specs.Prelude.{◌≡◌, ◌≢◌, ℕ, ◌-◌, ◌^◌, Bool, true, false, List, Option, is_some, option_map, string_bytes, min, if◌then◌else◌}
use Rattle.std.specs.List.{list_any}
use Rattle.invoke_records.specs.declared.row.EventRow.{EventRow}
use Rattle.operator_view.specs.declared.numbers.Census.{Census}
use Rattle.operator_view.specs.Census.{IsCensus}
use Rattle.operator_view.specs.declared.problem.Problem.{Problem}
use Rattle.port_meters.specs.declared.version.Version.{Version}
use Rattle.receipts.specs.declared.view.View.{View}
use Rattle.admin_replies.specs.declared.admin_request.AdminRequest.{AdminRequest}
use Rattle.admin_replies.specs.declared.admin_request.AdminRequest.TheVariants as request
use Rattle.admin_replies.specs.declared.metrics.Metrics.{Metrics}
use Rattle.admin_replies.specs.MetricsText.{metrics_text, stalled_text}
use Rattle.admin_replies.specs.declared.history.History.{History}
use Rattle.admin_replies.specs.declared.kept.Kept.{Kept}
use Rattle.admin_replies.specs.Stalled.{stalled_metrics}
use Rattle.admin_replies.specs.History.{history_text}
use Rattle.admin_replies.specs.declared.telling.Baseline.{Baseline}
use Rattle.admin_replies.specs.declared.measuring.Measures.{Measures}
use Rattle.admin_replies.specs.declared.admin_reply.AdminReply.{AdminReply}
use Rattle.admin_replies.specs.Lists.{TellsEvents, TellsEvent, TellsRecords}
use Rattle.admin_replies.specs.Numbers.{AreMetrics, ended_in}

-- so many of these events have ended, by their census
abbrev pub CountsEnded : List EventRow → ℕ → Type 0
CountsEnded rows count = (census : Census) × IsCensus rows census × (count ≡ min (ended_in census) (2 ^ 64 - 1))

-- one program says of itself what the other does
pub record IsSameVersion (one other : Version) : Type 0 where
  pub text : string_bytes other.text ≡ string_bytes one.text
  pub kit : option_map string_bytes other.kit ≡ option_map string_bytes one.kit
  pub proved : other.is_proved ≡ one.is_proved

-- 503 where the device failed or the broker stops
abbrev pub health_status : Bool → Bool → ℕ
health_status has_fault is_stopping = if has_fault then 503 else if is_stopping then 503 else 200

-- 503 too where something is wrong
abbrev pub deep_status : Bool → Bool → List (Option Problem) → ℕ
deep_status has_fault is_stopping found = if list_any is_some found then 503 else health_status has_fault is_stopping

-- whether the broker serves, and, where it is asked for, whether nothing is wrong with it
abbrev pub TellsHealth : Baseline → View → Kept → Measures → ℕ → Bool → AdminReply → Type 0
TellsHealth baseline view kept measures now false reply = reply.status ≡ health_status measures.has_fault view.hall.is_stopping
TellsHealth baseline view kept measures now true reply =
    (metrics : Metrics) × AreMetrics baseline view kept.memory.seen.items measures now metrics
    × (reply.status ≡ deep_status measures.has_fault view.hall.is_stopping metrics.problems)

-- the text of the numbers of what was seen
abbrev pub TellsNumbers : Baseline → View → Kept → Measures → ℕ → AdminReply → Type 0
TellsNumbers baseline view kept measures now reply =
    (metrics : Metrics) × AreMetrics baseline view kept.memory.seen.items measures now metrics
    × (reply.status ≡ 200) × (reply.body.items ≡ metrics_text metrics kept.memory.seen.items measures.elapsed baseline.version baseline.settings)

-- the text of the samples that are kept
abbrev pub TellsHistory : History → AdminReply → Type 0
TellsHistory history reply = (reply.status ≡ 200) × (reply.body.items ≡ history_text history.samples.items)

-- each list, event and number is that of the table that was seen
abbrev pub TellsOf : Baseline → View → Measures → Kept → ℕ → AdminRequest → AdminReply → Type 0
TellsOf baseline view measures kept now request.Page reply = reply.status ≡ 200
TellsOf baseline view measures kept now request.Metrics reply = TellsNumbers baseline view kept measures now reply
TellsOf baseline view measures kept now request.History reply = TellsHistory kept.history reply
TellsOf baseline view measures kept now (request.Health is_deep) reply = TellsHealth baseline view kept measures now is_deep reply
TellsOf baseline view measures kept now (request.Events which after limit) reply =
    TellsEvents which after limit view.hall.rows reply
TellsOf baseline view measures kept now (request.Event id) reply = TellsEvent baseline.settings id view.hall.rows reply
TellsOf baseline view measures kept now (request.Records side after limit) reply =
    TellsRecords baseline.settings side after limit 4194304 view.hall.rows reply

-- ## At once, without a look at the table

-- the numbers that need none
abbrev pub TellsStalledNumbers : Baseline → Measures → AdminReply → Type 0
TellsStalledNumbers baseline measures reply =
    (reply.status ≡ 200) × (reply.body.items ≡ stalled_text (stalled_metrics measures) baseline.version baseline.settings)

-- while a flush hangs: these numbers, the samples that are kept, or 503
abbrev pub TellsStalled : Baseline → Measures → Kept → AdminRequest → AdminReply → Type 0
TellsStalled baseline measures kept request.Metrics reply = TellsStalledNumbers baseline measures reply
TellsStalled baseline measures kept request.History reply = TellsHistory kept.history reply
TellsStalled baseline measures kept other reply = reply.status ≡ 503

-- the page, whether the broker serves, and anything while a flush hangs
abbrev pub TellsAtOnce : Baseline → Measures → Kept → Bool → AdminRequest → AdminReply → Type 0
TellsAtOnce baseline measures kept is_stopping request.Page reply = reply.status ≡ 200
TellsAtOnce baseline measures kept is_stopping (request.Health false) reply =
    reply.status ≡ health_status measures.has_fault is_stopping
TellsAtOnce baseline measures kept is_stopping asked reply =
    (measures.flush_seconds ≢ 0) × TellsStalled baseline measures kept asked reply

-- The steps of an audit put together.
use Rattle.std.proofs.Common.{◌≡◌, ℕ, Bool, true, false, List, Some, option_map, Result, Ok, Err, IfErr, sym, ◌∙◌, ap, subst}
use Rattle.sector_disk.specs.Disk.{DiskView}
use Rattle.invoke_records.specs.declared.command.Command.{Command}
use Rattle.invoke_records.specs.declared.snapshot.Snapshot.{Snapshot}
use Rattle.async_core.specs.State.{State}
use Rattle.async_core.specs.Policies.{pair_of}
use Rattle.async_core.specs.Rules.{replay}
use Rattle.checkpoint.specs.declared.error.OpenError.{OpenError}
use Rattle.checkpoint.specs.declared.opened.Opened.{Opened}
use Rattle.checkpoint.specs.Image.{DiskImage, parts_of, read_image}
use Rattle.checkpoint.specs.Live.{IsLive, settings_of, generation_of}
use Rattle.checkpoint.specs.Opening.{IsNoFinding, AreLiveParts}
use Rattle.audit_report.specs.declared.report.Report.{Report}
use Rattle.audit_report.specs.Counts.{AreCounts}
use Rattle.audit_report.specs.Comparison.{table_in, TellsOlder}
use Rattle.audit_report.specs.Report.{counts_in, live_snapshot, LeadsFrom, IsAudit}

-- what was no finding is this error, which is none
pub no_finding : {A : Type 0} (result : Result A OpenError) (why : OpenError) → IfErr result IsNoFinding → result ≡ Err why → IsNoFinding why
no_finding {A} result why none is = subst (λ (r : Result A OpenError). IfErr r IsNoFinding) is none

-- what opening told of the snapshot holds of the table that was made of it
pub leads_from : (first : State) (given commands : List Command) (snapshot : Snapshot) (opened : Opened) (disk : DiskView) (bytes : List ℕ) (table : Snapshot) → IsLive disk opened table → disk.content ≡ bytes
    → AreLiveParts bytes snapshot commands → replay (settings_of opened) snapshot commands ≡ Some table → first.settings ≡ settings_of opened → first.table ≡ snapshot → given ≡ commands
    → LeadsFrom first given opened disk bytes
leads_from first given commands snapshot opened disk bytes table live content parts replayed settings first_is given_is = record {
  table = table;
  live = live;
  content = content;
  parts = subst (λ (l : List Command). AreLiveParts bytes first.table l) (sym given_is) (subst (λ (t : Snapshot). AreLiveParts bytes t commands) (sym first_is) parts);
  settings = settings;
  replayed = (λ i. replay (settings_of opened) (first_is i) (given_is i)) ∙ replayed;
}

image_is : (a b : DiskImage) → ◌≡◌ {A = Result DiskImage OpenError} (Ok a) (Ok b) → a ≡ b
image_is a b is = cc

table_is : (legal : Bool) (state : State) (table : Snapshot) → table_in legal state ≡ Some table → state.table ≡ table
table_is true state table is = cc
table_is false state table is = absurd cc

module _ (first : State) (commands : List Command) (opened : Opened) (disk : DiskView) (bytes : List ℕ) (leads : LeadsFrom first commands opened disk bytes)
    (after : State) (kept : after.settings ≡ first.settings) (legal : Bool) (applied : replay first.settings first.table commands ≡ table_in legal after) where
  abbrev image : DiskImage
  image = leads.live.image

  reads : read_image bytes ≡ Ok image
  reads = ap read_image (sym leads.content) ∙ leads.live.reads

  live_parts : parts_of image.live ≡ (first.table, commands)
  live_parts = ap (λ (i : DiskImage). parts_of i.live) (image_is image leads.parts.image (sym reads ∙ leads.parts.reads)) ∙ leads.parts.parts

  snapshot_is : live_snapshot image ≡ first
  snapshot_is = λ i. record { settings = (leads.live.settings ∙ sym leads.settings) i; table = ap (λ (p : Snapshot × List Command). p.0) live_parts i }

  table_after : after.table ≡ image.live.table
  table_after = table_is legal after leads.table (sym applied ∙ (λ i. replay (leads.settings i) first.table commands) ∙ leads.replayed) ∙ sym leads.live.table_is

  pub is_audit : (report : Report) → report.generation ≡ generation_of opened → report.number ≡ after.table.number
      → AreCounts after.table.rows (counts_in report)
      → TellsOlder first (option_map parts_of image.older) report.older → (report.retries, report.age) ≡ pair_of after.table.policy
      → IsAudit bytes after report
  is_audit report generation number counted older in_force =
      let counts = rw table_after at counted in
      record {
        image = image;
        reads = reads;
        table_is = λ i. record { settings = (kept ∙ leads.settings ∙ sym leads.live.settings) i; table = table_after i };
        tells = record {
          generation = generation ∙ sym leads.live.generation;
          number = number ∙ ap (λ (t : Snapshot). t.number) table_after;
          held = counts.held;
          waiting = counts.waiting;
          running = counts.running;
          success = counts.success;
          failure = counts.failure;
          older = subst (λ (s : State). TellsOlder s (option_map parts_of image.older) report.older) (sym snapshot_is) older;
          in_force = in_force ∙ ap (λ (t : Snapshot). pair_of t.policy) table_after;
        };
      }

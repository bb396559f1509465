use Rattle.std.proofs.Common.{◌+◌, ◌∙◌, cond, ap}
use Rattle.std.specs.List.{filter_map}
use Rattle.invoke_records.specs.declared.row.EventRow.{EventRow}
use Rattle.operator_view.specs.Census.{end_of}
use Rattle.operator_view.specs.Waiting.{deadline_of, due_of, is_due, expires_soon}
use Rattle.operator_view.proofs.Tallied.{count_by-push, least-one, least-push}
use Rattle.operator_view.proofs.counting.tally_with.Goals as goal

pub returns-clause-counts : goal.returns-clause-counts
returns-clause-counts c = λ rows short is. let r = c.args.row.now in record {
  census = c.census_with.ensures rows short is.census;
  oldest_waiting = c.first_waiting.ensures rows is.oldest_waiting;
  oldest_record = c.earlier.ensures (filter_map (λ (e : EventRow). end_of e.standing) rows) _ is.oldest_record (c.end_of.ensures ∙ least-one (end_of r.standing)) ∙ least-push (λ (e : EventRow). end_of e.standing) rows r;
  first_due = c.earlier-2.ensures (filter_map (λ (e : EventRow). due_of e.standing) rows) _ is.first_due (c.due_of.ensures ∙ least-one (due_of r.standing)) ∙ least-push (λ (e : EventRow). due_of e.standing) rows r;
  due = count_by-push (is_due c.args.at) rows r _ _ short is.due (λ w. c.counted.ensures w ∙ ap (λ b. c.args.tally.now.due + cond b 1 0) c.is_due.ensures);
  expiring = count_by-push (expires_soon c.args.at) rows r _ _ short is.expiring (λ w. c.counted-2.ensures w ∙ ap (λ b. c.args.tally.now.expiring + cond b 1 0) c.expires_soon.ensures);
  first_deadline = c.earlier-3.ensures (filter_map (λ (e : EventRow). deadline_of e.standing) rows) _ is.first_deadline (c.deadline_of.ensures ∙ least-one (deadline_of r.standing)) ∙ least-push (λ (e : EventRow). deadline_of e.standing) rows r;
}

use Rattle.std.proofs.Common.{◌≡◌, ℕ, ◌-◌, ◌≤◌, Some, Option, List, length, drop, refl, sym, ap, subst, ◌∙◌, arith, inl, inr}
use Rattle.std.specs.Prelude.{IsSome}
use Rattle.std.proofs.lemmas.List.{drop-drop}
use Rattle.retry_rules.specs.declared.settings.Settings.{Settings}
use Rattle.invoke_records.specs.declared.command.Command.{Command}
use Rattle.invoke_records.specs.declared.snapshot.Snapshot.{Snapshot}
use Rattle.async_core.specs.laws.Tables.{number-table_of}
use Rattle.broker_core.specs.Batch.{last_written}
use Rattle.broker_core.specs.IssuerHalf.{StandsInMemory}
use Rattle.broker_core.proofs.issue_half.IssueHalf.settle_front.Goals.{then-last-out, else-last-out}
use Rattle.broker_core.proofs.issue_half.IssueHalf.settle_front.Goals as goal

-- with a greater durable number less is pending
stands_later : (s : Settings) (table : Snapshot) (pending rest : List Command) (durable last : ℕ) (history : List Command) → durable ≤ last → last ≤ table.number
    → rest ≡ drop (last - durable) pending → StandsInMemory s table pending durable history → StandsInMemory s table rest last history
stands_later s table pending rest durable last history later most is stands = record {
  legal = stands.legal;
  table_is = stands.table_is;
  durable_is = omega (arith, most, ap (λ (t : Snapshot). t.number) stands.table_is, number-table_of s history);
  pending_is = is ∙ ap (drop (last - durable)) stands.pending_is ∙ drop-drop (last - durable) durable history ∙ ap (λ (n : ℕ). drop n history) (omega (arith, later));
}

pub returns-clause-ok : goal.returns-clause-ok
returns-clause-ok c =
    let half = c.args.self.now in
    let last = c.last-last.ensures in
    let within = half.within c.in-Some.out c.in-Some.is in
    let sound = half.sound (subst (λ (o : Option ℕ). IsSome o) (sym c.in-Some.is) refl) in
    let later : half.durable ≤ last_written c.args.written = omega (arith, last, c.if-last-first.false, c.if-first-self.false) in
    let most : last_written c.args.written ≤ half.table.table.number = omega (arith, last, c.if-out-last.false, within.1) in
    let rest = c.forget_first.ensures ∙ ap (λ (n : ℕ). drop (n - half.durable) half.pending.items) last in (
      record {
        first_is = sym c.first-first.ensures ∙ c.if-first-self.false;
        least = omega (arith, c.first-first.ensures, last, c.if-last-first.false);
        out = c.in-Some.out;
        out_is = c.in-Some.is;
        most = omega (arith, last, c.if-out-last.false);
      },
      record {
        settings = refl;
        table = refl;
        pending = rest;
        durable_is = last;
        whole = sound;
        sound = sound;
        left = elim c.if-last-out.branch [
          | then-last-out w ↦ inl (sym last ∙ w.if-last-out.true, w.self-is)
          | else-last-out w ↦ inr (omega (arith, last, c.if-out-last.false, w.if-last-out.false), w.self-is)
        ];
        later = later;
        most = most;
        stands = λ history stands.
            subst (λ (n : ℕ). StandsInMemory half.table.settings half.table.table c.forget_first.new.commands.items n history) (sym last)
            (stands_later half.table.settings half.table.table half.pending.items c.forget_first.new.commands.items half.durable (last_written c.args.written) history later most rest stands);
        number = c.new.ensures ∙ last;
      },
    )

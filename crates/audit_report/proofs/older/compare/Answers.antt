use Rattle.std.proofs.Common.{sym, ◌∙◌, arith}
use Rattle.std.proofs.lemmas.Bool.{true≢false}
use Rattle.audit_report.proofs.older.compare.Goals as goal
use Rattle.audit_report.proofs.older.compare.Goals.{else-more-ge1-via-then-more-ge1+else-more-le-MOST_CARRIED, else-more-ge1-via-else-more-ge1}

pub returns-then-eq : goal.returns-then-eq
returns-then-eq c = c.eq.ensures.exact.0 c.if-eq.true

pub returns-else-more-ge1 : goal.returns-else-more-ge1
returns-else-more-ge1 c = (
  λ same. absurd (true≢false (sym (c.eq.ensures.exact.1 same) ∙ c.if-eq.false)),
  λ more ahead. elim c.else-more-ge1.branch [
    | else-more-ge1-via-then-more-ge1+else-more-le-MOST_CARRIED w ↦ absurd (omega (arith, ahead.number, ahead.some, ahead.few, c.number.ensures, c.number-2.ensures, c.saturating_sub-more.ensures, w.if-more-ge1.true, w.if-more-le-MOST_CARRIED.false))
    | else-more-ge1-via-else-more-ge1 w ↦ absurd (omega (arith, ahead.number, ahead.some, c.number.ensures, c.number-2.ensures, c.saturating_sub-more.ensures, w.if-more-ge1.false))
  ],
)

use Rattle.std.proofs.Common.{◌≡◌, ap, sym, ◌∙◌, Err, inl, inr, ⊎_elim}
use Rattle.hall_plans.specs.declared.error.HallError.TheVariants as error
use Rattle.hall_core.specs.Hall.{commit_error_of}
use Rattle.broker_core.specs.declared.error.CommitError.TheVariants as commit_error
use Rattle.hall_core.proofs.Committing.{told_broken, not_committed, disk_is_left}
use Rattle.hall_core.proofs.over_broker.Hall+Broker+D.commit.Goals as goal
use Rattle.hall_core.proofs.over_broker.Hall+Broker+D.commit.Goals.{then-matches, else-matches}

pub returns-after-matches-clause-err : goal.returns-after-matches-clause-err
returns-after-matches-clause-err g c =
    let said = c.in-Err.ensures in
    let reason = not_committed c.args.self.now.issuer c.commit.new.self c.in-Err.why
    (λ is. said.broken.0 (ap Err is)) (λ is. let same = said.broken.1 is in cc)
    (λ whole none. let wrong = (said.nothing whole none).0 in cc)
    (λ is. said.worn_out (ap Err is)) (λ is. said.bad (ap Err is)) (λ is. said.breaks (ap Err is))
    (⊎_elim (λ fault. inl (cc)) (λ kept. inr kept) said.kept) in
    elim c.if-matches.branch [
      | then-matches w ↦ rw w.self-is (c.in-Err.why, c.error_of.ensures, reason)
      | else-matches w ↦ rw w.self-is (c.in-Err.why, c.error_of.ensures, reason)
    ]

pub returns-after-matches-clause-broken : goal.returns-after-matches-clause-broken
returns-after-matches-clause-broken g c =
    let said = c.in-Err.ensures in (
      λ told.
          let is : c.error_of.result ≡ error.Broken = cc in
          said.broken.0 (ap Err (told_broken c.in-Err.why (sym c.error_of.ensures ∙ is))),
      λ broken.
          let told = said.broken.1 broken in
          let is : c.in-Err.why ≡ commit_error.Broken = cc in
          ap Err (c.error_of.ensures ∙ ap commit_error_of is),
    )

pub returns-after-matches-clause-no_call : goal.returns-after-matches-clause-no_call
returns-after-matches-clause-no_call g c =
    let said = c.in-Err.ensures in
    let left = disk_is_left c.args.self.now.issuer c.commit.new.self c.in-Err.why
    (λ is. let told = said.broken.1 is in cc) (⊎_elim (λ fault. inl (cc)) (λ kept. inr kept) said.kept) in
    elim c.if-matches.branch [
      | then-matches w ↦ rw w.self-is left
      | else-matches w ↦ rw w.self-is left
    ]

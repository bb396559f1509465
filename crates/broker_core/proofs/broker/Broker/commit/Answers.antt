use Rattle.std.proofs.Common.{◌≡◌, ◌∙◌, length}
use Rattle.broker_core.specs.Broker.{issued_of, Commits}
use Rattle.broker_core.proofs.Issued.{if_ok}
use Rattle.broker_core.proofs.Committed.{weaker, replays, number, is_stop, never_bad, stands_after}
use Rattle.broker_core.proofs.broker.Broker.commit.Goals as goal

pub returns-clause-any_moment : goal.returns-clause-any_moment
returns-clause-any_moment g c honest history stands =
    let view = g.D.Disk.view in
    let old = c.args.self.now in
    let laws = g.met.D.Disk.laws in
    let new = c.write.new.self in
    weaker (is_stop view laws old new history stands c.if-self.false)
    (c.write.ensures.any_moment honest _ (stands.live c.if-self.false honest) (replays view laws old new history stands c.if-self.false))

pub returns-clause-stands : goal.returns-clause-stands
returns-clause-stands g c history stands =
    let view = g.D.Disk.view in
    let laws = g.met.D.Disk.laws in
    let old = c.args.self.now in
    let new = c.write.new.self in
    stands_after view laws old new history stands c.if-self.false c.write.result c.write.ensures.same c.write.ensures.ok c.write.ensures.breaks c.write.ensures.kept
    (λ honest. c.write.ensures.acknowledged honest _ (stands.live c.if-self.false honest) (replays view laws old new history stands c.if-self.false))
    (λ honest.
    weaker (is_stop view laws old new history stands c.if-self.false)
    (c.write.ensures.any_moment honest _ (stands.live c.if-self.false honest) (replays view laws old new history stands c.if-self.false)))

pub returns-clause-acknowledged : goal.returns-clause-acknowledged
returns-clause-acknowledged g c history stands =
    let old = c.args.self.now in
    let new = c.write.new.self in
    let all : issued_of old ≡ length history = number g.D.Disk.view g.met.D.Disk.laws old new history stands c.if-self.false in
    if_ok (λ durable. Commits old new durable) _ c.write.result (λ durable commits. (commits.number ∙ commits.all ∙ all, commits.all ∙ all)) c.write.ensures.ok

pub returns-clause-sound : goal.returns-clause-sound
returns-clause-sound g c history stands bad = never_bad g.D.Disk.view g.met.D.Disk.laws c.args.self.now c.write.new.self history stands c.if-self.false (c.write.ensures.bad bad).0

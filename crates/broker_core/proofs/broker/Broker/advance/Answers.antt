use Rattle.broker_core.proofs.Committed.{weaker, replays, is_stop, never_bad, stands_broken}
use Rattle.broker_core.proofs.Advanced.{stage_stands, front_stops, front_stands}
use Rattle.broker_core.proofs.broker.Broker.advance.Goals as goal

pub returns-in-None-clause-stands : goal.returns-in-None-clause-stands
returns-in-None-clause-stands g c history stands =
    let view = g.D.Disk.view in
    let laws = g.met.D.Disk.laws in
    let old = c.args.self.now in
    let new = c.stage.new.self in
    let all = replays view laws old new history stands c.requires in
    stage_stands view laws old new history stands c.requires c.stage.result c.stage.ensures.same c.stage.ensures.ok c.stage.ensures.breaks c.stage.ensures.kept
    (λ honest. c.stage.ensures.live honest _ (stands.live c.requires honest) all)
    (λ honest. weaker (is_stop view laws old new history stands c.requires) (c.stage.ensures.any_moment honest _ (stands.live c.requires honest) all))

pub returns-in-None-clause-sound : goal.returns-in-None-clause-sound
returns-in-None-clause-sound g c history stands bad =
    never_bad g.D.Disk.view g.met.D.Disk.laws c.args.self.now c.stage.new.self history stands c.requires (c.stage.ensures.bad bad).0

pub returns-in-None-clause-any_moment : goal.returns-in-None-clause-any_moment
returns-in-None-clause-any_moment g c honest history stands =
    let view = g.D.Disk.view in
    let laws = g.met.D.Disk.laws in
    let old = c.args.self.now in
    let new = c.stage.new.self in
    weaker (is_stop view laws old new history stands c.requires)
    (c.stage.ensures.any_moment honest _ (stands.live c.requires honest) (replays view laws old new history stands c.requires))

pub returns-in-Ok-clause-stands : goal.returns-in-Ok-clause-stands
returns-in-Ok-clause-stands g c history stands =
    front_stands g.D.Disk.view g.met.D.Disk.laws c.args.self.now c.open_front.new.self history stands c.requires c.in-Some.group c.in-Some.is c.in-Ok.ensures.same
    c.in-Ok.ensures.ok c.in-Ok.ensures.live

pub returns-in-Ok-clause-any_moment : goal.returns-in-Ok-clause-any_moment
returns-in-Ok-clause-any_moment g c honest history stands =
    front_stops g.D.Disk.view g.met.D.Disk.laws c.args.self.now c.open_front.new.self history stands c.requires c.in-Some.group c.in-Some.is c.in-Ok.ensures.any_moment honest

pub returns-in-Err-clause-stands : goal.returns-in-Err-clause-stands
returns-in-Err-clause-stands g c history stands =
    let view = g.D.Disk.view in
    let laws = g.met.D.Disk.laws in
    let old = c.args.self.now in
    let new = c.open_front.new.self in
    stands_broken view laws old new history stands c.requires c.in-Err.ensures.same c.in-Err.ensures.err
    (front_stops view laws old new history stands c.requires c.in-Some.group c.in-Some.is c.in-Err.ensures.any_moment)

pub returns-in-Err-clause-any_moment : goal.returns-in-Err-clause-any_moment
returns-in-Err-clause-any_moment g c honest history stands =
    front_stops g.D.Disk.view g.met.D.Disk.laws c.args.self.now c.open_front.new.self history stands c.requires c.in-Some.group c.in-Some.is c.in-Err.ensures.any_moment honest

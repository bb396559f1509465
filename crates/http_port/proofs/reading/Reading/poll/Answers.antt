use Rattle.std.proofs.Common.{◌≤◌, List, [], ℕ, Result, Vec, refl, sym, ap, ◌∙◌, subst, inl, inr, Ok, Err, arith}
use Rattle.std.specs.Global.{Global}
use Rattle.http_port.specs.declared.reading.BodyError.{BodyError}
use Rattle.http_port.specs.declared.reading.BodyError.TheVariants.{TooLarge}
use Rattle.http_port.specs.declared.reading.Step.TheVariants.{Goes, Ended, TooMuch, Failed}
use Rattle.http_port.specs.Reading.{frames_of, Reads}
use Rattle.http_port.proofs.Frames.{reads_behind, follows_at, ended_reads, failed_reads, still_reads}
use Rattle.http_port.proofs.reading.Reading.poll.Goals as goal

pub loop-frame-init : goal.loop-frame-init
loop-frame-init g c = record { kept = λ fact holds. holds; long = refl; reads = λ body reads. reads }

pub loop-frame-preserved : goal.loop-frame-preserved
loop-frame-preserved g c =
    let now = frames_of c.loop-frame.self.body in
    let next = frames_of c.step.new.self.body in
    let follows = follows_at now next c.loop-frame.self.bytes.items c.step.new.self.bytes.items c.in-Ready-Goes.field-0 Goes c.in-Ready-Goes.field-0-is c.in-Ready-Goes.ensures.follows in record {
      kept = λ fact holds. c.step.ensures.kept fact (c.loop-frame.invariant.kept fact holds);
      long = c.step.ensures.same.1 ∙ c.loop-frame.invariant.long;
      reads = λ body reads. c.loop-frame.invariant.reads body
          (reads_behind now next c.loop-frame.frame c.loop-frame.self.bytes.items c.step.new.self.bytes.items follows.0 follows.1 follows.2 follows.3 body reads);
    }

pub returns-in-Pending-clause-same : goal.returns-in-Pending-clause-same
returns-in-Pending-clause-same g c =
    still_reads (frames_of c.args.self.now.body) (frames_of c.loop-frame.self.body) (frames_of c.step.new.self.body) c.args.self.now.is_too_long c.step.new.self.is_too_long
    c.args.self.now.frames c.loop-frame.frame c.args.self.now.bytes.items c.loop-frame.self.bytes.items c.step.new.self.bytes.items
    (c.step.ensures.same.1 ∙ c.loop-frame.invariant.long) c.in-Pending.ensures.still.0 c.in-Pending.ensures.still.1 c.loop-frame.invariant.reads

pub returns-in-Ready-Ended-clause-value : goal.returns-in-Ready-Ended-clause-value
returns-in-Ready-Ended-clause-value g c =
    let now = frames_of c.loop-frame.self.body in
    let next = frames_of c.step.new.self.body in
    let follows = follows_at now next c.loop-frame.self.bytes.items c.step.new.self.bytes.items c.in-Ready-Ended.field-0 Ended c.in-Ready-Ended.field-0-is c.in-Ready-Ended.ensures.follows in
    inr (c.loop-frame.invariant.reads (Ok c.take_bytes.result.items) (ended_reads now next c.loop-frame.frame c.loop-frame.self.bytes.items c.step.new.self.bytes.items c.take_bytes.result.items follows.0 follows.1
    (ap (λ (v : Vec ℕ Global). v.items) c.take_bytes.ensures)))

pub returns-in-Ready-TooMuch-clause-value : goal.returns-in-Ready-TooMuch-clause-value
returns-in-Ready-TooMuch-clause-value g c =
    let now = frames_of c.loop-frame.self.body in
    let next = frames_of c.step.new.self.body in
    let follows = follows_at now next c.loop-frame.self.bytes.items c.step.new.self.bytes.items c.in-Ready-TooMuch.field-0 TooMuch c.in-Ready-TooMuch.field-0-is c.in-Ready-TooMuch.ensures.follows in
    subst (λ (b : Result (List ℕ) BodyError). Reads c.args.self.now b) (sym c.let_go.ensures) (inr (c.loop-frame.invariant.reads (Err TooLarge) (inl ([], follows))))

pub returns-in-Ready-Failed-clause-value : goal.returns-in-Ready-Failed-clause-value
returns-in-Ready-Failed-clause-value g c =
    let now = frames_of c.loop-frame.self.body in
    let next = frames_of c.step.new.self.body in
    let follows = follows_at now next c.loop-frame.self.bytes.items c.step.new.self.bytes.items c.in-Ready-Failed.field-0 (Failed c.in-Ready-Failed.why) c.in-Ready-Failed.field-0-is
    c.in-Ready-Failed.ensures.follows in
    inr (c.loop-frame.invariant.reads (Err c.in-Ready-Failed.why) (failed_reads now next c.loop-frame.frame c.loop-frame.self.bytes.items c.step.new.self.bytes.items c.in-Ready-Failed.why follows))

pub returns-clause-value : goal.returns-clause-value
returns-clause-value g c =
    let past : 65536 ≤ c.loop-frame.frame = omega arith in
    subst (λ (b : Result (List ℕ) BodyError). Reads c.args.self.now b) (sym c.let_go-2.ensures) (inr (c.loop-frame.invariant.reads (Err TooLarge) (inr (inl past))))

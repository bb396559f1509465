use Rattle.std.proofs.Common.{Ok}
use Rattle.http_port.specs.Reading.{frames_of}
use Rattle.http_port.proofs.Frames.{polled_frame, polled_error, after_same}
use Rattle.http_port.proofs.reading.Reading.step.Goals as goal

pub returns-in-Ok-clause-follows : goal.returns-in-Ok-clause-follows
returns-in-Ok-clause-follows g c =
    let at = c.in-Ready-Some-Ok in
    let came = polled_frame (frames_of c.args.self.now.body) (frames_of c.poll_frame.new.self) at.field-0 at.field-0-0 at.frame at.field-0-is at.field-0-0-is
    at.ensures.value at.ensures.rest in
    (at.frame, came.0, after_same (frames_of c.args.self.now.body) c.poll_frame.new.self c.take_frame.new.self.body (Ok at.frame) c.take_frame.ensures.same.0 came.1, c.in-Ok.ensures.ok)

pub returns-in-Ready-Some-Err-LengthLimit-clause-follows : goal.returns-in-Ready-Some-Err-LengthLimit-clause-follows
returns-in-Ready-Some-Err-LengthLimit-clause-follows g c =
    let at = c.in-Ready-Some-Err-LengthLimit in
    polled_error (frames_of c.args.self.now.body) (frames_of c.poll_frame.new.self) at.field-0 at.field-0-0 at.field-0-0-0 _ at.field-0-is at.field-0-0-is at.field-0-0-0-is at.ensures.value

pub returns-clause-follows : goal.returns-clause-follows
returns-clause-follows g c =
    let at = c.in-Ready-Some-Err-Body in (
      at.field-0-0-0-0,
      polled_error (frames_of c.args.self.now.body) (frames_of c.poll_frame.new.self) at.field-0 at.field-0-0 at.field-0-0-0 _ at.field-0-is at.field-0-0-is at.field-0-0-0-is
          at.ensures.value,
    )

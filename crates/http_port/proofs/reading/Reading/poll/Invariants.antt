use Rattle.std.proofs.Common.{◌≡◌, ℕ, List, Result}
use Rattle.futures.specs.Task.{Keeps}
use Rattle.http_port.specs.declared.reading.BodyError.{BodyError}
use Rattle.http_port.specs.Reading.{frames_of, ReadsFrom}
use Rattle.http_port.proofs.reading.Reading.poll.Given as goal

-- what is left comes to what the whole comes to
abbrev pub invariant-loop-frame : goal.invariant-loop-frame
invariant-loop-frame g l = record {
  kept : Keeps l.fn.cx l.cx;
  long : l.self.is_too_long ≡ l.fn.self.is_too_long;
  reads : (body : Result (List ℕ) BodyError) → ReadsFrom (frames_of l.self.body) l.frame l.self.bytes.items body
      → ReadsFrom (frames_of l.fn.self.body) l.fn.self.frames l.fn.self.bytes.items body;
}

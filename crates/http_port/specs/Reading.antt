-- The body of a request, as it comes: its frames, and what it comes to.
use Rattle.std.specs.Prelude.{◌≡◌, ℕ, ◌+◌, ◌≤◌, ◌⊎◌, List, [], ◌++◌, map, flat_map, length, unwrap_or, Some, None, Result, Ok, Err, IsTrue}
use Rattle.futures.specs.Runs.{Runs, After, Within}
use Rattle.http_body.specs.declared.frame.Frame.{Frame}
use Rattle.http_body.specs.Frame.{data_of}
use Rattle.http_body_util.specs.declared.limited.Limited.{Limited}
use Rattle.http_body_util.specs.declared.limited.LimitedError.{LimitedError}
use Rattle.http_body_util.specs.declared.limited.LimitedError.TheVariants.{LengthLimit, Body}
use Rattle.http_body_util.specs.Limited.{Limits}
use Rattle.hyper.specs.declared.body.incoming.Incoming.{Incoming}
use Rattle.hyper.specs.declared.error.Error.{Error}
use Rattle.hyper.specs.Incoming.{IncomingYields}
use Rattle.http_port.specs.declared.reading.BodyError.{BodyError}
use Rattle.http_port.specs.declared.reading.BodyError.TheVariants.{CutOff, OutOfMemory, TooLarge}
use Rattle.http_port.specs.declared.reading.Reading.{Reading}
use Rattle.http_port.specs.declared.reading.Step.{Step}
use Rattle.http_port.specs.declared.reading.Step.TheVariants.{Goes, Ended, TooMuch, Failed}

abbrev pub DataFrame : Type 0
DataFrame = Frame (List ℕ)

-- the data of a frame; trailers have none
abbrev pub data_in : DataFrame → List ℕ
data_in frame = unwrap_or (data_of frame) []

-- the data of frames, joined in their order
abbrev pub joined : List DataFrame → List ℕ
joined frames = flat_map data_in frames

-- what may come of a body: frames in order, and then one more, an error or the end
abbrev pub Frames : Type 0 → Type 1
Frames E = Runs (Result DataFrame (LimitedError E))

-- what may come of the body of a request, of which no more bytes are read than a limit
abbrev pub frames_of : {I : Type 0} → Limited (Incoming I) → Frames Error
frames_of body = Limits (λ (piece : List ℕ). piece) (IncomingYields body.inner) body.remaining

module _ {E : Type 0} where
  -- with those that came before, so many frames are more than are read
  abbrev pub IsMany : Frames E → ℕ → Type 0
  IsMany from count =
      (65536 ≤ count)
      ⊎ ((frames : List DataFrame) × (last : DataFrame) × from (map Ok frames) (Some (Ok last)) × (65536 ≤ count + length frames + 1))

  -- what a body comes to, of which so many frames came before, with these bytes: all of its frames, joined, or why it was not read
  abbrev pub ReadsFrom : Frames E → ℕ → List ℕ → Result (List ℕ) BodyError → Type 0
  ReadsFrom from count before (Ok bytes) =
      (frames : List DataFrame) × from (map Ok frames) None × (bytes ≡ before ++ joined frames)
  ReadsFrom from count before (Err CutOff) =
      (frames : List DataFrame) × (why : E) × from (map Ok frames) (Some (Err (Body why)))
  ReadsFrom from count before (Err OutOfMemory) = Unit {0}
  ReadsFrom from count before (Err TooLarge) =
      ((frames : List DataFrame) × from (map Ok frames) (Some (Err LengthLimit))) ⊎ IsMany from count

  -- what follows a frame: its data is behind what was read before, and what comes later comes behind it
  abbrev pub Follows : Frames E → Frames E → List ℕ → List ℕ → Step → Type 0
  Follows old new before after Goes =
      (frame : DataFrame) × old [] (Some (Ok frame)) × After old (Ok frame) new × (after ≡ before ++ data_in frame)
  Follows old new before after Ended = old [] None × (after ≡ before)
  Follows old new before after TooMuch = old [] (Some (Err LengthLimit))
  Follows old new before after (Failed CutOff) = (why : E) × old [] (Some (Err (Body why)))
  Follows old new before after (Failed OutOfMemory) = Unit {0}
  Follows old new before after (Failed TooLarge) = ⊥

module _ {I : Type 0} where
  -- what a body that is read comes to: it is too large by its head, or comes to what its frames are
  abbrev pub Reads : Reading I → Result (List ℕ) BodyError → Type 0
  Reads reading body =
      (IsTrue reading.is_too_long × (body ≡ Err TooLarge))
      ⊎ ReadsFrom (frames_of reading.body) reading.frames reading.bytes.items body

  -- nothing came, and as much may come as before
  abbrev pub IsStill : Reading I → Reading I → Type 0
  IsStill old new = Within (frames_of old.body) (frames_of new.body) × (new.bytes.items ≡ old.bytes.items)

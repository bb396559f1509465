-- What a body comes to, frame by frame.
use Rattle.std.proofs.Common.{◌≡◌, ◌⊎◌, ℕ, ◌+◌, List, [], ◌∷◌, ◌++◌, map, unwrap_or, Option, Some, None, Result, Ok, Err, Bool, IfSome, IsTrue, sym, ap, subst, ◌∙◌, inl, inr, append_assoc, append-nil, arith}
use Rattle.futures.specs.Runs.{After, Within}
use Rattle.http_body_util.specs.declared.limited.Limited.{Limited}
use Rattle.http_body_util.specs.declared.limited.LimitedError.{LimitedError}
use Rattle.hyper.specs.declared.body.incoming.Incoming.{Incoming}
use Rattle.hyper.specs.declared.error.Error.{Error}
use Rattle.http_port.specs.declared.reading.BodyError.{BodyError}
use Rattle.http_port.specs.declared.reading.BodyError.TheVariants.{CutOff, OutOfMemory, TooLarge}
use Rattle.http_port.specs.declared.reading.Step.{Step}
use Rattle.http_port.specs.declared.reading.Step.TheVariants.{Failed}
use Rattle.http_port.specs.Reading.{DataFrame, data_in, joined, Frames, frames_of, Follows, ReadsFrom}

-- a frame without data is nothing more
pub nothing_more : (before : List ℕ) (o : Option (List ℕ)) → o ≡ None → before ≡ before ++ unwrap_or o []
nothing_more before o is = rw is (sym (append-nil before))

pub something_more : (before after piece : List ℕ) (o : Option (List ℕ)) → o ≡ Some piece → after ≡ before ++ piece
    → after ≡ before ++ unwrap_or o []
something_more before after piece o is more = rw is more

module _ {E : Type 0} (old new : Frames E) where
  -- what is left comes to what the whole comes to
  pub reads_behind : (count : ℕ) (before after : List ℕ) (frame : DataFrame) → old [] (Some (Ok frame)) → After old (Ok frame) new
      → after ≡ before ++ data_in frame → (body : Result (List ℕ) BodyError) → ReadsFrom new (count + 1) after body → ReadsFrom old count before body
  reads_behind count before after frame came later is (Ok bytes) reads = (
    frame ∷ reads.0,
    later (map Ok reads.0) None reads.1,
    reads.2 ∙ ap (λ (t : List ℕ). t ++ joined reads.0) is ∙ append_assoc before (data_in frame) (joined reads.0),
  )
  reads_behind count before after frame came later is (Err CutOff) reads = (frame ∷ reads.0, reads.1, later (map Ok reads.0) _ reads.2)
  reads_behind count before after frame came later is (Err OutOfMemory) reads = tt
  reads_behind count before after frame came later is (Err TooLarge) (inl limit) = inl (frame ∷ limit.0, later (map Ok limit.0) _ limit.1)
  reads_behind count before after frame came later is (Err TooLarge) (inr (inl many)) = inr (inr ([], frame, came, omega (arith, many)))
  reads_behind count before after frame came later is (Err TooLarge) (inr (inr more)) =
      let many = more.3 in
      inr (inr (frame ∷ more.0, more.1, later (map Ok more.0) _ more.2, omega (arith, many)))

  -- where nothing came, what comes to it later did so before
  pub reads_within : (count : ℕ) (before after : List ℕ) → Within old new → after ≡ before → (body : Result (List ℕ) BodyError)
      → ReadsFrom new count after body → ReadsFrom old count before body
  reads_within count before after within is (Ok bytes) reads =
      (reads.0, within (map Ok reads.0) None reads.1, reads.2 ∙ ap (λ (t : List ℕ). t ++ joined reads.0) is)
  reads_within count before after within is (Err CutOff) reads = (reads.0, reads.1, within (map Ok reads.0) _ reads.2)
  reads_within count before after within is (Err OutOfMemory) reads = tt
  reads_within count before after within is (Err TooLarge) (inl limit) = inl (limit.0, within (map Ok limit.0) _ limit.1)
  reads_within count before after within is (Err TooLarge) (inr (inl many)) = inr (inl many)
  reads_within count before after within is (Err TooLarge) (inr (inr more)) = inr (inr (more.0, more.1, within (map Ok more.0) _ more.2, more.3))

  -- what a poll gave, where that is known
  pub polled_frame : (polled : Option (Result DataFrame (LimitedError E))) (item : Result DataFrame (LimitedError E)) (frame : DataFrame) → polled ≡ Some item → item ≡ Ok frame
      → old [] polled → IfSome polled (λ x. After old x new) → (old [] (Some (Ok frame))) × After old (Ok frame) new
  polled_frame polled item frame is of value rest = (rw (is, of) at value, rw (is, of) at rest)

  pub polled_error : (polled : Option (Result DataFrame (LimitedError E))) (item : Result DataFrame (LimitedError E)) (why error : LimitedError E) → polled ≡ Some item → item ≡ Err why
      → why ≡ error → old [] polled → old [] (Some (Err error))
  polled_error polled item why error is of which value = rw (is, of, which) at value

pub after_same : {I : Type 0} (from : Frames Error) (was now : Limited (Incoming I)) (x : Result DataFrame (LimitedError Error)) → now ≡ was
    → After from x (frames_of was) → After from x (frames_of now)
after_same from was now x is after = rw is after

module _ {E : Type 0} (from next : Frames E) where
  -- what follows, where that is known
  pub follows_at : (before after : List ℕ) (step known : Step) → step ≡ known → Follows from next before after step → Follows from next before after known
  follows_at before after step known is follows = rw is at follows

  pub ended_reads : (count : ℕ) (before after bytes : List ℕ) → from [] None → after ≡ before → bytes ≡ after → ReadsFrom from count before (Ok bytes)
  ended_reads count before after bytes came same is = ([], came, is ∙ same ∙ sym (append-nil before))

  pub failed_reads : (count : ℕ) (before after : List ℕ) (why : BodyError) → Follows from next before after (Failed why) → ReadsFrom from count before (Err why)
  failed_reads count before after CutOff follows = ([], follows.0, follows.1)
  failed_reads count before after OutOfMemory follows = tt
  failed_reads count before after TooLarge follows = absurd follows

module _ {E : Type 0} (first now later : Frames E) where
  -- what a body comes to that waits, it came to before
  pub still_reads : (was is : Bool) (begun count : ℕ) (start before after : List ℕ) → is ≡ was → Within now later → after ≡ before
      → ((body : Result (List ℕ) BodyError) → ReadsFrom now count before body → ReadsFrom first begun start body) → (body : Result (List ℕ) BodyError)
      → (IsTrue is × (body ≡ Err TooLarge)) ⊎ ReadsFrom later count after body → (IsTrue was × (body ≡ Err TooLarge)) ⊎ ReadsFrom first begun start body
  still_reads was is begun count start before after same within bytes back body (inl long) = inl (subst (λ (b : Bool). IsTrue b) same long.0, long.1)
  still_reads was is begun count start before after same within bytes back body (inr left) =
      inr (back body (reads_within now later count before after within bytes body left))

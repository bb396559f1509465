-- With what an act is refused.
use Rattle.std.proofs.Common.{◌≡◌, ◌⊎◌, ◌<◌, ◌&&◌, ℕ, List, length, Bool, true, false, Option, Some, None, Result, refl, subst, inl, inr, if◌then◌else◌}
use Rattle.std.specs.Prelude.{IsUtf8}
use Rattle.http.specs.declared.request.Parts.{Parts}
use Rattle.http_port.specs.Answering.{Message}
use Rattle.http_port.specs.declared.reading.BodyError.{BodyError}
use Rattle.admin_replies.specs.Collecting.{ids_in, status_of}
use Rattle.admin_replies.specs.declared.list_reading.ListError.{ListError}
use Rattle.admin_replies.specs.declared.list_reading.ListError.TheVariants.{NoText, TooMany, OutOfMemory}
use Rattle.admin_port.specs.Acting.{Refuses, RefusesBrought, RefusesNamed, RefusesRetry, RefusesText, TellsOf, brings, named_by}

-- a list that is not read is refused as what it is, or for want of memory
pub list_refused : (why : ListError) (list : List ℕ) (told : Message) → (why ≡ NoText → IsUtf8 list → ⊥)
    → (why ≡ TooMany → 1000 < length (ids_in list)) → TellsOf (status_of why) told → TellsOf 503 told ⊎ RefusesText list told
list_refused NoText list told text many tells = inr (inl (text refl, tells))
list_refused TooMany list told text many tells = inr (inr (many refl, tells))
list_refused OutOfMemory list told text many tells = inl tells

-- a record that is to be tried again is refused so, where no list is brought
pub named_refused : (acts : Bool) (head : Parts) (body : Result (List ℕ) BodyError) (told : Message) (id : Option (List ℕ))
    → false ≡ (acts && brings head) → Some id ≡ (if acts then named_by head else None) → RefusesRetry head id told
    → Refuses acts head body told
named_refused false head body told id none named refuses = absurd (cc)
named_refused true head body told id none named refuses =
    subst (λ (b : Bool). RefusesBrought b head body told) none (subst (λ n. RefusesNamed n head told) named refuses)

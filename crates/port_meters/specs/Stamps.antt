-- The stamp of a program: a line behind the end of its file.
use Rattle.std.specs.Prelude.{◌≡◌, ◌<◌, ℕ, List, ◌++◌, length, codes, Bool, true, false}
use Rattle.port_meters.specs.declared.version.Stamp.{Stamp}

-- it stands before that end
abbrev pub IsBefore : (rest end bytes : List ℕ) → Type 0
IsBefore rest end bytes = bytes ≡ rest ++ end

-- nothing stands before that end: the bytes do not end so
abbrev pub NeverEnds : (end bytes : List ℕ) → Type 0
NeverEnds end bytes = (rest : List ℕ) → bytes ≡ rest ++ end → ⊥

pub record EndsWithWord (rest word bytes : List ℕ) : Type 0 where
  pub ends : IsBefore rest word bytes
  pub some : 0 < length word

-- whether it is proved, as a stamp ends
abbrev pub state_of : Bool → List ℕ
state_of true = codes " proved\n"
state_of false = codes " unproved\n"

abbrev pub EndsWithState : (rest : List ℕ) → Bool → (bytes : List ℕ) → Type 0
EndsWithState rest is_proved bytes = IsBefore rest (state_of is_proved) bytes

-- a program with the line of its stamp behind it
abbrev pub stamped : List ℕ → Stamp → List ℕ
stamped program stamp =
    ((((((program ++ codes "\nlambda_broker-stamp ") ++ stamp.version.now) ++ codes " ") ++ stamp.kit.now)
    ++ codes " logic ") ++ stamp.logic.now) ++ state_of stamp.is_proved

-- the stamp's line ends these bytes, with no word left out
pub record StandsBehind (bytes : List ℕ) (stamp : Stamp) : Type 0 where
  pub program : List ℕ
  pub ends : bytes ≡ stamped program stamp
  pub version : 0 < length stamp.version.now
  pub kit : 0 < length stamp.kit.now
  pub logic : 0 < length stamp.logic.now

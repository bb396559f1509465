-- Reads one after another, and what their refusals say together.
use Rattle.std.proofs.Common.{◌≡◌, ℕ, Option, None, Result, Err, refl, sym, ◌∙◌}
use Rattle.sector_disk.specs.Disk.{DiskView}
use Rattle.sector_disk.specs.laws.Moments.{untouched_more}
use Rattle.gate_journal.specs.declared.error.ReadError.{ReadError}
use Rattle.gate_journal.specs.declared.error.ReadError.TheVariants as read_error
use Rattle.checkpoint.specs.declared.error.OpenError.{OpenError}
use Rattle.checkpoint.specs.declared.error.OpenError.TheVariants.{Fault, OutOfMemory, NotFormatted, Damaged, OldVersion}
use Rattle.checkpoint.specs.Opening.{OnlyReads, Refuses}
use Rattle.checkpoint.specs.OpenSteps.{IsDamage}
use Rattle.checkpoint.specs.Opening.{open_error_of}

-- some reads and then others
pub reads_more : {a b c : DiskView} → OnlyReads a b → OnlyReads b c → OnlyReads a c
reads_more first second = record {
  same = record {
    sectors = second.same.sectors ∙ first.same.sectors;
    honest = (λ h. first.same.honest.0 (second.same.honest.0 h), λ h. second.same.honest.1 (first.same.honest.1 h));
  };
  untouched = λ honest. untouched_more (first.untouched honest) (second.untouched (first.same.honest.1 honest));
}

-- what says of a sector that it is damaged refuses where reading gives that
pub damage_refuses : {A B : Type 0} (sector : ℕ) (found : Option A) (why : OpenError) (read : Result B OpenError) → IsDamage sector found why
    → (found ≡ None → read ≡ Err (Damaged sector)) → Refuses why read
damage_refuses sector found Fault read is gives = tt
damage_refuses sector found OutOfMemory read is gives = tt
damage_refuses sector found NotFormatted read is gives = absurd is
damage_refuses sector found OldVersion read is gives = absurd is
damage_refuses sector found (Damaged at) read is gives = gives is.1 ∙ (λ i. Err (Damaged (sym is.0 i)))

-- what kept the journal from being read refuses where reading gives its damage
pub journal_refuses : {A : Type 0} (why : ReadError) (read : Result A OpenError) → ((sector : ℕ) → why ≡ read_error.Damaged sector → read ≡ Err (Damaged sector))
    → Refuses (open_error_of why) read
journal_refuses read_error.Fault read gives = tt
journal_refuses read_error.OutOfMemory read gives = tt
journal_refuses (read_error.Damaged sector) read gives = gives sector refl

-- what refuses one reading refuses another that fails alike
pub refuses_along : {A B : Type 0} (why : OpenError) (read : Result A OpenError) (other : Result B OpenError) → ((e : OpenError) → read ≡ Err e → other ≡ Err e) → Refuses why read → Refuses why other
refuses_along Fault read other along is = tt
refuses_along OutOfMemory read other along is = tt
refuses_along NotFormatted read other along is = along NotFormatted is
refuses_along (Damaged sector) read other along is = along (Damaged sector) is
refuses_along OldVersion read other along is = along OldVersion is

-- what reading gives refuses
pub err_refuses : {A : Type 0} (why : OpenError) (read : Result A OpenError) → read ≡ Err why → Refuses why read
err_refuses Fault read is = tt
err_refuses OutOfMemory read is = tt
err_refuses NotFormatted read is = is
err_refuses (Damaged sector) read is = is
err_refuses OldVersion read is = is

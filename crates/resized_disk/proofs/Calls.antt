-- Calls one after another that only read, and what may fail in them.
use Rattle.std.proofs.Common.{ℕ, Result, Ok, ◌∙◌, arith}
use Rattle.sector_disk.specs.declared.disk.Fault.{Fault}
use Rattle.sector_disk.specs.Disk.{DiskView, IsSameDisk, HasCause}
use Rattle.sector_disk.specs.laws.Moments.{untouched_more}
use Rattle.resized_disk.specs.Reading.{OnlyReads}

-- one call after another leaves the same disk
pub same_more : {a b c : DiskView} → IsSameDisk a b → IsSameDisk b c → IsSameDisk a c
same_more first second = record {
  sectors = second.sectors ∙ first.sectors;
  honest = (λ h. first.honest.0 (second.honest.0 h), λ h. second.honest.1 (first.honest.1 h));
}

-- some reads and then others
pub reads_more : {a b c : DiskView} → OnlyReads a b → OnlyReads b c → OnlyReads a c
reads_more first second = record {
  same = same_more first.same second.same;
  untouched = λ honest. untouched_more (first.untouched honest) (second.untouched (first.same.honest.1 honest));
}

-- a call after others has its cause
pub cause_more : {T U : Type 0} {a b c : ℕ} {first : Result T Fault} (result : Result U Fault) → HasCause a b first → HasCause b c result → HasCause a c result
cause_more result one two = record { later = omega (arith, one.later, two.later); risen = λ err below. omega (arith, one.later, two.risen err below) }

-- a call that went well after others
pub cause_ok : {T U : Type 0} {V : Type 0} {a b c : ℕ} {first : Result T Fault} {second : Result U Fault} (done : V) → HasCause a b first → HasCause b c second → HasCause a c (Ok done)
cause_ok done one two = record { later = omega (arith, one.later, two.later); risen = λ err. absurd (cc) }

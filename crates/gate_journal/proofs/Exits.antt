-- What holds where a call's error is passed on, and what calls that only read leave: each on plain values.
use Rattle.std.proofs.Common.{◌≡◌, ◌<◌, ◌≤◌, ℕ, List, Result, Ok, Err, refl, ◌∙◌, ap, arith}
use Rattle.std.specs.Prelude.{◌↔◌, Bool, true, false, IsErrOf, IfErr, OnErr}
use Rattle.std.specs.Result.{IsErrAnd}
use Rattle.sector_disk.specs.declared.disk.Fault.{Fault}
use Rattle.sector_disk.specs.Disk.{DiskView, IsSameDisk, HasRisen, HasCause, ReadsHonestly}
use Rattle.sector_disk.specs.laws.Moments.{untouched_at_first, untouched_more}
use Rattle.gate_journal.specs.declared.error.ReadError.TheVariants as read_error
use Rattle.gate_journal.specs.declared.error.AppendError.TheVariants as append_error
use Rattle.gate_journal.specs.Steps.{OnlyReads}

-- ## An error passed on

-- it is the one that its `From` gives
pub only_error : {T E : Type 0} (result : Result T E) (e : E) → IsErrAnd result (λ x. x ≡ e) → IfErr result (λ x. x ≡ e)
only_error (Ok x) e is = absurd is
only_error (Err x) e is = is

-- which may be what the call told
pub out_of_memory : {T E : Type 0} {x e : E} (result : Result T E) → IsErrAnd result (λ y. y ≡ x) → x ≡ e → IsErrAnd result (λ y. y ≡ e)
out_of_memory (Ok y) is same = is
out_of_memory (Err y) is same = is ∙ same

-- so it is no other
pub no_other : {T E P : Type 0} {x e : E} (result : Result T E) → (x ≡ e → ⊥) → IsErrAnd result (λ y. y ≡ x) → IsErrOf result e → P
no_other (Ok y) differ is wrong = absurd is
no_other {x = x} {e = e} (Err y) differ is wrong =
    let same : x ≡ e = cc in
    absurd (differ same)

-- and a test that says when it is the other has not said so
pub no_other_where : {T E : Type 0} {x e : E} {test : Bool} (result : Result T E) → (x ≡ e → ⊥) → IsErrAnd result (λ y. y ≡ x) → test ≡ true
    → IsErrOf result e ↔ (test ≡ false)
no_other_where result differ is passed = (λ wrong. no_other result differ is wrong, λ failed. absurd (cc))

-- where it is one, the call told it
pub told : {T S E : Type 0} {x e : E} (result : Result T E) → IsErrAnd result (λ y. y ≡ x) → IsErrOf result e → IsErrOf {T = S} {E = E} (Err x) e
told (Ok y) is one = absurd is
told {x = x} {e = e} (Err y) is one =
    let same : x ≡ e = cc in
    ap Err same

-- what holds holds with it
pub with_error : {T E : Type 0} {P : Type 0} (result : Result T E) → P → OnErr result P
with_error (Ok x) p = tt
with_error (Err x) p = p

-- a value is no error
pub no_error : {T E : Type 0} {P : Type 0} {x : T} {e : E} → Ok x ≡ Err e → P
no_error is = absurd (cc)

-- and a test that says when there is one has not said so
pub no_error_where : {T E : Type 0} {x : T} {e : E} {test : Bool} → test ≡ true → IsErrOf (Ok x) e ↔ (test ≡ false)
no_error_where passed = (λ wrong. no_error wrong, λ failed. absurd (cc))

-- which errors are two
pub memory_is_no_fault : read_error.OutOfMemory ≡ read_error.Fault → ⊥
memory_is_no_fault is = absurd (cc)

pub memory_is_no_damage : {sector : ℕ} → read_error.OutOfMemory ≡ read_error.Damaged sector → ⊥
memory_is_no_damage is = absurd (cc)

pub fault_is_no_damage : {sector : ℕ} → read_error.Fault ≡ read_error.Damaged sector → ⊥
fault_is_no_damage is = absurd (cc)

pub damage_is_no_fault : {T P : Type 0} {sector : ℕ} → IsErrOf {T = T} {E = read_error.the_data} (Err (read_error.Damaged sector)) read_error.Fault → P
damage_is_no_fault is = absurd (cc)

pub fault_is_no_room : append_error.Fault ≡ append_error.NoRoom → ⊥
fault_is_no_room is = absurd (cc)

pub fault_is_no_memory : append_error.Fault ≡ append_error.OutOfMemory → ⊥
fault_is_no_memory is = absurd (cc)

-- which sector is damaged
pub damaged_at : {T : Type 0} {a b : ℕ} → IsErrOf {T = T} {E = read_error.the_data} (Err (read_error.Damaged a)) (read_error.Damaged b) → a ≡ b
damaged_at is = cc

-- ## A disk

pub same_disk : (disk : DiskView) → IsSameDisk disk disk
same_disk disk = record { sectors = refl; honest = (λ h. h, λ h. h) }

pub same_more : {a b c : DiskView} → IsSameDisk a b → IsSameDisk b c → IsSameDisk a c
same_more first second = record {
  sectors = second.sectors ∙ first.sectors;
  honest = (λ h. first.honest.0 (second.honest.0 h), λ h. second.honest.1 (first.honest.1 h));
}

-- a count that rose and did not fall since, or did not fall and rose then
pub risen_then : {a b c : ℕ} → HasRisen a b → b ≤ c → HasRisen a c
risen_then {a} {b} {c} risen later below =
    let low : a < b = risen (omega arith) in
    omega arith

pub then_risen : {a b c : ℕ} → a ≤ b → HasRisen b c → HasRisen a c
then_risen {a} {b} {c} later risen below =
    let low : b < c = risen below in
    omega arith

pub later_more : {a b c : ℕ} → a ≤ b → b ≤ c → a ≤ c
later_more {a} {b} {c} first second = omega arith

-- no call was made
pub none_read : (disk : DiskView) (count : ℕ) → OnlyReads disk disk count count
none_read disk count = record {
  same = same_disk disk;
  later = omega arith;
  untouched = λ honest. untouched_at_first disk;
}

-- one read
pub one_read : {old new : DiskView} {before now at size : ℕ} {out : List ℕ} {result : Result (Unit {0}) Fault} → IsSameDisk old new → HasCause before now result
    → ReadsHonestly old new at size out result → OnlyReads old new before now
one_read same cause read = record {
  same = same;
  later = cause.later;
  untouched = λ honest. (read honest).untouched;
}

-- and more of them
pub reads_more : {a b c : DiskView} {x y z : ℕ} → OnlyReads a b x y → OnlyReads b c y z → OnlyReads a c x z
reads_more first second = record {
  same = same_more first.same second.same;
  later = later_more first.later second.later;
  untouched = λ honest. untouched_more (first.untouched honest) (second.untouched (first.same.honest.1 honest));
}

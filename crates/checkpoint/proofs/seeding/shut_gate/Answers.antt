use Rattle.std.proofs.Common.{◌≡◌, ◌⊎◌, ℕ, ◌+◌, Bool, true, false, List, Result, OnOk, refl, sym, ◌∙◌, ap, subst, arith}
use Rattle.std.proofs.lemmas.Bool.{cases_Bool}
use Rattle.std.proofs.lemmas.Result.{on_ok_weaker}
use Rattle.sector_disk.specs.declared.disk.Fault.{Fault}
use Rattle.sector_disk.specs.Disk.{DiskView, IsDisk, HasOneImage, IsSameDisk, IsUntouched}
use Rattle.sector_disk.specs.Moments.{LeavesOnly}
use Rattle.sector_disk.specs.laws.Moments.{started, reads, joined}
use Rattle.gate_journal.specs.Frames.{is_open}
use Rattle.checkpoint.specs.Image.{sector_at}
use Rattle.checkpoint.specs.Pieces.{DiffersWithin}
use Rattle.checkpoint.specs.SwitchSteps.{OnSettled, HasGate, IsBeingClosed, IsRewritten, Rewrites}
use Rattle.checkpoint.proofs.Rewrites.{nothing_differs}
use Rattle.checkpoint.proofs.Seeds.{Shutting}
use Rattle.checkpoint.proofs.seeding.shut_gate.Goals as goal

module _ {D : Type 0} (view : D → DiskView) (laws : (disk : D) → (view disk).honest → IsDisk (view disk)) (old mid : D) (sector : ℕ) (honest : (view old).honest) (settled : HasOneImage (view old))
    (same : IsSameDisk (view old) (view mid)) (call : (view old).honest → IsUntouched (view old) (view mid)) where
  -- a stop while the gate is read leaves what there was
  read_leaves : LeavesOnly (view old) (view mid) (Shutting sector (view old).content)
  read_leaves =
      let first : Shutting sector (view old).content (view old).content =
      (nothing_differs sector (sector + 1) (view old).content, cases_Bool (is_open (sector_at sector (view old).content))) in
      (reads view laws (view old) old mid _
      (started view laws old (Shutting sector (view old).content) honest (λ image left. subst (Shutting sector (view old).content) (sym (settled image left)) first))
      same call).leaves

  still_settled : HasOneImage (view mid)
  still_settled image left = settled image (((call honest).images image).0 left) ∙ sym (call honest).content

  -- once it is read, and found open or closed
  module _ (new : D) (was : Bool) (gate : is_open (sector_at sector (view old).content) ≡ was) where
    gate_there : HasGate (view mid) sector was
    gate_there = ap (λ (l : List ℕ). is_open (sector_at sector l)) (call honest).content ∙ gate

    closing_leaves : OnSettled (view mid) (HasGate (view mid) sector was → LeavesOnly (view mid) (view new) (IsBeingClosed sector was (view mid).content))
        → LeavesOnly (view old) (view new) (Shutting sector (view old).content)
    closing_leaves closes =
        joined read_leaves (closes (same.honest.1 honest) still_settled gate_there) (Shutting sector (view old).content) (λ image is. is)
        (λ image is. (
          subst (λ (l : List ℕ). DiffersWithin sector (sector + 1) l image) (call honest).content is.0,
          subst (λ (b : Bool). (b ≡ true) ⊎ (is_open (sector_at sector image) ≡ false)) (sym gate) is.1,
        ))

    closed : (result : Result (Unit {0}) Fault)
        → (HasGate (view mid) sector was → Rewrites (view mid) (view new) sector (sector + 1) result (λ content. is_open (sector_at sector content) ≡ false))
        → OnOk result (IsRewritten (view old) (view new) sector (sector + 1) × (is_open (sector_at sector (view new).content) ≡ false))
    closed result closes =
        on_ok_weaker result
        (λ done. (
          record { settled = done.0.settled; differs = subst (λ (l : List ℕ). DiffersWithin sector (sector + 1) l (view new).content) (call honest).content done.0.differs },
          done.1,
        ))
        (closes gate_there (same.honest.1 honest) still_settled)

pub returns-in_err-read-clause-same : goal.returns-in_err-read-clause-same
returns-in_err-read-clause-same g c = c.read.ensures.same

pub returns-in_err-read-clause-cause : goal.returns-in_err-read-clause-cause
returns-in_err-read-clause-cause g c = record { later = c.read.ensures.cause.later; risen = λ err. c.in_err-read.ensures.cause.risen refl }

pub returns-in_err-read-clause-any_moment : goal.returns-in_err-read-clause-any_moment
returns-in_err-read-clause-any_moment g c honest settled =
    read_leaves g.D.Disk.view g.met.D.Disk.laws c.args.disk.now c.read.new.self c.args.sector honest settled c.read.ensures.same (λ is. (c.read.ensures.honest is).untouched)

pub returns-clause-cause : goal.returns-clause-cause
returns-clause-cause g c = record {
  later = omega (arith, c.read.ensures.cause.later, c.close_gate.ensures.cause.later);
  risen = λ err high. omega (arith, c.read.ensures.cause.later, c.close_gate.ensures.cause.risen err high);
}

pub returns-clause-any_moment : goal.returns-clause-any_moment
returns-clause-any_moment g c honest settled =
    closing_leaves g.D.Disk.view g.met.D.Disk.laws c.args.disk.now c.read.new.self c.args.sector honest settled c.read.ensures.same (λ is. (c.read.ensures.honest is).untouched)
    c.close_gate.new.disk _ (ap is_open (sym (c.in_ok-read.ensures.honest honest).bytes)) c.close_gate.ensures.any_moment

pub returns-clause-written : goal.returns-clause-written
returns-clause-written g c honest settled =
    closed g.D.Disk.view g.met.D.Disk.laws c.args.disk.now c.read.new.self c.args.sector honest settled c.read.ensures.same (λ is. (c.read.ensures.honest is).untouched)
    c.close_gate.new.disk _ (ap is_open (sym (c.in_ok-read.ensures.honest honest).bytes)) c.close_gate.result c.close_gate.ensures.written

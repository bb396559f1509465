-- What a stop might have left, over several calls: how runs of calls are joined, and what each call adds.
use Rattle.std.specs.Prelude.{ℕ, List, length, Result, Ok, Err, refl}
use Rattle.std.proofs.Common.{inl, inr, ⊎_elim, sym, ◌∙◌, subst, arith}
use Rattle.sector_disk.specs.declared.disk.Fault.{Fault}
use Rattle.sector_disk.specs.Disk.{DiskView, IsDisk, IsSameDisk, MayDiffer, Elapses, IsUntouched, IsWrite, IsBarrier}
use Rattle.sector_disk.specs.Moments.{LeavesOnly}

-- one run after another
pub joined : {a b c : DiskView} {P Q : List ℕ → Type 0} → LeavesOnly a b P → LeavesOnly b c Q → (R : List ℕ → Type 0) → ((image : List ℕ) → P image → R image)
    → ((image : List ℕ) → Q image → R image) → LeavesOnly a c R
joined {a} first second R from_p from_q = record {
  later = omega (arith, first.later, second.later);
  each = λ image left. ⊎_elim (λ was. from_p image (first.each image was)) (from_q image) (second.before a.moment image first.later left);
  before = λ t image le left.
      ⊎_elim (λ was. ⊎_elim (λ still. inl still) (λ is. inr (from_p image is)) (first.before t image le was)) (λ is. inr (from_q image is))
      (second.before t image (omega (arith, le, first.later)) left);
}

-- no call at all
pub untouched_at_first : (disk : DiskView) → IsUntouched disk disk
untouched_at_first disk = record {
  content = refl;
  images = λ image. (λ left. left, λ left. left);
  time = record { later = omega arith; nothing_else = λ t image le left. inl left; keeps = λ t image le left. left };
}

-- one read after others
pub untouched_more : {a b c : DiskView} → IsUntouched a b → IsUntouched b c → IsUntouched a c
untouched_more first second = record {
  content = second.content ∙ first.content;
  images = λ image. (λ left. (first.images image).0 ((second.images image).0 left), λ left. (second.images image).1 ((first.images image).1 left));
  time = record {
    later = omega (arith, first.time.later, second.time.later);
    nothing_else = λ t image le left.
        ⊎_elim (λ was. ⊎_elim (λ still. inl still) (λ now. inr ((second.images image).1 now)) (first.time.nothing_else t image le was)) (λ now. inr now)
        (second.time.nothing_else t image (omega (arith, le, first.time.later)) left);
    keeps = λ t image le left. second.time.keeps t image (omega (arith, le, first.time.later)) (first.time.keeps t image le left);
  };
}

-- since old, an honest disk has only had images that have P
pub record Run (old new : DiskView) (P : List ℕ → Type 0) : Type 0 where
  pub honest : new.honest
  pub disk : IsDisk new
  pub now : (image : List ℕ) → new.may_leave image → P image
  pub leaves : LeavesOnly old new P

module _ {D : Type 0} (view : D → DiskView) (laws : (disk : D) → (view disk).honest → IsDisk (view disk)) where
  -- before the first call
  pub started : (old : D) (P : List ℕ → Type 0) → (view old).honest → ((image : List ℕ) → (view old).may_leave image → P image) → Run (view old) (view old) P
  started old P honest now =
      let disk = laws old honest in
      record {
        honest = honest;
        disk = disk;
        now = now;
        leaves = record { later = omega arith; each = λ image left. now image (disk.only_now image left); before = λ t image le left. inl left };
      }

  -- one more call, after which each image has P
  pub goes_on : (old : DiskView) (mid new : D) (P : List ℕ → Type 0) → Run old (view mid) P → IsSameDisk (view mid) (view new) → Elapses (view mid) (view new)
      → ((image : List ℕ) → (view new).may_leave image → P image) → Run old (view new) P
  goes_on old mid new P run same time now =
      let honest = same.honest.1 run.honest in
      record {
        honest = honest;
        disk = laws new honest;
        now = now;
        leaves = record {
          later = omega (arith, run.leaves.later, time.later);
          each = λ image left. ⊎_elim (run.leaves.each image) (now image) (time.nothing_else old.moment image run.leaves.later left);
          before = λ t image le left.
              ⊎_elim (run.leaves.before t image le) (λ is. inr (now image is)) (time.nothing_else t image (omega (arith, le, run.leaves.later)) left);
        };
      }

  -- reads leave what there was
  pub reads : (old : DiskView) (mid new : D) (P : List ℕ → Type 0) → Run old (view mid) P → IsSameDisk (view mid) (view new)
      → ((view mid).honest → IsUntouched (view mid) (view new)) → Run old (view new) P
  reads old mid new P run same call =
      let read = call run.honest in goes_on old mid new P run same read.time (λ image left. run.now image ((read.images image).0 left))

  -- a write may change the written sectors
  pub writes : (old : DiskView) (mid new : D) (P : List ℕ → Type 0) (at : ℕ) (bytes : List ℕ) (result : Result (Unit {0}) Fault) → Run old (view mid) P → IsSameDisk (view mid) (view new)
      → ((view mid).honest → IsWrite (view mid) (view new) at bytes result)
      → ((earlier image : List ℕ) → (view mid).may_leave earlier → MayDiffer at (length bytes) earlier image → P image) → Run old (view new) P
  writes old mid new P at bytes result run same call step =
      let write = call run.honest in
      goes_on old mid new P run same write.time (λ image left. let was = write.images image left in step was.0 image was.1 was.2)

  -- a barrier leaves some of what there was
  pub settles : (old : DiskView) (mid new : D) (P : List ℕ → Type 0) (result : Result (Unit {0}) Fault) → Run old (view mid) P → IsSameDisk (view mid) (view new)
      → ((view mid).honest → IsBarrier (view mid) (view new) result) → Run old (view new) P
  settles old mid new P (Ok done) run same call =
      let barrier = call run.honest in
      goes_on old mid new P run same barrier.time (λ image left. subst P (sym (barrier.done image left ∙ barrier.content)) (run.now (view mid).content run.disk.reads_an_image))
  settles old mid new P (Err fault) run same call =
      let barrier = call run.honest in goes_on old mid new P run same barrier.time (λ image left. run.now image ((barrier.failed image).0 left))

-- what a stop leaves has less asked of it
pub leaves_weaker : {old new : DiskView} {P : List ℕ → Type 0} (Q : List ℕ → Type 0) → ((image : List ℕ) → P image → Q image) → LeavesOnly old new P → LeavesOnly old new Q
leaves_weaker Q weaker leaves = record {
  later = leaves.later;
  each = λ image left. weaker image (leaves.each image left);
  before = λ t image le left. ⊎_elim (λ was. inl was) (λ is. inr (weaker image is)) (leaves.before t image le left);
}

use Rattle.std.proofs.Common.{refl, List, sym, ◌∙◌, subst}
use Rattle.sector_disk.specs.declared.replay.Call.{Call}
use Rattle.sector_disk.specs.declared.replay.Call.TheVariants.{Barrier}
use Rattle.sector_disk.specs.Replay.{IsImage}
use Rattle.sector_disk.proofs.Calls.{images-barrier, no_shorter, left_before, left_after}
use Rattle.sector_disk.proofs.MemoryFiles.{sync_is}
use Rattle.sector_disk.proofs.memory_file.MemFileRandomAccessFile.sync.Goals as goal

pub invariant_of-self : goal.invariant_of-self
invariant_of-self c =
    let file = c.args.self.now in
    record {
      replayed = sync_is c.record.result file.first.items file.bytes.items file.calls.items c.record.new.calls.items c.record.ensures.ok c.record.ensures.err file.replayed;
    }

pub returns-in-Ok-clause-honest : goal.returns-in-Ok-clause-honest
returns-in-Ok-clause-honest c honest sectors =
    let file = c.args.self.now in
    let later = c.record.new.calls.items in
    record {
      content = refl;
      done = λ image left.
          images-barrier file.calls.items file.first.items _ image (subst (λ (cs : List Call). IsImage file.first.items cs image) c.in-Ok.ensures.ok left)
          ∙ sym file.replayed;
      failed = tt;
      time = record {
        later = no_shorter file.first.items file.calls.items later Barrier c.in-Ok.ensures.ok;
        nothing_else = λ t image le left. left_after file.first.items file.calls.items later Barrier c.in-Ok.ensures.ok t image left;
        keeps = λ t image le left. left_before file.first.items file.calls.items later Barrier c.in-Ok.ensures.ok t image left;
      };
    }

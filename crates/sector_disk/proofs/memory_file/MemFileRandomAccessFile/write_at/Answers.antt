use Rattle.std.proofs.Common.{◌≡◌, List, length, take, refl, sym, ◌∙◌, ap, subst, arith}
use Rattle.std.proofs.lemmas.List.{with_items_is}
use Rattle.sector_disk.specs.declared.replay.Call.{Call}
use Rattle.sector_disk.specs.Disk.{Holds}
use Rattle.sector_disk.specs.Replay.{overwritten, content_after}
use Rattle.sector_disk.proofs.Calls.{content-write}
use Rattle.sector_disk.proofs.MemoryFiles.{write_is}
use Rattle.sector_disk.proofs.memory_file.MemFileRandomAccessFile.write_at.Goals as goal

pub invariant_of-self : goal.invariant_of-self
invariant_of-self c =
    let file = c.args.self.now in
    let call = c.in-Ok.ensures.ok in
    let from = c.min-from.result in
    let size : length c.overwrite.new.content ≡ file.bytes.len = omega (arith, c.deref_mut.ensures.len, file.bytes.ok.0) in
    record {
      replayed = with_items_is file.bytes c.overwrite.new.content size
          ∙ c.overwrite.ensures.overwritten
          ∙ (λ i. overwritten ((c.deref_mut.ensures.value ∙ file.replayed) i) from (sym call.1 i))
          ∙ sym (content-write file.calls.items file.first.items from call.0)
          ∙ ap (λ (cs : List Call). content_after cs file.first.items) (sym call.2);
    }

pub returns-in-Ok-clause-honest : goal.returns-in-Ok-clause-honest
returns-in-Ok-clause-honest c honest fits =
    let file = c.args.self.now in
    let call = c.in-Ok.ensures.ok in
    let from = c.min-from.result in
    let count = c.min-count.result in
    let bytes = c.args.bytes.now in
    let size : length c.overwrite.new.content ≡ file.bytes.len = omega (arith, c.deref_mut.ensures.len, file.bytes.ok.0) in
    write_is file.first.items file.calls.items c.record_write.new.calls.items file.bytes.items _ bytes (take count bytes) c.args.at from count call.0
    fits (omega (arith, fits, file.bytes.ok.0)) (omega arith) refl call.2 call.1
    (with_items_is file.bytes c.overwrite.new.content size ∙ subst (λ (l : List _). Holds l from (take count bytes) c.overwrite.new.content) c.deref_mut.ensures.value c.overwrite.ensures.holds)

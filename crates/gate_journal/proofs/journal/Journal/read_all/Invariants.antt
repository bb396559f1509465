use Rattle.std.proofs.Common.{◌≡◌, ◌+◌, ◌-◌, ◌^◌, ◌≤◌, length}
use Rattle.gate_journal.specs.Frames.{frames_in, with_first}
use Rattle.gate_journal.specs.Steps.{OnlyReads}
use Rattle.gate_journal.proofs.journal.Journal.read_all.Given as goal

abbrev pub invariant-loop-found : goal.invariant-loop-found
invariant-loop-found g l =
    let view = g.D.Disk.view in
    record {
      reads : OnlyReads (view l.initial.disk) (view l.disk) (g.D.Disk.fault_count l.initial.disk) (g.D.Disk.fault_count l.disk);
      generation : l.left.generation ≡ l.area.generation;
      end : l.left.end ≡ l.area.end;
      forward : l.left.start ≤ l.left.end;
      number : l.left.number ≡ l.area.number + length l.found.items;
      below : l.left.number ≤ 2 ^ 62 + 1;
      frames : (view l.initial.disk).honest → frames_in l.area (view l.initial.disk).content ≡ with_first l.found.items (frames_in l.left (view l.initial.disk).content);
    }

abbrev pub decreases-loop-found : goal.decreases-loop-found
decreases-loop-found g l = l.left.end - l.left.start

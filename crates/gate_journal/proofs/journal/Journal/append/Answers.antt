use Rattle.std.proofs.Common.{Result, Ok, ◌≡◌, ◌+◌, ◌*◌, ◌^◌, ◌<◌, ◌≤◌, ℕ, List, ◌++◌, true, length, length-append, replicate, refl, sym, ◌∙◌, ap, subst, arith}
use Rattle.std.proofs.lemmas.Bool.{leb-true}
use Rattle.std.specs.Prelude.{All}
use Rattle.invoke_records.specs.declared.command.Command.{Command}
use Rattle.invoke_records.specs.Spelling.{IsCommand, commands_text}
use Rattle.invoke_records.specs.laws.Commands.{command_again}
use Rattle.sector_disk.specs.declared.disk.Fault.{Fault}
use Rattle.sector_disk.specs.Disk.{IsWrite}
use Rattle.gate_journal.specs.declared.area.Area.{Area}
use Rattle.gate_journal.specs.declared.journal.Journal.{Journal}
use Rattle.gate_journal.specs.Frames.{Frames, body_text, body_sectors}
use Rattle.gate_journal.specs.Journal.{Holds, generation_of, number_of, next_of, end_of, fits}
use Rattle.gate_journal.proofs.Written.{IsSpelled, spelled, body_length}
use Rattle.gate_journal.proofs.Append.{Batch, body_run, body_settled, gate_run, gate_settled, appended}
use Rattle.std.proofs.lemmas.Result.{IfOk-from_err}
use Rattle.gate_journal.proofs.Exits.{no_other, no_other_where, with_error, no_error, no_error_where, fault_is_no_room, fault_is_no_memory, same_disk, same_more, later_more, then_risen}
use Rattle.gate_journal.proofs.journal.Journal.append.Given.{Over}
use Rattle.gate_journal.proofs.journal.Journal.append.Goals as goal
use Rattle.gate_journal.proofs.journal.Journal.append.Goals.{After-deref}

module _ (journal : Journal) (commands : List Command) (good : All IsCommand commands) (few : length commands ≤ 256) (numbers : number_of journal + length commands ≤ 2 ^ 62 + 1)
    (generation : generation_of journal < 2 ^ 64) (short : length (commands_text commands) ≤ 1048607 * 256) (room : fits journal (length (commands_text commands)) ≡ true)
    (content : List ℕ) (sectors : ℕ) (size : length content ≡ 512 * sectors) (inside : end_of journal ≤ sectors) where
  text_spelled : IsSpelled (generation_of journal) (number_of journal) commands (body_text (generation_of journal) (number_of journal) commands)
  text_spelled = spelled command_again (generation_of journal) (number_of journal) commands good generation numbers (omega arith) (omega arith)

  abbrev batch : (area : Area) (frames : Frames) → Holds area frames journal content → Batch content
  batch area frames holds = record {
    area = area;
    frames = frames;
    next = next_of journal;
    commands = commands;
    text = body_text (generation_of journal) (number_of journal) commands;
    gate = replicate 512 0;
    reads = holds.reads;
    next_is = holds.next;
    inside = omega (arith, holds.end);
    spelled = subst (λ (m : ℕ). IsSpelled area.generation m commands (body_text (generation_of journal) (number_of journal) commands)) holds.number
        (subst (λ (g : ℕ). IsSpelled g (number_of journal) commands (body_text (generation_of journal) (number_of journal) commands)) holds.generation text_spelled);
    room = omega (arith, leb-true _ _ room, holds.next, holds.end);
    whole = refl;
    shut = refl;
  }

-- before the first call of the disk
abbrev made : (g : Over) (c : After-deref g) → (g.D.Disk.view c.args.disk.now).honest → (area : Area) (frames : Frames)
    → Holds area frames c.args.self.now (g.D.Disk.view c.args.disk.now).content → Batch (g.D.Disk.view c.args.disk.now).content
made g c honest area frames holds =
    let commands = c.args.commands.now in
    let journal = c.args.self.now in
    let short : length (commands_text commands) ≤ 1048607 * 256 = omega arith in
    let room : fits journal (length (commands_text commands)) ≡ true = ap (fits journal) (sym c.batch_size-size.ensures.size) ∙ sym c.if-not-fits.ensures in
    batch journal commands c.in_ok-frame.ensures.spelled c.requires.count c.requires.numbers (omega arith) short room (g.D.Disk.view c.args.disk.now).content
    (g.D.Disk.view c.args.disk.now).sectors (g.met.D.Disk.laws c.args.disk.now honest).size c.requires.room area frames holds

-- what is written is the frame
abbrev framed : (g : Over) (c : After-deref g) (disk : g.row.D.Denot) (result : Result (Unit {0}) Fault)
    → ((g.D.Disk.view c.args.disk.now).honest → IsWrite (g.D.Disk.view c.args.disk.now) (g.D.Disk.view disk) (512 * (c.args.self.now.next + 1)) c.deref.result.now result)
    → (g.D.Disk.view c.args.disk.now).honest
    → IsWrite (g.D.Disk.view c.args.disk.now) (g.D.Disk.view disk) (512 * (c.args.self.now.next + 1))
    (body_text c.args.self.now.generation c.args.self.now.number c.args.commands.now ++ replicate 512 0) result
framed g c disk result write honest =
    subst (λ (l : List ℕ). IsWrite (g.D.Disk.view c.args.disk.now) (g.D.Disk.view disk) (512 * (c.args.self.now.next + 1)) l result)
    (c.deref.ensures.value ∙ c.in_ok-frame.ensures.frame) (write honest)

frame_length : (g : Over) (c : After-deref g) → length c.in_ok-frame.frame.items ≡ 512 * (body_sectors (length (commands_text c.args.commands.now)) + 1)
frame_length g c =
    let commands = c.args.commands.now in
    let text = body_text c.args.self.now.generation c.args.self.now.number commands in
    ap length c.in_ok-frame.ensures.frame ∙ omega (arith, length-append text (replicate {A = ℕ} 512 0), body_length c.args.self.now.generation c.args.self.now.number commands)

pub returns-in_err-write-clause-any_moment : goal.returns-in_err-write-clause-any_moment
returns-in_err-write-clause-any_moment g c honest settled area frames holds =
    let s = (goal.at.returns-in_err-write-clause-any_moment g c).After-deref in
    (body_run g.D.Disk.view g.met.D.Disk.laws c.args.disk.now (made g s honest area frames holds) honest settled
    c.write.new.self c.write.result c.write.ensures.same (framed g s c.write.new.self c.write.result c.write.ensures.honest)).leaves

pub returns-in_err-barrier-clause-any_moment : goal.returns-in_err-barrier-clause-any_moment
returns-in_err-barrier-clause-any_moment g c honest settled area frames holds =
    let s = (goal.at.returns-in_err-barrier-clause-any_moment g c).After-deref in
    (body_settled g.D.Disk.view g.met.D.Disk.laws c.args.disk.now (made g s honest area frames holds) honest settled
    c.write.new.self c.write.result c.write.ensures.same (framed g s c.write.new.self c.write.result c.write.ensures.honest)
    c.barrier.new.self c.barrier.result c.barrier.ensures.same c.barrier.ensures.honest).leaves

pub returns-in_err-write-2-clause-any_moment : goal.returns-in_err-write-2-clause-any_moment
returns-in_err-write-2-clause-any_moment g c honest settled area frames holds =
    let s = (goal.at.returns-in_err-write-2-clause-any_moment g c).After-deref in
    (gate_run g.D.Disk.view g.met.D.Disk.laws c.args.disk.now (made g s honest area frames holds) honest settled
    c.write.new.self c.write.result c.write.ensures.same (framed g s c.write.new.self c.write.result c.write.ensures.honest)
    c.barrier.new.self c.barrier.result c.barrier.ensures.same c.barrier.ensures.honest
    (framed g s c.write.new.self (Ok tt) c.in_ok-write.ensures.honest) c.in_ok-barrier.ensures.honest _ c.open_gate-gate.ensures.whole
    c.write-2.new.self c.write-2.result c.write-2.ensures.same c.write-2.ensures.honest).leaves

pub returns-in_err-barrier-2-clause-any_moment : goal.returns-in_err-barrier-2-clause-any_moment
returns-in_err-barrier-2-clause-any_moment g c honest settled area frames holds =
    let s = (goal.at.returns-in_err-barrier-2-clause-any_moment g c).After-deref in
    (gate_settled g.D.Disk.view g.met.D.Disk.laws c.args.disk.now (made g s honest area frames holds) honest settled
    c.write.new.self c.write.result c.write.ensures.same (framed g s c.write.new.self c.write.result c.write.ensures.honest)
    c.barrier.new.self c.barrier.result c.barrier.ensures.same c.barrier.ensures.honest
    (framed g s c.write.new.self (Ok tt) c.in_ok-write.ensures.honest) c.in_ok-barrier.ensures.honest _ c.open_gate-gate.ensures.whole
    c.write-2.new.self c.write-2.result c.write-2.ensures.same c.write-2.ensures.honest
    c.barrier-2.new.self c.barrier-2.result c.barrier-2.ensures.same c.barrier-2.ensures.honest).leaves

pub returns-clause-any_moment : goal.returns-clause-any_moment
returns-clause-any_moment g c honest settled area frames holds =
    let s = (goal.at.returns-clause-any_moment g c).After-deref in
    (gate_settled g.D.Disk.view g.met.D.Disk.laws c.args.disk.now (made g s honest area frames holds) honest settled
    c.write.new.self c.write.result c.write.ensures.same (framed g s c.write.new.self c.write.result c.write.ensures.honest)
    c.barrier.new.self c.barrier.result c.barrier.ensures.same c.barrier.ensures.honest
    (framed g s c.write.new.self (Ok tt) c.in_ok-write.ensures.honest) c.in_ok-barrier.ensures.honest _ c.open_gate-gate.ensures.whole
    c.write-2.new.self c.write-2.result c.write-2.ensures.same c.write-2.ensures.honest
    c.barrier-2.new.self c.barrier-2.result c.barrier-2.ensures.same c.barrier-2.ensures.honest).leaves

pub returns-clause-acknowledged : goal.returns-clause-acknowledged
returns-clause-acknowledged g c honest settled area frames holds =
    let s = (goal.at.returns-clause-acknowledged g c).After-deref in
    let now = appended g.D.Disk.view g.met.D.Disk.laws c.args.disk.now (made g s honest area frames holds) honest settled
    c.write.new.self c.write.result c.write.ensures.same (framed g s c.write.new.self c.write.result c.write.ensures.honest)
    c.barrier.new.self c.barrier.result c.barrier.ensures.same c.barrier.ensures.honest
    (framed g s c.write.new.self (Ok tt) c.in_ok-write.ensures.honest) c.in_ok-barrier.ensures.honest _ c.open_gate-gate.ensures.whole
    c.write-2.new.self c.write-2.result c.write-2.ensures.same c.write-2.ensures.honest
    c.barrier-2.new.self c.open_gate-gate.ensures.opened c.in_ok-write-2.ensures.honest c.in_ok-barrier-2.ensures.honest in (
      now.0,
      record {
        reads = now.1;
        next = omega (arith, holds.next, c.len.ensures, c.in_ok-frame.frame.ok.0, frame_length g s);
        number = omega (arith, holds.number);
        end = holds.end;
        generation = holds.generation;
      },
      now.2,
    )

pub returns-in_err-frame-clause-same : goal.returns-in_err-frame-clause-same
returns-in_err-frame-clause-same g c = same_disk (g.D.Disk.view c.args.disk.now)

pub returns-in_err-frame-clause-err : goal.returns-in_err-frame-clause-err
returns-in_err-frame-clause-err g c = with_error _ refl

pub returns-in_err-frame-clause-end : goal.returns-in_err-frame-clause-end
returns-in_err-frame-clause-end g c = refl

pub returns-in_err-frame-clause-generation : goal.returns-in_err-frame-clause-generation
returns-in_err-frame-clause-generation g c = refl

pub returns-in_err-frame-clause-number : goal.returns-in_err-frame-clause-number
returns-in_err-frame-clause-number g c = IfOk-from_err _ _ c.from_residual.ensures.0

pub returns-in_err-frame-clause-acknowledged : goal.returns-in_err-frame-clause-acknowledged
returns-in_err-frame-clause-acknowledged g c honest settled area frames holds = IfOk-from_err _ _ c.from_residual.ensures.0

pub returns-in_err-write-clause-same : goal.returns-in_err-write-clause-same
returns-in_err-write-clause-same g c = c.write.ensures.same

pub returns-in_err-write-clause-later : goal.returns-in_err-write-clause-later
returns-in_err-write-clause-later g c = c.write.ensures.cause.later

pub returns-in_err-write-clause-fault : goal.returns-in_err-write-clause-fault
returns-in_err-write-clause-fault g c is = c.in_err-write.ensures.cause.risen refl

pub returns-in_err-write-clause-no_room : goal.returns-in_err-write-clause-no_room
returns-in_err-write-clause-no_room g c = no_other_where _ fault_is_no_room c.from_residual-in_err-write.ensures.1 (ap (fits c.args.self.now) (sym c.batch_size-size.ensures.size) ∙ sym c.if-not-fits.ensures)

pub returns-in_err-write-clause-no_call : goal.returns-in_err-write-clause-no_call
returns-in_err-write-clause-no_call g c is = no_other _ fault_is_no_room c.from_residual-in_err-write.ensures.1 is

pub returns-in_err-write-clause-no_call_either : goal.returns-in_err-write-clause-no_call_either
returns-in_err-write-clause-no_call_either g c is = no_other _ fault_is_no_memory c.from_residual-in_err-write.ensures.1 is

pub returns-in_err-write-clause-err : goal.returns-in_err-write-clause-err
returns-in_err-write-clause-err g c = with_error _ refl

pub returns-in_err-write-clause-end : goal.returns-in_err-write-clause-end
returns-in_err-write-clause-end g c = refl

pub returns-in_err-write-clause-generation : goal.returns-in_err-write-clause-generation
returns-in_err-write-clause-generation g c = refl

pub returns-in_err-write-clause-number : goal.returns-in_err-write-clause-number
returns-in_err-write-clause-number g c = IfOk-from_err _ _ c.from_residual-in_err-write.ensures.0

pub returns-in_err-write-clause-acknowledged : goal.returns-in_err-write-clause-acknowledged
returns-in_err-write-clause-acknowledged g c honest settled area frames holds = IfOk-from_err _ _ c.from_residual-in_err-write.ensures.0

pub returns-in_err-barrier-clause-same : goal.returns-in_err-barrier-clause-same
returns-in_err-barrier-clause-same g c = same_more c.write.ensures.same c.barrier.ensures.same

pub returns-in_err-barrier-clause-later : goal.returns-in_err-barrier-clause-later
returns-in_err-barrier-clause-later g c = later_more c.write.ensures.cause.later c.barrier.ensures.cause.later

pub returns-in_err-barrier-clause-fault : goal.returns-in_err-barrier-clause-fault
returns-in_err-barrier-clause-fault g c is = then_risen c.write.ensures.cause.later (c.in_err-barrier.ensures.cause.risen refl)

pub returns-in_err-barrier-clause-no_room : goal.returns-in_err-barrier-clause-no_room
returns-in_err-barrier-clause-no_room g c = no_other_where _ fault_is_no_room c.from_residual-in_err-barrier.ensures.1 (ap (fits c.args.self.now) (sym c.batch_size-size.ensures.size) ∙ sym c.if-not-fits.ensures)

pub returns-in_err-barrier-clause-no_call : goal.returns-in_err-barrier-clause-no_call
returns-in_err-barrier-clause-no_call g c is = no_other _ fault_is_no_room c.from_residual-in_err-barrier.ensures.1 is

pub returns-in_err-barrier-clause-no_call_either : goal.returns-in_err-barrier-clause-no_call_either
returns-in_err-barrier-clause-no_call_either g c is = no_other _ fault_is_no_memory c.from_residual-in_err-barrier.ensures.1 is

pub returns-in_err-barrier-clause-err : goal.returns-in_err-barrier-clause-err
returns-in_err-barrier-clause-err g c = with_error _ refl

pub returns-in_err-barrier-clause-end : goal.returns-in_err-barrier-clause-end
returns-in_err-barrier-clause-end g c = refl

pub returns-in_err-barrier-clause-generation : goal.returns-in_err-barrier-clause-generation
returns-in_err-barrier-clause-generation g c = refl

pub returns-in_err-barrier-clause-number : goal.returns-in_err-barrier-clause-number
returns-in_err-barrier-clause-number g c = IfOk-from_err _ _ c.from_residual-in_err-barrier.ensures.0

pub returns-in_err-barrier-clause-acknowledged : goal.returns-in_err-barrier-clause-acknowledged
returns-in_err-barrier-clause-acknowledged g c honest settled area frames holds = IfOk-from_err _ _ c.from_residual-in_err-barrier.ensures.0

pub returns-in_err-write-2-clause-same : goal.returns-in_err-write-2-clause-same
returns-in_err-write-2-clause-same g c = same_more (same_more c.write.ensures.same c.barrier.ensures.same) c.write-2.ensures.same

pub returns-in_err-write-2-clause-later : goal.returns-in_err-write-2-clause-later
returns-in_err-write-2-clause-later g c = later_more (later_more c.write.ensures.cause.later c.barrier.ensures.cause.later) c.write-2.ensures.cause.later

pub returns-in_err-write-2-clause-fault : goal.returns-in_err-write-2-clause-fault
returns-in_err-write-2-clause-fault g c is = then_risen (later_more c.write.ensures.cause.later c.barrier.ensures.cause.later) (c.in_err-write-2.ensures.cause.risen refl)

pub returns-in_err-write-2-clause-no_room : goal.returns-in_err-write-2-clause-no_room
returns-in_err-write-2-clause-no_room g c = no_other_where _ fault_is_no_room c.from_residual-in_err-write-2.ensures.1 (ap (fits c.args.self.now) (sym c.batch_size-size.ensures.size) ∙ sym c.if-not-fits.ensures)

pub returns-in_err-write-2-clause-no_call : goal.returns-in_err-write-2-clause-no_call
returns-in_err-write-2-clause-no_call g c is = no_other _ fault_is_no_room c.from_residual-in_err-write-2.ensures.1 is

pub returns-in_err-write-2-clause-no_call_either : goal.returns-in_err-write-2-clause-no_call_either
returns-in_err-write-2-clause-no_call_either g c is = no_other _ fault_is_no_memory c.from_residual-in_err-write-2.ensures.1 is

pub returns-in_err-write-2-clause-err : goal.returns-in_err-write-2-clause-err
returns-in_err-write-2-clause-err g c = with_error _ refl

pub returns-in_err-write-2-clause-end : goal.returns-in_err-write-2-clause-end
returns-in_err-write-2-clause-end g c = refl

pub returns-in_err-write-2-clause-generation : goal.returns-in_err-write-2-clause-generation
returns-in_err-write-2-clause-generation g c = refl

pub returns-in_err-write-2-clause-number : goal.returns-in_err-write-2-clause-number
returns-in_err-write-2-clause-number g c = IfOk-from_err _ _ c.from_residual-in_err-write-2.ensures.0

pub returns-in_err-write-2-clause-acknowledged : goal.returns-in_err-write-2-clause-acknowledged
returns-in_err-write-2-clause-acknowledged g c honest settled area frames holds = IfOk-from_err _ _ c.from_residual-in_err-write-2.ensures.0

pub returns-in_err-barrier-2-clause-same : goal.returns-in_err-barrier-2-clause-same
returns-in_err-barrier-2-clause-same g c = same_more (same_more (same_more c.write.ensures.same c.barrier.ensures.same) c.write-2.ensures.same) c.barrier-2.ensures.same

pub returns-in_err-barrier-2-clause-later : goal.returns-in_err-barrier-2-clause-later
returns-in_err-barrier-2-clause-later g c = later_more (later_more (later_more c.write.ensures.cause.later c.barrier.ensures.cause.later) c.write-2.ensures.cause.later) c.barrier-2.ensures.cause.later

pub returns-in_err-barrier-2-clause-fault : goal.returns-in_err-barrier-2-clause-fault
returns-in_err-barrier-2-clause-fault g c is = then_risen (later_more (later_more c.write.ensures.cause.later c.barrier.ensures.cause.later) c.write-2.ensures.cause.later) (c.in_err-barrier-2.ensures.cause.risen refl)

pub returns-in_err-barrier-2-clause-no_room : goal.returns-in_err-barrier-2-clause-no_room
returns-in_err-barrier-2-clause-no_room g c = no_other_where _ fault_is_no_room c.from_residual-in_err-barrier-2.ensures.1 (ap (fits c.args.self.now) (sym c.batch_size-size.ensures.size) ∙ sym c.if-not-fits.ensures)

pub returns-in_err-barrier-2-clause-no_call : goal.returns-in_err-barrier-2-clause-no_call
returns-in_err-barrier-2-clause-no_call g c is = no_other _ fault_is_no_room c.from_residual-in_err-barrier-2.ensures.1 is

pub returns-in_err-barrier-2-clause-no_call_either : goal.returns-in_err-barrier-2-clause-no_call_either
returns-in_err-barrier-2-clause-no_call_either g c is = no_other _ fault_is_no_memory c.from_residual-in_err-barrier-2.ensures.1 is

pub returns-in_err-barrier-2-clause-err : goal.returns-in_err-barrier-2-clause-err
returns-in_err-barrier-2-clause-err g c = with_error _ refl

pub returns-in_err-barrier-2-clause-end : goal.returns-in_err-barrier-2-clause-end
returns-in_err-barrier-2-clause-end g c = refl

pub returns-in_err-barrier-2-clause-generation : goal.returns-in_err-barrier-2-clause-generation
returns-in_err-barrier-2-clause-generation g c = refl

pub returns-in_err-barrier-2-clause-number : goal.returns-in_err-barrier-2-clause-number
returns-in_err-barrier-2-clause-number g c = IfOk-from_err _ _ c.from_residual-in_err-barrier-2.ensures.0

pub returns-in_err-barrier-2-clause-acknowledged : goal.returns-in_err-barrier-2-clause-acknowledged
returns-in_err-barrier-2-clause-acknowledged g c honest settled area frames holds = IfOk-from_err _ _ c.from_residual-in_err-barrier-2.ensures.0

pub returns-clause-same : goal.returns-clause-same
returns-clause-same g c = same_more (same_more (same_more c.write.ensures.same c.barrier.ensures.same) c.write-2.ensures.same) c.barrier-2.ensures.same

pub returns-clause-later : goal.returns-clause-later
returns-clause-later g c = later_more (later_more (later_more c.write.ensures.cause.later c.barrier.ensures.cause.later) c.write-2.ensures.cause.later) c.barrier-2.ensures.cause.later

pub returns-clause-fault : goal.returns-clause-fault
returns-clause-fault g c is = no_error is

pub returns-clause-no_call : goal.returns-clause-no_call
returns-clause-no_call g c is = no_error is

pub returns-clause-no_call_either : goal.returns-clause-no_call_either
returns-clause-no_call_either g c is = no_error is

pub returns-clause-no_room : goal.returns-clause-no_room
returns-clause-no_room g c = no_error_where (ap (fits c.args.self.now) (sym c.batch_size-size.ensures.size) ∙ sym c.if-not-fits.ensures)

pub returns-clause-err : goal.returns-clause-err
returns-clause-err g c = tt

pub returns-clause-end : goal.returns-clause-end
returns-clause-end g c = refl

pub returns-clause-generation : goal.returns-clause-generation
returns-clause-generation g c = refl

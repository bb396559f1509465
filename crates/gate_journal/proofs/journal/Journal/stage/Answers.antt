use Rattle.std.proofs.Common.{◌≡◌, ◌+◌, ◌*◌, ◌^◌, ◌<◌, ◌≤◌, ℕ, List, ◌++◌, true, length, drop, replicate, refl, sym, ◌∙◌, ap, arith}
use Rattle.std.proofs.lemmas.Bool.{leb-true}
use Rattle.std.specs.Prelude.{All}
use Rattle.invoke_records.specs.declared.command.Command.{Command}
use Rattle.invoke_records.specs.Spelling.{IsCommand, commands_text}
use Rattle.invoke_records.specs.laws.Commands.{command_again}
use Rattle.gate_journal.specs.declared.area.Area.{Area}
use Rattle.gate_journal.specs.declared.journal.Journal.{Journal}
use Rattle.gate_journal.specs.Frames.{Frames, body_sectors, body_text}
use Rattle.gate_journal.specs.Journal.{Holds, fits}
use Rattle.gate_journal.proofs.Written.{IsSpelled, spelled}
use Rattle.gate_journal.proofs.Ahead.{frame_length, staging_run, staging_settled, staged_there}
use Rattle.gate_journal.proofs.journal.Journal.stage.Goals as goal

-- the frame fits behind the last one
frame_room : (journal : Journal) (size : ℕ) → fits journal size ≡ true → journal.next + body_sectors size + 2 ≤ journal.end
frame_room journal size is = leb-true _ _ is

-- the body is read back
body_spelled : (area : Area) (frames : Frames) (journal : Journal) (content : List ℕ) (commands : List Command) → Holds area frames journal content → All IsCommand commands
    → journal.generation < 2 ^ 64 → journal.number + length commands ≤ 2 ^ 62 + 1 → length commands ≤ 256 → length (commands_text commands) ≤ 1048607 * 256
    → IsSpelled area.generation frames.number commands (body_text area.generation frames.number commands)
body_spelled area frames journal content commands holds good generation numbers few short =
    spelled command_again area.generation frames.number commands good (omega (arith, holds.generation, generation)) (omega (arith, holds.number, numbers)) (omega (arith, few)) (omega (arith, short))

pub returns-in_err-write-clause-any_moment : goal.returns-in_err-write-clause-any_moment
returns-in_err-write-clause-any_moment g c honest settled area frames holds =
    let there : 512 * area.end ≤ length (g.D.Disk.view c.args.disk.now).content = omega (arith, (g.met.D.Disk.laws c.args.disk.now honest).size, holds.end, c.requires.room) in
    let fit : fits c.args.self.now (length (commands_text c.args.commands.now)) ≡ true = ap (fits c.args.self.now) (sym c.batch_size-size.ensures.size) ∙ sym c.if-not-fits.ensures in
    let room = frame_room c.args.self.now _ fit in
    let long = frame_length _ _ _ _ (c.deref.ensures.value ∙ c.in_ok-frame.ensures.frame) in
    let good = body_spelled area frames c.args.self.now _ c.args.commands.now holds c.in_ok-frame.ensures.spelled (omega arith) c.requires.numbers c.requires.count (omega (arith, c.batch_size-size.ensures.size, c.batch_size-size.ensures.most)) in
    let behind : frames.next + body_sectors (length (commands_text c.args.commands.now)) + 2 ≤ area.end = omega (arith, holds.next, holds.end, room) in
    (staging_run _ area frames c.args.commands.now holds.reads there good behind g.D.Disk.view g.met.D.Disk.laws c.args.disk.now refl honest settled
    c.deref.result.now (omega (arith, behind, long)) c.args.self.now.next holds.next
    c.write.new.self c.write.result c.write.ensures.same c.write.ensures.honest).leaves

pub returns-in_err-barrier-clause-any_moment : goal.returns-in_err-barrier-clause-any_moment
returns-in_err-barrier-clause-any_moment g c honest settled area frames holds =
    let there : 512 * area.end ≤ length (g.D.Disk.view c.args.disk.now).content = omega (arith, (g.met.D.Disk.laws c.args.disk.now honest).size, holds.end, c.requires.room) in
    let fit : fits c.args.self.now (length (commands_text c.args.commands.now)) ≡ true = ap (fits c.args.self.now) (sym c.batch_size-size.ensures.size) ∙ sym c.if-not-fits.ensures in
    let room = frame_room c.args.self.now _ fit in
    let long = frame_length _ _ _ _ (c.deref.ensures.value ∙ c.in_ok-frame.ensures.frame) in
    let good = body_spelled area frames c.args.self.now _ c.args.commands.now holds c.in_ok-frame.ensures.spelled (omega arith) c.requires.numbers c.requires.count (omega (arith, c.batch_size-size.ensures.size, c.batch_size-size.ensures.most)) in
    let behind : frames.next + body_sectors (length (commands_text c.args.commands.now)) + 2 ≤ area.end = omega (arith, holds.next, holds.end, room) in
    (staging_settled _ area frames c.args.commands.now holds.reads there good behind g.D.Disk.view g.met.D.Disk.laws c.args.disk.now refl honest settled
    c.deref.result.now (omega (arith, behind, long)) c.args.self.now.next holds.next
    c.write.new.self c.write.result c.write.ensures.same c.write.ensures.honest
    c.barrier.new.self c.barrier.result c.barrier.ensures.same c.barrier.ensures.honest).leaves

pub returns-clause-any_moment : goal.returns-clause-any_moment
returns-clause-any_moment g c honest settled area frames holds =
    let there : 512 * area.end ≤ length (g.D.Disk.view c.args.disk.now).content = omega (arith, (g.met.D.Disk.laws c.args.disk.now honest).size, holds.end, c.requires.room) in
    let fit : fits c.args.self.now (length (commands_text c.args.commands.now)) ≡ true = ap (fits c.args.self.now) (sym c.batch_size-size.ensures.size) ∙ sym c.if-not-fits.ensures in
    let room = frame_room c.args.self.now _ fit in
    let long = frame_length _ _ _ _ (c.deref.ensures.value ∙ c.in_ok-frame.ensures.frame) in
    let good = body_spelled area frames c.args.self.now _ c.args.commands.now holds c.in_ok-frame.ensures.spelled (omega arith) c.requires.numbers c.requires.count (omega (arith, c.batch_size-size.ensures.size, c.batch_size-size.ensures.most)) in
    let behind : frames.next + body_sectors (length (commands_text c.args.commands.now)) + 2 ≤ area.end = omega (arith, holds.next, holds.end, room) in
    (staging_settled _ area frames c.args.commands.now holds.reads there good behind g.D.Disk.view g.met.D.Disk.laws c.args.disk.now refl honest settled
    c.deref.result.now (omega (arith, behind, long)) c.args.self.now.next holds.next
    c.write.new.self c.write.result c.write.ensures.same c.write.ensures.honest
    c.barrier.new.self c.barrier.result c.barrier.ensures.same c.barrier.ensures.honest).leaves

pub returns-clause-inside : goal.returns-clause-inside
returns-clause-inside g c =
    let fit : fits c.args.self.now (length (commands_text c.args.commands.now)) ≡ true = ap (fits c.args.self.now) (sym c.batch_size-size.ensures.size) ∙ sym c.if-not-fits.ensures in
    omega (arith, frame_room c.args.self.now _ fit, c.len.ensures, c.in_ok-frame.frame.ok.0, frame_length _ _ _ _ c.in_ok-frame.ensures.frame)

pub returns-clause-staged : goal.returns-clause-staged
returns-clause-staged g c honest settled area frames holds =
    let there : 512 * area.end ≤ length (g.D.Disk.view c.args.disk.now).content = omega (arith, (g.met.D.Disk.laws c.args.disk.now honest).size, holds.end, c.requires.room) in
    let fit : fits c.args.self.now (length (commands_text c.args.commands.now)) ≡ true = ap (fits c.args.self.now) (sym c.batch_size-size.ensures.size) ∙ sym c.if-not-fits.ensures in
    let room = frame_room c.args.self.now _ fit in
    let frame_is = c.deref.ensures.value ∙ c.in_ok-frame.ensures.frame in
    let long = frame_length _ _ _ _ frame_is in
    let short : length (commands_text c.args.commands.now) ≤ 1048607 * 256 = omega (arith, c.batch_size-size.ensures.size, c.batch_size-size.ensures.most) in
    let good = body_spelled area frames c.args.self.now _ c.args.commands.now holds c.in_ok-frame.ensures.spelled (omega arith) c.requires.numbers c.requires.count short in
    let behind : frames.next + body_sectors (length (commands_text c.args.commands.now)) + 2 ≤ area.end = omega (arith, holds.next, holds.end, room) in
    let now = staged_there _ area frames c.args.commands.now holds.reads there good behind g.D.Disk.view g.met.D.Disk.laws c.args.disk.now refl honest settled
    c.deref.result.now (omega (arith, behind, long)) c.args.self.now.next holds.next
    c.write.new.self c.write.result c.write.ensures.same c.write.ensures.honest
    c.barrier.new.self c.in_ok-write.ensures.honest c.in_ok-barrier.ensures.honest in
    let text_is : c.deref.result.now ≡ body_text area.generation frames.number c.args.commands.now ++ replicate 512 0 =
    frame_is ∙ (λ i. body_text (holds.generation i) (holds.number i) c.args.commands.now ++ replicate 512 0) in
    record {
      one = now.0;
      holds = record { reads = now.1.reads; next = holds.next; number = holds.number; end = holds.end; generation = holds.generation };
      ahead = record {
        sectors = omega (arith, c.len.ensures, c.in_ok-frame.frame.ok.0, frame_length _ _ _ _ c.in_ok-frame.ensures.frame);
        count = refl;
        room = omega (arith, behind, c.len.ensures, c.in_ok-frame.frame.ok.0, frame_length _ _ _ _ c.in_ok-frame.ensures.frame);
        gate = replicate 512 0;
        rest = drop (512 * frames.next + 512 + length c.deref.result.now) (g.D.Disk.view c.args.disk.now).content;
        whole = refl;
        shut = refl;
        is = now.2 ∙ ap (λ (l : List ℕ). l ++ drop (512 * frames.next + 512 + length c.deref.result.now) (g.D.Disk.view c.args.disk.now).content) text_is;
        commands_fit = c.in_ok-frame.ensures.spelled;
        generation_fits = omega (arith, holds.generation);
        numbers_fit = omega (arith, c.requires.numbers, holds.number);
        count_fits = omega (arith, c.requires.count);
        size_fits = omega (arith, short);
      };
      outside = now.1.outside;
    }

use Rattle.std.proofs.Common.{◌≡◌, ◌+◌, ◌*◌, ◌≤◌, ℕ, List, ◌++◌, true, length, drop, replicate, refl, sym, ◌∙◌, ap, arith}
use Rattle.std.proofs.lemmas.Bool.{leb-true}
use Rattle.invoke_records.specs.Spelling.{commands_text}
use Rattle.gate_journal.specs.declared.journal.Journal.{Journal}
use Rattle.gate_journal.specs.declared.staged.Staged.{Staged}
use Rattle.gate_journal.specs.Frames.{body_sectors, body_text}
use Rattle.gate_journal.specs.Staged.{fits_behind}
use Rattle.gate_journal.proofs.Ahead.{frame_length, leaves, gate_run, next_run, next_settled, advanced}
use Rattle.gate_journal.proofs.journal.Journal.advance.Goals as goal

-- the next frame fits behind the staged one
next_room : (journal : Journal) (staged : Staged) (size : ℕ) → fits_behind journal staged size ≡ true → journal.next + staged.sectors + body_sectors size + 2 ≤ journal.end
next_room journal staged size fits = leb-true _ _ fits

pub returns-in_err-write-clause-any_moment : goal.returns-in_err-write-clause-any_moment
returns-in_err-write-clause-any_moment g c honest settled area frames commands holds s =
    let there : 512 * area.end ≤ length (g.D.Disk.view c.args.disk.now).content = omega (arith, (g.met.D.Disk.laws c.args.disk.now honest).size, holds.end, c.requires.room) in
    leaves g.D.Disk.view g.met.D.Disk.laws c.args.disk.now honest settled area frames commands c.args.staged holds.reads there s _
    (gate_run g.D.Disk.view g.met.D.Disk.laws c.args.disk.now honest settled area frames commands c.args.staged holds.reads there s
    c.args.self.now.next holds.next _ c.open_gate.ensures.whole c.write.new.self c.write.result c.write.ensures.same c.write.ensures.honest)

pub returns-in_err-write-2-clause-any_moment : goal.returns-in_err-write-2-clause-any_moment
returns-in_err-write-2-clause-any_moment g c honest settled area frames commands holds s =
    let there : 512 * area.end ≤ length (g.D.Disk.view c.args.disk.now).content = omega (arith, (g.met.D.Disk.laws c.args.disk.now honest).size, holds.end, c.requires.room) in
    let frame_is = c.deref.ensures.value ∙ c.in_ok-frame.ensures.frame in
    let fits : fits_behind c.args.self.now c.args.staged (length (commands_text c.args.commands.now)) ≡ true = ap (fits_behind c.args.self.now c.args.staged) (sym c.batch_size-size.ensures.size) ∙ sym c.if-not-fits_behind.ensures in
    let room = next_room c.args.self.now c.args.staged _ fits in
    let long = frame_length _ _ _ _ frame_is in
    let within : 512 * (frames.next + c.args.staged.sectors + 1) + length c.deref.result.now ≤ 512 * area.end = omega (arith, holds.next, holds.end, room, long) in
    let place_is : 512 * (c.args.self.now.next + c.args.staged.sectors + 1) ≡ 512 * (frames.next + c.args.staged.sectors + 1) = omega (arith, holds.next) in
    leaves g.D.Disk.view g.met.D.Disk.laws c.args.disk.now honest settled area frames commands c.args.staged holds.reads there s _
    (next_run g.D.Disk.view g.met.D.Disk.laws c.args.disk.now honest settled area frames commands c.args.staged holds.reads there s
    c.args.self.now.next holds.next _ c.open_gate.ensures.whole c.write.new.self c.write.result c.write.ensures.same c.write.ensures.honest
    c.deref.result.now within (c.args.self.now.next + c.args.staged.sectors + 1) place_is
    c.write-2.new.self c.write-2.result c.write-2.ensures.same c.write-2.ensures.honest)

pub returns-in_err-barrier-clause-any_moment : goal.returns-in_err-barrier-clause-any_moment
returns-in_err-barrier-clause-any_moment g c honest settled area frames commands holds s =
    let there : 512 * area.end ≤ length (g.D.Disk.view c.args.disk.now).content = omega (arith, (g.met.D.Disk.laws c.args.disk.now honest).size, holds.end, c.requires.room) in
    let frame_is = c.deref.ensures.value ∙ c.in_ok-frame.ensures.frame in
    let fits : fits_behind c.args.self.now c.args.staged (length (commands_text c.args.commands.now)) ≡ true = ap (fits_behind c.args.self.now c.args.staged) (sym c.batch_size-size.ensures.size) ∙ sym c.if-not-fits_behind.ensures in
    let room = next_room c.args.self.now c.args.staged _ fits in
    let long = frame_length _ _ _ _ frame_is in
    let within : 512 * (frames.next + c.args.staged.sectors + 1) + length c.deref.result.now ≤ 512 * area.end = omega (arith, holds.next, holds.end, room, long) in
    let place_is : 512 * (c.args.self.now.next + c.args.staged.sectors + 1) ≡ 512 * (frames.next + c.args.staged.sectors + 1) = omega (arith, holds.next) in
    leaves g.D.Disk.view g.met.D.Disk.laws c.args.disk.now honest settled area frames commands c.args.staged holds.reads there s _
    (next_settled g.D.Disk.view g.met.D.Disk.laws c.args.disk.now honest settled area frames commands c.args.staged holds.reads there s
    c.args.self.now.next holds.next _ c.open_gate.ensures.whole c.write.new.self c.write.result c.write.ensures.same c.write.ensures.honest
    c.deref.result.now within (c.args.self.now.next + c.args.staged.sectors + 1) place_is
    c.write-2.new.self c.write-2.result c.write-2.ensures.same c.write-2.ensures.honest
    c.barrier.new.self c.barrier.result c.barrier.ensures.same c.barrier.ensures.honest)

pub returns-clause-any_moment : goal.returns-clause-any_moment
returns-clause-any_moment g c honest settled area frames commands holds s =
    let there : 512 * area.end ≤ length (g.D.Disk.view c.args.disk.now).content = omega (arith, (g.met.D.Disk.laws c.args.disk.now honest).size, holds.end, c.requires.room) in
    let frame_is = c.deref.ensures.value ∙ c.in_ok-frame.ensures.frame in
    let fits : fits_behind c.args.self.now c.args.staged (length (commands_text c.args.commands.now)) ≡ true = ap (fits_behind c.args.self.now c.args.staged) (sym c.batch_size-size.ensures.size) ∙ sym c.if-not-fits_behind.ensures in
    let room = next_room c.args.self.now c.args.staged _ fits in
    let long = frame_length _ _ _ _ frame_is in
    let within : 512 * (frames.next + c.args.staged.sectors + 1) + length c.deref.result.now ≤ 512 * area.end = omega (arith, holds.next, holds.end, room, long) in
    let place_is : 512 * (c.args.self.now.next + c.args.staged.sectors + 1) ≡ 512 * (frames.next + c.args.staged.sectors + 1) = omega (arith, holds.next) in
    leaves g.D.Disk.view g.met.D.Disk.laws c.args.disk.now honest settled area frames commands c.args.staged holds.reads there s _
    (next_settled g.D.Disk.view g.met.D.Disk.laws c.args.disk.now honest settled area frames commands c.args.staged holds.reads there s
    c.args.self.now.next holds.next _ c.open_gate.ensures.whole c.write.new.self c.write.result c.write.ensures.same c.write.ensures.honest
    c.deref.result.now within (c.args.self.now.next + c.args.staged.sectors + 1) place_is
    c.write-2.new.self c.write-2.result c.write-2.ensures.same c.write-2.ensures.honest
    c.barrier.new.self c.barrier.result c.barrier.ensures.same c.barrier.ensures.honest)

pub returns-clause-inside : goal.returns-clause-inside
returns-clause-inside g c =
    let fits : fits_behind c.args.self.now c.args.staged (length (commands_text c.args.commands.now)) ≡ true = ap (fits_behind c.args.self.now c.args.staged) (sym c.batch_size-size.ensures.size) ∙ sym c.if-not-fits_behind.ensures in
    omega (arith, next_room c.args.self.now c.args.staged _ fits, c.len.ensures, c.in_ok-frame.frame.ok.0, frame_length _ _ _ _ c.in_ok-frame.ensures.frame)

pub returns-clause-advanced : goal.returns-clause-advanced
returns-clause-advanced g c honest settled area frames commands holds s =
    let journal = c.args.self.now in
    let more = c.args.commands.now in
    let there : 512 * area.end ≤ length (g.D.Disk.view c.args.disk.now).content = omega (arith, (g.met.D.Disk.laws c.args.disk.now honest).size, holds.end, c.requires.room) in
    let frame_is = c.deref.ensures.value ∙ c.in_ok-frame.ensures.frame in
    let fits : fits_behind c.args.self.now c.args.staged (length (commands_text c.args.commands.now)) ≡ true = ap (fits_behind c.args.self.now c.args.staged) (sym c.batch_size-size.ensures.size) ∙ sym c.if-not-fits_behind.ensures in
    let room = next_room c.args.self.now c.args.staged _ fits in
    let long = frame_length _ _ _ _ frame_is in
    let within : 512 * (frames.next + c.args.staged.sectors + 1) + length c.deref.result.now ≤ 512 * area.end = omega (arith, holds.next, holds.end, room, long) in
    let place_is : 512 * (c.args.self.now.next + c.args.staged.sectors + 1) ≡ 512 * (frames.next + c.args.staged.sectors + 1) = omega (arith, holds.next) in
    let now = advanced g.D.Disk.view g.met.D.Disk.laws c.args.disk.now honest settled area frames commands c.args.staged holds.reads there s
    c.args.self.now.next holds.next _ c.open_gate.ensures.whole c.write.new.self c.write.result c.write.ensures.same c.write.ensures.honest
    c.deref.result.now within (c.args.self.now.next + c.args.staged.sectors + 1) place_is
    c.write-2.new.self c.write-2.result c.write-2.ensures.same c.write-2.ensures.honest
    c.barrier.new.self c.open_gate.ensures.opened c.in_ok-write.ensures.honest c.in_ok-write-2.ensures.honest c.in_ok-barrier.ensures.honest in
    let number_is : c.args.self.now.number + c.args.staged.count ≡ frames.number + length commands = omega (arith, holds.number, s.count) in
    let text_is : c.deref.result.now ≡ body_text area.generation (frames.number + length commands) more ++ replicate 512 0 =
    frame_is ∙ (λ i. body_text (holds.generation i) (number_is i) more ++ replicate 512 0) in
    let gate_is : 512 * (frames.next + 1 + body_sectors (length (commands_text commands))) + 512 ≡ 512 * (frames.next + c.args.staged.sectors + 1) = omega (arith, s.sectors) in
    record {
      one = now.0;
      holds = record {
        reads = now.1;
        next = omega (arith, holds.next, s.sectors);
        number = number_is;
        end = holds.end;
        generation = holds.generation;
      };
      ahead = record {
        sectors = omega (arith, c.len.ensures, c.in_ok-frame.frame.ok.0, frame_length _ _ _ _ c.in_ok-frame.ensures.frame);
        count = refl;
        room = omega (arith, holds.next, holds.end, s.sectors, room, c.len.ensures, c.in_ok-frame.frame.ok.0, frame_length _ _ _ _ c.in_ok-frame.ensures.frame);
        gate = replicate 512 0;
        rest = drop (512 * (frames.next + c.args.staged.sectors + 1) + length c.deref.result.now) (g.D.Disk.view c.write.new.self).content;
        whole = refl;
        shut = refl;
        is = ap (λ (k : ℕ). drop k (g.D.Disk.view c.barrier.new.self).content) gate_is ∙ now.3
            ∙ ap (λ (l : List ℕ). l ++ drop (512 * (frames.next + c.args.staged.sectors + 1) + length c.deref.result.now) (g.D.Disk.view c.write.new.self).content) text_is;
        commands_fit = c.in_ok-frame.ensures.spelled;
        generation_fits = omega (arith, holds.generation);
        numbers_fit = omega (arith, c.requires.numbers, number_is);
        count_fits = omega (arith, c.requires.count);
        size_fits = omega (arith, c.batch_size-size.ensures.size, c.batch_size-size.ensures.most);
      };
      outside = now.2;
    }

use Rattle.std.proofs.Common.{◌≡◌, ◌++◌, ◌∙◌, ◌+◌, ◌*◌, ◌-◌, take, replicate, ap, List, ℕ, length, arith}
use Rattle.std.specs.Int.{w32, w64, to_be_bytes}
use Rattle.invoke_records.specs.Spelling.{commands_text}
use Rattle.gate_journal.specs.Frames.{body_sectors}
use Rattle.gate_journal.proofs.Written.{padded_and_closed}
use Rattle.gate_journal.proofs.writing.spell_frame.Goals as goal

pub returns-clause-frame : goal.returns-clause-frame
returns-clause-frame c =
    let commands = c.args.commands.now in
    let g = c.args.generation in
    let m = c.args.number in
    let none = c.in_ok-frame.ensures.items in
    let head =
    c.in_ok-spell_head.ensures
    ∙ (λ i. none i ++ to_be_bytes w64 g ++ to_be_bytes w64 m ++ to_be_bytes w32 (length commands) ++ to_be_bytes w32 (c.requires.size i) ++ to_be_bytes w64 0) in
    let front = c.in_ok-spell_commands.ensures.text ∙ ap (λ (l : List ℕ). l ++ commands_text commands) head in
    let out = c.spell_commands.new.out.items in
    let size : ℕ = 512 * (c.div_ceil-sectors.result + 1) in
    let whole : size ≡ 512 * (body_sectors (length (commands_text commands)) + 1) = omega arith in
    c.in_ok-resize.ensures.items ∙ ap (λ (k : ℕ). take size out ++ replicate (size - k) 0) c.spell_commands.new.out.ok.0
    ∙ padded_and_closed g m commands out size front whole

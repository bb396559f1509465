use Rattle.std.proofs.Common.{refl, ◌≡◌, ◌+◌, ◌-◌, ◌==◌, ℕ, Bool, true, false, List, length, length-append, take, drop, Some, Err, sym, ◌∙◌, ap, subst, arith}
use Rattle.std.specs.Bool.{MatchBool}
use Rattle.std.specs.List.{list_all}
use Rattle.std.proofs.lemmas.List.{take_rest}
use Rattle.invoke_records.specs.declared.command.Command.{Command}
use Rattle.gate_journal.specs.Frames.{area_bytes, behind_gate, commands_at, whole}
use Rattle.gate_journal.specs.Steps.{IsBodyRead, AreDecoded}
use Rattle.gate_journal.proofs.Frames.{length-behind_gate}
use Rattle.gate_journal.proofs.Next.{no_room, no_frame, no_head_read, bad_padding, bad_commands, good_commands}
use Rattle.std.proofs.lemmas.Result.{IfOk-from_err}
use Rattle.gate_journal.proofs.Exits.{no_other, out_of_memory, told, no_error, memory_is_no_fault, memory_is_no_damage, fault_is_no_damage, damage_is_no_fault, damaged_at, none_read, reads_more, then_risen}
use Rattle.gate_journal.proofs.reading.read_frame.Given.{Over}
use Rattle.gate_journal.proofs.reading.read_frame.Goals as goal
use Rattle.gate_journal.proofs.reading.read_frame.Goals.{In-Some}

pub returns-then-left-lt3-clause-frame : goal.returns-then-left-lt3-clause-frame
returns-then-left-lt3-clause-frame g c honest =
    let size = (g.met.D.Disk.laws c.args.disk.now honest).size in
    no_room c.args.left (g.D.Disk.view c.args.disk.now).content c.requires.forward (omega arith) (omega arith)

pub returns-then-not-branch-clause-frame : goal.returns-then-not-branch-clause-frame
returns-then-not-branch-clause-frame g c honest =
    let size = (g.met.D.Disk.laws c.args.disk.now honest).size in
    no_frame c.args.left (g.D.Disk.view c.args.disk.now).content c.requires.forward (omega arith) (omega arith)
    (sym (c.in_ok-read_gate.ensures.open_gate honest) ∙ c.if-not-branch.true)

pub returns-in_default-clause-damaged : goal.returns-in_default-clause-damaged
returns-in_default-clause-damaged g c honest sector is =
    let left = c.args.left in
    let image = (g.D.Disk.view c.args.disk.now).content in
    let size = (g.met.D.Disk.laws c.args.disk.now honest).size in
    let same : left.start ≡ sector = damaged_at is in
    let gate = c.in_ok-read_gate.ensures in
    let read =
    subst (λ (l : List ℕ). IsBodyRead left (drop 512 (area_bytes left l)) c.in_ok-head.field-0) (gate.reads.untouched honest).content
    (c.in_ok-head.ensures.body (gate.reads.same.honest.1 honest)) in
    no_head_read left image (omega arith) (omega arith) (sym (gate.open_gate honest) ∙ c.if-not-branch.false)
    (subst (λ r. IsBodyRead left (drop 512 (area_bytes left image)) r) c.in_default.is read)
    ∙ ap Err same

-- what is known of the body that was read
abbrev body_there : (g : Over) (c : In-Some g) → (g.D.Disk.view c.args.disk.now).honest
    → IsBodyRead c.args.left (drop 512 (area_bytes c.args.left (g.D.Disk.view c.args.disk.now).content)) (Some (c.in-Some.head, c.in-Some.body))
body_there g c honest =
    let left = c.args.left in
    let image = (g.D.Disk.view c.args.disk.now).content in
    let gate = c.in_ok-read_gate.ensures in
    let read =
    subst (λ (l : List ℕ). IsBodyRead left (drop 512 (area_bytes left l)) c.in_ok-head.field-0) (gate.reads.untouched honest).content
    (c.in_ok-head.ensures.body (gate.reads.same.honest.1 honest)) in
    subst (λ r. IsBodyRead left (drop 512 (area_bytes left image)) r) c.in-Some.is read

pub returns-then-not-is_zero-clause-damaged : goal.returns-then-not-is_zero-clause-damaged
returns-then-not-is_zero-clause-damaged g c honest sector is =
    let left = c.args.left in
    let image = (g.D.Disk.view c.args.disk.now).content in
    let size = (g.met.D.Disk.laws c.args.disk.now honest).size in
    let same : left.start ≡ sector = damaged_at is in
    let s = (goal.at.returns-then-not-is_zero-clause-damaged g c).In-Some in
    let body = body_there g s honest in
    let from : ℕ = 32 + c.in-Some.head.size in
    let zeros =
    ap (λ (l : List ℕ). list_all (λ b. b == 0) l) (ap (drop from) (sym c.deref.ensures.value) ∙ sym (take_rest c.deref.result.now from)) ∙ sym c.is_zero.ensures in
    bad_padding left image (omega arith) (omega arith) (sym (c.in_ok-read_gate.ensures.open_gate honest) ∙ c.if-not-branch.false) c.in-Some.head c.in-Some.body.items
    body.0 body.1 body.2 (zeros ∙ c.if-not-is_zero.true)
    ∙ ap Err same

-- what was decoded, of the body's bytes behind the head
read_of : (now items : List ℕ) (size gate count : ℕ) (old new : List (ℕ × Command)) (good : Bool) (wanted : Bool) → now ≡ items → good ≡ wanted
    → AreDecoded gate (whole (commands_at count (take (32 + size - 32) (drop 32 now)))) old new good
    → AreDecoded gate (whole (commands_at count (take size (drop 32 items)))) old new wanted
read_of now items size gate count old new good wanted same is decoded =
    let long : 32 + size - 32 ≡ size = omega arith in
    subst (λ (b : Bool). AreDecoded gate (whole (commands_at count (take size (drop 32 items)))) old new b) is
    (subst (λ (l : List ℕ). AreDecoded gate (whole (commands_at count (take size (drop 32 l)))) old new good) same
    (subst (λ (k : ℕ). AreDecoded gate (whole (commands_at count (take k (drop 32 now)))) old new good) long decoded))

pub returns-then-not-branch-2-clause-damaged : goal.returns-then-not-branch-2-clause-damaged
returns-then-not-branch-2-clause-damaged g c honest sector is =
    let left = c.args.left in
    let image = (g.D.Disk.view c.args.disk.now).content in
    let size = (g.met.D.Disk.laws c.args.disk.now honest).size in
    let same : left.start ≡ sector = damaged_at is in
    let s = (goal.at.returns-then-not-branch-2-clause-damaged g c).In-Some in
    let body = body_there g s honest in
    let from : ℕ = 32 + c.in-Some.head.size in
    let zeros =
    ap (λ (l : List ℕ). list_all (λ b. b == 0) l) (ap (drop from) (sym c.deref.ensures.value) ∙ sym (take_rest c.deref.result.now from)) ∙ sym c.is_zero.ensures in
    let none = read_of c.deref-2.result.now c.in-Some.body.items c.in-Some.head.size left.start c.in-Some.head.count c.args.found.now.items c.decode_all.new.found.items
    c.in_ok-decode_all.field-0 false c.deref-2.ensures.value c.if-not-branch-2.true c.in_ok-decode_all.ensures.decoded in
    bad_commands left image (omega arith) (omega arith) (sym (c.in_ok-read_gate.ensures.open_gate honest) ∙ c.if-not-branch.false) c.in-Some.head c.in-Some.body.items
    body.0 body.1 body.2 (zeros ∙ c.if-not-is_zero.false) none
    ∙ ap Err same

pub returns-clause-frame : goal.returns-clause-frame
returns-clause-frame g c honest =
    let left = c.args.left in
    let image = (g.D.Disk.view c.args.disk.now).content in
    let size = (g.met.D.Disk.laws c.args.disk.now honest).size in
    let s = (goal.at.returns-clause-frame g c).In-Some in
    let body = body_there g s honest in
    let from : ℕ = 32 + c.in-Some.head.size in
    let zeros =
    ap (λ (l : List ℕ). list_all (λ b. b == 0) l) (ap (drop from) (sym c.deref.ensures.value) ∙ sym (take_rest c.deref.result.now from)) ∙ sym c.is_zero.ensures in
    let some = read_of c.deref-2.result.now c.in-Some.body.items c.in-Some.head.size left.start c.in-Some.head.count c.args.found.now.items c.decode_all.new.found.items
    c.in_ok-decode_all.field-0 true c.deref-2.ensures.value c.if-not-branch-2.false c.in_ok-decode_all.ensures.decoded in
    let more = subst (λ (b : Bool). MatchBool b (length c.decode_all.new.found.items ≡ length c.args.found.now.items + c.in-Some.head.count) (Unit {0})) c.if-not-branch-2.false
    c.in_ok-decode_all.ensures.count in
    let count : length some.0 ≡ c.in-Some.head.count =
    omega (arith, ap length some.2, length-append c.args.found.now.items (behind_gate left.start some.0), length-behind_gate left.start some.0, more) in (
      behind_gate left.start some.0,
      some.2,
      good_commands left image (omega arith) (omega arith) (sym (c.in_ok-read_gate.ensures.open_gate honest) ∙ c.if-not-branch.false) c.in-Some.head c.in-Some.body.items
          body.0 body.1 body.2 (zeros ∙ c.if-not-is_zero.false) some.0 some.1 count (left.start + 1 + c.sectors.result) (ap (λ (k : ℕ). left.start + 1 + k) c.sectors.ensures),
    )

pub returns-then-left-lt3-clause-reads : goal.returns-then-left-lt3-clause-reads
returns-then-left-lt3-clause-reads g c = none_read (g.D.Disk.view c.args.disk.now) (g.D.Disk.fault_count c.args.disk.now)

pub returns-then-left-lt3-clause-fault : goal.returns-then-left-lt3-clause-fault
returns-then-left-lt3-clause-fault g c is = no_error is

pub returns-then-left-lt3-clause-further : goal.returns-then-left-lt3-clause-further
returns-then-left-lt3-clause-further g c = refl

pub returns-then-left-lt3-clause-damaged : goal.returns-then-left-lt3-clause-damaged
returns-then-left-lt3-clause-damaged g c honest sector is = no_error is

pub returns-in_err-read_gate-clause-reads : goal.returns-in_err-read_gate-clause-reads
returns-in_err-read_gate-clause-reads g c = c.read_gate.ensures.reads

pub returns-in_err-read_gate-clause-fault : goal.returns-in_err-read_gate-clause-fault
returns-in_err-read_gate-clause-fault g c is = c.in_err-read_gate.ensures.fault refl

pub returns-in_err-read_gate-clause-further : goal.returns-in_err-read_gate-clause-further
returns-in_err-read_gate-clause-further g c = IfOk-from_err _ _ c.from_residual.ensures.0

pub returns-in_err-read_gate-clause-frame : goal.returns-in_err-read_gate-clause-frame
returns-in_err-read_gate-clause-frame g c honest = IfOk-from_err _ _ c.from_residual.ensures.0

pub returns-in_err-read_gate-clause-damaged : goal.returns-in_err-read_gate-clause-damaged
returns-in_err-read_gate-clause-damaged g c honest sector is = no_other _ fault_is_no_damage c.from_residual.ensures.1 is

pub returns-then-not-branch-clause-reads : goal.returns-then-not-branch-clause-reads
returns-then-not-branch-clause-reads g c = c.read_gate.ensures.reads

pub returns-then-not-branch-clause-fault : goal.returns-then-not-branch-clause-fault
returns-then-not-branch-clause-fault g c is = no_error is

pub returns-then-not-branch-clause-further : goal.returns-then-not-branch-clause-further
returns-then-not-branch-clause-further g c = refl

pub returns-then-not-branch-clause-damaged : goal.returns-then-not-branch-clause-damaged
returns-then-not-branch-clause-damaged g c honest sector is = no_error is

pub returns-in_err-head-clause-reads : goal.returns-in_err-head-clause-reads
returns-in_err-head-clause-reads g c = reads_more c.read_gate.ensures.reads c.in_err-head.ensures.reads

pub returns-in_err-head-clause-fault : goal.returns-in_err-head-clause-fault
returns-in_err-head-clause-fault g c is = then_risen c.read_gate.ensures.reads.later (c.in_err-head.ensures.fault (told _ c.from_residual-in_err-head.ensures.1 is))

pub returns-in_err-head-clause-further : goal.returns-in_err-head-clause-further
returns-in_err-head-clause-further g c = IfOk-from_err _ _ c.from_residual-in_err-head.ensures.0

pub returns-in_err-head-clause-frame : goal.returns-in_err-head-clause-frame
returns-in_err-head-clause-frame g c honest = IfOk-from_err _ _ c.from_residual-in_err-head.ensures.0

pub returns-in_err-head-clause-damaged : goal.returns-in_err-head-clause-damaged
returns-in_err-head-clause-damaged g c honest sector is = absurd (c.in_err-head.ensures.damaged sector (told _ c.from_residual-in_err-head.ensures.1 is))

pub returns-in_default-clause-reads : goal.returns-in_default-clause-reads
returns-in_default-clause-reads g c = reads_more c.read_gate.ensures.reads c.in_ok-head.ensures.reads

pub returns-in_default-clause-fault : goal.returns-in_default-clause-fault
returns-in_default-clause-fault g c is = damage_is_no_fault is

pub returns-in_default-clause-further : goal.returns-in_default-clause-further
returns-in_default-clause-further g c = tt

pub returns-in_default-clause-frame : goal.returns-in_default-clause-frame
returns-in_default-clause-frame g c honest = tt

pub returns-then-not-is_zero-clause-reads : goal.returns-then-not-is_zero-clause-reads
returns-then-not-is_zero-clause-reads g c = reads_more c.read_gate.ensures.reads c.in_ok-head.ensures.reads

pub returns-then-not-is_zero-clause-fault : goal.returns-then-not-is_zero-clause-fault
returns-then-not-is_zero-clause-fault g c is = damage_is_no_fault is

pub returns-then-not-is_zero-clause-further : goal.returns-then-not-is_zero-clause-further
returns-then-not-is_zero-clause-further g c = tt

pub returns-then-not-is_zero-clause-frame : goal.returns-then-not-is_zero-clause-frame
returns-then-not-is_zero-clause-frame g c honest = tt

pub returns-then-not-branch-2-clause-reads : goal.returns-then-not-branch-2-clause-reads
returns-then-not-branch-2-clause-reads g c = reads_more c.read_gate.ensures.reads c.in_ok-head.ensures.reads

pub returns-then-not-branch-2-clause-fault : goal.returns-then-not-branch-2-clause-fault
returns-then-not-branch-2-clause-fault g c is = damage_is_no_fault is

pub returns-then-not-branch-2-clause-further : goal.returns-then-not-branch-2-clause-further
returns-then-not-branch-2-clause-further g c = tt

pub returns-then-not-branch-2-clause-frame : goal.returns-then-not-branch-2-clause-frame
returns-then-not-branch-2-clause-frame g c honest = tt

pub returns-in_err-decode_all-clause-reads : goal.returns-in_err-decode_all-clause-reads
returns-in_err-decode_all-clause-reads g c = reads_more c.read_gate.ensures.reads c.in_ok-head.ensures.reads

pub returns-in_err-decode_all-clause-fault : goal.returns-in_err-decode_all-clause-fault
returns-in_err-decode_all-clause-fault g c is = no_other _ memory_is_no_fault (out_of_memory _ c.from_residual-in_err-decode_all.ensures.1 c.in_err-decode_all.ensures.memory) is

pub returns-in_err-decode_all-clause-further : goal.returns-in_err-decode_all-clause-further
returns-in_err-decode_all-clause-further g c = IfOk-from_err _ _ c.from_residual-in_err-decode_all.ensures.0

pub returns-in_err-decode_all-clause-frame : goal.returns-in_err-decode_all-clause-frame
returns-in_err-decode_all-clause-frame g c honest = IfOk-from_err _ _ c.from_residual-in_err-decode_all.ensures.0

pub returns-in_err-decode_all-clause-damaged : goal.returns-in_err-decode_all-clause-damaged
returns-in_err-decode_all-clause-damaged g c honest sector is = no_other _ memory_is_no_damage (out_of_memory _ c.from_residual-in_err-decode_all.ensures.1 c.in_err-decode_all.ensures.memory) is

pub returns-clause-reads : goal.returns-clause-reads
returns-clause-reads g c = reads_more c.read_gate.ensures.reads c.in_ok-head.ensures.reads

pub returns-clause-fault : goal.returns-clause-fault
returns-clause-fault g c is = no_error is

pub returns-clause-damaged : goal.returns-clause-damaged
returns-clause-damaged g c honest sector is = no_error is

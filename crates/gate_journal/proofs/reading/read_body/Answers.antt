use Rattle.std.proofs.Common.{◌≡◌, ◌+◌, ◌-◌, ◌*◌, ◌≤◌, ℕ, List, ◌++◌, length, take, drop, refl, sym, ◌∙◌, ap, arith}
use Rattle.gate_journal.specs.Frames.{Head, head_of, is_head, body_sectors, area_bytes}
use Rattle.gate_journal.proofs.Next.{body_length, head_here, sectors_here}
use Rattle.std.proofs.lemmas.Result.{IfOk-from_err}
use Rattle.gate_journal.proofs.Exits.{no_other, told, no_error, fault_is_no_damage, one_read, reads_more, then_risen}
use Rattle.gate_journal.proofs.reading.read_body.Goals as goal

pub returns-then-not-is_of-clause-body : goal.returns-then-not-is_of-clause-body
returns-then-not-is_of-clause-body g c honest =
    let area = c.args.area in
    let image = (g.D.Disk.view c.args.disk.now).content in
    let size = (g.met.D.Disk.laws c.args.disk.now honest).size in
    let inside : 512 * area.end ≤ length image = omega arith in
    let head = c.read-head.ensures ∙ head_here area image c.requires.room inside c.read.new.out (c.in_ok-read.ensures.honest honest).bytes in
    let room = body_length area image c.requires.room inside in
    (λ i. is_head area.generation area.number (room i) (sym head i)) ∙ sym c.is_of.ensures.exact ∙ c.if-not-is_of.true

pub returns-clause-body : goal.returns-clause-body
returns-clause-body g c honest =
    let area = c.args.area in
    let image = (g.D.Disk.view c.args.disk.now).content in
    let size = (g.met.D.Disk.laws c.args.disk.now honest).size in
    let inside : 512 * area.end ≤ length image = omega arith in
    let first = (c.in_ok-read.ensures.honest honest).bytes in
    let head = c.read-head.ensures ∙ head_here area image c.requires.room inside c.read.new.out first in
    let room = body_length area image c.requires.room inside in
    let n = c.sectors.result in
    let fits = c.is_of.ensures.room c.if-not-is_of.false in
    let few : area.start + n + 2 ≤ area.end = omega arith in
    let content = (c.in_ok-read.ensures.honest honest).untouched.content in
    let read =
    c.in_ok-body.ensures.bytes (c.in_ok-read.ensures.same.honest.1 honest)
    ∙ ap (λ (l : List ℕ). c.read.new.out ++ take (512 * (n - 1)) (drop (512 * (area.start + 2)) l)) content
    ∙ sectors_here area image c.requires.room inside c.read.new.out (take (512 * (n - 1)) (drop (512 * (area.start + 2)) image)) n (omega arith) few first refl in
    let count : n ≡ body_sectors (head_of (drop 512 (area_bytes area image))).size = c.sectors.ensures ∙ ap (λ (h : Head). body_sectors h.size) head in (
      (λ i. is_head area.generation area.number (room i) (sym head i)) ∙ sym c.is_of.ensures.exact ∙ c.if-not-is_of.false,
      head,
      read ∙ ap (λ (k : ℕ). take (512 * k) (drop 512 (area_bytes area image))) count,
    )

pub returns-in_err-read-clause-reads : goal.returns-in_err-read-clause-reads
returns-in_err-read-clause-reads g c = one_read c.read.ensures.same c.read.ensures.cause c.read.ensures.honest

pub returns-in_err-read-clause-fault : goal.returns-in_err-read-clause-fault
returns-in_err-read-clause-fault g c is = c.in_err-read.ensures.cause.risen refl

pub returns-in_err-read-clause-damaged : goal.returns-in_err-read-clause-damaged
returns-in_err-read-clause-damaged g c sector is = no_other _ fault_is_no_damage c.from_residual.ensures.1 is

pub returns-in_err-read-clause-size : goal.returns-in_err-read-clause-size
returns-in_err-read-clause-size g c = IfOk-from_err _ _ c.from_residual.ensures.0

pub returns-in_err-read-clause-inside : goal.returns-in_err-read-clause-inside
returns-in_err-read-clause-inside g c = IfOk-from_err _ _ c.from_residual.ensures.0

pub returns-in_err-read-clause-numbers : goal.returns-in_err-read-clause-numbers
returns-in_err-read-clause-numbers g c = IfOk-from_err _ _ c.from_residual.ensures.0

pub returns-in_err-read-clause-body : goal.returns-in_err-read-clause-body
returns-in_err-read-clause-body g c honest = IfOk-from_err _ _ c.from_residual.ensures.0

pub returns-then-not-is_of-clause-reads : goal.returns-then-not-is_of-clause-reads
returns-then-not-is_of-clause-reads g c = one_read c.read.ensures.same c.read.ensures.cause c.read.ensures.honest

pub returns-then-not-is_of-clause-fault : goal.returns-then-not-is_of-clause-fault
returns-then-not-is_of-clause-fault g c is = no_error is

pub returns-then-not-is_of-clause-damaged : goal.returns-then-not-is_of-clause-damaged
returns-then-not-is_of-clause-damaged g c sector is = no_error is

pub returns-then-not-is_of-clause-size : goal.returns-then-not-is_of-clause-size
returns-then-not-is_of-clause-size g c = tt

pub returns-then-not-is_of-clause-inside : goal.returns-then-not-is_of-clause-inside
returns-then-not-is_of-clause-inside g c = tt

pub returns-then-not-is_of-clause-numbers : goal.returns-then-not-is_of-clause-numbers
returns-then-not-is_of-clause-numbers g c = tt

pub returns-in_err-body-clause-reads : goal.returns-in_err-body-clause-reads
returns-in_err-body-clause-reads g c = reads_more (one_read c.read.ensures.same c.read.ensures.cause c.read.ensures.honest) c.in_err-body.ensures.reads

pub returns-in_err-body-clause-fault : goal.returns-in_err-body-clause-fault
returns-in_err-body-clause-fault g c is = then_risen c.read.ensures.cause.later (c.in_err-body.ensures.fault (told _ c.from_residual-in_err-body.ensures.1 is))

pub returns-in_err-body-clause-damaged : goal.returns-in_err-body-clause-damaged
returns-in_err-body-clause-damaged g c sector is = absurd (c.in_err-body.ensures.damaged sector (told _ c.from_residual-in_err-body.ensures.1 is))

pub returns-in_err-body-clause-size : goal.returns-in_err-body-clause-size
returns-in_err-body-clause-size g c = IfOk-from_err _ _ c.from_residual-in_err-body.ensures.0

pub returns-in_err-body-clause-inside : goal.returns-in_err-body-clause-inside
returns-in_err-body-clause-inside g c = IfOk-from_err _ _ c.from_residual-in_err-body.ensures.0

pub returns-in_err-body-clause-numbers : goal.returns-in_err-body-clause-numbers
returns-in_err-body-clause-numbers g c = IfOk-from_err _ _ c.from_residual-in_err-body.ensures.0

pub returns-in_err-body-clause-body : goal.returns-in_err-body-clause-body
returns-in_err-body-clause-body g c honest = IfOk-from_err _ _ c.from_residual-in_err-body.ensures.0

pub returns-clause-reads : goal.returns-clause-reads
returns-clause-reads g c = reads_more (one_read c.read.ensures.same c.read.ensures.cause c.read.ensures.honest) c.in_ok-body.ensures.reads

pub returns-clause-fault : goal.returns-clause-fault
returns-clause-fault g c is = no_error is

pub returns-clause-damaged : goal.returns-clause-damaged
returns-clause-damaged g c sector is = no_error is

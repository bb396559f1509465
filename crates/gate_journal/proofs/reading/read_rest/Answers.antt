use Rattle.std.proofs.Common.{refl, ◌≡◌, ◌-◌, ◌*◌, ◌<◌, ◌++◌, ℕ, List, [], length, take, drop, replicate, sym, ◌∙◌, ap, arith, length-append, length-drop, subst}
use Rattle.std.proofs.lemmas.List.{take_all, take_at, drop_all, append-nil, length-take-le, length-replicate, with_items_is}
use Rattle.std.proofs.lemmas.Result.{IfOk-from_err}
use Rattle.gate_journal.specs.Steps.{OnlyReads}
use Rattle.gate_journal.proofs.Exits.{no_other, no_error, memory_is_no_fault, memory_is_no_damage, fault_is_no_damage, none_read, one_read}
use Rattle.gate_journal.proofs.reading.read_rest.Goals.{then-sectors-gt1+in_ok-resize+in_ok-read, else-sectors-gt1}
use Rattle.gate_journal.proofs.reading.read_rest.Goals as goal

-- sectors read behind the first
module _ (kept first whole out content : List ℕ) (size at s : ℕ) (kept_is : kept ≡ first) (size_is : size ≡ 512) (sector : length first ≡ 512) (more : 1 < s)
    (is : whole ≡ take (512 * s) kept ++ replicate (512 * s - size) 0) (read : out ≡ take (length (take (length whole - 512) (drop 512 whole))) (drop (512 * at) content)) where
  whole_is : whole ≡ first ++ replicate (512 * s - 512) 0
  whole_is =
      is ∙ (λ i. take (512 * s) (kept_is i) ++ replicate (512 * s - size_is i) 0)
      ∙ ap (λ (l : List ℕ). l ++ replicate (512 * s - 512) 0) (take_all (512 * s) first (omega arith))

  whole_length : length whole ≡ 512 * s
  whole_length = omega (arith, ap length whole_is, length-append first (replicate (512 * s - 512) 0), length-replicate {A = ℕ} (512 * s - 512) 0)

  behind : length (take (length whole - 512) (drop 512 whole)) ≡ 512 * (s - 1)
  behind = length-take-le (length whole - 512) (drop 512 whole) (omega (arith, length-drop 512 whole)) ∙ omega (arith, whole_length)

  none_behind : drop (length whole - 512) (drop 512 whole) ≡ []
  none_behind = drop_all (length whole - 512) (drop 512 whole) (omega (arith, length-drop 512 whole))

  front : take 512 whole ≡ first
  front = ap (take 512) whole_is ∙ take_at first (replicate (512 * s - 512) 0) 512 sector

  abbrev read_in : List ℕ
  read_in = take 512 whole ++ (out ++ drop (length whole - 512) (drop 512 whole))

  read_length : length out ≡ length (take (length whole - 512) (drop 512 whole)) → length read_in ≡ length whole
  read_length kept_size = omega (
    arith,
    ap length front,
    ap length none_behind,
    length-append (take 512 whole) (out ++ drop (length whole - 512) (drop 512 whole)),
    length-append out (drop (length whole - 512) (drop 512 whole)),
    behind,
    whole_length,
  )

  rest_read : read_in ≡ first ++ take (512 * (s - 1)) (drop (512 * at) content)
  rest_read = (λ i. front i ++ (read i ++ none_behind i)) ∙ ap (λ (l : List ℕ). first ++ l) (append-nil (take (length (take (length whole - 512) (drop 512 whole))) (drop (512 * at) content)))
      ∙ ap (λ (k : ℕ). first ++ take k (drop (512 * at) content)) behind

  -- a `Vec` of what was read in
  module _ (bytes : List ℕ) (is_in : bytes ≡ read_in) where
    items_read : bytes ≡ first ++ take (512 * (s - 1)) (drop (512 * at) content)
    items_read = is_in ∙ rest_read

pub returns-clause-bytes : goal.returns-clause-bytes
returns-clause-bytes g c honest =
    let first = c.args.first.now in
    let content = (g.D.Disk.view c.args.disk.now).content in
    let s = c.args.sectors in
    let sector : length first ≡ 512 = omega arith in
    let kept = c.in_ok-bytes.bytes in
    let kept_is = c.in_ok-bytes.ensures.items in
    let size : kept.len ≡ 512 = kept.ok.0 ∙ ap length kept_is ∙ sector in
    elim c.if-sectors-gt1.branch [
      | then-sectors-gt1+in_ok-resize+in_ok-read w ↦
          let whole = w.deref_mut.result.now in
          let is = ◌∙◌ {c = take (512 * s) kept.items ++ replicate (512 * s - kept.len) 0} w.deref_mut.ensures.value w.in_ok-resize.ensures.items in
          let read = (w.in_ok-read.ensures.honest honest).bytes in
          let more : 1 < s = w.if-sectors-gt1.true in
          let ws = read_in kept.items first whole w.read.new.out content kept.len c.args.at s kept_is size sector more is read in
          let long : length ws ≡ w.resize.new.self.len =
          read_length kept.items first whole w.read.new.out content kept.len c.args.at s kept_is size sector more is read w.read.auto.out
          ∙ ap length w.deref_mut.ensures.value ∙ sym w.resize.new.self.ok.0 in
          let items : c.if-sectors-gt1.bytes.items ≡ ws = subst (λ v. v.items ≡ ws) (sym w.bytes-is) (with_items_is w.resize.new.self ws long) in
          items_read kept.items first whole w.read.new.out content kept.len c.args.at s kept_is size sector more is read c.if-sectors-gt1.bytes.items items
      | else-sectors-gt1 w ↦
          let one : s - 1 ≡ 0 = omega arith in
          ap (λ v. v.items) w.bytes-is ∙ kept_is ∙ sym (append-nil first) ∙ ap (λ (k : ℕ). first ++ take (512 * k) (drop (512 * c.args.at) content)) (sym one)
    ]

pub returns-in_err-bytes-clause-reads : goal.returns-in_err-bytes-clause-reads
returns-in_err-bytes-clause-reads g c = none_read (g.D.Disk.view c.args.disk.now) (g.D.Disk.fault_count c.args.disk.now)

pub returns-in_err-bytes-clause-fault : goal.returns-in_err-bytes-clause-fault
returns-in_err-bytes-clause-fault g c is = no_other _ memory_is_no_fault c.from_residual.ensures.1 is

pub returns-in_err-bytes-clause-damaged : goal.returns-in_err-bytes-clause-damaged
returns-in_err-bytes-clause-damaged g c sector is = no_other _ memory_is_no_damage c.from_residual.ensures.1 is

pub returns-in_err-bytes-clause-size : goal.returns-in_err-bytes-clause-size
returns-in_err-bytes-clause-size g c = IfOk-from_err _ _ c.from_residual.ensures.0

pub returns-in_err-bytes-clause-bytes : goal.returns-in_err-bytes-clause-bytes
returns-in_err-bytes-clause-bytes g c honest = IfOk-from_err _ _ c.from_residual.ensures.0

pub returns-in_err-resize-clause-reads : goal.returns-in_err-resize-clause-reads
returns-in_err-resize-clause-reads g c = none_read (g.D.Disk.view c.args.disk.now) (g.D.Disk.fault_count c.args.disk.now)

pub returns-in_err-resize-clause-fault : goal.returns-in_err-resize-clause-fault
returns-in_err-resize-clause-fault g c is = no_other _ memory_is_no_fault c.from_residual-in_err-resize.ensures.1 is

pub returns-in_err-resize-clause-damaged : goal.returns-in_err-resize-clause-damaged
returns-in_err-resize-clause-damaged g c sector is = no_other _ memory_is_no_damage c.from_residual-in_err-resize.ensures.1 is

pub returns-in_err-resize-clause-size : goal.returns-in_err-resize-clause-size
returns-in_err-resize-clause-size g c = IfOk-from_err _ _ c.from_residual-in_err-resize.ensures.0

pub returns-in_err-resize-clause-bytes : goal.returns-in_err-resize-clause-bytes
returns-in_err-resize-clause-bytes g c honest = IfOk-from_err _ _ c.from_residual-in_err-resize.ensures.0

pub returns-in_err-read-clause-reads : goal.returns-in_err-read-clause-reads
returns-in_err-read-clause-reads g c = one_read c.read.ensures.same c.read.ensures.cause c.read.ensures.honest

pub returns-in_err-read-clause-fault : goal.returns-in_err-read-clause-fault
returns-in_err-read-clause-fault g c is = c.in_err-read.ensures.cause.risen refl

pub returns-in_err-read-clause-damaged : goal.returns-in_err-read-clause-damaged
returns-in_err-read-clause-damaged g c sector is = no_other _ fault_is_no_damage c.from_residual-in_err-read.ensures.1 is

pub returns-in_err-read-clause-size : goal.returns-in_err-read-clause-size
returns-in_err-read-clause-size g c = IfOk-from_err _ _ c.from_residual-in_err-read.ensures.0

pub returns-in_err-read-clause-bytes : goal.returns-in_err-read-clause-bytes
returns-in_err-read-clause-bytes g c honest = IfOk-from_err _ _ c.from_residual-in_err-read.ensures.0

pub returns-clause-reads : goal.returns-clause-reads
returns-clause-reads g c =
    let view = g.D.Disk.view in
    let count = g.D.Disk.fault_count in
    let old = c.args.disk.now in
    elim c.if-sectors-gt1.branch [
      | then-sectors-gt1+in_ok-resize+in_ok-read w ↦
          subst (λ (d : g.row.D.Denot). OnlyReads (view old) (view d) (count old) (count d)) (sym w.disk-is) (one_read w.read.ensures.same w.read.ensures.cause w.read.ensures.honest)
      | else-sectors-gt1 w ↦ subst (λ (d : g.row.D.Denot). OnlyReads (view old) (view d) (count old) (count d)) (sym w.disk-is) (none_read (view old) (count old))
    ]

pub returns-clause-fault : goal.returns-clause-fault
returns-clause-fault g c is = no_error is

pub returns-clause-damaged : goal.returns-clause-damaged
returns-clause-damaged g c sector is = no_error is

pub returns-clause-size : goal.returns-clause-size
returns-clause-size g c =
    let first = c.args.first.now in
    let s = c.args.sectors in
    let sector : length first ≡ 512 = omega arith in
    elim c.if-sectors-gt1.branch [
      | then-sectors-gt1+in_ok-resize+in_ok-read w ↦ omega (arith, c.if-sectors-gt1.bytes.ok.0, ap (λ v. v.len) w.bytes-is, w.in_ok-resize.ensures.len)
      | else-sectors-gt1 w ↦
          let items : c.if-sectors-gt1.bytes.items ≡ first = subst (λ v. v.items ≡ first) (sym w.bytes-is) c.in_ok-bytes.ensures.items in
          let one : s ≡ 1 = omega arith in
          ap length items ∙ sector ∙ ap (λ (n : ℕ). 512 * n) (sym one)
    ]

use Rattle.std.proofs.Common.{◌≡◌, ◌+◌, ℕ, arith, length, length-append, refl}
use Rattle.retry_rules.specs.declared.policy.RetryPolicy.{RetryPolicy}
use Rattle.invoke_records.specs.declared.command.Cause.{Cause}
use Rattle.invoke_records.specs.declared.command.Cause.TheVariants.{Reported, Timeout, Exited}
use Rattle.invoke_records.specs.declared.command.Kind.{Kind}
use Rattle.invoke_records.specs.declared.command.Kind.TheVariants.{Accept, Start, Succeed, Fail, Throttle, Interrupt, Expire, Collect, Configure}
use Rattle.invoke_records.specs.declared.command.Command.{Command}
use Rattle.invoke_records.specs.Spelling.{command_text, detail_text}
use Rattle.invoke_records.specs.laws.Commands.{command_length}
use Rattle.gate_journal.proofs.writing.command_size.Goals as goal
use Rattle.gate_journal.proofs.writing.command_size.Goals.{in-Fail, in-Configure, in_default}

fail_size : (k : Kind) (x : Cause) → k ≡ Fail x → length (detail_text k) ≡ 1
fail_size (Fail Reported) x is = refl
fail_size (Fail Timeout) x is = refl
fail_size (Fail Exited) x is = refl
fail_size Accept x is = absurd (cc)
fail_size Start x is = absurd (cc)
fail_size Succeed x is = absurd (cc)
fail_size Throttle x is = absurd (cc)
fail_size Interrupt x is = absurd (cc)
fail_size Expire x is = absurd (cc)
fail_size Collect x is = absurd (cc)
fail_size (Configure policy) x is = absurd (cc)

configure_size : (k : Kind) (x : RetryPolicy) → k ≡ Configure x → length (detail_text k) ≡ 5
configure_size Accept x is = absurd (cc)
configure_size Start x is = absurd (cc)
configure_size Succeed x is = absurd (cc)
configure_size (Fail cause) x is = absurd (cc)
configure_size Throttle x is = absurd (cc)
configure_size Interrupt x is = absurd (cc)
configure_size Expire x is = absurd (cc)
configure_size Collect x is = absurd (cc)
configure_size (Configure policy) x is = refl

other_size : (k : Kind) → ((x : Cause) → k ≡ Fail x → ⊥) → ((x : RetryPolicy) → k ≡ Configure x → ⊥) → length (detail_text k) ≡ 0
other_size (Fail x) other another = absurd (other x refl)
other_size Accept other another = refl
other_size Start other another = refl
other_size Succeed other another = refl
other_size Throttle other another = refl
other_size Interrupt other another = refl
other_size Expire other another = refl
other_size Collect other another = refl
other_size (Configure x) other another = absurd (another x refl)

text_size : (c : Command) (detail : ℕ) → length c.id ≡ 16 → length (detail_text c.kind) ≡ detail → length (command_text c) ≡ 31 + detail + length c.bytes
text_size c detail id is = omega (arith, command_length c id, length-append (detail_text c.kind) c.bytes, is)

pub returns-clause-size : goal.returns-clause-size
returns-clause-size c =
    elim c.match-command.branch [
      | in-Fail w ↦ omega (arith, text_size c.args.command.now 1 (omega arith) (fail_size c.args.command.now.kind w.in-Fail.field-0 w.in-Fail.is))
      | in-Configure w ↦ omega (arith, text_size c.args.command.now 5 (omega arith) (configure_size c.args.command.now.kind w.in-Configure.field-0 w.in-Configure.is))
      | in_default w ↦ omega (arith, text_size c.args.command.now 0 (omega arith) (other_size c.args.command.now.kind w.in_default.not-Fail w.in_default.not-Configure))
    ]

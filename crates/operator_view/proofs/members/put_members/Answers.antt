use Rattle.std.proofs.Common.{string_bytes, length}
use Rattle.operator_view.specs.EventText.{answer_bytes, name_members, moment_members, environment_member, count_members, policy_members, size_members, members_text}
use Rattle.operator_view.proofs.Behind.{six}
use Rattle.operator_view.proofs.members.put_members.Goals as goal

pub returns : goal.returns
unfolding members_text
returns c =
    let r = c.args.row.now in
    let written = rw (
      c.in_ok-put_policy.ensures,
      c.in_ok-put_counts.ensures,
      c.in_ok-put_environment.ensures,
      c.in_ok-put_moments.ensures,
      c.in_ok-put_names.ensures,
      c.len.ensures,
      c.answer_len.ensures,
    )
    at c.put_sizes.ensures in
    rw (← six (string_bytes c.args.out.now) (name_members r.id r.standing) (moment_members r.accepted r.standing) (environment_member r.standing)
    (count_members r.starts r.failures r.push_backs) (policy_members r.policy.retries r.policy.age) (size_members (length r.payload) (length (answer_bytes r.answer)))) written

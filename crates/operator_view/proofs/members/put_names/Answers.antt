use Rattle.std.proofs.Common.{◌≡◌, ◌++◌, OnOk, string_bytes, codes, rules}
use Rattle.operator_view.proofs.members.put_names.Goals as goal

pub returns : goal.returns
returns c =
    let written : OnOk c.write.result (string_bytes c.write.new.self ≡ string_bytes c.args.out.now ++ (codes "\"id\":\"" ++ (string_bytes c.in_ok-id.id ++ (codes "\",\"standing\":\"" ++ (c.standing_text-text.result.now ++ codes "\""))))) = search rules in
    rw (c.in_ok-id.ensures, c.standing_text-text.ensures) at written

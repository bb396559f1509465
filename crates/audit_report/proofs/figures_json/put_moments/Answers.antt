use Rattle.std.proofs.Common.{◌≡◌, ℕ, List, ◌++◌, string_bytes, codes, append_assoc}
use Rattle.audit_report.specs.Figures.{moment_text}
use Rattle.audit_report.proofs.figures_json.put_moments.Goals as goal

four : (x a b c d : List ℕ) → (((x ++ a) ++ b) ++ c) ++ d ≡ x ++ (a ++ (b ++ (c ++ d)))
four x a b c d = simp append_assoc

pub returns : goal.returns
returns c =
    let written = rw (c.in_ok-push_str-2.ensures.bytes, c.in_ok-put_moment.ensures, c.in_ok-push_str.ensures.bytes) at c.put_moment-2.ensures in
    rw (← four (string_bytes c.args.out.now) (codes ",\"oldest_waiting\":") (moment_text c.args.waiting) (codes ",\"oldest_record\":") (moment_text c.args.ended)) written

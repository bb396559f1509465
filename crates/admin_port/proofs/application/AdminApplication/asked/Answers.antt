use Rattle.std.proofs.Common.{◌≡◌, ◌∙◌, List, ℕ, codes, Err, refl, ap, sym, inl, inr}
use Rattle.http_port.specs.Target.{target_in}
use Rattle.admin_replies.specs.Requests.{asked_of, status_of}
use Rattle.admin_port.proofs.application.AdminApplication.asked.Goals as goal

pub returns-in-Err-clause-refused : goal.returns-in-Err-clause-refused
returns-in-Err-clause-refused g c =
    let asked : asked_of c.args.head.now.method (target_in c.args.head.now) ≡ Err c.in-Err.why =
    ap (λ (m : List ℕ). asked_of m (target_in c.args.head.now)) (sym c.as_str.ensures.value)
    ∙ ap (λ (t : List ℕ). asked_of c.as_str.result.now t) (sym c.target_of.ensures) ∙ sym c.in-Err.ensures in
    elim c.refuse_words.ensures [ inl alone ↦ inl alone | inr said ↦ inr (status_of c.in-Err.why, said.0, said.1, inr (c.in-Err.why, asked, refl)) ]

pub returns-then-not-is_local-clause-refused : goal.returns-then-not-is_local-clause-refused
returns-then-not-is_local-clause-refused g c =
    elim c.refuse.ensures [ inl alone ↦ inl alone | inr line ↦ inr (403, codes "this port answers to the hosts 127.0.0.1, localhost and [::1] alone", line, inl (refl, sym c.is_local.ensures ∙ c.if-not-is_local.true)) ]

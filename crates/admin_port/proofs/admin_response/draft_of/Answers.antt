use Rattle.std.proofs.Common.{List, ℕ, [], ◌∷◌, codes, ap, ◌∙◌}
use Rattle.admin_replies.specs.Media.{content_type_of}
use Rattle.http_port.specs.Answering.{Message, status_alone, with_more}
use Rattle.admin_port.specs.Replying.{next_told}
use Rattle.admin_port.proofs.Added.{added}
use Rattle.admin_port.proofs.admin_response.draft_of.Goals as goal

pub returns : goal.returns
returns c =
    added (status_alone c.args.reply.now.status) c.add.new.self c.add-2.new.self c.add_next.new.draft
    (codes "content-type", content_type_of c.args.reply.now.media) (codes "cache-control", codes "no-store") (next_told c.args.reply.now.next)
    (c.in_ok-add.ensures.added ∙ ap (λ (m : Message). with_more m ((codes "content-type", c.as_bytes.result.now) ∷ [])) c.in_ok-draft.ensures
    ∙ ap (λ (v : List ℕ). with_more (status_alone c.args.reply.now.status) ((codes "content-type", v) ∷ [])) (c.as_bytes.ensures.value ∙ c.content_type.ensures))
    c.in_ok-add-2.ensures.added c.in_ok-add_next.ensures

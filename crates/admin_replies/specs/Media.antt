-- What the body of a reply is said to be.
use Rattle.std.specs.Prelude.{ℕ, List, codes}
use Rattle.admin_replies.specs.declared.admin_reply.Media.{Media}
use Rattle.admin_replies.specs.declared.admin_reply.Media.TheVariants as media

abbrev pub content_type_of : Media → List ℕ
content_type_of media.Text = codes "text/plain; charset=utf-8"
content_type_of media.Metrics = codes "text/plain; version=0.0.4; charset=utf-8"
content_type_of media.Json = codes "application/json"
content_type_of media.Lines = codes "application/x-ndjson"
content_type_of media.Html = codes "text/html; charset=utf-8"

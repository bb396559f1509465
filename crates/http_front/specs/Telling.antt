-- How replies and refusals are told: as messages.
use Rattle.std.specs.Prelude.{◌≡◌, ◌⊎◌, ℕ, List, Option, Some, None}
use Rattle.retry_rules.specs.declared.settings.Settings.{Settings}
use Rattle.http_port.specs.Answering.{Message, message, status_alone}
use Rattle.http_port.specs.Headers.{headers_of}
use Rattle.api_core.specs.declared.dialect.Audience.{Audience}
use Rattle.api_core.specs.declared.dialect.Dialect.{Dialect}
use Rattle.api_core.specs.declared.refusal.Refusal.{Refusal}
use Rattle.api_core.specs.declared.reply.Reply.{Reply}
use Rattle.api_core.specs.Replies.{refusing, with_request_id}

-- its status, its headers in their order, and the bytes of its body
abbrev pub message_told : Reply → Message
message_told reply = message reply.status (headers_of reply.headers) reply.body

-- the reply with the id of its request, where it is to tell one and there is memory for that
abbrev pub IsWithId : Option (List ℕ) → Reply → Reply → Type 0
IsWithId None reply told = told ≡ reply
IsWithId (Some id) reply told = (told ≡ with_request_id id reply) ⊎ (told ≡ reply)

abbrev pub TellsReply : Option (List ℕ) → Reply → Message → Type 0
TellsReply id reply told = (whole : Reply) × IsWithId id reply whole × (told ≡ message_told whole)

-- a refusal, with an id where one is told; or 503 alone, where there is no memory for it
abbrev pub TellsRefusal : Dialect → Settings → Audience → Refusal → Message → Type 0
TellsRefusal dialect settings audience why told =
    (told ≡ status_alone 503) ⊎ ((id : Option (List ℕ)) × TellsReply id (refusing dialect settings audience why) told)

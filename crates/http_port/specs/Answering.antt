-- What a port answers with: a status, headers in their order, and the bytes of a body.
use Rattle.std.specs.Prelude.{◌≡◌, ◌⊎◌, ℕ, List, [], codes, unwrap_or}
use Rattle.http.specs.declared.response.Response.{Response}
use Rattle.http.specs.Response.{head_of, body_of}
use Rattle.http_body_util.specs.declared.full.Full.{Full}
use Rattle.http_header.specs.FieldValue.{plain_value}
use Rattle.http_header.specs.HeaderMap.{insert}
use Rattle.http_port.specs.Headers.{Headers, with_headers}

pub record Message : Type 0 where
  pub status : ℕ
  pub headers : Headers
  pub body : List ℕ

abbrev pub message : ℕ → Headers → List ℕ → Message
message status headers body = record { status = status; headers = headers; body = body }

-- a status alone
abbrev pub status_alone : ℕ → Message
status_alone status = message status [] []

-- the message with more headers, behind its own
abbrev pub with_more : Message → List (List ℕ × List ℕ) → Message
with_more told more = message told.status (with_headers told.headers more) told.body

-- the message with this body
abbrev pub with_bytes : Message → List ℕ → Message
with_bytes told body = message told.status told.headers body

-- all that a response tells
abbrev pub message_of : Response (Full (List ℕ)) → Message
message_of response = message (head_of response).status (head_of response).headers (unwrap_or (body_of response).buf [])

-- a text of JSON. Where there is no memory to say that it is that, the text comes all the same
abbrev pub IsJson : ℕ → List ℕ → Message → Type 0
IsJson status text told =
    (told ≡ message status (insert [] (codes "content-type") (plain_value (codes "application/json"))) text)
    ⊎ (told ≡ message status [] text)

-- what is told, or 503 alone where there is no memory to tell it
abbrev pub IsTold : {T : Type 0} → (T → Message → Type 0) → T → Message → Type 0
IsTold tells it told = tells it told ⊎ (told ≡ status_alone 503)

-- the message, as the last of its connection
abbrev pub closing : Message → Message
closing told = message told.status (insert told.headers (codes "connection") (plain_value (codes "close"))) told.body

-- the message is sent as it is, or as the last of its connection
abbrev pub IsSent : Message → Message → Type 0
IsSent told sent = (sent ≡ told) ⊎ (sent ≡ closing told)

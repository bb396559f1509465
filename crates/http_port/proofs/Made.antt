-- What a response tells that is made of its parts.
use Rattle.std.proofs.Common.{◌≡◌, ◌==◌, ◌⊎◌, ℕ, List, [], ◌∷◌, length, unwrap_or, Option, Some, None, Result, Ok, Err, OnOk, OnErr, if◌then◌else◌, codes, refl, ap, ◌∙◌, inl, inr}
use lib.Dec.{eqb-suc-zero}
use Rattle.http.specs.declared.response.Parts.{Parts}
use Rattle.http.specs.declared.response.Response.{Response}
use Rattle.http.specs.Response.{head_of, body_of}
use Rattle.http_body_util.specs.declared.full.Full.{Full}
use Rattle.http_header.specs.FieldValue.{plain_value}
use Rattle.http_header.specs.HeaderMap.{insert}
use Rattle.http_port.specs.Answering.{Message, message, message_of, IsJson, IsSent}
use Rattle.http_port.specs.Headers.{Headers}

-- the bytes of a body of one piece, which has none where the piece is empty
whole : (bytes : List ℕ) → unwrap_or (if length bytes == 0 then None else Some bytes) [] ≡ bytes
whole [] = refl
whole (b ∷ bytes) = rw (eqb-suc-zero (length bytes))

pub made : (response : Response (Full (List ℕ))) (head : Parts) (full : Full (List ℕ)) (bytes : List ℕ)
    → head_of response ≡ head → body_of response ≡ full → full.buf ≡ (if length bytes == 0 then None else Some bytes)
    → message_of response ≡ message head.status head.headers bytes
made response head full bytes of_head of_body of_bytes =
    ap (λ (h : Parts). message h.status h.headers (unwrap_or (body_of response).buf [])) of_head
    ∙ ap (λ (b : List ℕ). message head.status head.headers b)
    (ap (λ (f : Full (List ℕ)). unwrap_or f.buf []) of_body ∙ ap (λ (o : Option (List ℕ)). unwrap_or o []) of_bytes ∙ whole bytes)

-- a change that is refused for want of memory changes nothing
pub changed_or_not : {A E : Type 0} (r : Result A E) (P Q : Type 0) → OnOk r P → OnErr r Q → P ⊎ Q
changed_or_not (Ok a) P Q done kept = inl done
changed_or_not (Err e) P Q done kept = inr kept

-- the same head and body are sent, with one header more or not
pub sent_last : (answered sent : Response (Full (List ℕ))) (headers : Headers)
    → head_of sent ≡ record answered.head { headers = headers } → body_of sent ≡ body_of answered
    → (headers ≡ insert (head_of answered).headers (codes "connection") (plain_value (codes "close"))) ⊎ (headers ≡ (head_of answered).headers)
    → IsSent (message_of answered) (message_of sent)
sent_last answered sent headers of_head of_body (inl is) =
    inr (ap (λ (h : Parts). message h.status h.headers (unwrap_or (body_of sent).buf [])) of_head
    ∙ ap (λ (b : Full (List ℕ)). message (head_of answered).status headers (unwrap_or b.buf [])) of_body
    ∙ ap (λ (h : Headers). message (head_of answered).status h (unwrap_or (body_of answered).buf [])) is)
sent_last answered sent headers of_head of_body (inr is) =
    inl (ap (λ (h : Parts). message h.status h.headers (unwrap_or (body_of sent).buf [])) of_head
    ∙ ap (λ (b : Full (List ℕ)). message (head_of answered).status headers (unwrap_or b.buf [])) of_body
    ∙ ap (λ (h : Headers). message (head_of answered).status h (unwrap_or (body_of answered).buf [])) is)

-- a text of JSON, behind a header that says so or behind none
pub json_made : (told : Message) (status : ℕ) (before after : Headers) (bytes text : List ℕ) → told ≡ message status after bytes → bytes ≡ text → before ≡ []
    → (after ≡ insert before (codes "content-type") (plain_value (codes "application/json"))) ⊎ (after ≡ before) → IsJson status text told
json_made told status before after bytes text is of_text none (inl set) =
    inl (is ∙ ap (λ (b : List ℕ). message status after b) of_text
    ∙ ap (λ (h : Headers). message status h text) (set ∙ ap (λ (h : Headers). insert h (codes "content-type") (plain_value (codes "application/json"))) none))
json_made told status before after bytes text is of_text none (inr kept) =
    inr (is ∙ ap (λ (b : List ℕ). message status after b) of_text ∙ ap (λ (h : Headers). message status h text) (kept ∙ none))

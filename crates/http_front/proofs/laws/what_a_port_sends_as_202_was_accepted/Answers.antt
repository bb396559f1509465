use Rattle.std.proofs.Common.{inl, inr, arith}
use Rattle.http_port.specs.Answering.{message_of}
use Rattle.http_port.specs.laws.Sent.{sent_is}
use Rattle.http_front.proofs.Sending.{AnswersAt, Gives, Tells, reply_accepts, no_refusal_accepts}
use Rattle.http_front.proofs.laws.what_a_port_sends_as_202_was_accepted.Goals as goal

pub returns : goal.returns
returns g c = λ hosts application request response sends says.
    elim (sent_is AnswersAt Gives Tells hosts application request response sends (omega (arith, says.0))) [
      | inl it ↦ (it, reply_accepts application request (message_of response) it says)
      | inr refusal ↦ no_refusal_accepts application request (message_of response) refusal says.0
    ]

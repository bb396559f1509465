use Rattle.std.proofs.Common.{◌∙◌, ◌++◌, ap, codes}
use Rattle.port_meters.specs.Stamps.{state_of}
use Rattle.port_meters.proofs.version.Stamp.at_end.Goals as goal

pub returns : goal.returns
returns c = record {
  program = c.in_ok-before.field-0.now;
  ends =
      let version = c.in_ok-bytes-6.ensures.ends ∙ ap (λ rest. rest ++ c.in_ok-bytes-6.version.now) c.in_ok-before.ensures in
      let kit = c.in_ok-bytes-4.ensures.ends ∙ ap (λ rest. rest ++ c.in_ok-bytes-4.kit.now) (c.in_ok-bytes-5.ensures ∙ ap (λ rest. rest ++ codes " ") version) in
      let logic = c.in_ok-bytes-2.ensures.ends ∙ ap (λ rest. rest ++ c.in_ok-bytes-2.logic.now) (c.in_ok-bytes-3.ensures ∙ ap (λ rest. rest ++ codes " logic ") kit) in
      c.in_ok-bytes.ensures ∙ ap (λ rest. rest ++ state_of c.in_ok-bytes.is_proved) logic;
  version = c.in_ok-bytes-6.ensures.some;
  kit = c.in_ok-bytes-4.ensures.some;
  logic = c.in_ok-bytes-2.ensures.some;
}

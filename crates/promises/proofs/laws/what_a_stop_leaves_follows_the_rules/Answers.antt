use Rattle.promises.specs.laws.Promised.{rules_hold}
use Rattle.promises.proofs.laws.what_a_stop_leaves_follows_the_rules.Goals as goal

pub returns : goal.returns
returns c = record {
  rules = rules_hold;
  stopped = λ s point history image stop. rules_hold s stop.after stop.goes_on.legal;
}

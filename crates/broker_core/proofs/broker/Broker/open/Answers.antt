use Rattle.std.proofs.Common.{◌≡◌, ℕ, length, take, sym, ap, subst, ◌∙◌, arith}
use Rattle.std.proofs.lemmas.List.{take_all, length-take}
use Rattle.invoke_records.specs.declared.snapshot.Snapshot.{Snapshot}
use Rattle.retry_rules.specs.declared.settings.Settings.{Settings}
use Rattle.std.proofs.Math.ListN.{drop_of_length-le}
use Rattle.async_core.specs.History.{table_of}
use Rattle.checkpoint.specs.Image.{HasGeneration}
use Rattle.checkpoint.specs.Live.{RecoversTo, IsLive, generation_of, live_recovers}
use Rattle.broker_core.specs.laws.Generations.{live_generation}
use Rattle.broker_core.specs.History.{AreGood, IsLegalStop}
use Rattle.broker_core.proofs.Reopening.{reopens, stops_at_end}
use Rattle.broker_core.proofs.broker.Broker.open.Goals as goal

pub returns-in-Ok-clause-stands : goal.returns-in-Ok-clause-stands
returns-in-Ok-clause-stands g c honest s history durable legal stops =
    let view = g.D.Disk.view in
    let disk = c.args.disk in
    let opened = c.in-Ok.opened in
    let table = c.in-Ok.table in
    let t = table.table in
    let kept : table.settings ≡ opened.settings = c.in-Ok.ensures.settings in
    let live = c.in-Ok.ensures.live honest in
    let image = (view disk).content in
    let is : RecoversTo table.settings t image = subst (λ (r : Settings). RecoversTo r t image) (sym kept) live.0 in
    let facts = reopens s history durable table.settings t image legal (stops image (g.met.D.Disk.laws disk honest).reads_an_image) is in
    let size : length (take t.number history) ≡ t.number = omega (arith, length-take t.number history, facts.most) in
    let n : ℕ = c.number-durable.result in
    let same : n ≡ t.number = c.number-durable.ensures in
    let whole : take t.number (take t.number history) ≡ take t.number history = take_all t.number (take t.number history) (omega (arith, size)) in
    let there = subst (λ (u : Snapshot). IsLive (view c.recover.new.disk) opened u) facts.table live.1 in (
      facts.least,
      facts.most,
      facts.settings,
      record {
        good = subst AreGood (sym kept) c.in-Ok.ensures.good;
        legal = facts.legal;
        table_is = facts.table;
        durable_is = omega (arith, same, size);
        pending_is = c.new.ensures.items ∙ sym (drop_of_length-le (take t.number history) (omega (arith, same, size)));
        stops = λ honest_now left_image left.
            subst (λ (k : ℕ). IsLegalStop table.settings (take t.number history) k left_image) (sym same)
            (stops_at_end table.settings history t.number t left_image facts.most facts.table
            (subst (λ (r : Settings). RecoversTo r t left_image) (sym kept) (live_recovers _ _ _ live.1 left_image left)));
        live = λ whole_broker honest_now.
            subst (λ (u : Snapshot). IsLive (view c.recover.new.disk) opened u)
            (ap (table_of table.settings) (sym whole ∙ ap (λ (k : ℕ). take k (take t.number history)) (sym same))) there;
        front = tt;
        ahead = λ whole_broker honest_now. tt;
      },
    )

pub returns-in-Ok-clause-generation : goal.returns-in-Ok-clause-generation
returns-in-Ok-clause-generation g c honest =
    subst (HasGeneration (generation_of c.in-Ok.opened)) (c.recover.ensures.content honest)
    (live_generation _ _ c.in-Ok.opened c.in-Ok.table.table (c.in-Ok.ensures.live honest).1)

use Rattle.std.proofs.Common.{◌≡◌, ◌∙◌, length, ap, arith, is_some}
use Rattle.std.proofs.lemmas.List.{length-map}
use Rattle.std.proofs.lemmas.Result.{IfOk-weaker, IfErr-weaker}
use Rattle.invoke_records.specs.declared.snapshot.Snapshot.{Snapshot}
use Rattle.gate_journal.specs.Journal as journal
use Rattle.retry_rules.specs.Settings.{bad_field}
use Rattle.checkpoint.specs.Image.{segment_sectors_in}
use Rattle.checkpoint.proofs.Lives.{opened_replays, fold_refused, is_opened}
use Rattle.checkpoint.proofs.opening.read_opened.Goals as goal

pub returns-clause-settings : goal.returns-clause-settings
returns-clause-settings g c = IfOk-weaker c.judged.result _ _ (λ r opens. ap bad_field (opens.settings ∙ c.in_ok-segment.ensures.settings) ∙ c.requires.sound.header.good) c.judged.ensures.opens

pub returns-clause-room : goal.returns-clause-room
returns-clause-room g c = IfOk-weaker c.judged.result _ _
    (λ r opens. record {
      least =
          let version = opens.version ∙ c.in_ok-segment.ensures.version in
          let settings = opens.settings ∙ c.in_ok-segment.ensures.settings in
          let header = c.args.found.header in
          let same : segment_sectors_in r.0.version r.0.settings ≡ segment_sectors_in header.version header.settings = λ i. segment_sectors_in (version i) (settings i) in
          omega (arith, same, c.requires.sound.header.least, c.requires.inside);
      end = omega (arith, ap journal.end_of opens.journal, c.in_ok-segment.ensures.end, c.requires.sound.base, c.requires.inside);
    })
    c.judged.ensures.opens

pub returns-clause-number : goal.returns-clause-number
returns-clause-number g c = IfOk-weaker c.judged.result _ _
    (λ r opens.
    ap journal.number_of opens.journal ∙ c.in_ok-segment.ensures.number
    ∙ omega (arith, ap (λ (s : Snapshot). s.number) opens.first, ap length opens.others, length-map c.in_ok-segment.segment.behind.items (λ c. c.1)))
    c.judged.ensures.opens

pub returns-clause-below : goal.returns-clause-below
returns-clause-below g c = IfOk-weaker c.judged.result _ _
    (λ r opens.
    omega (arith, c.in_ok-segment.ensures.below, ap (λ (s : Snapshot). s.number) opens.first, ap length opens.others, length-map c.in_ok-segment.segment.behind.items (λ c. c.1)))
    c.judged.ensures.opens

pub returns-clause-legal : goal.returns-clause-legal
returns-clause-legal g c = IfOk-weaker c.judged.result _ _ (λ r opens. ap is_some (opened_replays c.in_ok-segment.segment c.args.other_open r.0 r.1 r.2.items opens)) c.judged.ensures.opens

pub returns-clause-exact : goal.returns-clause-exact
returns-clause-exact g c honest =
    let content = (g.D.Disk.view c.args.disk.now).content in
    IfOk-weaker c.judged.result _ _
    (λ r opens. is_opened c.args.sectors content c.args.found c.in_ok-segment.segment (c.in_ok-segment.ensures.exact honest) c.args.other_open r.0 r.1 r.2.items opens)
    c.judged.ensures.opens

pub returns-clause-refused : goal.returns-clause-refused
returns-clause-refused g c honest =
    let content = (g.D.Disk.view c.args.disk.now).content in
    IfErr-weaker c.judged.result _ _ (fold_refused c.args.sectors content c.args.found c.in_ok-segment.segment (c.in_ok-segment.ensures.exact honest)) c.judged.ensures.refused

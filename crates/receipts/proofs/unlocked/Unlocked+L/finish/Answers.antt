use Rattle.std.proofs.Common.{rules, ◌≡◌, true, false, refl, sym, ◌∙◌, ap, length}
use Rattle.std.proofs.lemmas.Bool.{true≢false}
use Rattle.receipts.specs.Desks.{AreAll}
use Rattle.receipts.proofs.AllThere.{reason_where_all}
use Rattle.receipts.proofs.unlocked.Unlocked+L.finish.Goals as goal

pub returns-then-not-has_all-clause-all : goal.returns-then-not-has_all-clause-all
returns-then-not-has_all-clause-all g c = tt

pub returns-then-not-has_all-clause-marks : goal.returns-then-not-has_all-clause-marks
returns-then-not-has_all-clause-marks g c = tt

pub returns-then-not-has_all-clause-sum : goal.returns-then-not-has_all-clause-sum
returns-then-not-has_all-clause-sum g c = tt

pub returns-then-not-has_all-clause-joined : goal.returns-then-not-has_all-clause-joined
returns-then-not-has_all-clause-joined g c = tt

pub returns-then-not-has_all-clause-refused : goal.returns-then-not-has_all-clause-refused
returns-then-not-has_all-clause-refused g c =
    let whole = rw c.deref.ensures.value at c.has_all.ensures in
    let no : c.has_all.result ≡ false = search rules in
    λ all. true≢false (sym (whole.1 all) ∙ no)

pub returns-then-not-has_all-clause-not_joined : goal.returns-then-not-has_all-clause-not_joined
returns-then-not-has_all-clause-not_joined g c = tt

pub returns-then-not-has_all-clause-desks : goal.returns-then-not-has_all-clause-desks
returns-then-not-has_all-clause-desks g c = refl

pub returns-then-not-has_all-clause-same : goal.returns-then-not-has_all-clause-same
returns-then-not-has_all-clause-same g c = refl

pub into_list-requires-clause-some : goal.into_list-requires-clause-some
into_list-requires-clause-some g c = c.args.self.locked.desk_count.some

pub into_list-requires-clause-desks : goal.into_list-requires-clause-desks
into_list-requires-clause-desks g c =
    let whole = rw c.deref.ensures.value at c.has_all.ensures in
    let yes : c.has_all.result ≡ true = search rules in
    (whole.0 yes).once.0

pub returns-in-Ok-clause-all : goal.returns-in-Ok-clause-all
returns-in-Ok-clause-all g c =
    let whole = rw c.deref.ensures.value at c.has_all.ensures in
    let yes : c.has_all.result ≡ true = search rules in
    whole.0 yes

pub returns-in-Ok-clause-marks : goal.returns-in-Ok-clause-marks
returns-in-Ok-clause-marks g c = c.into_list.ensures.all ∙ c.in-Ok.ensures.marks

pub returns-in-Ok-clause-sum : goal.returns-in-Ok-clause-sum
returns-in-Ok-clause-sum g c = c.into_list.ensures.sum ∙ ap length c.in-Ok.ensures.marks

pub returns-in-Ok-clause-joined : goal.returns-in-Ok-clause-joined
returns-in-Ok-clause-joined g c = c.in-Ok.ensures.joined

pub returns-in-Ok-clause-refused : goal.returns-in-Ok-clause-refused
returns-in-Ok-clause-refused g c = tt

pub returns-in-Ok-clause-not_joined : goal.returns-in-Ok-clause-not_joined
returns-in-Ok-clause-not_joined g c = tt

pub returns-in-Ok-clause-desks : goal.returns-in-Ok-clause-desks
returns-in-Ok-clause-desks g c = tt

pub returns-in-Ok-clause-same : goal.returns-in-Ok-clause-same
returns-in-Ok-clause-same g c = tt

pub returns-in-Err-clause-all : goal.returns-in-Err-clause-all
returns-in-Err-clause-all g c = tt

pub returns-in-Err-clause-marks : goal.returns-in-Err-clause-marks
returns-in-Err-clause-marks g c = tt

pub returns-in-Err-clause-sum : goal.returns-in-Err-clause-sum
returns-in-Err-clause-sum g c = tt

pub returns-in-Err-clause-joined : goal.returns-in-Err-clause-joined
returns-in-Err-clause-joined g c = tt

pub returns-in-Err-clause-refused : goal.returns-in-Err-clause-refused
returns-in-Err-clause-refused g c =
    let whole = rw c.deref.ensures.value at c.has_all.ensures in
    let yes : c.has_all.result ≡ true = search rules in
    reason_where_all (AreAll (λ d. d.number) (λ d. d.own.items) g.L.Ledger.parts c.args.self.locked.marks.all.items c.args.desks.items) (whole.0 yes) c.in-Err.failure.cause c.in-Err.ensures.err

pub returns-in-Err-clause-not_joined : goal.returns-in-Err-clause-not_joined
returns-in-Err-clause-not_joined g c = c.in-Err.ensures.not_joined

pub returns-in-Err-clause-desks : goal.returns-in-Err-clause-desks
returns-in-Err-clause-desks g c = refl

pub returns-in-Err-clause-same : goal.returns-in-Err-clause-same
returns-in-Err-clause-same g c = c.in-Err.ensures.same

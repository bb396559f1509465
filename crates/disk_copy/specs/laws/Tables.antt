-- Laws: a table that settings let stand on a disk may stand under those that allow all that they do.
use Rattle.std.proofs.Common.{◌≡◌, ℕ, ◌≤◌, List, [], ◌∷◌, length, true, ◌&&◌, refl, arith, is_none, nat_le}
use Rattle.std.specs.List.{list_all}
use Rattle.std.proofs.lemmas.Bool.{and_parts, and_from, leb-true, le-leb}
use Rattle.retry_rules.specs.declared.settings.Settings.{Settings}
use Rattle.invoke_records.specs.Spelling.{answer_bytes, environment_in, snapshot_fault}
use Rattle.invoke_records.specs.declared.row.EventRow.{EventRow}
use Rattle.invoke_records.specs.declared.snapshot.Snapshot.{Snapshot}
use Rattle.async_core.specs.Limits.{is_row_within, is_within}
use Rattle.checkpoint.specs.Live.{may_stand}
use Rattle.disk_copy.specs.Limits.{AllowsAll}

-- what is within a limit is within a greater one
within_more : (n least most : ℕ) → least ≤ most → nat_le n least ≡ true → nat_le n most ≡ true
within_more n least most le within =
    let below : n ≤ least = leb-true n least within in
    le-leb n most (omega arith)

module _ (old new : Settings) (allows : AllowsAll old new) where
  is_row_within-kept : (r : EventRow) → is_row_within old r ≡ true → is_row_within new r ≡ true
  is_row_within-kept r within =
      let outer = and_parts (nat_le (length r.payload) old.payload && nat_le (length (answer_bytes r.answer)) old.response) (nat_le (environment_in r.standing) old.environments) within in
      let inner = and_parts (nat_le (length r.payload) old.payload) (nat_le (length (answer_bytes r.answer)) old.response) outer.0 in
      let payload = within_more (length r.payload) old.payload new.payload allows.payload inner.0 in
      let answer = within_more (length (answer_bytes r.answer)) old.response new.response allows.response inner.1 in
      let environment = within_more (environment_in r.standing) old.environments new.environments allows.environments outer.1 in
      and_from _ _ (and_from _ _ payload answer) environment

  rows-kept : (rows : List EventRow) → list_all (is_row_within old) rows ≡ true → list_all (is_row_within new) rows ≡ true
  rows-kept [] within = refl
  rows-kept (r ∷ rows) within =
      let parts = and_parts (is_row_within old r) (list_all (is_row_within old) rows) within in
      and_from (is_row_within new r) (list_all (is_row_within new) rows) (is_row_within-kept r parts.0) (rows-kept rows parts.1)

  pub is_within-kept : (table : Snapshot) → is_within old table ≡ true → is_within new table ≡ true
  is_within-kept table within =
      let parts = and_parts (nat_le (length table.rows) old.events) (list_all (is_row_within old) table.rows) within in
      and_from _ _ (within_more (length table.rows) old.events new.events allows.events parts.0) (rows-kept table.rows parts.1)

  pub may_stand-kept : (table : Snapshot) → may_stand old table ≡ true → may_stand new table ≡ true
  may_stand-kept table stands =
      let parts = and_parts (is_none (snapshot_fault table)) (is_within old table) stands in
      and_from _ _ parts.0 (is_within-kept table parts.1)

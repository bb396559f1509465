-- The steps of judging a header.
use Rattle.std.proofs.Common.{◌≡◌, ℕ, ◌^◌, ◌≤◌, min, true, nat_eq, List, length, take, drop, None, sym, ◌∙◌, ap}
use Rattle.std.proofs.lemmas.Bool.{and_from, le-leb, cond-true}
use Rattle.std.proofs.lemmas.List.{drop_min}
use Rattle.std.specs.List.{starts_with}
use Rattle.std.specs.Int.{w64, from_be_bytes}
use Rattle.invoke_records.specs.declared.error.RecordError.{RecordError}
use Rattle.invoke_records.specs.declared.error.RecordError.TheVariants as record_error
use Rattle.invoke_records.specs.Reading.{Misses, settings_at}
use Rattle.invoke_records.specs.laws.Fields.{first_fault}
use Rattle.checkpoint.specs.Image.{letters, version_byte, is_version, header_with, header_at}

-- what is left behind the settings of a header that fills a sector
pub left : (taken : ℕ) (behind : List ℕ) → length behind ≡ 484 → drop (min taken 484) behind ≡ drop taken behind
left taken behind size = (λ i. drop (min taken (sym size i)) behind) ∙ drop_min taken behind

module _ (sectors : ℕ) (bytes behind : List ℕ) (is : behind ≡ drop 28 bytes) (starts : starts_with nat_eq bytes letters ≡ true) (known : is_version (version_byte bytes) ≡ true) (low : 1 ≤ from_be_bytes w64 (take 8 (drop 8 bytes)))
    (high : from_be_bytes w64 (take 8 (drop 8 bytes)) ≤ 2 ^ 62) where
  -- behind a good front the settings decide
  pub behind_front : header_at sectors bytes ≡ header_with sectors bytes (settings_at behind)
  unfolding header_at
  behind_front = cond-true _ _ _ (and_from _ _ (and_from _ _ (and_from _ _ starts known) (le-leb _ _ low)) (le-leb _ _ high)) ∙ ap (λ (l : List ℕ). header_with sectors bytes (settings_at l)) (sym is)

  pub no_settings : (why : RecordError) → Misses why (settings_at behind) → (why ≡ record_error.OutOfMemory → ⊥) → header_at sectors bytes ≡ None
  no_settings why misses other = behind_front ∙ ap (header_with sectors bytes) (first_fault why (settings_at behind) other misses)

-- What is told of a page line by line.
use Rattle.std.proofs.Common.{◌≡◌, ℕ, ◌+◌, ◌<◌, ◌≤◌, List, ◌++◌, Option, length, get_or, take, ap, refl, sym, ◌∙◌, arith, length-append}
use Rattle.std.proofs.lemmas.Bool.{lt-ltb}
use Rattle.retry_rules.specs.declared.settings.Settings.{Settings}
use Rattle.invoke_records.specs.declared.row.EventRow.{EventRow}
use Rattle.operator_view.specs.declared.page.Page.{Page}
use Rattle.operator_view.specs.Lines.{line_at, lines_text, Tells}
use Rattle.operator_view.specs.Page.{last_id}
use Rattle.operator_view.proofs.Joining.{concat-more}

-- the lines of the first so many places are told, and only the first may be longer than they all may be
pub record HasTold (s : Settings) (rows : List EventRow) (places : List ℕ) (most count : ℕ) (text : List ℕ) : Type 0 where
  pub lines : text ≡ lines_text s rows places count
  pub fits : 1 < count → length text ≤ most

-- the lines with the next one
with_next : (s : Settings) (rows : List EventRow) (places : List ℕ) (count : ℕ) (text line : List ℕ) → count < length places
    → text ≡ lines_text s rows places count → line ≡ line_at s rows (get_or places count 0) → text ++ line ≡ lines_text s rows places (count + 1)
with_next s rows places count text line within told is =
    ap (λ t. t ++ line) told ∙ ap (λ l. lines_text s rows places count ++ l) is
    ∙ sym (concat-more (line_at s rows) places count (get_or places count 0) within refl)

-- a line for which there is room
pub HasTold-more : (s : Settings) (rows : List EventRow) (places : List ℕ) (most count : ℕ) (text line : List ℕ) → count < length places
    → HasTold s rows places most count text → line ≡ line_at s rows (get_or places count 0) → (0 < count → length text + length line ≤ most)
    → HasTold s rows places most (count + 1) (text ++ line)
HasTold-more s rows places most count text line within told is room = record {
  lines = with_next s rows places count text line within told.lines is;
  fits = λ more. rw (length-append text line) (room (omega arith));
}

-- a line for which there is none
pub Tells-until : (s : Settings) (rows : List EventRow) (page : Page) (most count : ℕ) (text line : List ℕ) (next : Option (List ℕ))
    → count < length page.places.items → HasTold s rows page.places.items most count text
    → line ≡ line_at s rows (get_or page.places.items count 0) → 0 < count → most < length text + length line
    → next ≡ last_id rows (take count page.places.items) → Tells s rows page most text next
Tells-until s rows page most count text line next within told is later long names = record {
  count = count;
  count_within = omega arith;
  lines = told.lines;
  fits = told.fits;
  full = λ more. (later, rw (← with_next s rows page.places.items count text line within told.lines is, length-append text line) long);
  next_is = rw (lt-ltb count (length page.places.items) within) names;
}

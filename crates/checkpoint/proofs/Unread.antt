-- An image that is told as not formatted has no open gate: whatever is wrong behind one is told with its sector.
use Rattle.std.proofs.Common.{◌≡◌, inl, inr, ℕ, ◌+◌, ◌*◌, ◌/◌, ◌≤◌, Bool, true, false, nat_lt, nat_eq, List, [], ◌∷◌, length, Option, Some, None, Result, Ok, Err, refl, sym, ◌∙◌, ap, if◌then◌else◌}
use Rattle.std.proofs.lemmas.Bool.{cases_Bool}
use Rattle.retry_rules.specs.declared.settings.Settings.{Settings}
use Rattle.invoke_records.specs.declared.command.Command.{Command}
use Rattle.invoke_records.specs.declared.snapshot.Snapshot.{Snapshot}
use Rattle.invoke_records.specs.declared.version.Version.{Version}
use Rattle.invoke_records.specs.declared.version.Version.TheVariants.{One, Two}
use Rattle.invoke_records.specs.Versions.{has_kind}
use Rattle.async_core.specs.declared.illegal.Illegal.{Illegal}
use Rattle.async_core.specs.State.{State}
use Rattle.async_core.specs.Rules.{refusal_at, table_after}
use Rattle.gate_journal.specs.declared.area.Area.{Area}
use Rattle.gate_journal.specs.Frames.{Frames, frames_in}
use Rattle.checkpoint.specs.declared.header.Header.{Header}
use Rattle.checkpoint.specs.declared.choosing.Found.{Found}
use Rattle.checkpoint.specs.declared.error.OpenError.{OpenError}
use Rattle.checkpoint.specs.declared.error.OpenError.TheVariants.{NotFormatted, Damaged}
use Rattle.checkpoint.specs.Image.{SegmentImage, DiskImage, folded, kinds_in, folded_in, area_of, snapshot_in, segment_at, header_in, open_header, found_at, is_later_than, in_order, found_in, read_image, recovered}
use Rattle.checkpoint.specs.ReadSteps.{or_damaged, legal_or_damaged, next_to, with_table, with_frames, with_older, segments_in, by_headers, live_read, new_read}
use Rattle.checkpoint.specs.FormatSteps.{IsClosed}
use Rattle.checkpoint.proofs.Images.{is_open_at, shut_header, behind_gate, header_is_not, by_both}

-- it is not told as not formatted
abbrev TellsMore : {A : Type 0} → Result A OpenError → Type 0
TellsMore read = read ≡ Err NotFormatted → ⊥

-- an error stays one, whatever was to be read
same_error : {A B : Type 0} (why e : OpenError) → ◌≡◌ {A = Result A OpenError} (Err why) (Err e) → ◌≡◌ {A = Result B OpenError} (Err why) (Err e)
same_error why e is = let same : why ≡ e = cc in ap Err same

-- ## A segment

if_tells : {A : Type 0} (b : Bool) (first second : Result A OpenError) → TellsMore first → TellsMore second → TellsMore (if b then first else second)
if_tells true first second one two = one
if_tells false first second one two = two

damage_tells : {A : Type 0} (sector : ℕ) → TellsMore {A = A} (Err (Damaged sector))
damage_tells sector is = absurd cc

kinds_tell : (version : Version) (commands : List (ℕ × Command)) → TellsMore (kinds_in version commands)
kinds_tell version [] = λ is. absurd cc
kinds_tell version (c ∷ commands) = if_tells (has_kind version c.1.kind) (kinds_in version commands) (Err (Damaged c.0)) (kinds_tell version commands) (damage_tells c.0)

legal_tells : {A : Type 0} (gate : ℕ) (why : Option Illegal) (rest : Result A OpenError) → TellsMore rest → TellsMore (legal_or_damaged gate why rest)
legal_tells gate None rest more = more
legal_tells gate (Some why) rest more = damage_tells gate

folded_tells : (s : Settings) (table : Snapshot) (commands : List (ℕ × Command)) → TellsMore (folded s table commands)
folded_tells s table [] = λ is. absurd cc
folded_tells s table (c ∷ commands) = legal_tells c.0 (refusal_at s table c.1) (folded s (table_after s table c.1) commands) (folded_tells s (table_after s table c.1) commands)

next_tells : {A : Type 0} (first : Result (Unit {0}) OpenError) (rest : Result A OpenError) → TellsMore first → TellsMore rest → TellsMore (next_to first rest)
next_tells (Err why) rest one two = λ is. one (same_error why NotFormatted is)
next_tells (Ok done) rest one two = two

table_tells : (base : ℕ) (header : Header) (snapshot : Snapshot) (area : Area) (frames : Frames) (read : Result Snapshot OpenError) → TellsMore read
    → TellsMore (with_table base header snapshot area frames read)
table_tells base header snapshot area frames (Err why) more = λ is. more (same_error why NotFormatted is)
table_tells base header snapshot area frames (Ok table) more = λ is. absurd cc

frames_tell : (base : ℕ) (header : Header) (snapshot : Snapshot) (area : Area) (read : Result Frames ℕ) → TellsMore (with_frames base header snapshot area read)
frames_tell base header snapshot area (Err sector) = damage_tells sector
frames_tell base header snapshot area (Ok frames) =
    table_tells base header snapshot area frames (folded_in header.version header.settings snapshot frames.commands)
    (next_tells (kinds_in header.version frames.commands) (folded header.settings snapshot frames.commands) (kinds_tell header.version frames.commands)
    (folded_tells header.settings snapshot frames.commands))

found_tells : {A B : Type 0} (sector : ℕ) (found : Option A) (rest : A → Result B OpenError) → ((x : A) → TellsMore (rest x)) → TellsMore (or_damaged sector found rest)
found_tells sector None rest more = damage_tells sector
found_tells sector (Some x) rest more = more x

segment_tells : (base sectors : ℕ) (header : Header) (image : List ℕ) → TellsMore (segment_at base sectors header image)
unfolding segment_at
segment_tells base sectors header image =
    found_tells (base + 2) (snapshot_in (base + 2) header image)
    (λ snapshot. with_frames base header snapshot (area_of base sectors header snapshot) (frames_in (area_of base sectors header snapshot) image))
    (λ snapshot. frames_tell base header snapshot (area_of base sectors header snapshot) (frames_in (area_of base sectors header snapshot) image))

-- ## An image

header_tells : (base sectors : ℕ) (image : List ℕ) → TellsMore (open_header base sectors image)
header_tells base sectors image is = elim (cases_Bool (is_open_at base image)) [
  | inl opened ↦ found_tells (base + 1) (header_in (base + 1) sectors image) (λ header. Ok (Some header)) (λ header ok. absurd cc) (sym (behind_gate base sectors image opened) ∙ is)
  | inr shut ↦ absurd (let no = sym (shut_header base sectors image shut) ∙ is in cc)
]

older_tells : (live : Result SegmentImage OpenError) (older : Option (Result SegmentImage OpenError)) → TellsMore live
    → ((read : Result SegmentImage OpenError) → older ≡ Some read → TellsMore read) → TellsMore (with_older live older)
older_tells (Err why) older one two = λ is. one (same_error why NotFormatted is)
older_tells (Ok live) None one two = λ is. absurd cc
older_tells (Ok live) (Some (Err why)) one two = λ is. two (Err why) refl (same_error why NotFormatted is)
older_tells (Ok live) (Some (Ok older)) one two = λ is. absurd cc

alone_tells : (half : ℕ) (image : List ℕ) (live : Found) → TellsMore (segments_in half image (Ok (live, None)))
alone_tells half image live = older_tells (found_in half live image) None (segment_tells live.base half live.header image) (λ read none. absurd cc)

some_read : (a b : Result SegmentImage OpenError) → ◌≡◌ {A = Option (Result SegmentImage OpenError)} (Some a) (Some b) → a ≡ b
some_read a b is = cc

both_tell : (half : ℕ) (image : List ℕ) (live older : Found) → TellsMore (segments_in half image (Ok (live, Some older)))
both_tell half image live older =
    older_tells (found_in half live image) (Some (found_in half older image)) (segment_tells live.base half live.header image)
    (λ read some is. segment_tells older.base half older.header image (some_read _ _ some ∙ is))

ordered_tells : (half : ℕ) (image : List ℕ) (live older : Found) (later : Bool) → TellsMore (segments_in half image (if later then Err (Damaged (older.base + 1)) else Ok (live, Some older)))
ordered_tells half image live older true = damage_tells (older.base + 1)
ordered_tells half image live older false = both_tell half image live older

newer_tells : (half : ℕ) (image : List ℕ) (a b : Header) (newer : Bool)
    → TellsMore (segments_in half image (if newer then in_order (found_at 0 a) (found_at half b) else in_order (found_at half b) (found_at 0 a)))
newer_tells half image a b true = ordered_tells half image (found_at 0 a) (found_at half b) (is_later_than a.version b.version)
newer_tells half image a b false = ordered_tells half image (found_at half b) (found_at 0 a) (is_later_than b.version a.version)

chosen_tells : (half : ℕ) (image : List ℕ) (a b : Header) (same : Bool)
    → TellsMore (segments_in half image
    (if same then Err (Damaged half) else if nat_lt b.generation a.generation then in_order (found_at 0 a) (found_at half b) else in_order (found_at half b) (found_at 0 a)))
chosen_tells half image a b true = damage_tells half
chosen_tells half image a b false = newer_tells half image a b (nat_lt b.generation a.generation)

none_there : (half : ℕ) (image : List ℕ) (a b : Result (Option Header) OpenError) → TellsMore a → TellsMore b → by_headers half image a b ≡ Err NotFormatted
    → (a ≡ Ok None) × (b ≡ Ok None)
none_there half image (Err why) b one two is = absurd (one (same_error why NotFormatted is))
none_there half image (Ok a) (Err why) one two is = absurd (two (same_error why NotFormatted is))
none_there half image (Ok None) (Ok None) one two is = (refl, refl)
none_there half image (Ok (Some a)) (Ok None) one two is = absurd (alone_tells half image (found_at 0 a) is)
none_there half image (Ok None) (Ok (Some b)) one two is = absurd (alone_tells half image (found_at half b) is)
none_there half image (Ok (Some a)) (Ok (Some b)) one two is = absurd (chosen_tells half image a b (nat_eq a.generation b.generation) is)

-- ## What is recovered

state_tells : (version : Version) (state : State) → TellsMore (new_read (Ok (version, state)))
state_tells (One policy) state is = absurd cc
state_tells Two state is = absurd cc

unread : (read : Result DiskImage OpenError) → new_read (live_read read) ≡ Err NotFormatted → read ≡ Err NotFormatted
unread (Err why) is = same_error why NotFormatted is
unread (Ok image) is = absurd (state_tells image.live.version (record { settings = image.live.settings; table = image.live.table }) is)

-- what is told so has both gates closed
pub closed_there : (sectors : ℕ) (image : List ℕ) → length image ≡ 512 * sectors → 6 ≤ sectors → recovered image ≡ Err NotFormatted → IsClosed (sectors / 2) image
unfolding recovered
closed_there sectors image size enough is =
    let half = sectors / 2 in
    let none = none_there half image (open_header 0 half image) (open_header half half image) (header_tells 0 half image) (header_tells half half image)
    (sym (by_both image sectors size enough) ∙ unread (read_image image) is) in
    record { gate_a = header_is_not 0 half image none.0; gate_b = header_is_not half half image none.1 }

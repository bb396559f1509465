-- Of two that serve one volume, the newcomer reads what the first one has replied to.
use Rattle.std.proofs.Common.{◌≡◌, ◌≢◌, ℕ, ◌==◌, Bool, true, false, List, [], ◌∷◌, if◌then◌else◌, refl, sym, ◌∙◌, subst, inl, inr}
use Rattle.std.specs.List.{All, Contains}
use Rattle.std.proofs.lemmas.Bool.{eqb-true}
use Rattle.std.proofs.lemmas.List.Elements.{All-nil, All-cons, All-head, All-weaker, All-contains, All-contains_itself, Contains-append_right}
use Rattle.disk_claim.specs.Takeover.{Step, claims, writes, looks, replies, reads, token_after, written_in, seen_with, replied_in, HasClaimed, IsLinear, Watches, ClaimsFirst, IsSucceeded, AllReadsHave, IsTakeover}

-- what has some numbers has them behind one more
has_more : (xs numbers : List ℕ) (x : ℕ) → All (Contains xs) numbers → All (Contains (x ∷ xs)) numbers
has_more xs numbers x all = All-weaker (Contains xs) (Contains (x ∷ xs)) (λ n h. Contains-append_right (x ∷ []) xs n h) numbers all

-- what was seen was written
seen_is_written : (own : ℕ) (steps : List Step) → All (Contains (written_in steps)) (seen_with own steps)
seen_is_written own [] = All-nil (Contains [])
seen_is_written own (claims t ∷ e) = seen_is_written own e
seen_is_written own (writes n ∷ e) = has_more (written_in e) (seen_with own e) n (seen_is_written own e)
seen_is_written own (looks t ∷ e) =
    elim (t == own) as (λ b. All (Contains (written_in e)) (if b then written_in e else seen_with own e))
    [ true ↦ All-contains_itself (written_in e) | false ↦ seen_is_written own e ]
seen_is_written own (replies n ∷ e) = seen_is_written own e
seen_is_written own (reads ns ∷ e) = seen_is_written own e

-- what was replied to was written
replied_is_written : (own : ℕ) (steps : List Step) → Watches own steps → All (Contains (written_in steps)) (replied_in steps)
replied_is_written own [] w = All-nil (Contains [])
replied_is_written own (claims t ∷ e) w = replied_is_written own e w
replied_is_written own (writes n ∷ e) w = has_more (written_in e) (replied_in e) n (replied_is_written own e w)
replied_is_written own (looks t ∷ e) w = replied_is_written own e w
replied_is_written own (replies n ∷ e) w =
    All-cons (Contains (written_in e)) n (replied_in e)
    (All-contains (Contains (written_in e)) (seen_with own e) n (seen_is_written own e) w.0)
    (replied_is_written own e w.1)
replied_is_written own (reads ns ∷ e) w = replied_is_written own e w

-- once the newcomer has claimed, the first one's token does not stand there
token_is_not : (own new : ℕ) (steps : List Step) → own ≢ new → HasClaimed new steps → IsSucceeded own new steps → token_after steps ≢ own
token_is_not own new [] apart h s = absurd h
token_is_not own new (claims t ∷ e) apart (inl is) s = λ own_is. apart (sym own_is ∙ is)
token_is_not own new (claims t ∷ e) apart (inr h) s = s.0 h
token_is_not own new (writes n ∷ e) apart h s = token_is_not own new e apart h s
token_is_not own new (looks t ∷ e) apart h s = token_is_not own new e apart h s
token_is_not own new (replies n ∷ e) apart h s = token_is_not own new e apart h s
token_is_not own new (reads ns ∷ e) apart h s = token_is_not own new e apart h s

-- without a claim the newcomer has read nothing
reads_nothing : (new : ℕ) (numbers : List ℕ) (steps : List Step) → (HasClaimed new steps → ⊥) → ClaimsFirst new steps → AllReadsHave numbers steps
reads_nothing new ns [] none c = tt
reads_nothing new ns (claims t ∷ e) none c = reads_nothing new ns e (λ h. none (inr h)) c
reads_nothing new ns (writes n ∷ e) none c = reads_nothing new ns e none c
reads_nothing new ns (looks t ∷ e) none c = reads_nothing new ns e none c
reads_nothing new ns (replies n ∷ e) none c = reads_nothing new ns e none c
reads_nothing new ns (reads found ∷ e) none c = absurd (none c.0)

-- the reads have one number more, if each has it
reads_have_more : (n : ℕ) (numbers : List ℕ) (steps : List Step) → AllReadsHave (n ∷ []) steps → AllReadsHave numbers steps → AllReadsHave (n ∷ numbers) steps
reads_have_more n ns [] one all = tt
reads_have_more n ns (claims t ∷ e) one all = reads_have_more n ns e one all
reads_have_more n ns (writes m ∷ e) one all = reads_have_more n ns e one all
reads_have_more n ns (looks t ∷ e) one all = reads_have_more n ns e one all
reads_have_more n ns (replies m ∷ e) one all = reads_have_more n ns e one all
reads_have_more n ns (reads found ∷ e) one all =
    (All-cons (Contains found) n ns (All-head (Contains found) n [] one.0) all.0, reads_have_more n ns e one.1 all.1)

-- the reads have one of the numbers that they have
reads_have_one : (n : ℕ) (numbers : List ℕ) (steps : List Step) → Contains numbers n → AllReadsHave numbers steps → AllReadsHave (n ∷ []) steps
reads_have_one n ns [] h all = tt
reads_have_one n ns (claims t ∷ e) h all = reads_have_one n ns e h all
reads_have_one n ns (writes m ∷ e) h all = reads_have_one n ns e h all
reads_have_one n ns (looks t ∷ e) h all = reads_have_one n ns e h all
reads_have_one n ns (replies m ∷ e) h all = reads_have_one n ns e h all
reads_have_one n ns (reads found ∷ e) h all =
    (All-cons (Contains found) n [] (All-contains (Contains found) ns n all.0 h) (All-nil (Contains found)), reads_have_one n ns e h all.1)

-- a look that did not see the first one's token changes nothing of what was seen with it
reads_have_seen_by : (own t : ℕ) (numbers seen : List ℕ) (steps : List Step) (same : Bool)
    → (same ≡ true → AllReadsHave numbers steps) → AllReadsHave seen steps → AllReadsHave (if same then numbers else seen) steps
reads_have_seen_by own t ns seen e true is all = is refl
reads_have_seen_by own t ns seen e false is all = all

-- what the newcomer read has all that the first one saw with its own token
reads_have_seen : (own new : ℕ) (steps : List Step) → own ≢ new → IsLinear steps → ClaimsFirst new steps → IsSucceeded own new steps → AllReadsHave (seen_with own steps) steps
reads_have_seen own new [] apart l c s = tt
reads_have_seen own new (claims t ∷ e) apart l c s = reads_have_seen own new e apart l c s.1
reads_have_seen own new (writes n ∷ e) apart l c s = reads_have_seen own new e apart l c s
reads_have_seen own new (looks t ∷ e) apart l c s =
    reads_have_seen_by own t (written_in e) (seen_with own e) e (t == own)
    (λ is. reads_nothing new (written_in e) e (λ h. token_is_not own new e apart h s (sym l.0 ∙ eqb-true t own is)) c)
    (reads_have_seen own new e apart l.1 c s)
reads_have_seen own new (replies n ∷ e) apart l c s = reads_have_seen own new e apart l c s
reads_have_seen own new (reads found ∷ e) apart l c s =
    (subst (λ (xs : List ℕ). All (Contains xs) (seen_with own e)) (sym l.0) (seen_is_written own e), reads_have_seen own new e apart l.1 c.1 s)

reads_have_replied : (own new : ℕ) (steps : List Step) → own ≢ new → IsLinear steps → Watches own steps → ClaimsFirst new steps → IsSucceeded own new steps
    → AllReadsHave (replied_in steps) steps
reads_have_replied own new [] apart l w c s = tt
reads_have_replied own new (claims t ∷ e) apart l w c s = reads_have_replied own new e apart l w c s.1
reads_have_replied own new (writes n ∷ e) apart l w c s = reads_have_replied own new e apart l w c s
reads_have_replied own new (looks t ∷ e) apart l w c s = reads_have_replied own new e apart l.1 w c s
reads_have_replied own new (replies n ∷ e) apart l w c s =
    reads_have_more n (replied_in e) e
    (reads_have_one n (seen_with own e) e w.0 (reads_have_seen own new e apart l c s))
    (reads_have_replied own new e apart l w.1 c s)
reads_have_replied own new (reads found ∷ e) apart l w c s =
    (subst (λ (xs : List ℕ). All (Contains xs) (replied_in e)) (sym l.0) (replied_is_written own e w), reads_have_replied own new e apart l.1 w c.1 s)

-- the law
pub takeover_loses_nothing : (own new : ℕ) (steps : List Step) → IsTakeover own new steps → AllReadsHave (replied_in steps) steps
takeover_loses_nothing own new steps t = reads_have_replied own new steps t.apart t.linear t.watches t.claims t.succeeded

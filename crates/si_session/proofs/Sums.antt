-- The answers to the entries of a sample, summed one after the other; and what `sample` did.
use Rattle.std.proofs.Common.{◌≡◌, ℕ, zero, suc, ◌+◌, ◌*◌, ◌-◌, ◌≤◌, ◌<◌, ◌^◌, List, [], ◌∷◌, ◌++◌, length, map, take, drop, Some, refl, sym, ◌∙◌, ap, ap₂, subst, inl, inr, arith, append_assoc, append-nil, length-append, take_at, drop_at}
use Rattle.std.proofs.lemmas.List.{length-map}
use Rattle.std.specs.Prelude.{slice_get}
use Rattle.std.specs.List.{AllByRecursion}
use Rattle.si_index.proofs.GatherLaws.{drop_got}
use Rattle.si_defs.specs.Bytes.{Bytes}
use Rattle.si_defs.specs.Terms as terms
use Rattle.si_defs.specs.Clauses.{Term, Terms, Literal, Clause, IsSoundTerm, AreSoundTerms, IsSoundAtom, IsSoundLiteral, IsSoundClause, literal_size, literals_size}
use Rattle.si_defs.specs.Entries.{Entry, Placed, proper_occurrences, placed_term, placed_in, literal_entries, entries_from, entries, state_entries}
use Rattle.si_defs.specs.Generator.{IsSample}
use Rattle.si_defs.specs.declared.TheConstants.{MOST_OCCURRENCES}
use Rattle.si_state.specs.States.{State, Rules}
use Rattle.si_state.specs.Harvest.{Fault, AreClauses, cycle, too_deep, too_many, missing, too_big, failed, foreign, malformed, rejected}
use Rattle.si_state.specs.Samples.{SumsAnswers}
use Rattle.si_steps.specs.Settings.{Setting}
use Rattle.si_steps.specs.Commands.{sample}
use Rattle.si_steps.specs.Replies.{sample_line, memory_line, fault_line}
use Rattle.si_steps.specs.Steps.{Performs}
use Rattle.si_io.specs.Shown.{SinkShown}
use Rattle.si_defs.proofs.ListLaws.{all_append}
use Rattle.si_flat.specs.Flattened.{IsSoundEntry}
use Rattle.si_index.specs.Kept.{Kept}
use Rattle.si_harvest.specs.declared.faults.Loaded.{Loaded}
use Rattle.si_harvest.specs.declared.faults.HarvestFault.{HarvestFault}
use Rattle.si_harvest.specs.Faults.{NamesWhy}
use Rattle.si_harvest.specs.Texts.{GainsText}
use Rattle.si_session.specs.declared.reply.ReplyLine as program
use Rattle.si_session.specs.declared.stepped.Stepped.{Stepped}
use Rattle.si_session.specs.Replies.{reply_line}
use Rattle.si_session.specs.Rejections.{ReportsFaultOfLoad}
use Rattle.si_session.specs.Session.{Writes, PerformsOn, rightly, at_once, holding, ruled_by}
use Rattle.si_session.specs.Sums.{GainsSample, RefusesSample, CountsEntryAnswers, SumsTo, ReportsSum}
use Rattle.si_session.proofs.Acting.{holds_same}
use Rattle.si_session.proofs.Loading.{fault_reported}

abbrev All : Type 0
All = List (Clause × Placed)

-- ---- the entries of a sound clause are sound
abbrev IsSmallTerm : List ℕ × Term → Type 0
IsSmallTerm (path, t) = IsSoundTerm t × (terms.size t ≤ MOST_OCCURRENCES)

abbrev IsSoundPlaced : Placed → Type 0
IsSoundPlaced p = IsSoundEntry p.entry

below_sound : (k : ℕ) (os : List (List ℕ × Term)) → AllByRecursion IsSmallTerm os → AllByRecursion IsSmallTerm (map (terms.below k) os)
below_sound k [] h = tt
below_sound k ((path, t) ∷ os) h = (h.0, below_sound k os h.1)

mutual
  term_sound : (t : Term) → IsSoundTerm t → terms.size t ≤ MOST_OCCURRENCES → AllByRecursion IsSmallTerm (terms.occurrences t)
  term_sound (terms.var x) h small = tt
  term_sound (terms.app s ts) h small = ((h, small), terms_sound 1 ts h.1 (omega (arith, small)))

  terms_sound : (k : ℕ) (ts : Terms) → AreSoundTerms ts → terms.sizes ts ≤ MOST_OCCURRENCES → AllByRecursion IsSmallTerm (terms.occurrences_from k ts)
  terms_sound k terms.none h small = tt
  terms_sound k (terms.more t ts) h small =
      all_append IsSmallTerm (map (terms.below k) (terms.occurrences t)) (terms.occurrences_from (1 + k) ts)
      (below_sound k (terms.occurrences t) (term_sound t h.0 (omega (arith, small))))
      (terms_sound (1 + k) ts h.1 (omega (arith, small)))

atom_sound : (t : Term) → IsSoundAtom t → terms.size t ≤ MOST_OCCURRENCES → AllByRecursion IsSmallTerm (proper_occurrences t)
atom_sound (terms.var x) h small = absurd h
atom_sound (terms.app s ts) h small = terms_sound 1 ts h.1 (omega (arith, small))

placed_sound : (n : ℕ) (os : List (List ℕ × Term)) → AllByRecursion IsSmallTerm os → AllByRecursion IsSoundPlaced (map (placed_term n) os)
placed_sound n [] h = tt
placed_sound n ((path, t) ∷ os) h = (h.0, placed_sound n os h.1)

literals_sound : (n : ℕ) (ls : List Literal) → AllByRecursion IsSoundLiteral ls → literals_size ls ≤ MOST_OCCURRENCES → AllByRecursion IsSoundPlaced (entries_from n ls)
literals_sound n [] h small = tt
literals_sound n (l ∷ ls) h small =
    let one : literal_size l ≤ MOST_OCCURRENCES = omega (arith, small) in
    all_append IsSoundPlaced (literal_entries n l) (entries_from (1 + n) ls)
    ((h.0, one), placed_sound n (proper_occurrences l.atom) (atom_sound l.atom h.0 one))
    (literals_sound (1 + n) ls h.1 (omega (arith, small)))

sound_at : (es : List Placed) (n : ℕ) (e : Entry) → AllByRecursion IsSoundPlaced es → slice_get (map (λ p. p.entry) es) n ≡ Some e → IsSoundEntry e
sound_at [] n e h is = absurd (let bad = is in cc)
sound_at (x ∷ es) zero e h is = let same : x.entry ≡ e = cc in subst IsSoundEntry same h.0
sound_at (x ∷ es) (suc n) e h is = sound_at es n e h.1 is

pub entry_sound : (c : Clause) (n : ℕ) (e : Entry) → IsSoundClause c → slice_get (map (λ p. p.entry) (entries c)) n ≡ Some e → IsSoundEntry e
entry_sound c n e h is = sound_at (entries c) n e (literals_sound 1 c.literals h.sound.each h.sound.no_larger) is

-- ---- sums
sums-append : (all ds es : All) (m n : ℕ) → SumsAnswers all ds m → SumsAnswers all es n → SumsAnswers all (ds ++ es) (m + n)
sums-append all [] es m n h k = let same : n ≡ m + n = omega (arith, h) in subst (SumsAnswers all es) same k
sums-append all ((c, e) ∷ ds) es m n h k = (h.0, h.1, h.2 + n, h.3, h.4, sums-append all ds es h.2 n h.5 k, omega (arith, h.6))

module _ (all whole : All) where
  pub sums_start : SumsTo all whole whole 0
  sums_start = record { asked = []; splits = refl; sums = refl; few = omega arith }

  sums_more : (next left left' : All) (sum n : ℕ) → left ≡ next ++ left' → SumsTo all whole left sum → SumsAnswers all next n → n ≤ 4294967296 * length next
      → SumsTo all whole left' (sum + n)
  sums_more next left left' sum n e s h small = record {
    asked = s.asked ++ next;
    splits = s.splits ∙ ap (λ l. s.asked ++ l) e ∙ sym (append_assoc s.asked next left');
    sums = sums-append all s.asked next sum n s.sums h;
    few = omega (arith, s.few, small, length-append s.asked next);
  }

  sums_fit : (next left left' : All) (sum n : ℕ) → left ≡ next ++ left' → SumsTo all whole left sum → n ≤ 4294967296 * length next
      → length whole ≤ MOST_OCCURRENCES → sum + n < 2 ^ 64
  sums_fit next left left' sum n e s small few =
      omega (arith, s.few, small, few, ap length s.splits, ap length e, length-append s.asked left, length-append next left')

  pub sums_end : (left : All) (sum : ℕ) → left ≡ [] → SumsTo all whole left sum → SumsAnswers all whole sum
  sums_end left sum e s = subst (λ l. SumsAnswers all l sum) (sym (s.splits ∙ ap (λ l. s.asked ++ l) e ∙ append-nil s.asked)) s.sums

  pub sums_small : (left : All) (sum : ℕ) → SumsTo all whole left sum → sum ≤ 4294967296 * length whole
  sums_small left sum s = omega (arith, s.few, ap length s.splits, length-append s.asked left)

-- ---- the entries of one clause
abbrev of_clause : Clause → All
of_clause c = map (placed_in c) (entries c)

next_entry : (c : Clause) (es : List Placed) (n : ℕ) (e : Entry) → slice_get (map (λ p. p.entry) es) n ≡ Some e
    → (p : Placed) × (p.entry ≡ e) × (drop n (map (placed_in c) es) ≡ (c, p) ∷ drop (n + 1) (map (placed_in c) es))
next_entry c [] n e is = absurd (let bad = is in cc)
next_entry c (x ∷ es) zero e is = let same : x.entry ≡ e = cc in (x, same, refl)
next_entry c (x ∷ es) (suc n) e is =
    let next : suc n + 1 ≡ suc (n + 1) = omega arith in
    let k = next_entry c es n e is in
    (k.0, k.1, k.2 ∙ ap (λ m. (c, k.0) ∷ drop m (map (placed_in c) (x ∷ es))) (sym next))

one_sum : (all : All) (c : Clause) (p : Placed) (e : Entry) (n : ℕ) → p.entry ≡ e → CountsEntryAnswers all e n → SumsAnswers all ((c, p) ∷ []) n
one_sum all c p e n same h = (h.0, h.2.0, 0, h.1 ∙ sym same, h.2.1, refl, omega (arith, h.2.2))

module _ (all : All) (c : Clause) (n : ℕ) (e : Entry) (is : slice_get (map (λ p. p.entry) (entries c)) n ≡ Some e) (sum m : ℕ)
    (s : SumsTo all (of_clause c) (drop n (of_clause c)) sum) (small : m < 2 ^ 32) where
  pub entry_more : CountsEntryAnswers all e m → SumsTo all (of_clause c) (drop (n + 1) (of_clause c)) (sum + m)
  entry_more h =
      let k = next_entry c (entries c) n e is in
      sums_more all (of_clause c) ((c, k.0) ∷ []) (drop n (of_clause c)) (drop (n + 1) (of_clause c)) sum m k.2 s (one_sum all c k.0 e m k.1 h) (omega (arith, small))

  pub entry_fits : length (entries c) ≤ MOST_OCCURRENCES → sum + m < 2 ^ 64
  entry_fits few =
      let k = next_entry c (entries c) n e is in
      sums_fit all (of_clause c) ((c, k.0) ∷ []) (drop n (of_clause c)) (drop (n + 1) (of_clause c)) sum m k.2 s (omega (arith, small))
      (omega (arith, few, length-map (entries c) (placed_in c)))

pub clause_small : (all : All) (c : Clause) (left : All) (sum : ℕ) → SumsTo all (of_clause c) left sum → sum ≤ 4294967296 * length (entries c)
clause_small all c left sum s = omega (arith, sums_small all (of_clause c) left sum s, length-map (entries c) (placed_in c))

-- ---- the entries of the last clauses
fewer : (cs : List Clause) (n : ℕ) → length (state_entries (drop n cs)) ≤ length (state_entries cs)
fewer cs zero = omega arith
fewer [] (suc n) = omega arith
fewer (c ∷ cs) (suc n) = omega (arith, fewer cs n, length-append (of_clause c) (state_entries cs))

module _ (cs : List Clause) (n : ℕ) (c : Clause) (is : slice_get cs n ≡ Some c) where
  entries_split : state_entries (drop n cs) ≡ of_clause c ++ state_entries (drop (n + 1) cs)
  entries_split = ap state_entries (drop_got cs n c is)

  pub kept_few : length (state_entries cs) ≤ MOST_OCCURRENCES → length (entries c) ≤ MOST_OCCURRENCES
  kept_few few =
      omega (arith, few, fewer cs n, ap length entries_split, length-append (of_clause c) (state_entries (drop (n + 1) cs)), length-map (entries c) (placed_in c))

  module _ (all : All) (first sum m : ℕ) (s : SumsTo all (state_entries (drop first cs)) (state_entries (drop n cs)) sum) (small : m ≤ 4294967296 * length (entries c)) where
    pub clause_more : SumsAnswers all (of_clause c) m → SumsTo all (state_entries (drop first cs)) (state_entries (drop (n + 1) cs)) (sum + m)
    clause_more h =
        sums_more all (state_entries (drop first cs)) (of_clause c) (state_entries (drop n cs)) (state_entries (drop (n + 1) cs)) sum m entries_split s h
        (omega (arith, small, length-map (entries c) (placed_in c)))

    pub clause_fits : length (state_entries cs) ≤ MOST_OCCURRENCES → sum + m < 2 ^ 64
    clause_fits few =
        sums_fit all (state_entries (drop first cs)) (of_clause c) (state_entries (drop n cs)) (state_entries (drop (n + 1) cs)) sum m entries_split s
        (omega (arith, small, length-map (entries c) (placed_in c))) (omega (arith, few, fewer cs first))

-- ---- what was gained stands last
last_of : (xs ys whole : List Clause) (n : ℕ) → whole ≡ xs ++ ys → n ≡ length ys → drop (length whole - n) whole ≡ ys
last_of xs ys whole n e same =
    ap (λ l. drop (length l - n) l) e ∙ drop_at xs ys (length (xs ++ ys) - n) (omega (arith, same, length-append xs ys))

first_of : (xs ys whole : List Clause) (n : ℕ) → whole ≡ xs ++ ys → n ≡ length ys → take (length whole - n) whole ≡ xs
first_of xs ys whole n e same =
    ap (λ l. take (length l - n) l) e ∙ take_at xs ys (length (xs ++ ys) - n) (omega (arith, same, length-append xs ys))

pub no_more : (rules : Rules) (start count : ℕ) (state new : List Clause) (gained : Loaded) → GainsSample rules start count state gained new → gained.clauses ≤ length new
no_more rules start count state new gained g = omega (arith, g.0.clauses, ap length g.0.whole, length-append state g.0.gained)

-- exactly the clauses of a sample's text were gained
pub sample_gained : (rules : Rules) (start count : ℕ) (state new drawn : List Clause) (text : Bytes) (gained : Loaded) → IsSample start count text → AreClauses drawn text
    → GainsText rules state text gained new → GainsSample rules start count state gained new
sample_gained rules start count state new drawn text gained h are g = (g.0, (text, h, subst (λ cs. AreClauses cs text) (g.1 drawn are) are))

-- ---- the command
module _ (start count : ℕ) (old new : Kept) (o : Stepped) (a b : SinkShown) where
  pub sample_reported : (between : List Clause) (gained : Loaded) → GainsSample old.rules start count old.clauses gained between → ReportsSum gained between new.clauses o a b
      → PerformsOn (sample start count) old new o a b
  sample_reported between gained g (inl t) setting state =
      let all = g.0 in
      let last = last_of old.clauses all.gained between gained.clauses all.whole all.clauses in
      rightly (sample_line gained.clauses gained.entries t.0 ∷ []) (
        all.gained,
        g.1,
        inr (
          t.0,
          all.accepted,
          subst (λ l. SumsAnswers (state_entries l) (state_entries all.gained) t.0) (sym t.2) (subst (λ l. SumsAnswers (state_entries between) (state_entries l) t.0) last t.1),
          ap₂ (λ m n. sample_line m n t.0 ∷ []) all.clauses all.entries,
          ap (λ cs. record state { clauses = cs }) (t.2 ∙ all.whole),
        ),
      )
      t.3
  sample_reported between gained g (inr t) setting state =
      at_once (holds_same old new state (t.0 ∙ first_of old.clauses g.0.gained between gained.clauses g.0.whole g.0.clauses)) t.1

  first_refused : (setting : Setting) (state : State) (fault : Fault) → RefusesSample old.rules start count old.clauses fault → new.clauses ≡ old.clauses
      → Performs (ruled_by setting old) (sample start count) (holding state old) (fault_line old.rules.entries fault ∷ []) (holding state new)
  first_refused setting state (rejected c why) h same = (h.0, h.1, inl (c, why, h.2, refl, holds_same old new state same))
  first_refused setting state (cycle file) h same = absurd h.2
  first_refused setting state (too_deep file) h same = absurd h.2
  first_refused setting state too_many h same = absurd h.2
  first_refused setting state (missing file) h same = absurd h.2
  first_refused setting state (too_big file) h same = absurd h.2
  first_refused setting state (failed file) h same = absurd h.2
  first_refused setting state (foreign file line) h same = absurd h.2
  first_refused setting state (malformed file line) h same = absurd h.2

  pub sample_refused : (e : HarvestFault) (line : program.ReplyLine) → NamesWhy old.rules e (RefusesSample old.rules start count old.clauses) → ReportsFaultOfLoad e line
      → new.clauses ≡ old.clauses → Writes o (reply_line line ∷ []) a b → PerformsOn (sample start count) old new o a b
  sample_refused e line (inl m) t same w setting state =
      let out : reply_line line ≡ memory_line = subst (λ f. ReportsFaultOfLoad f line) m t in
      at_once (holds_same old new state same) (subst (λ l. Writes o (l ∷ []) a b) out w)
  sample_refused e line (inr r) t same w setting state =
      rightly (fault_line old.rules.entries r.fault ∷ []) (first_refused setting state r.fault r.holds same)
      (subst (λ l. Writes o (l ∷ []) a b) (fault_reported old.rules e r.fault line r.named t) w)

-- Loading sets exactly the words that are listed. Assumes nothing.
use Rattle.std.proofs.Common.{◌≡◌, ℕ, zero, suc, ◌+◌, ◌-◌, ◌^◌, ◌<◌, ◌≤◌, List, [], ◌∷◌, length, get_or, set, Ok, sym, refl, ap, ◌∙◌, subst, inl, inr, arith}
use Rattle.std.proofs.ByRecursion.{All-set}
use Rattle.std.proofs.lemmas.List.{length-set, get_or-set_same, get_or-set_other}
use Rattle.std.proofs.lemmas.Bool.{cases_lt, false≢true}
use Rattle.std.specs.List.{AllByRecursion}
use Rattle.memory.specs.Memory.{Loan}
use Rattle.image.specs.Loading.{stored, loaded, Listed, SetsWhatIsListed, verdict, words_with, Loads}
use Rattle.image.specs.Reading.{reading}
use Rattle.image.specs.Segments.{Segment, end_of, Ascending, InOrder}

pub length_stored : (words : List ℕ) (n : ℕ) (vs : List ℕ) → length (stored words n vs) ≡ length words
length_stored words n [] = refl
length_stored words n (v ∷ vs) = length_stored (set words n v) (n + 1) vs ∙ length-set words n v

pub length_loaded : (words : List ℕ) (segments : List Segment) → length (loaded words segments) ≡ length words
length_loaded words [] = refl
length_loaded words (s ∷ rest) = length_loaded (stored words s.first s.values) rest ∙ length_stored words s.first s.values

below_stored : (words : List ℕ) (n : ℕ) (vs : List ℕ) (m : ℕ) → m < n → get_or (stored words n vs) m 0 ≡ get_or words m 0
below_stored words n [] m h = refl
below_stored words n (v ∷ vs) m h = below_stored (set words n v) (n + 1) vs m (omega arith) ∙ get_or-set_other words n m v 0 (λ e. omega arith)

past_stored : (words : List ℕ) (n : ℕ) (vs : List ℕ) (m : ℕ) → n + length vs ≤ m → get_or (stored words n vs) m 0 ≡ get_or words m 0
past_stored words n [] m h = refl
past_stored words n (v ∷ vs) m h = past_stored (set words n v) (n + 1) vs m (omega arith) ∙ get_or-set_other words n m v 0 (λ e. omega arith)

in_stored : (words : List ℕ) (n : ℕ) (vs : List ℕ) (k : ℕ) → k < length vs → n + length vs ≤ length words → get_or (stored words n vs) (n + k) 0 ≡ get_or vs k 0
in_stored words n [] k h l = absurd (omega arith)
in_stored words n (v ∷ vs) zero h l =
    let z : n + 0 ≡ n = omega arith in
    ap (λ m. get_or (stored (set words n v) (n + 1) vs) m 0) z ∙ below_stored (set words n v) (n + 1) vs n (omega arith) ∙ get_or-set_same words n v 0 (omega arith)
in_stored words n (v ∷ vs) (suc k) h l =
    let e : n + suc k ≡ n + 1 + k = omega arith in
    ap (λ m. get_or (stored (set words n v) (n + 1) vs) m 0) e ∙ in_stored (set words n v) (n + 1) vs k (omega arith) (simp length-set (omega arith))

all_stored : (words : List ℕ) (n : ℕ) (vs : List ℕ) → AllByRecursion (λ w. w < 2 ^ 32) vs → AllByRecursion (λ w. w < 2 ^ 32) words → AllByRecursion (λ w. w < 2 ^ 32) (stored words n vs)
all_stored words n [] h a = a
all_stored words n (v ∷ vs) h a = all_stored (set words n v) (n + 1) vs h.1 (All-set (λ w. w < 2 ^ 32) words n v h.0 a)

-- segments in order list no word below the first
listed_from : (low size : ℕ) (segments : List Segment) (n v : ℕ) → Ascending low size segments → Listed segments n v → low ≤ n
listed_from low size [] n v a h = absurd h
listed_from low size (s ∷ rest) n v a (inl h) = omega (arith, a.0, h.2)
listed_from low size (s ∷ rest) n v a (inr h) = omega (arith, a.0, a.1.some, listed_from (end_of s) size rest n v a.2 h)

-- a segment below others
module _ (low : ℕ) (words : List ℕ) (s : Segment) (rest : List Segment) (a : Ascending low (length words) (s ∷ rest)) (fits : end_of s ≤ length words) (later : SetsWhatIsListed (stored words s.first s.values) rest) where
  listed_more : (n v : ℕ) → Listed (s ∷ rest) n v → get_or (loaded words (s ∷ rest)) n 0 ≡ v
  listed_more n v (inl h) =
      let apart : (x : ℕ) → Listed rest n x → ⊥ = λ x l. omega (arith, h.1, h.2, listed_from (end_of s) (length words) rest n x a.2 l) in
      later.others n apart ∙ ap (λ m. get_or (stored words s.first s.values) m 0) h.2 ∙ in_stored words s.first s.values h.0 h.1 fits ∙ sym h.3
  listed_more n v (inr h) = later.listed n v h

  others_more : (n : ℕ) → ((v : ℕ) → Listed (s ∷ rest) n v → ⊥) → get_or (loaded words (s ∷ rest)) n 0 ≡ get_or words n 0
  others_more n none =
      later.others n (λ v l. none v (inr l))
      ∙ elim (cases_lt n s.first) [
        | inl below ↦ below_stored words s.first s.values n below
        | inr from ↦ elim (cases_lt n (end_of s)) [
          | inl inside ↦ absurd (none (get_or s.values (n - s.first) 0) (inl (n - s.first, omega arith, omega arith, refl)))
          | inr past ↦ past_stored words s.first s.values n past
        ]
      ]

  sets_more : SetsWhatIsListed words (s ∷ rest)
  sets_more = record {
    size = length_loaded words (s ∷ rest);
    listed = listed_more;
    others = others_more;
    words32 = λ h. later.words32 (all_stored words s.first s.values a.1.words h);
  }

-- segments in order end within the size
within : (low size : ℕ) (segments : List Segment) → Ascending low size segments → low ≤ size
within low size [] a = a
within low size (s ∷ rest) a = omega (arith, a.0, a.1.some, within (end_of s) size rest a.2)

sets : (low : ℕ) (words : List ℕ) (segments : List Segment) → Ascending low (length words) segments → SetsWhatIsListed words segments
sets low words [] a = record { size = refl; listed = λ n v h. absurd h; others = λ n h. refl; words32 = λ h. h }
sets low words (s ∷ rest) a =
    let kept = length_stored words s.first s.values in
    sets_more low words s rest a (within (end_of s) (length words) rest a.2)
    (sets (end_of s) (stored words s.first s.values) rest (subst (λ n. Ascending (end_of s) n rest) (sym kept) a.2))

pub sets_what_is_listed : (words : List ℕ) (segments : List Segment) → InOrder (length words) segments → SetsWhatIsListed words segments
sets_what_is_listed words segments ordered = sets 0 words segments ordered

-- segments in order from a word on are in order from any word below it
lower : (below low size : ℕ) (segments : List Segment) → below ≤ low → Ascending low size segments → Ascending below size segments
lower below low size [] h a = omega (arith, a)
lower below low size (s ∷ rest) h a = (omega (arith, a.0), a.1, a.2)

-- a turn of the loop that loads segments: the first of those that are left fits, and the others are left
module _ (words : List ℕ) (left rest : List Segment) (s : Segment) (first : left ≡ s ∷ rest) (ordered : InOrder (length words) left) where
  split : InOrder (length words) (s ∷ rest)
  split = subst (InOrder (length words)) first ordered

  pub first_fits : end_of s ≤ length words
  first_fits = within (end_of s) (length words) rest split.2

  pub rest_ordered : (after : List ℕ) → after ≡ stored words s.first s.values → InOrder (length after) rest
  rest_ordered after e = subst (λ n. InOrder n rest) (sym (ap length e ∙ length_stored words s.first s.values)) (lower 0 (end_of s) (length words) rest (omega arith) split.2)

  pub rest_loaded : (after : List ℕ) → after ≡ stored words s.first s.values → loaded after rest ≡ loaded words left
  rest_loaded after e = ap (λ ws. loaded ws rest) e ∙ sym (ap (loaded words) first)

-- what was read for the size of a memory suits it, and is what its words are set to
module _ {S : Type 0} (words : S → List ℕ) (delay : S → ℕ → ℕ) (frame : S → List Loan) (s asked : S) (bytes : List ℕ) (size : ℕ) (segments : List Segment)
    (sized : size ≡ length (words s)) (same : words asked ≡ words s) (read : Ok segments ≡ reading size bytes) (ordered : InOrder size segments) where
  pub suits : InOrder (length (words asked)) segments
  suits = subst (λ n. InOrder n segments) (sized ∙ sym (ap length same)) ordered

  again : reading (length (words s)) bytes ≡ Ok segments
  again = ap (λ n. reading n bytes) (sym sized) ∙ sym read

  pub loads : (t : S) → words t ≡ loaded (words asked) segments → frame t ≡ frame asked → frame asked ≡ frame s → Loads words delay frame s bytes (Ok tt) t
  loads t set held framed = record {
    answer = sym (ap verdict again);
    words_set = set ∙ ap (λ ws. loaded ws segments) same ∙ sym (ap (words_with (words s)) again);
    exactly = λ others e.
        let one : segments ≡ others = let back = again in cc in
        subst (SetsWhatIsListed (words s)) one (sets_what_is_listed (words s) segments (subst (λ n. InOrder n segments) sized ordered));
    refused_kept = λ e. absurd (false≢true e);
    frame_kept = held ∙ framed;
  }

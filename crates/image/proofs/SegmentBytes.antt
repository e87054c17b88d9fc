-- Segments at the end of bytes: what is written is taken off again, and what is taken off was written. Assumes nothing.
use Rattle.std.proofs.Common.{◌≡◌, ℕ, ◌+◌, ◌-◌, ◌*◌, ◌^◌, ◌<◌, ◌≤◌, List, [], ◌∷◌, ◌++◌, length, take, drop, sym, refl, ap, ◌∙◌, subst, arith}
use Rattle.std.proofs.lemmas.List.{append_assoc, append-nil, length-append, length-take, length-drop, take_at, drop_at, drop-drop, drop_all, take-append-drop}
use Rattle.std.proofs.ByRecursion.{All-take, All-drop}
use Rattle.std.specs.List.{flat_map, AllByRecursion}
use Rattle.image.specs.Numbers.{number_at, words_of, number_bytes}
use Rattle.image.specs.Segments.{Segment, end_of, Filled, Ascending}
use Rattle.image.specs.Reading.{first_of, count_of, before_of, split_off}
use Rattle.image.specs.Writing.{segment_bytes}
use Rattle.image.proofs.Numbers.{number_at_append, number_back, words_back, words_below, written_words, length_words, length_written, number_here}
use Rattle.image.proofs.Splits.{Whole}

-- what is written of one segment more
pub joined_push : (front : List Segment) (s : Segment) → flat_map segment_bytes (front ++ (s ∷ [])) ≡ flat_map segment_bytes front ++ segment_bytes s
joined_push [] s = append-nil (segment_bytes s)
joined_push (x ∷ front) s = ap (λ xs. segment_bytes x ++ xs) (joined_push front s) ∙ sym (append_assoc (segment_bytes x) (flat_map segment_bytes front) (segment_bytes s))

-- segments in order, with one more at the end
pub ascending_push : (low limit : ℕ) (front : List Segment) (s : Segment) → Ascending low s.first front → Filled s → end_of s ≤ limit → Ascending low limit (front ++ (s ∷ []))
ascending_push low limit [] s a f e = (a, f, e)
ascending_push low limit (x ∷ front) s a f e = (a.0, a.1, ascending_push (end_of x) limit front s a.2 f e)

pub record Pushed (low limit : ℕ) (front : List Segment) (s : Segment) : Type 0 where
  pub before : Ascending low s.first front
  pub filled : Filled s
  pub fits : end_of s ≤ limit

pub ascending_last : (low limit : ℕ) (front : List Segment) (s : Segment) → Ascending low limit (front ++ (s ∷ [])) → Pushed low limit front s
ascending_last low limit [] s a = record { before = a.0; filled = a.1; fits = a.2 }
ascending_last low limit (x ∷ front) s a =
    let r = ascending_last (end_of x) limit front s a.2 in
    record { before = (a.0, a.1, r.before); filled = r.filled; fits = r.fits }

-- a written segment at the end of bytes
module _ (front : List ℕ) (s : Segment) (filled : Filled s) (first_small : s.first < 2 ^ 32) (count_small : length s.values < 2 ^ 32) where
  abbrev values : List ℕ
  values = flat_map number_bytes s.values

  abbrev ends : List ℕ
  ends = number_bytes s.first ++ number_bytes (length s.values)

  abbrev body : List ℕ
  body = front ++ (values ++ ends)

  grouped : body ≡ (front ++ values) ++ ends
  grouped = sym (append_assoc front values ends)

  low : length (front ++ values) ≡ length front + 4 * length s.values
  low = length-append front values ∙ ap (λ n. length front + n) (length_written s.values)

  long : length body ≡ length front + 4 * length s.values + 8
  long = ap length grouped ∙ length-append (front ++ values) ends ∙ ap (λ n. n + 8) low

  read_at : (i k : ℕ) → i ≡ length front + 4 * length s.values + k → number_at body i ≡ number_at ends k
  read_at i k e = ap (λ xs. number_at xs i) grouped ∙ ap (number_at ((front ++ values) ++ ends)) e ∙ number_at_append (front ++ values) ends (length front + 4 * length s.values) k low

  first_back : first_of body ≡ s.first
  first_back = read_at (length body - 8) 0 (omega (arith, long)) ∙ number_back s.first first_small

  count_back : count_of body ≡ length s.values
  count_back = read_at (length body - 4) 4 (omega (arith, long)) ∙ number_back (length s.values) count_small

  before_back : before_of body ≡ length front
  before_back = ap (λ n. length body - 8 - 4 * n) count_back ∙ omega (arith, long)

  values_back : words_of (take (4 * count_of body) (drop (before_of body) body)) ≡ s.values
  values_back =
      ap (λ n. words_of (take (4 * count_of body) (drop n body))) before_back
      ∙ ap (λ xs. words_of (take (4 * count_of body) xs)) (drop_at front (values ++ ends) (length front) refl)
      ∙ ap (λ n. words_of (take (4 * n) (values ++ ends))) count_back
      ∙ ap words_of (take_at values ends (4 * length s.values) (length_written s.values))
      ∙ words_back s.values filled.words

  parts_back : split_off body ≡ record { before = front; segment = s }
  parts_back =
      ap (λ n. record { before = take n body; segment = (split_off body).segment }) before_back
      ∙ ap (λ xs. record { before = xs; segment = (split_off body).segment }) (take_at front (values ++ ends) (length front) refl)
      ∙ ap (λ n. record { before = front; segment = record { first = n; values = (split_off body).segment.values } }) first_back
      ∙ ap (λ vs. record { before = front; segment = record { first = s.first; values = vs } }) values_back

  pub split_back : split_off (front ++ segment_bytes s) ≡ record { before = front; segment = s }
  unfolding segment_bytes
  split_back = parts_back

  pub whole_back : (limit : ℕ) → end_of s ≤ limit → Whole limit (front ++ segment_bytes s)
  unfolding segment_bytes
  whole_back limit fits = record {
    ended = omega (arith, long);
    some = λ e. omega (arith, filled.some, sym count_back ∙ e);
    inside = subst (λ n. 4 * n ≤ length body - 8) (sym count_back) (omega (arith, long));
    fits = subst (λ n. n + count_of body ≤ limit) (sym first_back) (subst (λ n. s.first + n ≤ limit) (sym count_back) fits);
  }

-- a segment that is taken off the end of bytes
module _ (limit : ℕ) (bytes : List ℕ) (small : AllByRecursion (λ b. b < 256) bytes) (w : Whole limit bytes) where
  abbrev start : ℕ
  start = before_of bytes

  abbrev held : List ℕ
  held = take (4 * count_of bytes) (drop start bytes)

  held_length : length held ≡ 4 * count_of bytes
  held_length = simp (length-take, length-drop) (omega (arith, w.inside, w.ended))

  pub taken_count : length (split_off bytes).segment.values ≡ count_of bytes
  taken_count = length_words held ∙ omega (arith, held_length)

  pub taken_filled : Filled (split_off bytes).segment
  taken_filled = record { some = omega (arith, taken_count, w.some); words = words_below held }

  pub taken_fits : end_of (split_off bytes).segment ≤ limit
  taken_fits = subst (λ n. first_of bytes + n ≤ limit) (sym taken_count) w.fits

  values_written : flat_map number_bytes (words_of held) ≡ held
  values_written = written_words held (count_of bytes) held_length (All-take (λ b. b < 256) (4 * count_of bytes) (drop start bytes) (All-drop (λ b. b < 256) start bytes small))

  ends_written : drop (length bytes - 8) bytes ≡ number_bytes (first_of bytes) ++ number_bytes (count_of bytes)
  ends_written =
      let n = length bytes in
      let a : n - 8 + 4 ≡ n - 4 = omega (arith, w.ended) in
      let b : n - 4 + 4 ≡ n = omega (arith, w.ended) in
      let c : n - 4 ≤ n = omega arith in
      let d : n ≤ n = omega arith in
      number_here bytes (n - 8) (n - 4) a c small
      ∙ ap (λ xs. number_bytes (first_of bytes) ++ xs) (number_here bytes (n - 4) n b d small ∙ ap (λ xs. number_bytes (count_of bytes) ++ xs) (drop_all n bytes d) ∙ append-nil (number_bytes (count_of bytes)))

  rest_written : drop (4 * count_of bytes) (drop start bytes) ≡ number_bytes (first_of bytes) ++ number_bytes (count_of bytes)
  rest_written =
      let e : start + 4 * count_of bytes ≡ length bytes - 8 = omega (arith, w.inside) in
      drop-drop (4 * count_of bytes) start bytes ∙ ap (λ k. drop k bytes) e ∙ ends_written

  pub taken_written : bytes ≡ (split_off bytes).before ++ segment_bytes (split_off bytes).segment
  unfolding segment_bytes
  taken_written =
      sym (take-append-drop start bytes)
      ∙ ap (λ xs. take start bytes ++ xs) (
      sym (take-append-drop (4 * count_of bytes) (drop start bytes))
      ∙ ap (λ xs. xs ++ drop (4 * count_of bytes) (drop start bytes)) (sym values_written)
      ∙ ap (λ xs. flat_map number_bytes (words_of held) ++ xs) (rest_written ∙ ap (λ n. number_bytes (first_of bytes) ++ number_bytes n) (sym taken_count)))

-- Reading accepts exactly what is written. Assumes nothing.
use Rattle.std.proofs.Common.{◌≡◌, ℕ, zero, suc, ◌+◌, ◌-◌, ◌^◌, ◌<◌, ◌≤◌, Bool, true, false, cond, not, ◌||◌, eqb, ltb, List, [], ◌∷◌, ◌++◌, length, get_or, take, drop, Ok, Err, Result, sym, refl, ap, ◌∙◌, subst, inl, inr, arith}
use Rattle.std.proofs.ByRecursion.{All-take, All-drop, All-from_get_or}
use Rattle.std.proofs.lemmas.List.{append_assoc, append-nil, length-append, length-take, length-drop, length_push, take_at, drop_at, drop-drop, drop-take, take-take, drop_all, take-append-drop, nil_from_length}
use Rattle.std.proofs.lemmas.Bool.{eqb-true, eq-eqb, or_parts, or_from, le-ltb, ltb-false, cond-true, cond-false, cases_Bool, not_from_true, not-false}
use Rattle.std.specs.List.{flat_map, AllByRecursion}
use Rattle.image.specs.declared.refusal.ImageRefusal.{ImageRefusal}
use Rattle.image.specs.declared.refusal.ImageRefusal.TheVariants.{LeftOver}
use Rattle.image.specs.Accepting.{EndsInImage, AcceptsExactly}
use Rattle.image.specs.Numbers.{number_at, number_bytes}
use Rattle.image.specs.Reading.{mark, mark_of, number_of_segments, back_of, body_of, split_off, none_read, before_it, followed, walk, reading}
use Rattle.image.specs.Segments.{Segment, end_of, Filled, Ascending, InOrder}
use Rattle.image.specs.Writing.{segment_bytes, written}
use Rattle.image.proofs.Numbers.{number_at_append, number_past, number_back, number_here}
use Rattle.image.proofs.SegmentBytes.{joined_push, ascending_push, ascending_last, split_back, whole_back, taken_filled, taken_fits, taken_written}
use Rattle.image.proofs.Splits.{apart, split_whole, taken_whole}
use Rattle.image.proofs.Walks.{step, walk_length}

-- what a walk accepts is written of segments in order
pub walk_only : (k limit : ℕ) (bytes : List ℕ) (segments : List Segment) → AllByRecursion (λ b. b < 256) bytes → walk k limit bytes ≡ Ok segments →
    (bytes ≡ flat_map segment_bytes segments) × Ascending 0 limit segments
walk_only zero limit bytes segments small h = at (eqb (length bytes) 0) refl h where
  at : (b : Bool) → eqb (length bytes) 0 ≡ b → none_read (cond b (Ok tt) (Err (LeftOver (length bytes)))) ≡ Ok segments →
      (bytes ≡ flat_map segment_bytes segments) × Ascending 0 limit segments
  at true e k =
      let none : segments ≡ [] = cc in
      let empty : bytes ≡ [] = nil_from_length bytes (eqb-true (length bytes) 0 e) in
      (empty ∙ sym (ap (flat_map segment_bytes) none), subst (Ascending 0 limit) (sym none) (omega arith))
  at false e k = absurd (apart k refl)
walk_only (suc i) limit bytes segments small h =
    let s = step i limit bytes segments h in
    let off = taken_whole i limit bytes s.split s.taken in
    let last = s.split.segment in
    let cut : split_off bytes ≡ s.split = off.1 in
    let below : AllByRecursion (λ b. b < 256) s.split.before = subst (λ x. AllByRecursion (λ b. b < 256) x.before) cut (All-take (λ b. b < 256) _ bytes small) in
    let r = walk_only i last.first s.split.before s.front below s.before in
    let is : bytes ≡ s.split.before ++ segment_bytes last = subst (λ x. bytes ≡ x.before ++ segment_bytes x.segment) cut (taken_written limit bytes small off.0) in
    let filled : Filled last = subst (λ x. Filled x.segment) cut (taken_filled limit bytes small off.0) in
    let fits : end_of last ≤ limit = subst (λ x. end_of x.segment ≤ limit) cut (taken_fits limit bytes small off.0) in (
      is ∙ ap (λ xs. xs ++ segment_bytes last) r.0 ∙ sym (joined_push s.front last) ∙ ap (flat_map segment_bytes) (sym s.is),
      subst (Ascending 0 limit) (sym s.is) (ascending_push 0 limit s.front last r.1 filled fits),
    )

-- a list that is not empty has a last element
record Ended (xs : List Segment) : Type 0 where
  front : List Segment
  last : Segment
  is : xs ≡ front ++ (last ∷ [])

ended : (x : Segment) (xs : List Segment) → Ended (x ∷ xs)
ended x [] = record { front = []; last = x; is = refl }
ended x (y ∷ xs) = let r = ended y xs in record { front = x ∷ r.front; last = r.last; is = ap (λ zs. x ∷ zs) r.is }

-- what is written of segments in order is accepted
pub walk_all : (k limit : ℕ) (segments : List Segment) → length segments ≡ k → limit < 2 ^ 32 → Ascending 0 limit segments → walk k limit (flat_map segment_bytes segments) ≡ Ok segments
walk_all zero limit [] e small a = refl
walk_all zero limit (x ∷ xs) e small a = absurd (omega arith)
walk_all (suc i) limit [] e small a = absurd (omega arith)
walk_all (suc i) limit (x ∷ xs) e small a =
    let r = ended x xs in
    let p = ascending_last 0 limit r.front r.last (subst (Ascending 0 limit) r.is a) in
    let body = flat_map segment_bytes r.front in
    let first_small : r.last.first < 2 ^ 32 = omega (arith, p.fits) in
    let count_small : length r.last.values < 2 ^ 32 = omega (arith, p.fits) in
    let i_long : length r.front ≡ i = omega (arith, ap length r.is, length_push r.front r.last) in
    let off = split_whole i limit (body ++ segment_bytes r.last) (whole_back body r.last p.filled first_small count_small limit p.fits) ∙ ap Ok (split_back body r.last p.filled first_small count_small) in
    ap (walk (suc i) limit) (ap (flat_map segment_bytes) r.is ∙ joined_push r.front r.last)
    ∙ ap (before_it (λ next rest. walk i next rest)) off
    ∙ ap (λ x. followed x r.last) (walk_all i r.last.first r.front i_long first_small p.before)
    ∙ ap Ok (sym r.is)

-- what bytes meet that are read
record Opened (size : ℕ) (bytes : List ℕ) (segments : List Segment) : Type 0 where
  ended : 12 ≤ length bytes
  short : length bytes ≤ 65536
  marked : mark_of bytes ≡ mark
  few : number_of_segments bytes ≤ 64
  inside : back_of bytes ≤ length bytes - 12
  walked : walk (number_of_segments bytes) size (body_of bytes) ≡ Ok segments

opened : (size : ℕ) (bytes : List ℕ) (segments : List Segment) → reading size bytes ≡ Ok segments → Opened size bytes segments
opened size bytes segments h =
    let n = length bytes in
    let k = number_of_segments bytes in
    let back = back_of bytes in
    elim (cases_Bool (ltb n 12 || ltb 65536 n)) [
      | inl t ↦ absurd (apart h (cond-true (ltb n 12 || ltb 65536 n) _ _ t))
      | inr f ↦
          let p = cond-false (ltb n 12 || ltb 65536 n) _ _ f in
          let long = or_parts (ltb n 12) (ltb 65536 n) f in
          elim (cases_Bool (not (eqb (mark_of bytes) mark))) [
            | inl t ↦ absurd (apart h (p ∙ cond-true (not (eqb (mark_of bytes) mark)) _ _ t))
            | inr g ↦
                let q = p ∙ cond-false (not (eqb (mark_of bytes) mark)) _ _ g in
                elim (cases_Bool (ltb 64 k || ltb (n - 12) back)) [
                  | inl t ↦ absurd (apart h (q ∙ cond-true (ltb 64 k || ltb (n - 12) back) _ _ t))
                  | inr i ↦
                      let r = q ∙ cond-false (ltb 64 k || ltb (n - 12) back) _ _ i in
                      let wide = or_parts (ltb 64 k) (ltb (n - 12) back) i in
                      record {
                        ended = ltb-false n 12 long.0;
                        short = ltb-false 65536 n long.1;
                        marked = eqb-true (mark_of bytes) mark (not-false (eqb (mark_of bytes) mark) g);
                        few = ltb-false 64 k wide.0;
                        inside = ltb-false (n - 12) back wide.1;
                        walked = sym r ∙ h;
                      }
                ]
          ]
    ]

-- bytes that end in a trailer are read as the walk over what stands before it
passed : (size : ℕ) (bytes : List ℕ) → 12 ≤ length bytes → length bytes ≤ 65536 → mark_of bytes ≡ mark → number_of_segments bytes ≤ 64 → back_of bytes ≤ length bytes - 12 →
    reading size bytes ≡ walk (number_of_segments bytes) size (body_of bytes)
passed size bytes ended short marked few inside =
    let n = length bytes in
    let k = number_of_segments bytes in
    let back = back_of bytes in
    cond-false (ltb n 12 || ltb 65536 n) _ _ (or_from (ltb n 12) (ltb 65536 n) (le-ltb n 12 ended) (le-ltb 65536 n short))
    ∙ cond-false (not (eqb (mark_of bytes) mark)) _ _ (not_from_true (eqb (mark_of bytes) mark) (eq-eqb (mark_of bytes) mark marked))
    ∙ cond-false (ltb 64 k || ltb (n - 12) back) _ _ (or_from (ltb 64 k) (ltb (n - 12) back) (le-ltb 64 k few) (le-ltb (n - 12) back inside))

closed : (size : ℕ) (bytes : List ℕ) (segments : List Segment) → Opened size bytes segments → reading size bytes ≡ Ok segments
closed size bytes segments o = passed size bytes o.ended o.short o.marked o.few o.inside ∙ o.walked

-- the same, in what the code has at hand
pub walked_over : (size segments back : ℕ) (bytes rest trailer : List ℕ) → rest ≡ take (length bytes - 12) bytes → length rest + 12 ≡ length bytes → trailer ≡ drop (length bytes - 12) bytes → length bytes ≤ 65536 →
    number_at trailer 0 ≡ mark → segments ≡ number_at trailer 4 → back ≡ number_at trailer 8 → segments ≤ 64 → back ≤ length rest →
    walk segments size (take (length rest - (length rest - back)) (drop (length rest - back) rest)) ≡ reading size bytes
walked_over size segments back bytes rest trailer r l t short marked k b few inside =
    let n = length bytes in
    let m : mark_of bytes ≡ mark = sym (number_past bytes trailer (n - 12) 0 (n - 12) t (omega arith)) ∙ marked in
    let many : segments ≡ number_of_segments bytes = k ∙ number_past bytes trailer (n - 12) 4 (n - 8) t (omega (arith, l)) in
    let far : back ≡ back_of bytes = b ∙ number_past bytes trailer (n - 12) 8 (n - 4) t (omega (arith, l)) in
    let at : length rest - back ≡ n - 12 - back_of bytes = omega (arith, l, far) in
    let long : length rest - (length rest - back) ≡ back_of bytes = omega (arith, inside, far) in
    let whole : n - 12 ≡ n - 12 - back_of bytes + back_of bytes = omega (arith, l, inside, far) in
    let body : take (length rest - (length rest - back)) (drop (length rest - back) rest) ≡ body_of bytes =
    ap (λ i. take i (drop (length rest - back) rest)) long ∙ ap (λ i. take (back_of bytes) (drop i rest)) at
    ∙ ap (λ xs. take (back_of bytes) (drop (n - 12 - back_of bytes) xs)) r
    ∙ ap (λ i. take (back_of bytes) (drop (n - 12 - back_of bytes) (take i bytes))) whole
    ∙ ap (take (back_of bytes)) (drop-take (n - 12 - back_of bytes) (back_of bytes) bytes)
    ∙ take-take (back_of bytes) (back_of bytes) (drop (n - 12 - back_of bytes) bytes) (omega arith) in
    ap (λ i. walk i size (take (length rest - (length rest - back)) (drop (length rest - back) rest))) many
    ∙ ap (walk (number_of_segments bytes) size) body
    ∙ sym (passed size bytes (omega (arith, l)) short m (subst (λ i. i ≤ 64) many few) (omega (arith, l, inside, far)))

-- the bytes of an image, before and after its trailer was written
trailer_written : (bytes : List ℕ) → AllByRecursion (λ b. b < 256) bytes → 12 ≤ length bytes →
    drop (length bytes - 12) bytes ≡ number_bytes (mark_of bytes) ++ (number_bytes (number_of_segments bytes) ++ number_bytes (back_of bytes))
trailer_written bytes small h =
    let n = length bytes in
    let a : n - 12 + 4 ≡ n - 8 = omega arith in
    let b : n - 8 + 4 ≡ n - 4 = omega arith in
    let c : n - 4 + 4 ≡ n = omega arith in
    let d : n ≤ n = omega arith in
    let end = number_here bytes (n - 4) n c d small ∙ ap (λ xs. number_bytes (back_of bytes) ++ xs) (drop_all n bytes d) ∙ append-nil (number_bytes (back_of bytes)) in
    number_here bytes (n - 12) (n - 8) a (omega arith) small
    ∙ ap (λ xs. number_bytes (mark_of bytes) ++ xs) (number_here bytes (n - 8) (n - 4) b (omega arith) small ∙ ap (λ xs. number_bytes (number_of_segments bytes) ++ xs) end)

reading_only : (size : ℕ) (bytes : List ℕ) (segments : List Segment) → AllByRecursion (λ b. b < 256) bytes → reading size bytes ≡ Ok segments → EndsInImage size bytes segments
unfolding written
reading_only size bytes segments small h =
    let o = opened size bytes segments h in
    let n = length bytes in
    let back = back_of bytes in
    let start = n - 12 - back in
    let body = flat_map segment_bytes segments in
    let w = walk_only (number_of_segments bytes) size (body_of bytes) segments (All-take (λ b. b < 256) back (drop start bytes) (All-drop (λ b. b < 256) start bytes small)) o.walked in
    let long : back ≡ length body = sym (simp (length-take, length-drop) (omega (arith, o.inside, o.ended))) ∙ ap length w.0 in
    let many : number_of_segments bytes ≡ length segments = sym (walk_length (number_of_segments bytes) size (body_of bytes) segments o.walked) in
    let join : start + back ≡ n - 12 = omega (arith, o.inside) in
    let trailer =
    drop-drop back start bytes ∙ ap (λ k. drop k bytes) join ∙ trailer_written bytes small o.ended
    ∙ ap (λ k. number_bytes k ++ (number_bytes (number_of_segments bytes) ++ number_bytes back)) o.marked
    ∙ ap (λ k. number_bytes mark ++ (number_bytes k ++ number_bytes back)) many
    ∙ ap (λ k. number_bytes mark ++ (number_bytes (length segments) ++ number_bytes k)) long
    in
    record {
      ignored = take start bytes;
      image = sym (take-append-drop start bytes)
          ∙ ap (λ xs. take start bytes ++ xs) (sym (take-append-drop back (drop start bytes)) ∙ ap (λ xs. xs ++ drop back (drop start bytes)) w.0 ∙ ap (λ xs. body ++ xs) trailer);
      ordered = w.1;
      few = subst (λ k. k ≤ 64) many o.few;
      short = o.short;
    }

-- a written image at the end of bytes
module _ (ignored : List ℕ) (segments : List Segment) (few : length segments ≤ 64) where
  abbrev body : List ℕ
  body = flat_map segment_bytes segments

  abbrev trailer : List ℕ
  trailer = number_bytes mark ++ (number_bytes (length segments) ++ number_bytes (length body))

  abbrev bytes : List ℕ
  bytes = ignored ++ (body ++ trailer)

  grouped : bytes ≡ (ignored ++ body) ++ trailer
  grouped = sym (append_assoc ignored body trailer)

  low : length (ignored ++ body) ≡ length ignored + length body
  low = length-append ignored body

  long : length bytes ≡ length ignored + length body + 12
  long = ap length grouped ∙ length-append (ignored ++ body) trailer ∙ ap (λ n. n + 12) low

  read_at : (i k : ℕ) → i ≡ length ignored + length body + k → number_at bytes i ≡ number_at trailer k
  read_at i k e = ap (λ xs. number_at xs i) grouped ∙ ap (number_at ((ignored ++ body) ++ trailer)) e ∙ number_at_append (ignored ++ body) trailer (length ignored + length body) k low

  number_back_of : length bytes ≤ 65536 → back_of bytes ≡ length body
  number_back_of short = read_at (length bytes - 4) 8 (omega (arith, long)) ∙ number_back (length body) (omega (arith, long))

  segments_back : number_of_segments bytes ≡ length segments
  segments_back = read_at (length bytes - 8) 4 (omega (arith, long)) ∙ number_back (length segments) (omega arith)

  body_back : length bytes ≤ 65536 → body_of bytes ≡ body
  body_back short =
      let back = number_back_of short in
      let start : length bytes - 12 - back_of bytes ≡ length ignored = ap (λ n. length bytes - 12 - n) back ∙ omega (arith, long) in
      ap (λ n. take (back_of bytes) (drop n bytes)) start
      ∙ ap (take (back_of bytes)) (drop_at ignored (body ++ trailer) (length ignored) refl)
      ∙ take_at body trailer (back_of bytes) (sym back)

  reopened : (size : ℕ) → size < 2 ^ 32 → InOrder size segments → length bytes ≤ 65536 → Opened size bytes segments
  reopened size small ordered short = record {
    ended = omega (arith, long);
    short = short;
    marked = read_at (length bytes - 12) 0 (omega (arith, long));
    few = subst (λ k. k ≤ 64) (sym segments_back) few;
    inside = subst (λ n. n ≤ length bytes - 12) (sym (number_back_of short)) (omega (arith, long));
    walked =
        ap (λ k. walk k size (body_of bytes)) segments_back ∙ ap (walk (length segments) size) (body_back short)
        ∙ walk_all (length segments) size segments refl small ordered;
  }

reading_all : (size : ℕ) (bytes : List ℕ) (segments : List Segment) → size < 2 ^ 32 → EndsInImage size bytes segments → reading size bytes ≡ Ok segments
unfolding written
reading_all size bytes segments small e =
    closed size bytes segments (subst (λ bs. Opened size bs segments) (sym e.image) (
    reopened e.ignored segments e.few size small e.ordered (subst (λ bs. length bs ≤ 65536) e.image e.short)))

pub accepts_exactly : (answer : Result (List Segment) ImageRefusal) (size : ℕ) (bytes : List ℕ) → answer ≡ reading size bytes → size < 2 ^ 32 → ((i : ℕ) → get_or bytes i 0 < 256) →
    (segments : List Segment) → AcceptsExactly answer size bytes segments
accepts_exactly answer size bytes e small each segments = record {
  only = λ h. reading_only size bytes segments (All-from_get_or (λ b. b < 256) bytes 0 (λ i l. each i)) (sym e ∙ h);
  all = λ h. e ∙ reading_all size bytes segments small h;
}

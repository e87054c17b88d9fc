-- Loading an image leaves words of 32 bits. Assumes nothing.
use Rattle.std.proofs.Common.{ℕ, zero, suc, ◌+◌, ◌-◌, ◌*◌, Bool, true, false, cond, not, ◌||◌, eqb, ltb, List, [], ◌∷◌, ◌++◌, length, take, drop, Ok, Err, Result, arith}
use Rattle.image.specs.declared.refusal.ImageRefusal.{ImageRefusal}
use Rattle.image.specs.declared.refusal.ImageRefusal.TheVariants.{Length, Mark, Trailer, Cut, Empty, Beyond, Overlap}
use Rattle.image.specs.Numbers.{words_of}
use Rattle.image.specs.Segments.{Segment}
use Rattle.image.specs.Reading.{Split, first_of, count_of, before_of, split_off, last_segment, followed, before_it, nothing_left, none_read, walk, mark_of, number_of_segments, back_of, body_of, reading, mark}
use Rattle.image.specs.Loading.{stored, loaded, words_with, words_loaded}
use Rattle.run_control.specs.Core.{Small}
use Rattle.run_control.proofs.Fits.{set_small}

words_small : (bs : List ℕ) → Small (words_of bs)
words_small [] i = omega arith
words_small (a ∷ []) i = omega arith
words_small (a ∷ (b ∷ [])) i = omega arith
words_small (a ∷ (b ∷ (c ∷ []))) i = omega arith
words_small (a ∷ (b ∷ (c ∷ (d ∷ rest)))) zero = omega arith
words_small (a ∷ (b ∷ (c ∷ (d ∷ rest)))) (suc i) = words_small rest i

abbrev Smalls : List Segment → Type 0
Smalls [] = Unit {0}
Smalls (s ∷ rest) = Small s.values × Smalls rest

abbrev ReadSmall : Result (List Segment) ImageRefusal → Type 0
ReadSmall (Ok segments) = Smalls segments
ReadSmall (Err e) = Unit {0}

abbrev SplitSmall : Result Split ImageRefusal → Type 0
SplitSmall (Ok s) = Small s.segment.values
SplitSmall (Err e) = Unit {0}

split_by : (b1 b2 b3 b4 : Bool) (e1 e2 e3 e4 : ImageRefusal) (s : Split) → Small s.segment.values → SplitSmall (cond b1 (Err e1) (cond b2 (Err e2) (cond b3 (Err e3) (cond b4 (Err e4) (Ok s)))))
split_by true b2 b3 b4 e1 e2 e3 e4 s h = tt
split_by false true b3 b4 e1 e2 e3 e4 s h = tt
split_by false false true b4 e1 e2 e3 e4 s h = tt
split_by false false false true e1 e2 e3 e4 s h = tt
split_by false false false false e1 e2 e3 e4 s h = h

split_small : (i limit : ℕ) (bytes : List ℕ) → SplitSmall (last_segment i limit bytes)
split_small i limit bytes =
    split_by (ltb (length bytes) 8) (eqb (count_of bytes) 0) (ltb (length bytes - 8) (4 * count_of bytes)) (ltb limit (first_of bytes + count_of bytes))
    (Cut i (length bytes)) (Empty i) (Beyond i (count_of bytes) (length bytes - 8)) (Overlap i (first_of bytes) (count_of bytes) limit)
    (split_off bytes) (words_small (take (4 * count_of bytes) (drop (before_of bytes) bytes)))

smalls_more : (xs : List Segment) (s : Segment) → Smalls xs → Small s.values → Smalls (xs ++ (s ∷ []))
smalls_more [] s a h = (h, tt)
smalls_more (x ∷ xs) s a h = (a.0, smalls_more xs s a.1 h)

followed_small : (r : Result (List Segment) ImageRefusal) (s : Segment) → ReadSmall r → Small s.values → ReadSmall (followed r s)
followed_small (Ok xs) s a h = smalls_more xs s a h
followed_small (Err e) s a h = tt

before_small : (read : ℕ → List ℕ → Result (List Segment) ImageRefusal) (r : Result Split ImageRefusal) → ((n : ℕ) (bs : List ℕ) → ReadSmall (read n bs)) → SplitSmall r → ReadSmall (before_it read r)
before_small read (Ok s) a h = followed_small (read s.segment.first s.before) s.segment (a s.segment.first s.before) h
before_small read (Err e) a h = tt

none_small : (r : Result (Unit {0}) ImageRefusal) → ReadSmall (none_read r)
none_small (Ok u) = tt
none_small (Err e) = tt

walk_small : (i limit : ℕ) (bytes : List ℕ) → ReadSmall (walk i limit bytes)
walk_small zero limit bytes = none_small (nothing_left bytes)
walk_small (suc i) limit bytes = before_small (λ next rest. walk i next rest) (last_segment i limit bytes) (λ n bs. walk_small i n bs) (split_small i limit bytes)

read_by : (b1 b2 b3 : Bool) (e1 e2 e3 : ImageRefusal) (r : Result (List Segment) ImageRefusal) → ReadSmall r → ReadSmall (cond b1 (Err e1) (cond b2 (Err e2) (cond b3 (Err e3) r)))
read_by true b2 b3 e1 e2 e3 r h = tt
read_by false true b3 e1 e2 e3 r h = tt
read_by false false true e1 e2 e3 r h = tt
read_by false false false e1 e2 e3 r h = h

reading_small : (size : ℕ) (bytes : List ℕ) → ReadSmall (reading size bytes)
reading_small size bytes =
    read_by (ltb (length bytes) 12 || ltb 65536 (length bytes)) (not (eqb (mark_of bytes) mark)) (ltb 64 (number_of_segments bytes) || ltb (length bytes - 12) (back_of bytes))
    (Length (length bytes)) (Mark (mark_of bytes)) (Trailer (number_of_segments bytes) (back_of bytes) (length bytes - 12))
    (walk (number_of_segments bytes) size (body_of bytes)) (walk_small (number_of_segments bytes) size (body_of bytes))

stored_small : (ws : List ℕ) (n : ℕ) (vs : List ℕ) → Small ws → Small vs → Small (stored ws n vs)
stored_small ws n [] h l = h
stored_small ws n (v ∷ vs) h l = stored_small _ (n + 1) vs (set_small ws n v h (l 0)) (λ i. l (suc i))

loaded_small : (ws : List ℕ) (segments : List Segment) → Small ws → Smalls segments → Small (loaded ws segments)
loaded_small ws [] h l = h
loaded_small ws (s ∷ rest) h l = loaded_small (stored ws s.first s.values) rest (stored_small ws s.first s.values h l.0) l.1

set_by : (r : Result (List Segment) ImageRefusal) (ws : List ℕ) → Small ws → ReadSmall r → Small (words_with ws r)
set_by (Ok segments) ws h l = loaded_small ws segments h l
set_by (Err e) ws h l = h

pub image_small : (ws bytes : List ℕ) → Small ws → Small (words_loaded ws bytes)
image_small ws bytes h = set_by (reading (length ws) bytes) ws h (reading_small (length ws) bytes)

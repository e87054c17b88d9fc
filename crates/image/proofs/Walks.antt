-- The walk over segments: one step of it, and the segment that is looked for. Assumes nothing.
use Rattle.std.proofs.Common.{◌≡◌, ℕ, zero, suc, ◌-◌, ◌<◌, ◌≤◌, true, cond, eqb, List, [], ◌∷◌, ◌++◌, length, is_some, IsOk, Some, None, Ok, Err, Option, Result, sym, refl, ap, ◌∙◌, subst, inl, inr, add-one, arith}
use Rattle.std.proofs.lemmas.Bool.{cases_eq, cases_Bool, eq-eqb, ne_eqb, false≢true}
use Rattle.std.proofs.lemmas.List.{length_push}
use Rattle.std.specs.List.{slice_get}
use Rattle.image.specs.declared.refusal.ImageRefusal.{ImageRefusal}
use Rattle.image.specs.Segments.{Segment}
use Rattle.image.specs.Reading.{Split, last_segment, nothing_left, none_read, before_it, followed, walk}
use Rattle.image.specs.Views.{picked, accepted}
use Rattle.image.proofs.Splits.{apart}

abbrev Read : Type 0
Read = Result (List Segment) ImageRefusal

-- how a walk over one segment more came to its segments
pub record Step (i limit : ℕ) (bytes : List ℕ) (segments : List Segment) : Type 0 where
  pub split : Split
  pub front : List Segment
  pub taken : last_segment i limit bytes ≡ Ok split
  pub before : walk i split.segment.first split.before ≡ Ok front
  pub is : segments ≡ front ++ (split.segment ∷ [])

pub step : (i limit : ℕ) (bytes : List ℕ) (segments : List Segment) → walk (suc i) limit bytes ≡ Ok segments → Step i limit bytes segments
step i limit bytes segments h = at (last_segment i limit bytes) refl h where
  last : (s : Split) → last_segment i limit bytes ≡ Ok s → (r : Read) → walk i s.segment.first s.before ≡ r → followed r s.segment ≡ Ok segments → Step i limit bytes segments
  last s e (Ok front) w k = record { split = s; front = front; taken = e; before = w; is = cc }
  last s e (Err x) w k = absurd (apart k refl)

  at : (r : Result Split ImageRefusal) → last_segment i limit bytes ≡ r → before_it (λ next rest. walk i next rest) r ≡ Ok segments → Step i limit bytes segments
  at (Ok s) e k = last s e (walk i s.segment.first s.before) refl k
  at (Err x) e k = absurd (apart k refl)

-- a walk gives as many segments as it was asked for
pub walk_length : (k limit : ℕ) (bytes : List ℕ) (segments : List Segment) → walk k limit bytes ≡ Ok segments → length segments ≡ k
walk_length zero limit bytes segments h = at (nothing_left bytes) h where
  at : (r : Result (Unit {0}) ImageRefusal) → none_read r ≡ Ok segments → length segments ≡ 0
  at (Ok u) k = let e : segments ≡ [] = cc in ap length e
  at (Err x) k = absurd (apart k refl)
walk_length (suc i) limit bytes segments h =
    let s = step i limit bytes segments h in
    ap length s.is ∙ length_push s.front s.split.segment ∙ add-one (length s.front) ∙ ap suc (walk_length i _ _ s.front s.before)

-- and so does one that is accepted
pub accepted_length : (k limit : ℕ) (bytes : List ℕ) → IsOk (walk k limit bytes) → k ≡ length (accepted (walk k limit bytes))
accepted_length k limit bytes h = at (walk k limit bytes) refl h where
  at : (r : Read) → walk k limit bytes ≡ r → IsOk r → k ≡ length (accepted r)
  at (Ok segments) e ok = sym (walk_length k limit bytes segments e)
  at (Err x) e ok = absurd (false≢true ok)

-- a segment was looked for, and the walk refused or accepted
pub picked_err : (w : ℕ) (r : Read) (x : ImageRefusal) → Err x ≡ picked w r → Err x ≡ r
picked_err w (Ok segments) x e = absurd (apart e refl)
picked_err w (Err y) x e = cc

pub picked_ok : (w : ℕ) (r : Read) (o : Option Segment) → Ok o ≡ picked w r → Ok (accepted r) ≡ r
picked_ok w (Ok segments) o e = refl
picked_ok w (Err y) o e = absurd (apart (sym e) refl)

-- what stands at i, once one segment more stands at the end
nth_push : (xs : List Segment) (x : Segment) (i : ℕ) → (length xs ≡ i → ⊥) → slice_get (xs ++ (x ∷ [])) i ≡ slice_get xs i
nth_push [] x zero ne = absurd (ne refl)
nth_push [] x (suc i) ne = refl
nth_push (y ∷ xs) x zero ne = refl
nth_push (y ∷ xs) x (suc i) ne = nth_push xs x i (λ e. ne (ap suc e))

nth_last : (xs : List Segment) (x : Segment) (i : ℕ) → length xs ≡ i → slice_get (xs ++ (x ∷ [])) i ≡ Some x
nth_last [] x zero e = refl
nth_last [] x (suc i) e = absurd (omega arith)
nth_last (y ∷ xs) x zero e = absurd (omega arith)
nth_last (y ∷ xs) x (suc i) e = nth_last xs x i (omega arith)

-- the segment that is looked for: the one found, if the rest is accepted, or the one among the rest
abbrev pub merged : Option Segment → ℕ → Read → Result (Option Segment) ImageRefusal
merged None w r = picked w r
merged (Some s) w (Ok segments) = Ok (Some s)
merged (Some s) w (Err e) = Err e

-- what is found, if nothing is left
abbrev concluded : Option Segment → Result (Unit {0}) ImageRefusal → Result (Option Segment) ImageRefusal
concluded found (Ok u) = Ok found
concluded found (Err e) = Err e

-- what is found once the segment number j is seen
abbrev pub seen : ℕ → ℕ → Segment → Option Segment → Option Segment
seen j w s found = cond (eqb j w) (Some s) found

merged_followed : (found : Option Segment) (j w : ℕ) (s : Segment) (r : Read) → ((front : List Segment) → r ≡ Ok front → length front ≡ j) → (is_some found ≡ true → suc j ≤ w) → merged found w (followed r s) ≡ merged (seen j w s found) w r
merged_followed None j w s (Ok front) long later = elim (cases_eq j w) [
  | inl e ↦ ap Ok (nth_last front s w (long front refl ∙ e)) ∙ sym (ap (λ b. merged (cond b (Some s) None) w (Ok front)) (eq-eqb j w e))
  | inr ne ↦ ap Ok (nth_push front s w (λ e. ne (sym (long front refl) ∙ e))) ∙ sym (ap (λ b. merged (cond b (Some s) None) w (Ok front)) (ne_eqb j w ne))
]
merged_followed None j w s (Err x) long later = elim (cases_Bool (eqb j w)) [
  | inl e ↦ sym (ap (λ b. merged (cond b (Some s) None) w (Err x)) e)
  | inr e ↦ sym (ap (λ b. merged (cond b (Some s) None) w (Err x)) e)
]
merged_followed (Some t) j w s (Ok front) long later = sym (ap (λ b. merged (cond b (Some s) (Some t)) w (Ok front)) (ne_eqb j w (λ e. omega (arith, later refl))))
merged_followed (Some t) j w s (Err x) long later = sym (ap (λ b. merged (cond b (Some s) (Some t)) w (Err x)) (ne_eqb j w (λ e. omega (arith, later refl))))

-- one turn of the walk, where the segment is accepted and where it is not
merged_more : (found : Option Segment) (j w limit : ℕ) (bytes : List ℕ) (s : Split) → last_segment j limit bytes ≡ Ok s → (is_some found ≡ true → suc j ≤ w) →
    merged found w (walk (suc j) limit bytes) ≡ merged (seen j w s.segment found) w (walk j s.segment.first s.before)
merged_more found j w limit bytes s e later =
    ap (λ r. merged found w (before_it (λ next rest. walk j next rest) r)) e
    ∙ merged_followed found j w s.segment (walk j s.segment.first s.before) (λ front k. walk_length j _ _ front k) later

merged_refused : (found : Option Segment) (j w limit : ℕ) (bytes : List ℕ) (x : ImageRefusal) → last_segment j limit bytes ≡ Err x → merged found w (walk (suc j) limit bytes) ≡ Err x
merged_refused None j w limit bytes x e = ap (λ r. picked w (before_it (λ next rest. walk j next rest) r)) e
merged_refused (Some t) j w limit bytes x e = ap (λ r. merged (Some t) w (before_it (λ next rest. walk j next rest) r)) e

-- the end of the walk
merged_none : (found : Option Segment) (w : ℕ) (r : Result (Unit {0}) ImageRefusal) → merged found w (none_read r) ≡ concluded found r
merged_none None w (Ok u) = refl
merged_none None w (Err e) = refl
merged_none (Some t) w (Ok u) = refl
merged_none (Some t) w (Err e) = refl

-- the same, in the numbers that the code has at hand
module _ (found : Option Segment) (left w limit : ℕ) (bytes : List ℕ) (answer : Result (Option Segment) ImageRefusal) (a : answer ≡ merged found w (walk left limit bytes)) where
  turn : (before : List ℕ) (s : Segment) → 0 < left → Ok (record { before = before; segment = s }) ≡ last_segment (left - 1) limit bytes → (is_some found ≡ true → left ≤ w) →
      answer ≡ merged (seen (left - 1) w s found) w (walk (left - 1) s.first before)
  turn before s some e later =
      let one : left ≡ suc (left - 1) = omega arith in
      a ∙ ap (λ n. merged found w (walk n limit bytes)) one
      ∙ merged_more found (left - 1) w limit bytes (record { before = before; segment = s }) (sym e) (λ k. subst (λ n. n ≤ w) one (later k))

  pub turn_past : (before : List ℕ) (s : Segment) → 0 < left → Ok (record { before = before; segment = s }) ≡ last_segment (left - 1) limit bytes → (is_some found ≡ true → left ≤ w) →
      (left - 1 ≡ w → ⊥) → answer ≡ merged found w (walk (left - 1) s.first before)
  turn_past before s some e later ne = turn before s some e later ∙ ap (λ b. merged (cond b (Some s) found) w (walk (left - 1) s.first before)) (ne_eqb (left - 1) w ne)

  pub turn_found : (before : List ℕ) (s : Segment) → 0 < left → Ok (record { before = before; segment = s }) ≡ last_segment (left - 1) limit bytes → (is_some found ≡ true → left ≤ w) →
      left - 1 ≡ w → answer ≡ merged (Some s) w (walk (left - 1) s.first before)
  turn_found before s some e later eq = turn before s some e later ∙ ap (λ b. merged (cond b (Some s) found) w (walk (left - 1) s.first before)) (eq-eqb (left - 1) w eq)

  pub turned_down : (x : ImageRefusal) → 0 < left → Err x ≡ last_segment (left - 1) limit bytes → Err x ≡ answer
  turned_down x some e =
      let one : left ≡ suc (left - 1) = omega arith in
      sym (a ∙ ap (λ n. merged found w (walk n limit bytes)) one ∙ merged_refused found (left - 1) w limit bytes x (sym e))

  closing : (r : Result (Unit {0}) ImageRefusal) → left ≤ 0 → r ≡ nothing_left bytes → concluded found r ≡ answer
  closing r none e =
      let z : left ≡ 0 = omega arith in
      sym (a ∙ ap (λ n. merged found w (walk n limit bytes)) z ∙ merged_none found w (nothing_left bytes) ∙ ap (concluded found) (sym e))

  pub ended : (u : Unit {0}) → left ≤ 0 → Ok u ≡ nothing_left bytes → Ok found ≡ answer
  ended u none e = closing (Ok u) none e

  pub left_over : (x : ImageRefusal) → left ≤ 0 → Err x ≡ nothing_left bytes → Err x ≡ answer
  left_over x none e = closing (Err x) none e

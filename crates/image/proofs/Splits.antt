-- The segment at the end of bytes: when it is accepted. Assumes nothing.
use Rattle.std.proofs.Common.{◌≡◌, ℕ, ◌+◌, ◌-◌, ◌*◌, ◌≤◌, eqb, ltb, List, length, take, drop, Ok, Err, Result, sym, ap, ◌∙◌, subst, inl, inr, arith}
use Rattle.std.proofs.lemmas.Bool.{le-ltb, lt-ltb, ne_eqb, eq-eqb, cond-true, cond-false, cases_lt, cases_eq}
use Rattle.std.proofs.lemmas.List.{take-take, drop-take}
use Rattle.image.specs.declared.refusal.ImageRefusal.{ImageRefusal}
use Rattle.image.specs.Numbers.{words_of}
use Rattle.image.specs.Reading.{first_of, count_of, before_of, Split, split_off, last_segment}

-- an Ok is no Err
pub apart : {A : Type 0} {x : A} {e : ImageRefusal} {r : Result A ImageRefusal} → r ≡ Ok x → r ≡ Err e → ⊥
apart p q = let z : ◌≡◌ {A = ℕ} 0 1 = cc in omega arith

-- what an accepted segment at the end of the bytes meets
pub record Whole (limit : ℕ) (bytes : List ℕ) : Type 0 where
  pub ended : 8 ≤ length bytes
  pub some : count_of bytes ≡ 0 → ⊥
  pub inside : 4 * count_of bytes ≤ length bytes - 8
  pub fits : first_of bytes + count_of bytes ≤ limit

pub split_whole : (i limit : ℕ) (bytes : List ℕ) → Whole limit bytes → last_segment i limit bytes ≡ Ok (split_off bytes)
split_whole i limit bytes w =
    cond-false (ltb (length bytes) 8) _ _ (le-ltb (length bytes) 8 w.ended)
    ∙ cond-false (eqb (count_of bytes) 0) _ _ (ne_eqb (count_of bytes) 0 w.some)
    ∙ cond-false (ltb (length bytes - 8) (4 * count_of bytes)) _ _ (le-ltb (length bytes - 8) (4 * count_of bytes) w.inside)
    ∙ cond-false (ltb limit (first_of bytes + count_of bytes)) _ _ (le-ltb limit (first_of bytes + count_of bytes) w.fits)

-- the same, in what the code has at hand
pub split_read : (i limit first count start : ℕ) (bytes rest before words : List ℕ) → rest ≡ take (length bytes - 8) bytes → length rest + 8 ≡ length bytes →
    first ≡ first_of bytes → count ≡ count_of bytes → (count ≡ 0 → ⊥) → start + 4 * count ≡ length rest → first + count ≤ limit → before ≡ take start rest → words ≡ drop start rest →
    Ok (record { before = before; segment = record { first = first; values = words_of words } }) ≡ last_segment i limit bytes
split_read i limit first count start bytes rest before words r l f c some inside fits b w =
    let at : start ≡ before_of bytes = omega (arith, inside, l, ap (λ n. 4 * n) c) in
    let long : length bytes - 8 ≡ start + 4 * count_of bytes = omega (arith, inside, l, ap (λ n. 4 * n) c) in
    let low : start ≤ length bytes - 8 = omega (arith, long) in
    let front : before ≡ take (before_of bytes) bytes = b ∙ ap (take start) r ∙ take-take start (length bytes - 8) bytes low ∙ ap (λ n. take n bytes) at in
    let held : words ≡ take (4 * count_of bytes) (drop (before_of bytes) bytes) =
    w ∙ ap (drop start) r ∙ ap (λ n. drop start (take n bytes)) long ∙ drop-take start (4 * count_of bytes) bytes ∙ ap (λ n. take (4 * count_of bytes) (drop n bytes)) at in
    let whole : Whole limit bytes = record {
      ended = omega (arith, l);
      some = λ z. some (c ∙ z);
      inside = omega (arith, long);
      fits = subst (λ n. n + count_of bytes ≤ limit) f (subst (λ n. first + n ≤ limit) c fits);
    } in
    ap (λ xs. Ok (record { before = xs; segment = record { first = first; values = words_of words } })) front
    ∙ ap (λ n. Ok (record { before = take (before_of bytes) bytes; segment = record { first = n; values = words_of words } })) f
    ∙ ap (λ xs. Ok (record { before = take (before_of bytes) bytes; segment = record { first = first_of bytes; values = words_of xs } })) held
    ∙ sym (split_whole i limit bytes whole)

-- and the other way: what is taken off was whole
pub taken_whole : (i limit : ℕ) (bytes : List ℕ) (s : Split) → last_segment i limit bytes ≡ Ok s → Whole limit bytes × (split_off bytes ≡ s)
taken_whole i limit bytes s h =
    let len = length bytes in
    let count = count_of bytes in
    let end = first_of bytes + count in
    elim (cases_lt len 8) [
      | inl lt ↦ absurd (apart h (cond-true (ltb len 8) _ _ (lt-ltb len 8 lt)))
      | inr ended ↦
          let p = cond-false (ltb len 8) _ _ (le-ltb len 8 ended) in
          elim (cases_eq count 0) [
            | inl z ↦ absurd (apart h (p ∙ cond-true (eqb count 0) _ _ (eq-eqb count 0 z)))
            | inr some ↦
                let q = p ∙ cond-false (eqb count 0) _ _ (ne_eqb count 0 some) in
                elim (cases_lt (len - 8) (4 * count)) [
                  | inl lt ↦ absurd (apart h (q ∙ cond-true (ltb (len - 8) (4 * count)) _ _ (lt-ltb (len - 8) (4 * count) lt)))
                  | inr inside ↦
                      let r = q ∙ cond-false (ltb (len - 8) (4 * count)) _ _ (le-ltb (len - 8) (4 * count) inside) in
                      elim (cases_lt limit end) [
                        | inl lt ↦ absurd (apart h (r ∙ cond-true (ltb limit end) _ _ (lt-ltb limit end lt)))
                        | inr fits ↦
                            let whole : Whole limit bytes = record { ended = ended; some = some; inside = inside; fits = fits } in
                            let same : Ok (split_off bytes) ≡ Ok s = sym (split_whole i limit bytes whole) ∙ h in
                            (whole, cc)
                      ]
                ]
          ]
    ]

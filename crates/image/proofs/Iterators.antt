-- Iterators over a list: their progress, and the turns of one that has segments left. Assumes nothing.
use Rattle.std.proofs.Common.{◌≡◌, ℕ, suc, ◌+◌, ◌<◌, ◌≤◌, List, [], ◌∷◌, length, take, drop, Some, None, Option, sym, ap, ◌∙◌, arith}
use Rattle.std.proofs.Math.Seq.{drop-cons}
use Rattle.std.proofs.lemmas.List.{drop_all, get_or-take, length-take}
use Rattle.std.proofs.lemmas.Option.{slice_get_cases, slice_get_within, get_or_from_slice_get}
use Rattle.std.specs.Iterator.{MakesProgress, YieldsFirstBy, item_count}
use Rattle.std.specs.List.{slice_get}
use Rattle.std.specs.Option.{option_map, MatchOption}
use Rattle.image.specs.Segments.{Segment}
use Rattle.image.specs.declared.part.ImagePart.{ImagePart}
use Rattle.image.specs.Views.{segment_of}

-- an iterator that yields the first of what is left has less left after it
pub progress : {S A B : Type 0} (can : S → Type 0) (view : A → B) (rest : S → List B) (s t : S) (o : Option A) → can t → YieldsFirstBy view rest s o t → MakesProgress can (item_count rest) s o t
progress can view rest s t (Some x) c e = record { on = λ f. (c, tt, omega (arith, ap length e)); keeps = c; rests = λ f. tt }
progress can view rest s t None c e = record { on = λ f. tt; keeps = tt; rests = λ f. tt }

missing_past : {A : Type 0} (xs : List A) (i : ℕ) → None ≡ slice_get xs i → length xs ≤ i
missing_past xs i e = let c = slice_get_cases xs i in grind arith

-- the segments from n to m, where the one at n is asked for, and those after it
pub turn : (segments : List Segment) (n m next end at : ℕ) (o : Option ImagePart) → n < m → at ≡ n → next ≡ n + 1 → end ≡ m → option_map segment_of o ≡ slice_get segments at →
    MatchOption o ((drop n (take m segments) ≡ []) × (drop next (take end segments) ≡ [])) (λ x. drop n (take m segments) ≡ segment_of x ∷ drop next (take end segments))
turn segments n m next end at (Some part) h a s t e =
    let x = segment_of part in
    let here : slice_get segments n ≡ Some x = ap (slice_get segments) (sym a) ∙ sym e in
    let lt = slice_get_within segments n x here in
    let within : n < length (take m segments) = simp length-take (omega (arith, lt, h)) in
    let one : suc n ≡ next = omega (arith, s) in
    drop-cons (take m segments) n x within
    ∙ ap (λ y. y ∷ drop (suc n) (take m segments)) (get_or-take m segments n x h ∙ get_or_from_slice_get segments n x x here)
    ∙ ap (λ k. x ∷ drop k (take m segments)) one ∙ ap (λ k. x ∷ drop next (take k segments)) (sym t)
turn segments n m next end at None h a s t e =
    let past = missing_past segments at e in
    (drop_all n (take m segments) (simp length-take (omega (arith, past, a))), drop_all next (take end segments) (simp length-take (omega (arith, past, a, s))))

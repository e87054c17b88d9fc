-- Words that are cut and wrapped. Assumes nothing.
use Rattle.std.proofs.Common.{◌≡◌, ℕ, zero, suc, ◌^◌, ◌<◌, min, List, [], ◌∷◌, map, length, get_or, take, set, sym, refl, ap, ◌∙◌, arith, MutBor}
use Rattle.std.proofs.lemmas.List.{length-map, get_or-map, map-set, length-take, get_or-take}
use Rattle.memory.specs.Memory.{cut, wrap, word_list, loan_of}

-- Kept: a crate over `std` reaches this in two halves only, for places before the cut and from it on.
take_of_set : (m : ℕ) (ws : List ℕ) (n v : ℕ) → take m (set ws n v) ≡ set (take m ws) n v
take_of_set zero ws n v = refl
take_of_set (suc m) [] n v = refl
take_of_set (suc m) (x ∷ ws) zero v = refl
take_of_set (suc m) (x ∷ ws) (suc n) v = ap (λ l. x ∷ l) (take_of_set m ws n v)

pub cut_set : (ws : List ℕ) (n v : ℕ) → cut (set ws n v) ≡ set (cut ws) n v
cut_set ws n v = take_of_set 8192 ws n v

pub wrapped : (w : ℕ) → w < 2 ^ 32 → wrap w ≡ w
wrapped w h = omega arith

map_wrapped : (ws : List ℕ) → ((k : ℕ) → get_or ws k 0 < 2 ^ 32) → map wrap ws ≡ ws
map_wrapped [] h = refl
map_wrapped (w ∷ ws) h = ap (λ v. v ∷ map wrap ws) (wrapped w (h 0)) ∙ ap (λ (l : List ℕ). w ∷ l) (map_wrapped ws (λ k. h (suc k)))

-- the words over a list are its first 8,192 elements
pub words_plain : (ws : List ℕ) → ((k : ℕ) → get_or ws k 0 < 2 ^ 32) → word_list ws ≡ cut ws
unfolding word_list
words_plain ws h = ap cut (map_wrapped ws h)

pub words_length : (ws : List ℕ) → length (word_list ws) ≡ min 8192 (length ws)
unfolding word_list
words_length ws = length-take 8192 (map wrap ws) ∙ ap (min 8192) (length-map ws wrap)

pub words_read : (ws : List ℕ) (n r : ℕ) → n < length (word_list ws) → r < 2 ^ 32 → r ≡ get_or ws n 0 → r ≡ get_or (word_list ws) n 0
unfolding word_list
words_read ws n r h f e =
    let g = words_length ws in
    sym (get_or-take 8192 (map wrap ws) n 0 (omega arith) ∙ get_or-map wrap ws n 0 0 (omega arith) ∙ ap wrap (sym e) ∙ wrapped r f)

pub words_set : (ws : List ℕ) (n v : ℕ) → v < 2 ^ 32 → word_list (set ws n v) ≡ set (word_list ws) n v
unfolding word_list
words_set ws n v f = ap cut (map-set wrap ws n v) ∙ cut_set (map wrap ws) n (wrap v) ∙ ap (λ w. set (word_list ws) n w) (wrapped v f)

-- the loan stays as it is where it has the same name and rest
pub loan_same : {T : Type 0} (past past' : List T → List ℕ) (s t : MutBor (List T)) → t.ghost_name ≡ s.ghost_name → past' t.now ≡ past s.now → loan_of past' t ≡ loan_of past s
unfolding loan_of
loan_same past past' s t e f = cc

-- The words of two memories, one after the other. Assumes nothing.
use Rattle.std.proofs.Common.{◌≡◌, ℕ, ◌+◌, ◌-◌, ◌<◌, ◌≤◌, min, List, ◌++◌, length, get_or, set, sym, refl, ap, ◌∙◌, arith}
use Rattle.std.proofs.lemmas.List.{length-take, length-append, get_or-take, get_or_append_left, get_or-append_right, set-append_left, set-append_right}
use Rattle.memory.specs.Memory.{cut}
use Rattle.memory.specs.Pair.{joined}
use Rattle.memory.proofs.Lists.{cut_set}

module _ (xs ys : List ℕ) where
  pub joined_length : length (joined xs ys) ≡ min (length xs + length ys) 8192
  unfolding joined
  joined_length = omega (arith, length-take 8192 (xs ++ ys), length-append xs ys)

  module _ (n : ℕ) where
    pub first_word : n < length (joined xs ys) → n < length xs → get_or (joined xs ys) n 0 ≡ get_or xs n 0
    unfolding joined
    first_word within h = get_or-take 8192 (xs ++ ys) n 0 (omega (arith, joined_length)) ∙ get_or_append_left xs ys 0 n h

    pub second_word : n < length (joined xs ys) → length xs ≤ n → get_or (joined xs ys) n 0 ≡ get_or ys (n - length xs) 0
    unfolding joined
    second_word within h = get_or-take 8192 (xs ++ ys) n 0 (omega (arith, joined_length)) ∙ get_or-append_right xs ys (length xs) n 0 refl h

    pub first_set : (v : ℕ) → n < length xs → joined (set xs n v) ys ≡ set (joined xs ys) n v
    unfolding joined
    first_set v h = ap cut (sym (set-append_left xs ys n v h)) ∙ cut_set (xs ++ ys) n v

    pub second_set : (v : ℕ) → length xs ≤ n → joined xs (set ys (n - length xs) v) ≡ set (joined xs ys) n v
    unfolding joined
    second_set v h = ap cut (sym (set-append_right xs ys (length xs) n v refl h)) ∙ cut_set (xs ++ ys) n v

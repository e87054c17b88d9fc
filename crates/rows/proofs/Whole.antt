-- Whole runs of the core are the book's. Assumes nothing.
use Rattle.std.proofs.Common.{◌≡◌, ℕ, zero, suc, ◌+◌, Bool, true, false, List, sym, refl, ap, ◌∙◌, subst, add-suc, add-one}
use Rattle.isa.specs.Book.{Visible, After, instruction}
use Rattle.isa.specs.Book.After.{next, fault}
use Rattle.rows.specs.Rows.{table}
use Rattle.rows.specs.Core.{Core, Outcome, and_then}
use Rattle.rows.specs.Core.Outcome.{more, done, failed}
use Rattle.rows.specs.After.{visible, after_instruction}
use Rattle.rows.specs.Refine.{Same}
use Rattle.rows.specs.Runs.{Fits, going, onward, instructions, still, later, sum_of_clocks, on, run_steps, Alike, RunsAlike}
use Rattle.rows.proofs.Runs.{Runs}
use Rattle.rows.proofs.Runs.Runs.{last, step}
use Rattle.rows.proofs.Refining.{ran, same_after}
use Rattle.rows.proofs.Kept.{FitsAfter, instruction_fits}

-- after the n steps of a run, m more
after : {v : Visible} {j : ℕ} {s : Core} {n : ℕ} {r : Outcome} → Runs v j s n r → (m : ℕ) → run_steps table (m + n) s v.words ≡ and_then (on r) (run_steps table m)
unfolding run_steps
after {v} {s = s} (last h x) m =
    ap (λ (k : ℕ). run_steps table k s v.words) (add-one m) ∙ ap (λ (u : Outcome). and_then (on u) (run_steps table m)) x
after {v} {s = s} (step {n = n} s' h x k) m =
    ap (λ (j : ℕ). run_steps table j s v.words) (add-suc m n) ∙ ap (λ (u : Outcome). and_then (on u) (run_steps table (m + n))) x ∙ after k m

module _ (k : ℕ) (ih : (s : Core) (ws : List ℕ) → Fits (visible s ws) → s.t ≡ 0 → Alike (run_steps table (sum_of_clocks k (visible s ws)) s ws) (instructions k (visible s ws))) where
  -- an instruction has ended in s
  ended : (stops : Bool) (s : Core) (ws : List ℕ) → Fits (visible s ws) → s.t ≡ 0 →
      Alike (and_then (on (done stops s ws)) (run_steps table (still stops (visible s ws) (sum_of_clocks k)))) (going stops (visible s ws) (instructions k))
  ended true s ws g z = (refl, refl, z)
  ended false s ws g z = ih s ws g z

  -- by the outcomes of the core and the book
  onto : (r : Outcome) (a : After) → Same r a → FitsAfter a → Alike (and_then (on r) (run_steps table (later a (sum_of_clocks k)))) (onward a (instructions k))
  unfolding FitsAfter
  onto (more s ws) a q g = absurd q
  onto (done stops s ws) (next stops' v) q g =
      subst (λ (y : Visible). Alike (and_then (on (done stops s ws)) (run_steps table (still stops' y (sum_of_clocks k)))) (going stops' y (instructions k))) q.1
      (subst (λ (b : Bool). Alike (and_then (on (done stops s ws)) (run_steps table (still b (visible s ws) (sum_of_clocks k)))) (going b (visible s ws) (instructions k))) q.0
      (ended stops s ws (subst Fits (sym q.1) g) q.2))
  onto (done stops s ws) (fault e x v) q g = absurd q
  onto (failed e x s ws) (next stops v) q g = absurd q
  onto (failed e x s ws) (fault e' x' v) q g = q

pub runs_alike : RunsAlike
unfolding instructions sum_of_clocks run_steps
runs_alike zero s ws g z = (refl, refl, z)
runs_alike (suc k) s ws g z =
    let v : Visible = visible s ws in
    subst (λ (u : Outcome). Alike u (onward (instruction v) (instructions k))) (sym (after (ran s ws (record { small = g.small; start = z })).run (later (instruction v) (sum_of_clocks k))))
    (onto k (λ s' ws' g' z'. runs_alike k s' ws' g' z') (after_instruction s ws) (instruction v) (same_after s ws) (instruction_fits v g))

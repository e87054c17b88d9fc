-- A step that does not end the instruction does not lead to T 0, under any control store. Assumes nothing.
use Rattle.std.proofs.Common.{◌≡◌, ℕ, zero, suc, ◌<◌, Bool, true, false, cond, ltb, List, length, sym, refl, ap, ◌∙◌, subst, arith}
use Rattle.std.proofs.lemmas.Bool.{ltb-true}
use Rattle.isa.specs.Book.{Access, access}
use Rattle.isa.specs.Book.Access.{fit, unfit}
use Rattle.rows.specs.declared.signal.Signal.TheVariants.{End, Goto6, Stop}
use Rattle.rows.specs.Signals.{gives}
use Rattle.rows.specs.Core.{Core, Outcome, up, closed, carried_out, allowed, addressed, touches, conditional, met, assigned, rowless, control_at, micro, and_then, steps}
use Rattle.rows.specs.Core.Outcome.{more, done, failed}
use Rattle.rows.specs.Refine.{MovesOn}

-- at a step within the instruction, and at T 0 after its end or a fault
abbrev Onward : Outcome → Type 0
Onward (more s ws) = (0 < s.t) × (s.t < 8)
Onward (done stops s ws) = Unit {0}
Onward (failed e a s ws) = Unit {0}

up_bounds : (t : ℕ) → (0 < up t) × (up t < 8)
up_bounds t = go (ltb t 7) refl
  where
    go : (b : Bool) → ltb t 7 ≡ b → (0 < cond b (suc t) 7) × (cond b (suc t) 7 < 8)
    go true e = (omega arith, omega (arith, ltb-true t 7 e))
    go false e = (omega arith, omega arith)

next_bounds : (g : Bool) (t : ℕ) → (0 < cond g 6 (up t)) × (cond g 6 (up t) < 8)
next_bounds true t = (omega arith, omega arith)
next_bounds false t = up_bounds t

module _ (w : ℕ) (s : Core) (ws : List ℕ) where
  closed_on : (b : Bool) (s' : Core) (ws' : List ℕ) → gives w End ≡ b → s'.t ≡ cond (gives w Goto6) 6 (cond (gives w End) 0 (up s.t)) → Onward (closed b (gives w Stop) s' ws')
  closed_on true s' ws' e z = tt
  closed_on false s' ws' e z =
      let is : s'.t ≡ cond (gives w Goto6) 6 (up s.t) = z ∙ ap (λ (b : Bool). cond (gives w Goto6) 6 (cond b 0 (up s.t))) e in
      subst (λ (t : ℕ). (0 < t) × (t < 8)) (sym is) (next_bounds (gives w Goto6) s.t)

  carried_on : Onward (carried_out w s ws)
  carried_on = closed_on (gives w End) _ _ refl refl

  allowed_on : (x : Access) → Onward (allowed x s ws (carried_out w s ws))
  allowed_on fit = carried_on
  allowed_on (unfit e) = tt

  addressed_on : (b : Bool) → Onward (addressed b w s ws)
  addressed_on true = allowed_on (access s.ma (length ws))
  addressed_on false = carried_on

  conditional_on : (b : Bool) → Onward (conditional b w s ws)
  conditional_on true = addressed_on (touches w)
  conditional_on false = up_bounds s.t

  assigned_on : (b : Bool) → Onward (assigned b w s ws)
  assigned_on true = tt
  assigned_on false = conditional_on (met w s.n)

pub moves_on : MovesOn
moves_on store s ws s' ws' e = subst Onward e (assigned_on (control_at store s) s ws (rowless (control_at store s) s.t))

-- the last step of several, in place of the first
pub steps_last : (store : List ℕ) (j : ℕ) (s : Core) (ws : List ℕ) → steps store (suc j) s ws ≡ and_then (steps store j s ws) (micro store)
unfolding steps
steps_last store zero s ws = go (micro store s ws)
  where
    go : (o : Outcome) → and_then o (steps store 0) ≡ o
    go (more u us) = refl
    go (done z u us) = refl
    go (failed e a u us) = refl
steps_last store (suc j) s ws = go (micro store s ws) (λ u us. steps_last store j u us)
  where
    go : (o : Outcome) → ((u : Core) (us : List ℕ) → steps store (suc j) u us ≡ and_then (steps store j u us) (micro store)) → and_then o (steps store (suc j)) ≡ and_then (and_then o (steps store j)) (micro store)
    go (more u us) ih = ih u us
    go (done z u us) ih = refl
    go (failed e a u us) ih = refl

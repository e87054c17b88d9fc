-- A step of the code is the step that is defined, over any memory. Assumes nothing.
use Rattle.std.proofs.Common.{◌≡◌, ℕ, Bool, true, false, cond, ◌&&◌, List, length, Ok, Err, Result, sym, refl, ap, ◌∙◌, subst}
use Rattle.isa.specs.Book.{Access, access}
use Rattle.isa.specs.Book.Access.{fit, unfit}
use Rattle.rows.specs.declared.signal.Signal.TheVariants.{Stop, End}
use Rattle.rows.specs.Signals.{gives}
use Rattle.rows.specs.Core as model
use Rattle.rows.specs.Core.{Outcome, bus, stored, at_step, met, touches, held, written, closed, carried_out, allowed, addressed, conditional, assigned, rowless, execute}
use Rattle.rows.specs.Core.Outcome.{more, done, failed}
use Rattle.memory.specs.declared.memory.Memory.{Ghosts}
use Rattle.onebus.specs.declared.fault.Cause.{Cause}
use Rattle.onebus.specs.declared.fault.Cause.TheVariants.{Unassigned}
use Rattle.onebus.specs.declared.fault.CoreFault.{CoreFault}
use Rattle.onebus.specs.declared.progress.Progress.{Progress}
use Rattle.onebus.specs.declared.progress.Progress.TheVariants.{Within, Finished}
use Rattle.onebus.specs.Faults.{cause_of}
use Rattle.onebus.specs.Steps.{core_after, words_after, answer_of, progress_of, fits, uses_word, Stepped, access_of, access_answer, Accesses}

-- an answer that is a refusal is none that is not
abbrev Refusal : {X : Type 0} → {E : Type 0} → Result X E → Type 0
Refusal (Ok x) = ⊥
Refusal (Err e) = Unit {0}

-- what an answer holds
abbrev or_zero : Result ℕ Cause → ℕ
or_zero (Ok x) = x
or_zero (Err e) = 0

abbrev or_unassigned : {X : Type 0} → Result X Cause → Cause
or_unassigned (Ok x) = Unassigned
or_unassigned (Err e) = e

told_closed : (b z : Bool) (t : ℕ) (s : model.Core) (us : List ℕ) → Ok (cond b (Finished z) Within) ≡ answer_of t (closed b z s us)
told_closed true z t s us = refl
told_closed false z t s us = refl

core_closed : (b z : Bool) (s : model.Core) (us : List ℕ) → s ≡ core_after (closed b z s us)
core_closed true z s us = refl
core_closed false z s us = refl

words_closed : (b z : Bool) (s : model.Core) (us : List ℕ) → us ≡ words_after (closed b z s us)
words_closed true z s us = refl
words_closed false z s us = refl

-- a step by whether its access may be made
allowed_as : (w : ℕ) (k : model.Core) (ws : List ℕ) → rowless w k.t ≡ false → met w k.n ≡ true → execute w k ws ≡ allowed (access_of w k ws) k ws (carried_out w k ws)
allowed_as w k ws p q =
    ap (λ (b : Bool). assigned b w k ws) p ∙ ap (λ (b : Bool). conditional b w k ws) q ∙ by (touches w)
  where
    by : (b : Bool) → addressed b w k ws ≡ allowed (cond b (access k.ma (length ws)) fit) k ws (carried_out w k ws)
    by true = refl
    by false = refl

module _ {S : Type 0} (g : Ghosts S) (w : ℕ) (k k' : model.Core) (m m' : S) (here : rowless w k.t ≡ false) (now : met w k.n ≡ true) where
  done_as : (x : Access) → access_of w k (g.words m) ≡ x → execute w k (g.words m) ≡ allowed x k (g.words m) (carried_out w k (g.words m))
  done_as x e = allowed_as w k (g.words m) here now ∙ ap (λ (y : Access). allowed y k (g.words m) (carried_out w k (g.words m))) e

  quiet : uses_word w k (g.words m) ≡ false → touches w && fits (access k.ma (length (g.words m))) ≡ false
  quiet z = sym (ap (λ (b : Bool). b && (touches w && fits (access k.ma (length (g.words m))))) now) ∙ z

  -- the access was made
  pub stepped : (d : ℕ) (p : Progress) → Accesses g w k m (Ok d) m' → k' ≡ stored w (bus w k) d k → p ≡ progress_of w → Stepped g w k m (Ok p) k' m'
  stepped d p a q r = by (access_of w k (g.words m)) refl
    where
      by : (x : Access) → access_of w k (g.words m) ≡ x → Stepped g w k m (Ok p) k' m'
      by (unfit e) i = absurd (subst Refusal (sym (a.answer ∙ ap (λ (x : Access). access_answer x w k (g.words m)) i)) tt)
      by fit i =
          let us : List ℕ = written w k (g.words m) in
          let said = a.answer ∙ ap (λ (x : Access). access_answer x w k (g.words m)) i in
          let s : model.Core = stored w (bus w k) (held w k (g.words m)) k in
          let is : d ≡ held w k (g.words m) = ap or_zero said in
          record {
            answer = ap (λ (y : Progress). Ok y) r ∙ told_closed (gives w End) (gives w Stop) k.t s us ∙ ap (λ (o : Outcome). answer_of k.t o) (sym (done_as fit i));
            core = q ∙ ap (λ (y : ℕ). stored w (bus w k) y k) is ∙ core_closed (gives w End) (gives w Stop) s us ∙ ap core_after (sym (done_as fit i));
            words =
                a.words ∙ ap (λ (x : Access). cond (fits x) us (g.words m)) i
                ∙ words_closed (gives w End) (gives w Stop) s us ∙ ap words_after (sym (done_as fit i));
            delays = λ z. a.delays (quiet z);
            frame = a.frame;
          }

  -- the access was refused
  pub stepped_not : (e : Cause) (f : CoreFault) → Accesses g w k m (Err e) m' → k' ≡ at_step k 0 → f ≡ record { cause = e; address = k.ma; step = k.t } → Stepped g w k m (Err f) k' m'
  stepped_not e f a q r = by (access_of w k (g.words m)) refl
    where
      by : (x : Access) → access_of w k (g.words m) ≡ x → Stepped g w k m (Err f) k' m'
      by fit i = absurd (subst Refusal (a.answer ∙ ap (λ (x : Access). access_answer x w k (g.words m)) i) tt)
      by (unfit b) i =
          let is : e ≡ cause_of b k.ma (g.words m) = ap or_unassigned (a.answer ∙ ap (λ (x : Access). access_answer x w k (g.words m)) i) in
          record {
            answer =
                ap (λ (y : CoreFault). Err y) r ∙ ap (λ (y : Cause). Err (record { cause = y; address = k.ma; step = k.t })) is
                ∙ ap (λ (o : Outcome). answer_of k.t o) (sym (done_as (unfit b) i));
            core = q ∙ ap core_after (sym (done_as (unfit b) i));
            words = a.words ∙ ap (λ (x : Access). cond (fits x) (written w k (g.words m)) (g.words m)) i ∙ ap words_after (sym (done_as (unfit b) i));
            delays = λ z. a.delays (quiet z);
            frame = a.frame;
          }

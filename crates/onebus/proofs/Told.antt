-- What an answer of a step says of the step that is defined. Assumes nothing.
use Rattle.std.proofs.Common.{◌≡◌, ℕ, List, Ok, Err, Result, sym, refl, ap, ◌∙◌, subst}
use Rattle.isa.specs.Book as book
use Rattle.rows.specs.Core as model
use Rattle.rows.specs.Core.{Outcome, execute}
use Rattle.rows.specs.Core.Outcome.{more, done, failed}
use Rattle.memory.specs.declared.memory.Memory.{Ghosts}
use Rattle.onebus.specs.declared.fault.CoreFault.{CoreFault}
use Rattle.onebus.specs.declared.progress.Progress.{Progress}
use Rattle.onebus.specs.declared.progress.Progress.TheVariants.{Within, Finished}
use Rattle.onebus.specs.Faults.{book_cause, cause_of}
use Rattle.onebus.specs.Steps.{core_after, words_after, answer_of, Stepped}

-- the outcome behind an answer, with the core and the words afterwards
abbrev pub told : Result Progress CoreFault → model.Core → List ℕ → Outcome
told (Ok Within) k ws = more k ws
told (Ok (Finished stops)) k ws = done stops k ws
told (Err f) k ws = failed (book_cause f.cause) f.address k ws

same_cause : (e : book.Cause) (a : ℕ) (ws : List ℕ) → e ≡ book_cause (cause_of e a ws)
same_cause book.Cause.unassigned_op a ws = refl
same_cause book.Cause.unaligned a ws = refl
same_cause book.Cause.no_word a ws = refl

told_back : (t : ℕ) (o : Outcome) → o ≡ told (answer_of t o) (core_after o) (words_after o)
told_back t (more k ws) = refl
told_back t (done stops k ws) = refl
told_back t (failed e a k ws) = ap (λ (x : book.Cause). failed x a k ws) (same_cause e a ws)

-- a fault tells the step that it came in
abbrev TellsStep : ℕ → Result Progress CoreFault → Type 0
TellsStep t (Ok p) = Unit {0}
TellsStep t (Err f) = f.step ≡ t

tells_step : (t : ℕ) (o : Outcome) → TellsStep t (answer_of t o)
tells_step t (more k ws) = tt
tells_step t (done stops k ws) = tt
tells_step t (failed e a k ws) = refl

module _ {S : Type 0} (g : Ghosts S) (w : ℕ) (k k' : model.Core) (m m' : S) where
  -- the step that is defined, by the answer of the code: it computes once the answer is known
  pub step_is : (r : Result Progress CoreFault) → Stepped g w k m r k' m' → execute w k (g.words m) ≡ told r k' (g.words m')
  step_is r s =
      let o : Outcome = execute w k (g.words m) in
      told_back k.t o ∙ ap (λ (x : Result Progress CoreFault). told x (core_after o) (words_after o)) (sym s.answer)
      ∙ ap (λ (x : model.Core). told r x (words_after o)) (sym s.core) ∙ ap (λ (x : List ℕ). told r k' x) (sym s.words)

  pub step_told : (f : CoreFault) → Stepped g w k m (Err f) k' m' → f.step ≡ k.t
  step_told f s = subst (TellsStep k.t) (sym s.answer) (tells_step k.t (execute w k (g.words m)))

-- What a step of the core promises over any memory. Assumes nothing.
use Rattle.std.specs.Prelude.{◌≡◌, ℕ, ◌/◌, Bool, true, false, cond, ◌&&◌, List, length, Ok, Err, Result, nat_lt, slice_index, slice_set}
use Rattle.isa.specs.Book.{Access, access}
use Rattle.isa.specs.Book.Access.{fit, unfit}
use Rattle.rows.specs.Core as model
use Rattle.rows.specs.Core.{Outcome, met, touches, held, written, execute}
use Rattle.rows.specs.Core.Outcome.{more, done, failed}
use Rattle.rows.specs.declared.signal.Signal.TheVariants.{Read, Write, Stop, End}
use Rattle.rows.specs.Signals.{gives}
use Rattle.memory.specs.Memory.{fault_of}
use Rattle.memory.specs.declared.memory.Memory.{Ghosts}
use Rattle.onebus.specs.declared.fault.Cause.{Cause}
use Rattle.onebus.specs.declared.fault.CoreFault.{CoreFault}
use Rattle.onebus.specs.declared.progress.Progress.{Progress}
use Rattle.onebus.specs.declared.progress.Progress.TheVariants.{Within, Finished}
use Rattle.onebus.specs.declared.fault.Cause.TheVariants.{NoWord}
use Rattle.onebus.specs.Faults.{cause_of}

-- the core and the memory's words after a step
abbrev pub core_after : Outcome → model.Core
core_after (more k ws) = k
core_after (done stops k ws) = k
core_after (failed e a k ws) = k

abbrev pub words_after : Outcome → List ℕ
words_after (more k ws) = ws
words_after (done stops k ws) = ws
words_after (failed e a k ws) = ws

-- what a step that began at T answers: how far it has come, or the fault with its cause, address and step
abbrev pub answer_of : ℕ → Outcome → Result Progress CoreFault
answer_of t (more k ws) = Ok Within
answer_of t (done stops k ws) = Ok (Finished stops)
answer_of t (failed e a k ws) = Err (record { cause = cause_of e a ws; address = a; step = t })

-- how far a step under the control word w comes
abbrev pub progress_of : ℕ → Progress
progress_of w = cond (gives w End) (Finished (gives w Stop)) Within

abbrev pub fits : Access → Bool
fits fit = true
fits (unfit e) = false

-- does a step under the control word w read or write a word?
abbrev pub uses_word : ℕ → model.Core → List ℕ → Bool
uses_word w k ws = met w k.n && (touches w && fits (access k.ma (length ws)))

-- a step under the control word w, from the core k over the memory m, with the answer r, to the core k' over m':
-- answer, core and words are those defined; delays change only where a word is read or written, and what else is lent to the memory stays
pub record Stepped {S : Type 0} (g : Ghosts S) (w : ℕ) (k : model.Core) (m : S) (r : Result Progress CoreFault) (k' : model.Core) (m' : S) : Type 0 where
  pub answer : r ≡ answer_of k.t (execute w k (g.words m))
  pub core : k' ≡ core_after (execute w k (g.words m))
  pub words : g.words m' ≡ words_after (execute w k (g.words m))
  pub delays : uses_word w k (g.words m) ≡ false → g.delay m' ≡ g.delay m
  pub frame : g.frame m' ≡ g.frame m

-- the parts of a step: its read, and its write
abbrev pub read_answer : ℕ → model.Core → List ℕ → Result ℕ Cause
read_answer w k ws =
    cond (gives w Read) (cond (nat_lt (k.ma / 4) (length ws)) (Ok (slice_index ws (k.ma / 4))) (Err (NoWord (fault_of ws (k.ma / 4))))) (Ok k.md)

pub record Reads {S : Type 0} (g : Ghosts S) (w : ℕ) (k : model.Core) (m : S) (r : Result ℕ Cause) (m' : S) : Type 0 where
  pub answer : r ≡ read_answer w k (g.words m)
  pub words : g.words m' ≡ g.words m
  pub delays : gives w Read && nat_lt (k.ma / 4) (length (g.words m)) ≡ false → g.delay m' ≡ g.delay m
  pub frame : g.frame m' ≡ g.frame m

abbrev pub write_answer : ℕ → model.Core → List ℕ → Result (Unit {0}) Cause
write_answer w k ws =
    cond (gives w Write) (cond (nat_lt (k.ma / 4) (length ws)) (Ok tt) (Err (NoWord (fault_of ws (k.ma / 4))))) (Ok tt)

pub record Writes {S : Type 0} (g : Ghosts S) (w : ℕ) (k : model.Core) (m : S) (r : Result (Unit {0}) Cause) (m' : S) : Type 0 where
  pub answer : r ≡ write_answer w k (g.words m)
  pub words : g.words m' ≡ cond (gives w Write && nat_lt (k.ma / 4) (length (g.words m))) (slice_set (g.words m) (k.ma / 4) k.md) (g.words m)
  pub delays : gives w Write && nat_lt (k.ma / 4) (length (g.words m)) ≡ false → g.delay m' ≡ g.delay m
  pub frame : g.frame m' ≡ g.frame m

-- whether its access may be made: a step without one is allowed
abbrev pub access_of : ℕ → model.Core → List ℕ → Access
access_of w k ws = cond (touches w) (access k.ma (length ws)) fit

abbrev pub access_answer : Access → ℕ → model.Core → List ℕ → Result ℕ Cause
access_answer fit w k ws = Ok (held w k ws)
access_answer (unfit e) w k ws = Err (cause_of e k.ma ws)

pub record Accesses {S : Type 0} (g : Ghosts S) (w : ℕ) (k : model.Core) (m : S) (r : Result ℕ Cause) (m' : S) : Type 0 where
  pub answer : r ≡ access_answer (access_of w k (g.words m)) w k (g.words m)
  pub words : g.words m' ≡ cond (fits (access_of w k (g.words m))) (written w k (g.words m)) (g.words m)
  pub delays : touches w && fits (access k.ma (length (g.words m))) ≡ false → g.delay m' ≡ g.delay m
  pub frame : g.frame m' ≡ g.frame m

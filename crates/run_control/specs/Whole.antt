-- Every list of calls with their answers, and what holds after it. Assumes nothing.
use Rattle.std.specs.Prelude.{◌≡◌, ℕ, suc, ◌+◌, ◌-◌, ◌*◌, ◌<◌, ◌≤◌, true, false, List, [], ◌∷◌, ◌++◌, None, Ok, Err, Result}
use Rattle.run_control.specs.declared.calls.Call.{Call}
use Rattle.run_control.specs.declared.calls.Call.TheVariants.{Start, Resume, Reset, SetRegister, SetWord, Load, Clock}
use Rattle.run_control.specs.declared.calls.Answer.{Answer}
use Rattle.run_control.specs.declared.calls.Answer.TheVariants.{Done, Refused, Spent, Faulted}
use Rattle.run_control.specs.declared.calls.Turn.{Turn}
use Rattle.run_control.specs.declared.refusals.Refusal.{Refusal}
use Rattle.run_control.specs.declared.faults.MachineFault.{MachineFault}
use Rattle.run_control.specs.Core.{Core, CoreFacts, Small, seen}
use Rattle.run_control.specs.State.{State, Delays}
use Rattle.run_control.specs.Calls.{set_up, start_answer, start_state, resume_answer, resume_state, reset_answer, reset_state, register_answer, register_state, word_answer, word_state, load_answer, load_state, Clocks}
use Rattle.run_control.specs.Feeding.{Fed, new_book, fed, standing}

-- the answer of a call that tells no number
abbrev pub plain : Result Unit Refusal → Answer
plain (Ok u) = Done
plain (Err e) = Refused e

-- the answer of a clock call that was accepted
abbrev pub spent_or_fault : Result (ℕ × ℕ) MachineFault → Answer
spent_or_fault (Ok p) = Spent p.0 p.1
spent_or_fault (Err m) = Faulted m

-- the answer of a clock call
abbrev pub clock_told : Result (Result (ℕ × ℕ) MachineFault) Refusal → Answer
clock_told (Ok a) = spent_or_fault a
clock_told (Err e) = Refused e

-- no access waits more than 255 clocks
abbrev pub Bounded : {X : Type 0} → (X → Delays) → Type 0
Bounded {X} delay = (x : X) (n : ℕ) → delay x n ≤ 255

-- any delays of at most 255: what a memory may say of its words
pub record AnyDelays : Type 0 where
  pub of : Delays
  pub few : (n : ℕ) → of n ≤ 255

-- its delays
abbrev pub any_delay : AnyDelays → Delays
any_delay d = d.of

-- clock calls only; and a start before them
abbrev pub OnlyClocked : List Turn → Type 0
OnlyClocked [] = Unit {0}
OnlyClocked (p ∷ ps) = ((n : ℕ) × (p.call ≡ Clock n)) × OnlyClocked ps

abbrev pub StartedThenClocked : List Turn → Type 0
StartedThenClocked [] = ⊥
StartedThenClocked (p ∷ ps) = (p.call ≡ Start) × OnlyClocked ps

module _ (k : Core) where
  -- clocks that were no waits
  abbrev pub busy : State k.P → ℕ
  busy s = s.clocks - s.waits

  -- what a machine and the book that was fed the calls ps have in common
  pub record Agrees (s : State k.P) (ps : List Turn) (b : Fed) : Type 0 where
    pub registers : k.regs s.core ≡ b.book.visible.regs
    pub words : s.words ≡ b.book.visible.words
    pub run : s.run ≡ b.book.run
    pub mark : s.mark ≡ b.book.mark
    pub reset : s.reset ≡ b.waiting
    pub finished : s.finished ≡ b.finished
    -- the book has met the fault that was told, and none where none was told
    pub fault : standing None ps ≡ b.fault
    -- between two instructions, where no fault stands
    pub pc : k.time s.core ≡ 0 → s.mark ≡ false → k.pc s.core ≡ b.book.visible.pc
    pub exact : k.time s.core ≡ 0 → s.mark ≡ false → busy s ≡ b.clocks
    -- where a fault stands, its instruction has had its clocks too
    pub faulted : s.mark ≡ true → busy s ≡ b.clocks + b.lost
    pub waited : s.waits ≤ s.clocks
    pub least : b.clocks ≤ busy s
    pub most : s.run ≡ true → busy s < b.clocks + k.clocks b.book.visible
    -- each access waits at most 255 clocks: those of the instructions counted, and of the next one up to and including step T
    pub slow : s.run ≡ true → s.waits ≤ 255 * (b.accesses + k.accesses b.book.visible (suc (k.time s.core)))
    pub slow_still : s.run ≡ false → s.mark ≡ false → s.waits ≤ 255 * b.accesses
    -- a stopped machine is between two instructions, and no reset waits
    pub still : s.run ≡ false → (k.time s.core ≡ 0) × (s.reset ≡ false)

  -- two machines that have finished equally many instructions
  pub record InStep (s t : State k.P) : Type 0 where
    pub clocks : busy s ≡ busy t
    pub visible : seen k s.core s.words ≡ seen k t.core t.words
    pub run : s.run ≡ t.run

  -- a machine s that has just taken a reset: it runs from PC 0, with the registers and the words that the book b has
  pub record Restarted (s : State k.P) (b : Fed) : Type 0 where
    pub registers : k.regs s.core ≡ b.book.visible.regs
    pub words : s.words ≡ b.book.visible.words
    pub run : s.run ≡ true
    pub pc : k.pc s.core ≡ 0
    pub time : k.time s.core ≡ 0
    pub counts : (s.clocks ≡ 0) × (s.waits ≡ 0) × (s.finished ≡ 0)

  module _ {X : Type 0} (delay : X → Delays) where
    -- the call c may answer a at the machine s, and leave t
    abbrev pub Does : State k.P → Call → Answer → State k.P → Type 0
    Does s Start a t = (a ≡ plain (start_answer s)) × (t ≡ start_state k s)
    Does s Resume a t = (a ≡ plain (resume_answer s)) × (t ≡ resume_state k s)
    Does s Reset a t = (a ≡ plain (reset_answer s)) × (t ≡ reset_state s)
    Does s (SetRegister i v) a t = (a ≡ plain (register_answer s i)) × (t ≡ register_state k s i v)
    Does s (SetWord n v) a t = (a ≡ plain (word_answer s n)) × ((x : X) × (t ≡ word_state s n v (delay x)))
    Does s (Load bytes) a t = (a ≡ plain (load_answer s bytes.now)) × ((x : X) × (t ≡ load_state s bytes.now (delay x)))
    Does s (Clock n) a t = (r : Result (Result (ℕ × ℕ) MachineFault) Refusal) × (a ≡ clock_told r) × Clocks k delay s n r t

    -- the calls of ps, each with its answer, lead from s to t
    abbrev pub Leads : State k.P → List Turn → State k.P → Type 0
    Leads s [] t = t ≡ s
    Leads s (p ∷ ps) t = (m : State k.P) × Does s p.call p.answer m × Leads m ps t

    -- the calls of ps lead from a machine newly set up, over a memory x with the words ws, to t
    abbrev pub Comes : List ℕ → X → List Turn → State k.P → Type 0
    Comes ws x ps t = Leads (set_up k ws (delay x)) ps t

    -- after every list of calls the machine agrees with the book that was fed them
    abbrev pub Follows : Type 0
    Follows = (ws : List ℕ) (x : X) (ps : List Turn) (t : State k.P) → Small ws → Comes ws x ps t → Agrees t ps (fed k (new_book ws) ps)

    -- one call more, whatever calls led here
    abbrev pub Carries : State k.P → Call → Answer → State k.P → Type 0
    Carries s c a t = (ws : List ℕ) (x : X) (ps : List Turn) → Small ws → Comes ws x ps s →
        Comes ws x (ps ++ record { call = c; answer = a } ∷ []) t × Agrees t (ps ++ record { call = c; answer = a } ∷ []) (fed k (new_book ws) (ps ++ record { call = c; answer = a } ∷ []))

    -- a reset on any clock, with the clock that takes it, leaves the registers and the words as after the last finished instruction
    abbrev pub ResetsLeaveWholeInstructions : Type 0
    ResetsLeaveWholeInstructions = (ws : List ℕ) (x : X) (ps : List Turn) (s m t : State k.P) (a b : Answer) → Small ws → Comes ws x ps s → s.run ≡ true →
        Does s Reset a m → Does m (Clock 1) b t → (b ≡ Spent 1 0) × Restarted t (fed k (new_book ws) ps)

  -- two machines over memories with equal words, each started once and then only clocked, keep pace: the memories may be of different kinds
  abbrev pub KeepsPace : {X Y : Type 0} → (X → Delays) → (Y → Delays) → Type 0
  KeepsPace {X} {Y} delay delay' = (ws : List ℕ) (x : X) (y : Y) (ps qs : List Turn) (s t : State k.P) → Small ws →
      Comes delay ws x ps s → Comes delay' ws y qs t → StartedThenClocked ps → StartedThenClocked qs →
      k.time s.core ≡ 0 → k.time t.core ≡ 0 → s.mark ≡ false → t.mark ≡ false → s.finished ≡ t.finished → InStep s t

  -- the machine s, which the calls ps led to, keeps pace with every other over the same words, whatever memory that one has
  abbrev pub Paced : List ℕ → List Turn → State k.P → Type 0
  Paced ws ps s = (y : AnyDelays) (qs : List Turn) (t : State k.P) → Comes any_delay ws y qs t → StartedThenClocked ps → StartedThenClocked qs →
      k.time s.core ≡ 0 → k.time t.core ≡ 0 → s.mark ≡ false → t.mark ≡ false → s.finished ≡ t.finished → InStep s t

-- the theorem, of every core and every memory
abbrev pub EveryCoreFollows : Type 1
EveryCoreFollows = (k : Core) → CoreFacts k → (X : Type 0) (delay : X → Delays) → Bounded delay → Follows k delay

-- the call of a turn
abbrev pub call_of : Turn → Call
call_of p = p.call

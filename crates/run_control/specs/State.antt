-- Run control around a core, and one clock of it. Assumes nothing.
use Rattle.std.specs.Prelude.{ℕ, ◌+◌, ◌-◌, ◌/◌, ◌%◌, Bool, true, false, cond, List, [], ◌∷◌, length, Some, None, Ok, Err, Option, Result, ◌==◌, nat_lt}
use Rattle.isa.specs.Book.{Cause}
use Rattle.onebus.specs.Faults.{cause_of}
use Rattle.onebus.specs.declared.fault.CoreFault.{CoreFault}
use Rattle.run_control.specs.declared.faults.MachineFault.{MachineFault}
use Rattle.run_control.specs.Core.{Core, Outcome}
use Rattle.run_control.specs.Core.Outcome.{more, done, failed}

-- what a memory says of each word: how many clocks an access to it waits
abbrev pub Delays : Type 0
Delays = ℕ → ℕ

-- a machine: the core, the memory's words, Run, the fault mark, a waiting reset, the waits left of a Wait step under way, the counts, and the memory's delays
pub record State (P : Type 0) : Type 0 where
  pub core : P
  pub words : List ℕ
  pub run : Bool
  pub mark : Bool
  pub reset : Bool
  pub left : Option ℕ
  pub clocks : ℕ
  pub waits : ℕ
  pub finished : ℕ
  pub delays : Delays

-- the waits of a Wait step that are left: those of a wait under way, or the delay d of its word
abbrev pub due : Option ℕ → ℕ → ℕ
due None d = d
due (Some w) d = w

-- the delay of the word at the address a, and 0 where there is none
abbrev pub delay_at : ℕ → List ℕ → Delays → ℕ
delay_at a ws d = cond (a % 4 == 0) (cond (nat_lt (a / 4) (length ws)) (d (a / 4)) 0) 0

module _ {P : Type 0} where
  -- a clock that only waits, w being the waits left before it
  abbrev pub after_wait : State P → ℕ → State P
  after_wait s w = record {
    core = s.core;
    words = s.words;
    run = s.run;
    mark = s.mark;
    reset = s.reset;
    left = Some (w - 1);
    clocks = s.clocks + 1;
    waits = s.waits + 1;
    finished = s.finished;
    delays = s.delays;
  }

  -- a step within an instruction, d being the delays after it
  abbrev pub after_more : P → List ℕ → State P → Delays → State P
  after_more p ws s d = record {
    core = p;
    words = ws;
    run = s.run;
    mark = s.mark;
    reset = s.reset;
    left = None;
    clocks = s.clocks + 1;
    waits = s.waits;
    finished = s.finished;
    delays = d;
  }

  -- the last step of an instruction
  abbrev pub after_end : Bool → P → List ℕ → State P → Delays → State P
  after_end stops p ws s d = record {
    core = p;
    words = ws;
    run = cond stops false s.run;
    mark = s.mark;
    reset = s.reset;
    left = None;
    clocks = s.clocks + 1;
    waits = s.waits;
    finished = s.finished + 1;
    delays = d;
  }

module _ (k : Core) where
  -- a clock that takes the reset
  abbrev pub after_reset : State k.P → State k.P
  after_reset s = record {
    core = k.restarted s.core;
    words = s.words;
    run = s.run;
    mark = s.mark;
    reset = false;
    left = None;
    clocks = 0;
    waits = 0;
    finished = 0;
    delays = s.delays;
  }

  -- a clock that faults
  abbrev pub after_fault : State k.P → State k.P
  after_fault s = record {
    core = k.rewound s.core;
    words = s.words;
    run = false;
    mark = true;
    reset = s.reset;
    left = None;
    clocks = s.clocks + 1;
    waits = s.waits;
    finished = s.finished;
    delays = s.delays;
  }

  -- the step by its outcome
  abbrev pub stepped : Outcome k.P → State k.P → Delays → State k.P
  stepped (more p ws) s d = after_more p ws s d
  stepped (done stops p ws) s d = after_end stops p ws s d
  stepped (failed c a) s d = after_fault s

  -- the waits before the step at hand
  abbrev pub pause : State k.P → ℕ
  pause s = cond (k.waits s.core) (due s.left (delay_at (k.address s.core) s.words s.delays)) 0

  -- the delays after the step at hand: those that the memory has then, d, where it is a Wait step; no other step changes them
  abbrev pub later_delays : State k.P → Delays → Delays
  later_delays s d = cond (k.waits s.core) d s.delays

  -- one clock of a running machine
  abbrev pub clocked : State k.P → Delays → State k.P
  clocked s d = cond s.reset (after_reset s) (cond (nat_lt 0 (pause s)) (after_wait s (pause s)) (stepped (k.step s.core s.words) s (later_delays s d)))

  -- one clock; a stopped machine stays as it is
  abbrev pub tick : State k.P → Delays → State k.P
  tick s d = cond s.run (clocked s d) s

  -- what the core tells of a fault with the cause c at the address a
  abbrev pub core_fault : State k.P → Cause → ℕ → CoreFault
  core_fault s c a = record { cause = cause_of c a s.words; address = a; step = k.time s.core }

  -- what the step tells by its outcome
  abbrev pub told_of : Outcome k.P → State k.P → Result Bool (CoreFault × ℕ)
  told_of (more p ws) s = Ok false
  told_of (done stops p ws) s = Ok true
  told_of (failed c a) s = Err (core_fault s c a, k.origin s.core)

  -- what a clock tells: whether it finished an instruction; or the core's fault, and the address of the instruction
  abbrev pub told : State k.P → Result Bool (CoreFault × ℕ)
  told s = cond s.reset (Ok false) (cond (nat_lt 0 (pause s)) (Ok false) (told_of (k.step s.core s.words) s))

-- a clock call under way: the machine, the clocks spent and the instructions finished in this call, and the fault that ended it
pub record Going (P : Type 0) : Type 0 where
  pub state : State P
  pub spent : ℕ
  pub finished : ℕ
  pub fault : Option (CoreFault × ℕ)

-- a call that has spent nothing
abbrev pub begin : {P : Type 0} → State P → Going P
begin s = record { state = s; spent = 0; finished = 0; fault = None }

-- how many instructions a clock finished, and the fault that it told
abbrev pub ends : Result Bool (CoreFault × ℕ) → ℕ
ends (Ok b) = cond b 1 0
ends (Err f) = 0

abbrev pub fault_in : Result Bool (CoreFault × ℕ) → Option (CoreFault × ℕ)
fault_in (Ok b) = None
fault_in (Err f) = Some f

-- what a call answers that was ended by a fault, or by none
abbrev pub answer_with : {P : Type 0} → Going P → Option (CoreFault × ℕ) → Result (ℕ × ℕ) MachineFault
answer_with g None = Ok (g.spent, g.finished)
answer_with g (Some f) = Err (record { core = f.0; instruction = f.1; spent = g.spent; finished = g.finished })

-- what the call under way answers: clocks spent and instructions finished, or the fault
abbrev pub answer_of : {P : Type 0} → Going P → Result (ℕ × ℕ) MachineFault
answer_of g = answer_with g g.fault

module _ (k : Core) where
  -- one clock more
  abbrev pub turn : Going k.P → Delays → Going k.P
  turn g d = record {
    state = tick k g.state d;
    spent = g.spent + 1;
    finished = g.finished + ends (told k g.state);
    fault = fault_in (told k g.state);
  }

  -- one clock for each value of the memory, whose delays hold after that clock, while the machine runs
  abbrev pub run_on : {X : Type 0} → (X → Delays) → Going k.P → List X → Going k.P
  run_on delay g [] = g
  run_on delay g (x ∷ xs) = cond g.state.run (run_on delay (turn g (delay x)) xs) g

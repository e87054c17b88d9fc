-- What each call answers, and what it leaves. Assumes nothing.
use Rattle.std.specs.Prelude.{◌≡◌, ℕ, ◌+◌, ◌%◌, ◌^◌, ◌≤◌, true, false, cond, List, length, Some, None, Ok, Err, Option, Result, ◌==◌, nat_lt, slice_set}
use Rattle.memory.specs.Memory.{fault_of}
use Rattle.image.specs.declared.refusal.ImageRefusal.{ImageRefusal}
use Rattle.image.specs.Loading.{load_of, words_loaded}
use Rattle.run_control.specs.declared.refusals.Refusal.{Refusal}
use Rattle.run_control.specs.declared.refusals.Refusal.TheVariants.{Running, FaultMark, Stopped, NoRegister, NoWord, ClockCount, ClocksFull, Image}
use Rattle.run_control.specs.declared.faults.MachineFault.{MachineFault}
use Rattle.run_control.specs.Core.{Core}
use Rattle.run_control.specs.State.{State, Delays, begin, run_on, answer_of}

-- what a load into a stopped machine answers
abbrev pub image_answer : Result Unit ImageRefusal → Result Unit Refusal
image_answer (Ok u) = Ok tt
image_answer (Err e) = Err (Image e)

-- a value as a number of 32 bits, which every value of the code is
abbrev pub word_value : ℕ → ℕ
word_value x = x % 2 ^ 32

module _ {P : Type 0} where
  -- start is refused while the machine runs
  abbrev pub start_answer : State P → Result Unit Refusal
  start_answer s = cond s.run (Err Running) (Ok tt)

  -- resume is refused while it runs, then where a fault stands
  abbrev pub resume_answer : State P → Result Unit Refusal
  resume_answer s = cond s.run (Err Running) (cond s.mark (Err FaultMark) (Ok tt))

  -- reset is refused while it is stopped
  abbrev pub reset_answer : State P → Result Unit Refusal
  reset_answer s = cond s.run (Ok tt) (Err Stopped)

  -- a register is set while it is stopped, and there are 32
  abbrev pub register_answer : State P → ℕ → Result Unit Refusal
  register_answer s i = cond s.run (Err Running) (cond (nat_lt i 32) (Ok tt) (Err (NoRegister i)))

  -- a word is set while it is stopped, where the memory has one of that number
  abbrev pub word_answer : State P → ℕ → Result Unit Refusal
  word_answer s n = cond s.run (Err Running) (cond (nat_lt n (length s.words)) (Ok tt) (Err (NoWord (fault_of s.words n))))

  -- an image is loaded while it is stopped, as reading it for this memory answers
  abbrev pub load_answer : State P → List ℕ → Result Unit Refusal
  load_answer s bytes = cond s.run (Err Running) (image_answer (load_of (length s.words) bytes))

  -- the count of clocks that a clock call begins from
  abbrev pub counted : State P → ℕ
  counted s = cond s.reset 0 s.clocks

  -- clocks are spent while it runs, 1 to 1,000,000 in a call, and the count stays within 10^12
  abbrev pub clock_refusal : State P → ℕ → Option Refusal
  clock_refusal s n =
      cond s.run
      (cond (n == 0) (Some (ClockCount n))
      (cond (nat_lt 1000000 n) (Some (ClockCount n))
      (cond (nat_lt 1000000000000 (counted s + n)) (Some (ClocksFull (counted s) n)) None)))
      (Some Stopped)

  -- a reset waits
  abbrev pub with_reset : State P → State P
  with_reset s = record {
    core = s.core;
    words = s.words;
    run = s.run;
    mark = s.mark;
    reset = true;
    left = s.left;
    clocks = s.clocks;
    waits = s.waits;
    finished = s.finished;
    delays = s.delays;
  }

  -- another core
  abbrev pub with_core : State P → P → State P
  with_core s p = record {
    core = p;
    words = s.words;
    run = s.run;
    mark = s.mark;
    reset = s.reset;
    left = s.left;
    clocks = s.clocks;
    waits = s.waits;
    finished = s.finished;
    delays = s.delays;
  }

  -- other words, d being the delays then
  abbrev pub with_words : State P → List ℕ → Delays → State P
  with_words s ws d = record {
    core = s.core;
    words = ws;
    run = s.run;
    mark = s.mark;
    reset = s.reset;
    left = s.left;
    clocks = s.clocks;
    waits = s.waits;
    finished = s.finished;
    delays = d;
  }

  -- what each of these calls leaves: a refused one leaves all as it was
  abbrev pub reset_state : State P → State P
  reset_state s = cond s.run (with_reset s) s

  abbrev pub word_state : State P → ℕ → ℕ → Delays → State P
  word_state s n x d = cond s.run s (cond (nat_lt n (length s.words)) (with_words s (slice_set s.words n (word_value x)) d) s)

  -- t, unless the image is refused
  abbrev pub image_state : Result Unit ImageRefusal → State P → State P → State P
  image_state (Ok u) s t = t
  image_state (Err e) s t = s

  abbrev pub load_state : State P → List ℕ → Delays → State P
  load_state s bytes d = cond s.run s (image_state (load_of (length s.words) bytes) s (with_words s (words_loaded s.words bytes) d))

module _ (k : Core) where
  -- a machine newly set up over a memory with the words ws and the delays d
  abbrev pub set_up : List ℕ → Delays → State k.P
  set_up ws d = record {
    core = k.fresh;
    words = ws;
    run = false;
    mark = false;
    reset = false;
    left = None;
    clocks = 0;
    waits = 0;
    finished = 0;
    delays = d;
  }

  -- Run is set, and no wait is under way: PC, T, the registers, the counts and the mark are zeroed
  abbrev pub started : State k.P → State k.P
  started s = record {
    core = k.cleared s.core;
    words = s.words;
    run = true;
    mark = false;
    reset = s.reset;
    left = None;
    clocks = 0;
    waits = 0;
    finished = 0;
    delays = s.delays;
  }

  -- Run is set, and no wait is under way: T and the counts are zeroed
  abbrev pub resumed : State k.P → State k.P
  resumed s = record {
    core = k.rewound s.core;
    words = s.words;
    run = true;
    mark = s.mark;
    reset = s.reset;
    left = None;
    clocks = 0;
    waits = 0;
    finished = 0;
    delays = s.delays;
  }

  -- what start, resume and the setting of a register leave
  abbrev pub start_state : State k.P → State k.P
  start_state s = cond s.run s (started s)

  abbrev pub resume_state : State k.P → State k.P
  resume_state s = cond s.run s (cond s.mark s (resumed s))

  abbrev pub register_state : State k.P → ℕ → ℕ → State k.P
  register_state s i x = cond s.run s (cond (nat_lt i 32) (with_core s (k.with_register s.core i (word_value x))) s)

  -- a clock call of n clocks: xs has a value of the memory for each clock that was spent, and the machine and the answer are the fold of these clocks
  pub record Spends {X : Type 0} (delay : X → Delays) (s : State k.P) (n : ℕ) (r : Result (ℕ × ℕ) MachineFault) (t : State k.P) (xs : List X) : Type 0 where
    pub each : (run_on k delay (begin s) xs).spent ≡ length xs
    pub within : length xs ≤ n
    -- all are spent, unless the machine stops
    pub whole : t.run ≡ true → length xs ≡ n
    pub state : t ≡ (run_on k delay (begin s) xs).state
    pub answer : r ≡ answer_of (run_on k delay (begin s) xs)

  abbrev pub ClocksBy : Option Refusal → {X : Type 0} → (X → Delays) → State k.P → ℕ → Result (Result (ℕ × ℕ) MachineFault) Refusal → State k.P → Type 0
  ClocksBy (Some e) delay s n r t = (r ≡ Err e) × (t ≡ s)
  ClocksBy None {X} delay s n r t = (a : Result (ℕ × ℕ) MachineFault) × (r ≡ Ok a) × ((xs : List X) × Spends delay s n a t xs)

  -- a clock call is refused, or spends clocks
  abbrev pub Clocks : {X : Type 0} → (X → Delays) → State k.P → ℕ → Result (Result (ℕ × ℕ) MachineFault) Refusal → State k.P → Type 0
  Clocks delay s n r t = ClocksBy (clock_refusal s n) delay s n r t

-- The book machine that is fed each call and, of its answer, whether it was refused, how many instructions finished and whether a fault was told. Assumes nothing.
use Rattle.std.specs.Prelude.{ℕ, ◌+◌, Bool, true, false, cond, List, [], ◌∷◌, Some, None, Option}
use Rattle.isa.specs.Book.{Visible, After, Book, instruction, landed, with_pc, with_register, with_word}
use Rattle.isa.specs.Book.After.{next, fault}
use Rattle.onebus.specs.declared.fault.Cause.{Cause}
use Rattle.onebus.specs.Faults.{cause_of}
use Rattle.image.specs.Loading.{words_loaded}
use Rattle.run_control.specs.declared.calls.Call.{Call}
use Rattle.run_control.specs.declared.calls.Call.TheVariants.{Start, Resume, Reset, SetRegister, SetWord, Load, Clock}
use Rattle.run_control.specs.declared.calls.Answer.{Answer}
use Rattle.run_control.specs.declared.calls.Answer.TheVariants.{Done, Refused, Spent, Faulted}
use Rattle.run_control.specs.declared.calls.Turn.{Turn}
use Rattle.run_control.specs.declared.faults.MachineFault.{MachineFault}
use Rattle.run_control.specs.Core.{Core, zeros}
use Rattle.run_control.specs.Calls.{word_value}

-- a fault: its cause and address, and the address of the instruction
pub record Fault : Type 0 where
  pub cause : Cause
  pub address : ℕ
  pub instruction : ℕ

-- the fed book machine
pub record Fed : Type 0 where
  pub book : Book
  -- does a reset wait?
  pub waiting : Bool
  -- the instructions that it has counted, and the sums of their clocks and of their accesses
  pub finished : ℕ
  pub clocks : ℕ
  pub accesses : ℕ
  -- the fault that stands, and the clocks of the instruction that faulted
  pub fault : Option Fault
  pub lost : ℕ

-- stopped and unmarked, all zero, over the words ws
abbrev pub new_book : List ℕ → Fed
new_book ws = record {
  book = record { run = false; mark = false; visible = record { pc = 0; regs = zeros; words = ws } };
  waiting = false;
  finished = 0;
  clocks = 0;
  accesses = 0;
  fault = None;
  lost = 0;
}

-- a start, a resume, and a reset that waits
abbrev pub started_book : Fed → Fed
started_book b = record {
  book = record { run = true; mark = false; visible = record { pc = 0; regs = zeros; words = b.book.visible.words } };
  waiting = b.waiting;
  finished = 0;
  clocks = 0;
  accesses = 0;
  fault = None;
  lost = 0;
}

abbrev pub resumed_book : Fed → Fed
resumed_book b = record {
  book = record { run = true; mark = b.book.mark; visible = b.book.visible };
  waiting = b.waiting;
  finished = 0;
  clocks = 0;
  accesses = 0;
  fault = b.fault;
  lost = b.lost;
}

abbrev pub waiting_book : Fed → Fed
waiting_book b = record {
  book = b.book;
  waiting = true;
  finished = b.finished;
  clocks = b.clocks;
  accesses = b.accesses;
  fault = b.fault;
  lost = b.lost;
}

-- the reset is taken: PC and the counts become 0
abbrev pub reset_book : Fed → Fed
reset_book b = record {
  book = record { run = b.book.run; mark = b.book.mark; visible = with_pc b.book.visible 0 };
  waiting = false;
  finished = 0;
  clocks = 0;
  accesses = 0;
  fault = b.fault;
  lost = b.lost;
}

-- another register or other words
abbrev pub seeing : Fed → Visible → Fed
seeing b v = record {
  book = record { run = b.book.run; mark = b.book.mark; visible = v };
  waiting = b.waiting;
  finished = b.finished;
  clocks = b.clocks;
  accesses = b.accesses;
  fault = b.fault;
  lost = b.lost;
}

-- v with the words of an image set
abbrev pub image_seen : Visible → List ℕ → Visible
image_seen v bytes = record { pc = v.pc; regs = v.regs; words = words_loaded v.words bytes }

-- a call that was accepted, other than a clock call
abbrev pub accept : Fed → Call → Fed
accept b Start = started_book b
accept b Resume = resumed_book b
accept b Reset = waiting_book b
accept b (SetRegister i x) = seeing b (with_register b.book.visible i (word_value x))
accept b (SetWord n x) = seeing b (with_word b.book.visible n (word_value x))
accept b (Load bytes) = seeing b (image_seen b.book.visible bytes.now)
accept b (Clock n) = b

-- a waiting reset is taken first
abbrev pub taken : Fed → Fed
taken b = cond b.waiting (reset_book b) b

module _ (k : Core) where
  -- an instruction that ended so is counted, with its clocks and accesses; one that faulted is noted
  abbrev pub done_one : After → Fed → Fed
  done_one (next stops v) b = record {
    book = landed (next stops v) b.book;
    waiting = b.waiting;
    finished = b.finished + 1;
    clocks = b.clocks + k.clocks b.book.visible;
    accesses = b.accesses + k.accesses b.book.visible (k.clocks b.book.visible);
    fault = b.fault;
    lost = b.lost;
  }
  done_one (fault c a v) b = record {
    book = landed (fault c a v) b.book;
    waiting = b.waiting;
    finished = b.finished;
    clocks = b.clocks;
    accesses = b.accesses;
    fault = Some (record { cause = cause_of c a b.book.visible.words; address = a; instruction = b.book.visible.pc });
    lost = k.clocks b.book.visible;
  }

  -- one instruction; stopped, it does none
  abbrev pub instruct : Fed → Fed
  instruct b = cond b.book.run (done_one (instruction b.book.visible) b) b

  -- so many instructions
  abbrev pub instructs : ℕ → Fed → Fed
  instructs ℕ.zero b = b
  instructs (ℕ.suc n) b = instruct (instructs n b)

  -- one call with its answer: a refused call leaves it alone, and a clock call does the instructions that finished, and one more if a fault was told
  abbrev pub feed : Fed → Call → Answer → Fed
  feed b c (Refused e) = b
  feed b c Done = accept b c
  feed b c (Spent n f) = instructs f (taken b)
  feed b c (Faulted m) = instruct (instructs m.finished (taken b))

  -- all calls with their answers
  abbrev pub fed : Fed → List Turn → Fed
  fed b [] = b
  fed b (p ∷ ps) = fed (feed b p.call p.answer) ps

-- of a fault that is told, what the book knows
abbrev pub fault_told : MachineFault → Fault
fault_told m = record { cause = m.core.cause; address = m.core.address; instruction = m.instruction }

-- the fault that stands after a call and its answer: one that is told stands until a start is accepted
abbrev pub stands_next : Option Fault → Call → Answer → Option Fault
stands_next f c (Refused e) = f
stands_next f c (Spent n m) = f
stands_next f c (Faulted m) = Some (fault_told m)
stands_next f Start Done = None
stands_next f Resume Done = f
stands_next f Reset Done = f
stands_next f (SetRegister i x) Done = f
stands_next f (SetWord n x) Done = f
stands_next f (Load bytes) Done = f
stands_next f (Clock n) Done = f

-- the fault that stands after the calls of ps, as their answers tell it
abbrev pub standing : Option Fault → List Turn → Option Fault
standing f [] = f
standing f (p ∷ ps) = standing (stands_next f p.call p.answer) ps

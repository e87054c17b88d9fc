-- How the refusals of the machine's calls are told: by number, and in words. Assumes nothing.
use Rattle.std.specs.Prelude.{ℕ, List, ◌++◌, Some, codes, decimal, Option}
use Rattle.image.specs.Refusals as image
use Rattle.run_control.specs.declared.refusals.Refusal.{Refusal}
use Rattle.run_control.specs.declared.refusals.Refusal.TheVariants.{Running, FaultMark, Stopped, NoRegister, NoWord, ClockCount, ClocksFull, Image}

-- the number of a refusal: an image's are 8 to 13
abbrev pub refusal_number : Refusal → ℕ
refusal_number Running = 1
refusal_number FaultMark = 2
refusal_number Stopped = 3
refusal_number (NoRegister number) = 4
refusal_number (NoWord fault) = 5
refusal_number (ClockCount wanted) = 6
refusal_number (ClocksFull clocks wanted) = 7
refusal_number (Image e) = image.refusal_number e

-- the reason, in words
abbrev pub reason : Refusal → Option (List ℕ)
reason Running = Some (codes "the machine is running")
reason FaultMark = Some (codes "a fault stands")
reason Stopped = Some (codes "the machine is stopped")
reason (NoRegister number) = Some (codes "there is no register " ++ decimal number)
reason (NoWord fault) = Some (codes "there is no word " ++ (decimal fault.number ++ (codes " in a memory of " ++ decimal fault.size)))
reason (ClockCount wanted) = Some (decimal wanted ++ codes " clocks are wanted, and a call spends 1 to 1000000")
reason (ClocksFull clocks wanted) = Some (decimal clocks ++ (codes " clocks are counted, and with " ++ (decimal wanted ++ codes " more they pass 1000000000000")))
reason (Image e) = image.refusal_text e

-- The text of an answer. Assumes nothing.
use Rattle.std.specs.Prelude.{ℕ, List, [], ◌++◌, Some, codes, decimal, Option}
use Rattle.std.specs.Fmt.{option_append}
use Rattle.onebus.specs.declared.fault.Cause.{Cause}
use Rattle.onebus.specs.declared.fault.Cause.TheVariants.{Unassigned, Unaligned, NoWord}
use Rattle.onebus.specs.Faults.{number_of, cause_text}
use Rattle.run_control.specs.declared.calls.Answer.{Answer}
use Rattle.run_control.specs.declared.calls.Answer.TheVariants.{Done, Refused, Spent, Faulted}
use Rattle.run_control.specs.declared.faults.MachineFault.{MachineFault}
use Rattle.run_control.specs.Refusals.{refusal_number, reason}

-- the number and the size that a fault tells of a word that is not there
abbrev pub missing_text : Cause → List ℕ
missing_text Unassigned = []
missing_text Unaligned = []
missing_text (NoWord f) = codes "number " ++ (decimal f.number ++ (codes " size " ++ (decimal f.size ++ codes " ")))

-- where a fault came, and what the call did until then
abbrev pub place_text : MachineFault → List ℕ
place_text m =
    codes "address " ++ (decimal m.core.address ++ (codes " step " ++ (decimal m.core.step ++ (codes " instruction " ++ (decimal m.instruction
    ++ (codes " spent " ++ (decimal m.spent ++ (codes " finished " ++ decimal m.finished))))))))

-- a fault: its number, its cause in words, and its values
abbrev pub machine_fault_text : MachineFault → List ℕ
machine_fault_text m =
    codes "fault " ++ (decimal (number_of m.core.cause) ++ (codes " (" ++ (cause_text m.core.cause ++ (codes ") " ++ (missing_text m.core.cause ++ place_text m)))))

-- a refusal: its number, and its reason where that has a text
abbrev pub refused_text : ℕ → Option (List ℕ) → Option (List ℕ)
refused_text n why = option_append (Some (codes "refused ")) (option_append (Some (decimal n)) (option_append (Some (codes " (")) (option_append why (Some (codes ")")))))

-- the text of an answer
abbrev pub answer_text : Answer → Option (List ℕ)
answer_text Done = Some (codes "ok")
answer_text (Refused r) = refused_text (refusal_number r) (reason r)
answer_text (Spent spent finished) = Some (codes "spent " ++ (decimal spent ++ (codes " finished " ++ decimal finished)))
answer_text (Faulted m) = Some (machine_fault_text m)

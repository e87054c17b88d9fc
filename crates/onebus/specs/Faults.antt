-- What the core tells of a step that it cannot do. Assumes nothing.
use Rattle.std.specs.Prelude.{ℕ, ◌/◌, List, ◌++◌, codes, decimal}
use Rattle.isa.specs.Book as book
use Rattle.isa.specs.Book.{cause_number}
use Rattle.memory.specs.Memory.{fault_of}
use Rattle.onebus.specs.declared.fault.Cause.{Cause}
use Rattle.onebus.specs.declared.fault.CoreFault.{CoreFault}
use Rattle.onebus.specs.declared.fault.Cause.TheVariants.{Unassigned, Unaligned, NoWord}

-- the book's cause behind the core's
abbrev pub book_cause : Cause → book.Cause
book_cause Unassigned = book.Cause.unassigned_op
book_cause Unaligned = book.Cause.unaligned
book_cause (NoWord f) = book.Cause.no_word

-- the cause of a fault at the address a, over the words ws: with the memory's own refusal where it has no such word
abbrev pub cause_of : book.Cause → ℕ → List ℕ → Cause
cause_of book.Cause.unassigned_op a ws = Unassigned
cause_of book.Cause.unaligned a ws = Unaligned
cause_of book.Cause.no_word a ws = NoWord (fault_of ws (a / 4))

-- the number that a cause is told by
abbrev pub number_of : Cause → ℕ
number_of e = cause_number (book_cause e)

-- the words for a cause, and for a fault
abbrev pub cause_text : Cause → List ℕ
cause_text Unassigned = codes "the operation is unassigned"
cause_text Unaligned = codes "the address is no multiple of four"
cause_text (NoWord f) = codes "a memory of " ++ (decimal f.size ++ (codes " words has no word " ++ decimal f.number))

abbrev pub fault_text : CoreFault → List ℕ
fault_text f =
    codes "fault " ++ (decimal (number_of f.cause) ++ (codes " at address " ++ (decimal f.address
    ++ (codes " in step " ++ (decimal f.step ++ (codes ": " ++ cause_text f.cause))))))

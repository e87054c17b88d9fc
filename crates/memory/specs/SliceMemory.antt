-- What a memory over a slice means. Assumes nothing.
use Rattle.std.specs.Prelude.{ℕ, List}
use Rattle.memory.specs.Memory.{word_list, Loan, loan_of}
use Rattle.memory.specs.declared.element.Element.{Ghosts}
use Rattle.memory.specs.declared.slice_memory.SliceMemory.{SliceMemory}

module _ {T : Type 0} (element : Ghosts T) where
  -- at most the first 8,192 words that the lent elements hold
  abbrev pub slice_words : SliceMemory T → List ℕ
  slice_words s = word_list (element.held s.elements.now)

  -- no word has a delay
  abbrev pub slice_delay : SliceMemory T → ℕ → ℕ
  slice_delay s n = 0

  -- what lies past the elements that are used
  abbrev pub slice_frame : SliceMemory T → List Loan
  slice_frame s = loan_of element.rest s.elements

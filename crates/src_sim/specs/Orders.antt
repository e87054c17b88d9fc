-- The call that a command of a script makes. Assumes nothing.
use Rattle.std.specs.Prelude.{◌≡◌, ℕ, List, Some, None, Option, vec_items}
use Rattle.std.specs.Borrow.{Bor}
use Rattle.run_control.specs.declared.calls.Call.{Call}
use Rattle.run_control.specs.declared.calls.Call.TheVariants as call
use Rattle.src_sim.specs.declared.command.Command.{Command}
use Rattle.src_sim.specs.declared.command.Command.TheVariants.{Describe, Perform, Load, Ask, Help}

-- the very call that the command performs, or a load that lends the bytes of its image; the other commands make none
abbrev pub Makes : Command → Option Call → Type 0
Makes (Describe part) r = r ≡ None
Makes (Perform c) r = r ≡ Some c
Makes (Load bytes) r = (lent : Bor (List ℕ)) × (r ≡ Some (call.Load lent)) × (lent.now ≡ vec_items bytes)
Makes (Ask question) r = r ≡ None
Makes Help r = r ≡ None

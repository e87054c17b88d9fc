-- A run over one kind of memory is a run over any delays, so that one statement serves every kind. Assumes nothing.
use Rattle.std.proofs.Common.{◌≡◌, ℕ, suc, ◌≤◌, cond, List, [], ◌∷◌, map, length, Some, None, Option, Result, sym, refl, ap, ◌∙◌, subst}
use Rattle.run_control.specs.declared.faults.MachineFault.{MachineFault}
use Rattle.run_control.specs.declared.refusals.Refusal.{Refusal}
use Rattle.run_control.specs.declared.calls.Call.{Call}
use Rattle.run_control.specs.declared.calls.Call.TheVariants.{Start, Resume, Reset, SetRegister, SetWord, Load, Clock}
use Rattle.run_control.specs.declared.calls.Answer.{Answer}
use Rattle.run_control.specs.declared.calls.Turn.{Turn}
use Rattle.run_control.specs.Core.{Core}
use Rattle.run_control.specs.State.{State, Delays, Going, begin, turn, run_on, answer_of}
use Rattle.run_control.specs.Calls.{clock_refusal, Spends, ClocksBy}
use Rattle.run_control.specs.Whole.{Bounded, AnyDelays, any_delay, Does, Leads}

module _ (k : Core) {X : Type 0} (delay : X → Delays) (bd : Bounded delay) where
  abbrev pub any_of : X → AnyDelays
  any_of x = record { of = delay x; few = bd x }

  run_any : (g : Going k.P) (xs : List X) → run_on k delay g xs ≡ run_on k any_delay g (map any_of xs)
  run_any g [] = refl
  run_any g (x ∷ xs) = ap (λ u. cond g.state.run u g) (run_any (turn k g (delay x)) xs)

  length_any : (xs : List X) → length (map any_of xs) ≡ length xs
  length_any [] = refl
  length_any (x ∷ xs) = ap suc (length_any xs)

  spends_any : (s : State k.P) (n : ℕ) (r : Result (ℕ × ℕ) MachineFault) (t : State k.P) (xs : List X) → Spends k delay s n r t xs → Spends k any_delay s n r t (map any_of xs)
  spends_any s n r t xs h =
      let same = run_any (begin s) xs in
      let size = length_any xs in
      record {
        each = ap (λ g. g.spent) (sym same) ∙ h.each ∙ sym size;
        within = subst (λ m. m ≤ n) (sym size) h.within;
        whole = λ on. size ∙ h.whole on;
        state = h.state ∙ ap (λ g. g.state) same;
        answer = h.answer ∙ ap answer_of same;
      }

  clocks_any : (w : Option Refusal) (s : State k.P) (n : ℕ) (r : Result (Result (ℕ × ℕ) MachineFault) Refusal) (t : State k.P) → ClocksBy k w delay s n r t → ClocksBy k w any_delay s n r t
  clocks_any (Some e) s n r t h = h
  clocks_any None s n r t h = (h.0, h.1, (map any_of h.2.0, spends_any s n h.0 t h.2.0 h.2.1))

  does_any : (c : Call) (s : State k.P) (a : Answer) (t : State k.P) → Does k delay s c a t → Does k any_delay s c a t
  does_any Start s a t h = h
  does_any Resume s a t h = h
  does_any Reset s a t h = h
  does_any (SetRegister i v) s a t h = h
  does_any (SetWord n v) s a t h = (h.0, (any_of h.1.0, h.1.1))
  does_any (Load bytes) s a t h = (h.0, (any_of h.1.0, h.1.1))
  does_any (Clock n) s a t h = (h.0, h.1, clocks_any (clock_refusal s n) s n h.0 t h.2)

  pub leads_any : (ps : List Turn) (s t : State k.P) → Leads k delay s ps t → Leads k any_delay s ps t
  leads_any [] s t h = h
  leads_any (p ∷ ps) s t h = (h.0, does_any p.call s p.answer h.0 h.1, leads_any ps h.0 t h.2)

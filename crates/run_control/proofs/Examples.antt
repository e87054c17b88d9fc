-- The runs of the examples, computed. Assumes nothing.
use Rattle.std.proofs.Common.{◌≡◌, ℕ, ◌≤◌, true, List, [], ◌∷◌, length, replicate, None, Ok, sym, refl, subst, arith}
use Rattle.std.proofs.lemmas.Bool.{true≢false}
use Rattle.rows.specs.Core as bus
use Rattle.rows.specs.Rows.{table}
use Rattle.run_control.specs.declared.calls.Call.TheVariants.{Reset, Clock}
use Rattle.run_control.specs.declared.calls.Answer.{Answer}
use Rattle.run_control.specs.declared.calls.Answer.TheVariants.{Done}
use Rattle.run_control.specs.State.{State, Going, begin, run_on, answer_of}
use Rattle.run_control.specs.Calls.{set_up, started, with_reset, reset_answer, reset_state, clock_refusal, ClocksBy}
use Rattle.run_control.specs.Whole.{plain, clock_told, Does}
use Rattle.run_control.specs.OneBus.{one_bus}
use Rattle.run_control.specs.Examples.{steady, turn_of, shown, two_words, one_nop, started_and, LeadsTo, WorkedRuns}

-- the same memory, after each of m clocks
abbrev units : ℕ → List (Unit {0})
units m = replicate m tt

-- m clocks over words that wait d clocks
abbrev clocked_by : ℕ → State bus.Core → ℕ → Going bus.Core
clocked_by d s m = run_on one_bus (steady d) (begin s) (units m)

did : (d n m : ℕ) (s : State bus.Core) → clock_refusal s n ≡ None → (clocked_by d s m).spent ≡ length (units m) → length (units m) ≤ n → ((clocked_by d s m).state.run ≡ true → length (units m) ≡ n) →
    Does one_bus (steady d) s (Clock n) (clock_told (Ok (answer_of (clocked_by d s m)))) (clocked_by d s m).state
did d n m s free each within whole =
    let a = answer_of (clocked_by d s m) in (
      Ok a,
      refl,
      subst (λ w. ClocksBy one_bus w (steady d) s n (Ok a) (clocked_by d s m).state) (sym free)
          (a, refl, (units m, record { each = each; within = within; whole = whole; state = refl; answer = refl })),
    )

abbrev begun : List ℕ → ℕ → State bus.Core
begun ws d = started one_bus (set_up one_bus ws (steady d tt))

-- after a start and m clocks, and after a reset then and the clock that takes it
abbrev ended : List ℕ → ℕ → ℕ → State bus.Core
ended ws d m = (clocked_by d (begun ws d) m).state

abbrev restarted : List ℕ → ℕ → ℕ → State bus.Core
restarted ws d m = (clocked_by d (with_reset (ended ws d m)) 1).state

abbrev told_by : ℕ → State bus.Core → ℕ → Answer
told_by d s m = clock_told (Ok (answer_of (clocked_by d s m)))

module _ (ws : List ℕ) (d n m : ℕ) (free : clock_refusal (begun ws d) n ≡ None) (each : (clocked_by d (begun ws d) m).spent ≡ length (units m)) (within : length (units m) ≤ n) (whole : (ended ws d m).run ≡ true → length (units m) ≡ n) where
  -- a start, and a clock call of n clocks that spends m
  one_call : LeadsTo ws d (started_and (turn_of (Clock n) (told_by d (begun ws d) m) ∷ [])) (shown (ended ws d m))
  one_call = record { end = ended ws d m; comes = (begun ws d, (refl, refl), (ended ws d m, did d n m (begun ws d) free each within whole, refl)); shows = refl }

  -- then a reset of the machine, which still runs, and one clock
  then_reset : plain (reset_answer (ended ws d m)) ≡ Done → reset_state (ended ws d m) ≡ with_reset (ended ws d m) → clock_refusal (with_reset (ended ws d m)) 1 ≡ None → (clocked_by d (with_reset (ended ws d m)) 1).spent ≡ 1 →
      LeadsTo ws d (started_and (turn_of (Clock n) (told_by d (begun ws d) m) ∷ turn_of Reset Done ∷ turn_of (Clock 1) (told_by d (with_reset (ended ws d m)) 1) ∷ [])) (shown (restarted ws d m))
  then_reset done waits taken one = record {
    end = restarted ws d m;
    comes = (
      begun ws d,
      (refl, refl),
      (
        ended ws d m,
        did d n m (begun ws d) free each within whole,
        (with_reset (ended ws d m), (sym done, sym waits), (restarted ws d m, did d 1 1 (with_reset (ended ws d m)) taken one (omega arith) (λ _. refl), refl)),
      ),
    );
    shows = refl;
  }

pub worked_runs : WorkedRuns
unfolding table
worked_runs = record {
  ten = one_call two_words 0 10 10 refl refl (omega arith) (λ _. refl);
  more_wanted = one_call two_words 0 1000 10 refl refl (omega arith) (λ on. absurd (true≢false (sym on)));
  nine = one_call two_words 0 9 9 refl refl (omega arith) (λ _. refl);
  slow = one_call two_words 3 16 16 refl refl (omega arith) (λ _. refl);
  reset_at_five = then_reset two_words 0 5 5 refl refl (omega arith) (λ _. refl) refl refl refl refl;
  reset_at_six = then_reset two_words 0 6 6 refl refl (omega arith) (λ _. refl) refl refl refl refl;
  faulting = one_call one_nop 0 100 6 refl refl (omega arith) (λ on. absurd (true≢false (sym on)));
}

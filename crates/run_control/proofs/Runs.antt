-- The loop of a clock call: one clock more at the end of the fold. Assumes nothing.
use Rattle.std.proofs.Common.{◌≡◌, ℕ, ◌+◌, ◌<◌, ◌≤◌, Bool, true, false, cond, ltb, List, [], ◌∷◌, ◌++◌, length, Some, None, Ok, Err, Result, sym, refl, ap, ◌∙◌, subst, arith, length-append}
use Rattle.std.proofs.lemmas.Bool.{true≢false, ne_eqb, le-ltb}
use Rattle.onebus.specs.declared.fault.CoreFault.{CoreFault}
use Rattle.run_control.specs.declared.faults.MachineFault.{MachineFault}
use Rattle.run_control.specs.Core.{Core, CoreFacts, Outcome}
use Rattle.run_control.specs.Core.Outcome.{more, done, failed}
use Rattle.run_control.specs.State.{State, Delays, Going, begin, turn, run_on, tick, clocked, told, ends, fault_in, answer_of, pause, stepped, later_delays, after_wait, after_reset}
use Rattle.run_control.specs.Calls.{counted, clock_refusal, Spends, Clocks, ClocksBy}
use Rattle.run_control.proofs.Follow.{fault_stops}

module _ (k : Core) (f : CoreFacts k) {X : Type 0} (delay : X → Delays) where
  -- what a loop of clocks that began in s has come to: xs has the memory after each clock
  pub record Sofar (s t : State k.P) (spent finished : ℕ) (xs : List X) : Type 0 where
    pub count : length xs ≡ spent
    pub going : run_on k delay (begin s) xs ≡ record { state = t; spent = spent; finished = finished; fault = None }

  pub sofar_none : (s : State k.P) → Sofar s s 0 0 []
  sofar_none s = record { count = refl; going = refl }

  run_more : (g : Going k.P) (xs : List X) (x : X) → (run_on k delay g xs).state.run ≡ true → run_on k delay g (xs ++ x ∷ []) ≡ turn k (run_on k delay g xs) (delay x)
  run_more g [] x h = ap (λ b. cond b (turn k g (delay x)) g) h
  run_more g (y ∷ xs) x h =
      by g.state.run (run_on k delay (turn k g (delay y)) xs) (run_on k delay (turn k g (delay y)) (xs ++ x ∷ [])) refl h (λ r. run_more (turn k g (delay y)) xs x r)
    where
      by : (b : Bool) (u v : Going k.P) → g.state.run ≡ b → (cond b u g).state.run ≡ true → (u.state.run ≡ true → v ≡ turn k u (delay x)) → cond b v g ≡ turn k (cond b u g) (delay x)
      by true u v e r ih = ih r
      by false u v e r ih = absurd (true≢false (sym r ∙ e))

  -- the counts rise by at most one, and a reset that is taken zeroes them
  pub record Rises (s t : State k.P) : Type 0 where
    pub clocks : counted t ≤ counted s + 1
    pub waits : t.waits ≤ s.waits + 1
    pub finished : t.finished ≤ s.finished + 1

  counted_calm : (s : State k.P) → s.reset ≡ false → counted s ≡ s.clocks
  counted_calm s e = ap (λ r. cond r 0 s.clocks) e

  -- a clock that is counted
  raised : (s t : State k.P) → s.reset ≡ false → t.reset ≡ s.reset → t.clocks ≡ s.clocks + 1 → t.waits ≤ s.waits + 1 → t.finished ≤ s.finished + 1 → Rises s t
  raised s t e r c w n = record { clocks = omega (arith, counted_calm s e, counted_calm t (r ∙ e)); waits = w; finished = n }

  rises_step : (o : Outcome k.P) (s : State k.P) (d : Delays) → s.reset ≡ false → Rises s (stepped k o s d)
  rises_step (more p ws) s d e = raised s (stepped k (more p ws) s d) e refl refl (omega arith) (omega arith)
  rises_step (done z p ws) s d e = raised s (stepped k (done z p ws) s d) e refl refl (omega arith) (omega arith)
  rises_step (failed c a) s d e = raised s (stepped k (failed c a) s d) e refl refl (omega arith) (omega arith)

  rises_by : (r w : Bool) (s : State k.P) (d : Delays) → s.reset ≡ r → Rises s (cond r (after_reset k s) (cond w (after_wait s (pause k s)) (stepped k (k.step s.core s.words) s (later_delays k s d))))
  rises_by true w s d e = record { clocks = omega arith; waits = omega arith; finished = omega arith }
  rises_by false true s d e = raised s (after_wait s (pause k s)) e refl refl (omega arith) (omega arith)
  rises_by false false s d e = rises_step (k.step s.core s.words) s (later_delays k s d) e

  pub tick_rises : (s t : State k.P) (d : Delays) → s.run ≡ true → t ≡ tick k s d → Rises s t
  tick_rises s t d on e = subst (λ x. Rises s x) (sym (e ∙ ap (λ b. cond b (clocked k s d) s) on)) (rises_by s.reset (ltb 0 (pause k s)) s d refl)

  module _ (s t : State k.P) (spent finished : ℕ) (xs : List X) (h : Sofar s t spent finished xs) where
    -- one clock more, from a machine t that runs
    one_more : (u : State k.P) (x : X) → t.run ≡ true → u ≡ tick k t (delay x) → run_on k delay (begin s) (xs ++ x ∷ []) ≡ record { state = u; spent = spent + 1; finished = finished + ends (told k t); fault = fault_in (told k t) }
    one_more u x on e =
        run_more (begin s) xs x (ap (λ g. g.state.run) h.going ∙ on)
        ∙ ap (λ g. turn k g (delay x)) h.going
        ∙ ap (λ y. record { state = y; spent = spent + 1; finished = finished + ends (told k t); fault = fault_in (told k t) }) (sym e)

    length_more : (x : X) → length (xs ++ x ∷ []) ≡ spent + 1
    length_more x = length-append xs (x ∷ []) ∙ ap (λ n. n + 1) h.count

    pub sofar_more : (u : State k.P) (x : X) (b : Bool) → t.run ≡ true → u ≡ tick k t (delay x) → Ok b ≡ told k t → Sofar s u (spent + 1) (finished + cond b 1 0) (xs ++ x ∷ [])
    sofar_more u x b on e o = record {
      count = length_more x;
      going = one_more u x on e ∙ ap (λ y. record { state = u; spent = spent + 1; finished = finished + ends y; fault = fault_in y }) (sym o);
    }

    -- the clock that faults ends the call
    pub spends_fault : (u : State k.P) (x : X) (n : ℕ) (c : CoreFault × ℕ) → t.run ≡ true → u ≡ tick k t (delay x) → Err c ≡ told k t → spent < n →
        Spends k delay s n (Err (record { core = c.0; instruction = c.1; spent = spent + 1; finished = finished })) u (xs ++ x ∷ [])
    spends_fault u x n c on e o lt =
        let end : run_on k delay (begin s) (xs ++ x ∷ []) ≡ record { state = u; spent = spent + 1; finished = finished + 0; fault = Some c }
        = one_more u x on e ∙ ap (λ y. record { state = u; spent = spent + 1; finished = finished + ends y; fault = fault_in y }) (sym o) in
        let none : finished + 0 ≡ finished = omega arith in
        record {
          each = ap (λ g. g.spent) end ∙ sym (length_more x);
          within = omega (arith, length_more x);
          whole = λ r. absurd (true≢false (sym r ∙ ap (λ y. y.run) e ∙ fault_stops k f t (delay x) on c (sym o)));
          state = sym (ap (λ g. g.state) end);
          answer = sym (ap answer_of end ∙ ap (λ i. Err (record { core = c.0; instruction = c.1; spent = spent + 1; finished = i })) none);
        }

    -- the loop is over: all clocks are spent, or the machine has stopped
    pub spends_all : (n : ℕ) → spent ≤ n → (t.run ≡ true → n ≤ spent) → Spends k delay s n (Ok (spent, finished)) t xs
    spends_all n le on = record {
      each = ap (λ g. g.spent) h.going ∙ sym h.count;
      within = omega (arith, h.count);
      whole = λ r. omega (arith, h.count, on r);
      state = sym (ap (λ g. g.state) h.going);
      answer = sym (ap answer_of h.going);
    }

  -- a call that is not refused
  pub goes : (s : State k.P) (n : ℕ) (t : State k.P) (a : Result (ℕ × ℕ) MachineFault) (xs : List X) → s.run ≡ true → (n ≡ 0 → ⊥) → n ≤ 1000000 → counted s + n ≤ 1000000000000 → Spends k delay s n a t xs → Clocks k delay s n (Ok a) t
  goes s n t a xs on nz le room h =
      let none : clock_refusal s n ≡ None = simp (on, ne_eqb n 0 nz, le-ltb 1000000 n le, le-ltb 1000000000000 (counted s + n) room) refl in
      subst (λ w. ClocksBy k w delay s n (Ok a) t) (sym none) (a, refl, (xs, h))

-- Every list of calls keeps the machine and the book together. Assumes nothing.
use Rattle.std.proofs.Common.{◌≡◌, ℕ, zero, suc, ◌+◌, ◌*◌, ◌<◌, ◌≤◌, Bool, true, false, cond, eqb, ltb, List, [], ◌∷◌, length, set, replicate, Some, None, Ok, Err, Option, Result, sym, refl, ap, ◌∙◌, subst, add-one, arith, Bor}
use Rattle.std.proofs.lemmas.Bool.{true≢false, eqb-false}
use Rattle.isa.specs.Book.{Visible, with_pc, with_register}
use Rattle.memory.specs.Memory.{fault_of}
use Rattle.onebus.specs.declared.fault.CoreFault.{CoreFault}
use Rattle.image.specs.declared.refusal.ImageRefusal.{ImageRefusal}
use Rattle.image.specs.Loading.{load_of, words_loaded}
use Rattle.run_control.specs.declared.faults.MachineFault.{MachineFault}
use Rattle.run_control.specs.declared.refusals.Refusal.{Refusal}
use Rattle.run_control.specs.declared.refusals.Refusal.TheVariants.{Running, FaultMark, Stopped, NoRegister, NoWord, ClockCount, ClocksFull}
use Rattle.run_control.specs.declared.calls.Call.{Call}
use Rattle.run_control.specs.declared.calls.Call.TheVariants.{Start, Resume, Reset, SetRegister, SetWord, Load, Clock}
use Rattle.run_control.specs.declared.calls.Answer.{Answer}
use Rattle.run_control.specs.declared.calls.Turn.{Turn}
use Rattle.onebus.proofs.Registers.{all_small}
use Rattle.rows.specs.Runs.{Fits}
use Rattle.run_control.specs.Core.{Core, CoreFacts, Outcome, Small, seen, zeros}
use Rattle.run_control.specs.Core.Outcome.{more, done, failed}
use Rattle.run_control.specs.State.{State, Delays, Going, begin, turn, run_on, tick, clocked, told, told_of, ends, fault_in, answer_with, answer_of, pause, stepped, later_delays, after_wait, after_reset}
use Rattle.run_control.specs.Calls.{word_value, image_answer, image_state, start_answer, start_state, resume_answer, resume_state, reset_answer, reset_state, register_answer, register_state, word_answer, word_state, load_answer, load_state, clock_refusal, counted, set_up, started, resumed, with_reset, with_core, with_words, Spends, ClocksBy}
use Rattle.run_control.specs.Feeding.{Fed, Fault, new_book, started_book, resumed_book, waiting_book, reset_book, seeing, taken, instruct, instructs, feed, fed, stands_next, standing}
use Rattle.run_control.specs.Whole.{plain, spent_or_fault, clock_told, Bounded, Does, Leads}
use Rattle.run_control.proofs.Fits.{set_small, register_fits, pc_fits}
use Rattle.run_control.proofs.Images.{image_small}
use Rattle.run_control.proofs.Ticks.{Short, Ties, fresh_mid, mid_keeps, told_book, told_stands, fault_of_clock, tick_ties}

zeros_small : Small zeros
zeros_small = all_small

module _ (k : Core) (f : CoreFacts k) where
  -- what a call under way has done: n instructions of the book b, and one more where a fault ended it
  abbrev Sofar : Option (CoreFault × ℕ) → State k.P → ℕ → Fed → Option Fault → Type 0
  Sofar None s n b o = Ties k f s (instructs k n b) o
  Sofar (Some e) s n b o = (s.run ≡ false) × Ties k f s (instruct k (instructs k n b)) (Some (fault_of_clock e))

  record On (g : Going k.P) (b : Fed) (o : Option Fault) : Type 0 where
    calm : g.state.reset ≡ false
    so : Sofar g.fault g.state g.finished b o

  -- a machine that runs was not stopped by a fault
  unbroken : (w : Option (CoreFault × ℕ)) (s : State k.P) (n : ℕ) (b : Fed) (o : Option Fault) → s.run ≡ true → Sofar w s n b o → Ties k f s (instructs k n b) o
  unbroken None s n b o on h = h
  unbroken (Some e) s n b o on h = absurd (true≢false (sym on ∙ h.0))

  told_sofar : (w : Result Bool (CoreFault × ℕ)) (s : State k.P) (n : ℕ) (b : Fed) (o : Option Fault) → ((e : CoreFault × ℕ) → w ≡ Err e → s.run ≡ false) →
      Ties k f s (told_book k f w (instructs k n b)) (told_stands k f w o) → Sofar (fault_in w) s (n + ends w) b o
  told_sofar (Ok false) s n b o off h = let e : n ≡ n + 0 = omega arith in subst (λ x. Ties k f s (instructs k x b) o) e h
  told_sofar (Ok true) s n b o off h = subst (λ x. Ties k f s (instructs k x b) o) (sym (add-one n)) h
  told_sofar (Err e) s n b o off h = (off e refl, let z : n ≡ n + 0 = omega arith in subst (λ x. Ties k f s (instruct k (instructs k x b)) (Some (fault_of_clock e))) z h)

  module _ (s : State k.P) (d : Delays) where
    -- a clock that tells a fault stops the machine
    step_stops : (r : Outcome k.P) (e : CoreFault × ℕ) → told_of k r s ≡ Err e → (stepped k r s (later_delays k s d)).run ≡ false
    step_stops (more p ws) e h = cc
    step_stops (done z p ws) e h = cc
    step_stops (failed c a) e h = refl

    abbrev by_tests : Bool → Bool → Outcome k.P → State k.P
    by_tests r w o = cond r (after_reset k s) (cond w (after_wait s (pause k s)) (stepped k o s (later_delays k s d)))

    stops_by : (r w : Bool) (o : Outcome k.P) (e : CoreFault × ℕ) → ◌≡◌ {A = Result Bool (CoreFault × ℕ)} (cond r (Ok false) (cond w (Ok false) (told_of k o s))) (Err e) → (by_tests r w o).run ≡ false
    stops_by true w o e h = cc
    stops_by false true o e h = cc
    stops_by false false o e h = step_stops o e h

    pub fault_stops : s.run ≡ true → (e : CoreFault × ℕ) → told k s ≡ Err e → (tick k s d).run ≡ false
    fault_stops on e h = ap (λ x. (cond x (clocked k s d) s).run) on ∙ stops_by s.reset (ltb 0 (pause k s)) (k.step s.core s.words) e h

    keeps_reset : (o : Outcome k.P) → (stepped k o s (later_delays k s d)).reset ≡ s.reset
    keeps_reset (more p ws) = refl
    keeps_reset (done z p ws) = refl
    keeps_reset (failed c a) = refl

    calm_by : (r w : Bool) (o : Outcome k.P) → s.reset ≡ r → (by_tests r w o).reset ≡ false
    calm_by true w o e = refl
    calm_by false true o e = e
    calm_by false false o e = keeps_reset o ∙ e

    stays_calm : s.run ≡ true → (tick k s d).reset ≡ false
    stays_calm on = ap (λ x. (cond x (clocked k s d) s).reset) on ∙ calm_by s.reset (ltb 0 (pause k s)) (k.step s.core s.words) refl

  -- one clock more
  turn_on : (g : Going k.P) (b : Fed) (o : Option Fault) (d : Delays) → Short d → g.state.run ≡ true → g.state.reset ≡ false → Ties k f g.state (instructs k g.finished b) o → On (turn k g d) b o
  turn_on g b o d sd on re h = record {
    calm = stays_calm g.state d on;
    so = told_sofar (told k g.state) (tick k g.state d) g.finished b o (fault_stops g.state d on) (tick_ties k f g.state (instructs k g.finished b) o d h on re sd);
  }

  -- the reset is taken
  pub reset_ties : (s : State k.P) (b : Fed) (o : Option Fault) → s.run ≡ true → Ties k f s b o → Ties k f (after_reset k s) (reset_book b) o
  reset_ties s b o on h =
      let keeps = mid_keeps k f s b h.fit (h.going on) in
      let r = f.restarted s.core in
      let sees : seen k (k.restarted s.core) s.words ≡ with_pc b.book.visible 0
      = ap (λ x. record { pc = x; regs = k.regs (k.restarted s.core); words = s.words }) r.0
      ∙ ap (λ x. record { pc = 0; regs = x; words = s.words }) (r.1 ∙ keeps.0)
      ∙ ap (λ x. record { pc = 0; regs = b.book.visible.regs; words = x }) keeps.1 in
      let g = pc_fits b.book.visible h.fit 0 (omega arith) in
      record {
        short = h.short;
        fit = g;
        run = h.run;
        mark = h.mark;
        waiting = refl;
        finished = refl;
        stands = h.stands;
        unlost = h.unlost;
        clean = h.clean;
        going = λ _. fresh_mid k f (after_reset k s) (reset_book b) r.2 sees g refl (omega arith) (omega arith);
        still = λ off. absurd (true≢false (sym on ∙ off));
      }

  -- the clock that takes the reset
  pub tick_reset : (s : State k.P) (d : Delays) → s.run ≡ true → s.reset ≡ true → tick k s d ≡ after_reset k s
  tick_reset s d on re =
      ap (λ x. cond x (clocked k s d) s) on ∙ ap (λ x. cond x (after_reset k s) (cond (ltb 0 (pause k s)) (after_wait s (pause k s)) (stepped k (k.step s.core s.words) s (later_delays k s d)))) re

  pub told_reset : (s : State k.P) → s.reset ≡ true → told k s ≡ Ok false
  told_reset s re = ap (λ x. cond x (Ok false) (cond (ltb 0 (pause k s)) (Ok false) (told_of k (k.step s.core s.words) s))) re

  -- the first clock of a call takes a waiting reset
  first_on : (s : State k.P) (b : Fed) (o : Option Fault) (d : Delays) → Short d → s.run ≡ true → Ties k f s b o → On (turn k (begin s) d) (taken b) o
  first_on s b o d sd on h = by s.reset refl
    where
      by : (r : Bool) → s.reset ≡ r → On (turn k (begin s) d) (taken b) o
      by true re =
          let tb : taken b ≡ reset_book b = ap (λ v. cond v (reset_book b) b) (h.waiting ∙ re) in
          record {
            calm = stays_calm s d on;
            so = subst (λ x. Sofar (fault_in (told k s)) (tick k s d) (0 + ends (told k s)) x o) (sym tb)
                (subst (λ x. Sofar (fault_in (told k s)) x (0 + ends (told k s)) (reset_book b) o) (sym (tick_reset s d on re))
                (subst (λ x. Sofar (fault_in x) (after_reset k s) (0 + ends x) (reset_book b) o) (sym (told_reset s re)) (reset_ties s b o on h)));
          }
      by false re =
          let tb : taken b ≡ b = ap (λ v. cond v (reset_book b) b) (h.waiting ∙ re) in
          subst (λ x. On (turn k (begin s) d) x o) (sym tb) (turn_on (begin s) b o d sd on re h)

  -- another core or other words of a stopped machine, and what the book sees then
  set_ties : (s : State k.P) (b : Fed) (o : Option Fault) (t : State k.P) (v : Visible) →
      s.run ≡ false → t ≡ record { core = t.core; words = t.words; run = s.run; mark = s.mark; reset = s.reset; left = s.left; clocks = s.clocks; waits = s.waits; finished = s.finished; delays = t.delays } →
      Short t.delays → Fits v → k.time t.core ≡ 0 → k.regs t.core ≡ v.regs → t.words ≡ v.words → (s.mark ≡ false → k.pc t.core ≡ v.pc) → Ties k f s b o → Ties k f t (seeing b v) o
  set_ties s b o t v off e sd g tz er ew ep h =
      let st = h.still off in
      record {
        short = sd;
        fit = g;
        run = ap (λ x. x.run) e ∙ h.run;
        mark = ap (λ x. x.mark) e ∙ h.mark;
        waiting = h.waiting ∙ sym (ap (λ x. x.reset) e);
        finished = ap (λ x. x.finished) e ∙ h.finished;
        stands = h.stands;
        unlost = λ um. h.unlost (sym (ap (λ x. x.mark) e) ∙ um);
        clean = λ on. absurd (true≢false (sym on ∙ ap (λ x. x.run) e ∙ off));
        going = λ on. absurd (true≢false (sym on ∙ ap (λ x. x.run) e ∙ off));
        still = λ _. record {
          ready = tz;
          calm = ap (λ x. x.reset) e ∙ st.calm;
          regs = er;
          words = ew;
          pc = λ um. ep (sym (ap (λ x. x.mark) e) ∙ um);
          count = omega (arith, ap (λ x. x.clocks) e, ap (λ x. x.waits) e, st.count);
          slow = λ um. subst (λ x. x ≤ 255 * b.accesses) (sym (ap (λ x. x.waits) e)) (st.slow (sym (ap (λ x. x.mark) e) ∙ um));
        };
      }

  start_ties : (s : State k.P) (b : Fed) (o : Option Fault) → s.run ≡ false → Ties k f s b o → Ties k f (started k s) (started_book b) None
  start_ties s b o off h =
      let st = h.still off in
      let r = f.cleared s.core in
      let v : Visible = record { pc = 0; regs = zeros; words = b.book.visible.words } in
      let sees : seen k (k.cleared s.core) s.words ≡ record { pc = 0; regs = zeros; words = b.book.visible.words }
      = ap (λ x. record { pc = x; regs = k.regs (k.cleared s.core); words = s.words }) r.0
      ∙ ap (λ x. record { pc = 0; regs = x; words = s.words }) r.1
      ∙ ap (λ x. record { pc = 0; regs = zeros; words = x }) st.words in
      let g : Fits v = record { at = omega arith; small = zeros_small; held = h.fit.held } in
      record {
        short = h.short;
        fit = g;
        run = refl;
        mark = refl;
        waiting = h.waiting;
        finished = refl;
        stands = refl;
        unlost = λ _. refl;
        clean = λ _. refl;
        going = λ _. fresh_mid k f (started k s) (started_book b) r.2 sees g refl (omega arith) (omega arith);
        still = λ x. absurd (true≢false x);
      }

  resume_ties : (s : State k.P) (b : Fed) (o : Option Fault) → s.run ≡ false → s.mark ≡ false → Ties k f s b o → Ties k f (resumed k s) (resumed_book b) o
  resume_ties s b o off um h =
      let st = h.still off in
      let r = f.rewound s.core in
      let sees : seen k (k.rewound s.core) s.words ≡ b.book.visible
      = ap (λ x. record { pc = x; regs = k.regs (k.rewound s.core); words = s.words }) (r.0 ∙ st.pc um)
      ∙ ap (λ x. record { pc = b.book.visible.pc; regs = x; words = s.words }) (r.1 ∙ st.regs)
      ∙ ap (λ x. record { pc = b.book.visible.pc; regs = b.book.visible.regs; words = x }) st.words in
      record {
        short = h.short;
        fit = h.fit;
        run = refl;
        mark = h.mark;
        waiting = h.waiting;
        finished = refl;
        stands = h.stands;
        unlost = h.unlost;
        clean = λ _. um;
        going = λ _. fresh_mid k f (resumed k s) (resumed_book b) r.2 sees h.fit refl (omega arith) (omega arith);
        still = λ x. absurd (true≢false x);
      }

  wait_ties : (s : State k.P) (b : Fed) (o : Option Fault) → s.run ≡ true → Ties k f s b o → Ties k f (with_reset s) (waiting_book b) o
  wait_ties s b o on h =
      let m = h.going on in
      record {
        short = h.short;
        fit = h.fit;
        run = h.run;
        mark = h.mark;
        waiting = refl;
        finished = h.finished;
        stands = h.stands;
        unlost = h.unlost;
        clean = h.clean;
        going = λ _. record { first = m.first; ready = m.ready; same = m.same; j = m.j; at = m.at; below = m.below; count = m.count; pace = m.pace };
        still = λ off. absurd (true≢false (sym on ∙ off));
      }

  new_ties : (ws : List ℕ) (d : Delays) → Small ws → Short d → Ties k f (set_up k ws d) (new_book ws) None
  new_ties ws d l sd =
      let r = f.fresh in
      record {
        short = sd;
        fit = record { at = omega arith; small = zeros_small; held = l };
        run = refl;
        mark = refl;
        waiting = refl;
        finished = refl;
        stands = refl;
        unlost = λ _. refl;
        clean = λ _. refl;
        going = λ on. absurd (true≢false (sym on));
        still = λ _. record { ready = r.2; calm = refl; regs = r.1; words = refl; pc = λ _. r.0; count = omega arith; slow = λ _. omega arith };
      }

  module _ {X : Type 0} (delay : X → Delays) (bd : Bounded delay) where
    run_on_on : (xs : List X) (g : Going k.P) (b : Fed) (o : Option Fault) → On g b o → On (run_on k delay g xs) b o
    run_on_on [] g b o h = h
    run_on_on (x ∷ xs) g b o h = by g.state.run refl (λ y. run_on_on xs (turn k g (delay x)) b o y)
      where
        by : (r : Bool) → g.state.run ≡ r → (On (turn k g (delay x)) b o → On (run_on k delay (turn k g (delay x)) xs) b o) → On (cond r (run_on k delay (turn k g (delay x)) xs) g) b o
        by true on ih = ih (turn_on g b o (delay x) (bd x) on h.calm (unbroken g.fault g.state g.finished b o on h.so))
        by false on ih = h

    -- what the call answers tells the book what to do
    told_ties : (w : Option (CoreFault × ℕ)) (g : Going k.P) (b : Fed) (o : Option Fault) (n : ℕ) → Sofar w g.state g.finished (taken b) o →
        Ties k f g.state (feed k b (Clock n) (spent_or_fault (answer_with g w))) (stands_next o (Clock n) (spent_or_fault (answer_with g w)))
    told_ties None g b o n h = h
    told_ties (Some e) g b o n h = h.1

    spends_ties : (s : State k.P) (b : Fed) (o : Option Fault) (n : ℕ) (a : Result (ℕ × ℕ) MachineFault) (t : State k.P) (xs : List X) → s.run ≡ true → 0 < n → Ties k f s b o → Spends k delay s n a t xs →
        Ties k f t (feed k b (Clock n) (spent_or_fault a)) (stands_next o (Clock n) (spent_or_fault a))
    spends_ties s b o n a t [] on pos h sp = absurd (omega (arith, sp.whole (ap (λ x. x.run) sp.state ∙ on)))
    spends_ties s b o n a t (x ∷ xs) on pos h sp =
        let g = run_on k delay (turn k (begin s) (delay x)) xs in
        let one : run_on k delay (begin s) (x ∷ xs) ≡ g = ap (λ v. cond v (run_on k delay (turn k (begin s) (delay x)) xs) (begin s)) on in
        let end = run_on_on xs (turn k (begin s) (delay x)) (taken b) o (first_on s b o (delay x) (bd x) on h) in
        let tie = told_ties g.fault g b o n end.so in
        let st : t ≡ g.state = sp.state ∙ ap (λ y. y.state) one in
        let an : a ≡ answer_of g = sp.answer ∙ ap answer_of one in
        subst (λ y. Ties k f y (feed k b (Clock n) (spent_or_fault a)) (stands_next o (Clock n) (spent_or_fault a))) (sym st)
        (subst (λ y. Ties k f g.state (feed k b (Clock n) (spent_or_fault y)) (stands_next o (Clock n) (spent_or_fault y))) (sym an) tie)

    -- where a clock call is not refused, the machine runs and some clocks are wanted
    free : (x y z w : Bool) (e1 e2 e3 e4 : Refusal) → cond x (cond y (Some e1) (cond z (Some e2) (cond w (Some e3) None))) (Some e4) ≡ None → (x ≡ true) × (y ≡ false)
    free true true z w e1 e2 e3 e4 h = (cc, cc)
    free true false z w e1 e2 e3 e4 h = (refl, refl)
    free false y z w e1 e2 e3 e4 h = (cc, cc)

    clocks_ties : (w : Option Refusal) (s : State k.P) (b : Fed) (o : Option Fault) (n : ℕ) (r : Result (Result (ℕ × ℕ) MachineFault) Refusal) (t : State k.P) → clock_refusal s n ≡ w → Ties k f s b o → ClocksBy k w delay s n r t →
        Ties k f t (feed k b (Clock n) (clock_told r)) (stands_next o (Clock n) (clock_told r))
    clocks_ties (Some e) s b o n r t ref h c =
        subst (λ x. Ties k f x (feed k b (Clock n) (clock_told r)) (stands_next o (Clock n) (clock_told r))) (sym c.1)
        (subst (λ x. Ties k f s (feed k b (Clock n) (clock_told x)) (stands_next o (Clock n) (clock_told x))) (sym c.0) h)
    clocks_ties None s b o n r t ref h c =
        let is = free s.run (eqb n 0) (ltb 1000000 n) (ltb 1000000000000 (counted s + n)) (ClockCount n) (ClockCount n) (ClocksFull (counted s) n) Stopped ref in
        let nz = eqb-false n 0 is.1 in
        let pos : 0 < n = omega (arith, nz) in
        subst (λ x. Ties k f t (feed k b (Clock n) (clock_told x)) (stands_next o (Clock n) (clock_told x))) (sym c.1) (spends_ties s b o n c.0 t c.2.0 is.0 pos h c.2.1)

  -- the other calls, by the tests that they make
  module _ (s : State k.P) (b : Fed) (o : Option Fault) (h : Ties k f s b o) where
    abbrev Left : Call → State k.P → Result Unit Refusal → Type 0
    Left c t r = Ties k f t (feed k b c (plain r)) (stands_next o c (plain r))

    start_by : (v : Bool) → s.run ≡ v → Left Start (cond v s (started k s)) (cond v (Err Running) (Ok tt))
    start_by true e = h
    start_by false e = start_ties s b o e h

    resume_by : (v w : Bool) → s.run ≡ v → s.mark ≡ w → Left Resume (cond v s (cond w s (resumed k s))) (cond v (Err Running) (cond w (Err FaultMark) (Ok tt)))
    resume_by true w e m = h
    resume_by false true e m = h
    resume_by false false e m = resume_ties s b o e m h

    reset_by : (v : Bool) → s.run ≡ v → Left Reset (cond v (with_reset s) s) (cond v (Ok tt) (Err Stopped))
    reset_by true e = wait_ties s b o e h
    reset_by false e = h

    register_by : (v w : Bool) (i x : ℕ) → s.run ≡ v → Left (SetRegister i x) (cond v s (cond w (with_core s (k.with_register s.core i (word_value x))) s)) (cond v (Err Running) (cond w (Ok tt) (Err (NoRegister i))))
    register_by true w i x e = h
    register_by false false i x e = h
    register_by false true i x e =
        let st = h.still e in
        let r = f.with_register s.core i (word_value x) in
        set_ties s b o (with_core s (k.with_register s.core i (word_value x))) (with_register b.book.visible i (word_value x)) e refl h.short
        (register_fits b.book.visible h.fit i (word_value x) (omega arith)) (r.2 ∙ st.ready) (r.1 ∙ ap (λ y. set y i (word_value x)) st.regs) st.words (λ um. r.0 ∙ st.pc um) h

    words_by : (ws us : List ℕ) (d : Delays) → s.run ≡ false → Short d → Small us → ws ≡ us → Ties k f (with_words s ws d) (seeing b (record { pc = b.book.visible.pc; regs = b.book.visible.regs; words = us })) o
    words_by ws us d e sd l w =
        let st = h.still e in
        set_ties s b o (with_words s ws d) (record { pc = b.book.visible.pc; regs = b.book.visible.regs; words = us }) e refl sd
        (record { at = h.fit.at; small = h.fit.small; held = l }) st.ready st.regs w st.pc h

    word_by : (v w : Bool) (n x : ℕ) (d : Delays) → s.run ≡ v → Short d →
        Left (SetWord n x) (cond v s (cond w (with_words s (set s.words n (word_value x)) d) s)) (cond v (Err Running) (cond w (Ok tt) (Err (NoWord (fault_of s.words n)))))
    word_by true w n x d e sd = h
    word_by false false n x d e sd = h
    word_by false true n x d e sd =
        words_by (set s.words n (word_value x)) (set b.book.visible.words n (word_value x)) d e sd (set_small b.book.visible.words n (word_value x) h.fit.held (omega arith)) (ap (λ y. set y n (word_value x)) (h.still e).words)

    image_by : (r : Result Unit ImageRefusal) (i : Bor (List ℕ)) (d : Delays) → s.run ≡ false → Short d → Left (Load i) (image_state r s (with_words s (words_loaded s.words i.now) d)) (image_answer r)
    image_by (Err e) i d off sd = h
    image_by (Ok u) i d off sd =
        words_by (words_loaded s.words i.now) (words_loaded b.book.visible.words i.now) d off sd
        (image_small b.book.visible.words i.now h.fit.held) (ap (λ y. words_loaded y i.now) (h.still off).words)

    load_by : (v : Bool) (i : Bor (List ℕ)) (d : Delays) → s.run ≡ v → Short d →
        Left (Load i) (cond v s (image_state (load_of (length s.words) i.now) s (with_words s (words_loaded s.words i.now) d))) (cond v (Err Running) (image_answer (load_of (length s.words) i.now)))
    load_by true i d e sd = h
    load_by false i d e sd = image_by (load_of (length s.words) i.now) i d e sd

  moved : (s t : State k.P) (a r : Answer) (b : Fed) (o : Option Fault) (c : Call) → a ≡ r → t ≡ s → Ties k f s (feed k b c r) (stands_next o c r) → Ties k f t (feed k b c a) (stands_next o c a)
  moved s t a r b o c ea et h = subst (λ x. Ties k f x (feed k b c a) (stands_next o c a)) (sym et) (subst (λ x. Ties k f s (feed k b c x) (stands_next o c x)) (sym ea) h)

  module _ {X : Type 0} (delay : X → Delays) (bd : Bounded delay) where
    pub does_ties : (c : Call) (s : State k.P) (a : Answer) (t : State k.P) (b : Fed) (o : Option Fault) → Ties k f s b o → Does k delay s c a t → Ties k f t (feed k b c a) (stands_next o c a)
    does_ties Start s a t b o h x = moved (start_state k s) t a (plain (start_answer s)) b o Start x.0 x.1 (start_by s b o h s.run refl)
    does_ties Resume s a t b o h x = moved (resume_state k s) t a (plain (resume_answer s)) b o Resume x.0 x.1 (resume_by s b o h s.run s.mark refl refl)
    does_ties Reset s a t b o h x = moved (reset_state s) t a (plain (reset_answer s)) b o Reset x.0 x.1 (reset_by s b o h s.run refl)
    does_ties (SetRegister i v) s a t b o h x = moved (register_state k s i v) t a (plain (register_answer s i)) b o (SetRegister i v) x.0 x.1 (register_by s b o h s.run (ltb i 32) i v refl)
    does_ties (SetWord n v) s a t b o h x =
        moved (word_state s n v (delay x.1.0)) t a (plain (word_answer s n)) b o (SetWord n v) x.0 x.1.1 (word_by s b o h s.run (ltb n (length s.words)) n v (delay x.1.0) refl (bd x.1.0))
    does_ties (Load i) s a t b o h x = moved (load_state s i.now (delay x.1.0)) t a (plain (load_answer s i.now)) b o (Load i) x.0 x.1.1 (load_by s b o h s.run i (delay x.1.0) refl (bd x.1.0))
    does_ties (Clock n) s a t b o h x =
        subst (λ y. Ties k f t (feed k b (Clock n) y) (stands_next o (Clock n) y)) (sym x.1) (clocks_ties delay bd (clock_refusal s n) s b o n x.0 t refl h x.2)

    leads_ties : (ps : List Turn) (s t : State k.P) (b : Fed) (o : Option Fault) → Ties k f s b o → Leads k delay s ps t → Ties k f t (fed k b ps) (standing o ps)
    leads_ties [] s t b o h e = subst (λ x. Ties k f x b o) (sym e) h
    leads_ties (p ∷ ps) s t b o h l = leads_ties ps l.0 t (feed k b p.call p.answer) (stands_next o p.call p.answer) (does_ties p.call s p.answer l.0 b o h l.1) l.2

    pub comes_ties : (ws : List ℕ) (x : X) (ps : List Turn) (t : State k.P) → Small ws → Leads k delay (set_up k ws (delay x)) ps t → Ties k f t (fed k (new_book ws) ps) (standing None ps)
    comes_ties ws x ps t l c = leads_ties ps (set_up k ws (delay x)) t (new_book ws) None (new_ties ws (delay x) l (bd x)) c

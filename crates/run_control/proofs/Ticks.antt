-- One clock keeps the machine and the book together. Assumes nothing.
use Rattle.std.proofs.Common.{◌≡◌, ℕ, suc, ◌+◌, ◌-◌, ◌*◌, ◌/◌, ◌%◌, ◌<◌, ◌≤◌, Bool, true, false, cond, eqb, ltb, List, length, Some, None, Ok, Err, Option, Result, sym, refl, ap, ◌∙◌, subst, arith}
use native.Mathlib.Decide.{dec_lt}
use Rattle.std.proofs.lemmas.Bool.{true≢false, ltb-true}
use Rattle.isa.specs.Book.{Visible, Cause, After, instruction}
use Rattle.isa.specs.Book.After.{next, fault}
use Rattle.onebus.specs.declared.fault.CoreFault.{CoreFault}
use Rattle.onebus.specs.Faults.{cause_of}
use Rattle.rows.specs.Runs.{Fits}
use Rattle.run_control.specs.Core.{Core, CoreFacts, Refined, Outcome, and_then, steps, seen, Quiet, Same}
use Rattle.run_control.specs.Core.Outcome.{more, done, failed}
use Rattle.run_control.specs.State.{State, Delays, due, delay_at, pause, after_wait, after_more, after_end, after_reset, after_fault, stepped, later_delays, clocked, tick, told_of, told, core_fault}
use Rattle.run_control.specs.Feeding.{Fed, Fault, done_one, instruct}
use Rattle.run_control.proofs.Fits.{Keeps, keeps}

-- at most 255, whatever the word
abbrev pub Short : Delays → Type 0
Short d = (n : ℕ) → d n ≤ 255

-- what a wait under way may still add to the waits: w says whether the step is a Wait step, and A counts the accesses before it
abbrev pub Pace : Option ℕ → Bool → ℕ → ℕ → Type 0
Pace None w waits A = waits ≤ 255 * A
Pace (Some n) w waits A = (w ≡ true) × (waits + n ≤ 255 * A + 255)

pace_due : (l : Option ℕ) (w : Bool) (d waits A : ℕ) → d ≤ 255 → Pace l w waits A → waits + cond w (due l d) 0 ≤ 255 * (A + cond w 1 0)
pace_due None true d waits A le h = omega arith
pace_due None false d waits A le h = omega arith
pace_due (Some n) true d waits A le h = omega (arith, h.1)
pace_due (Some n) false d waits A le h = absurd (true≢false (sym h.0))

paced : (l : Option ℕ) (w : Bool) (d waits A : ℕ) → d ≤ 255 → Pace l w waits A → 0 < cond w (due l d) 0 → Pace (Some (cond w (due l d) 0 - 1)) w (waits + 1) A
paced l true d waits A le h pos = (refl, omega (arith, pace_due l true d waits A le h))
paced l false d waits A le h pos = absurd (omega arith)

delay_short : (a : ℕ) (ws : List ℕ) (d : Delays) → Short d → delay_at a ws d ≤ 255
delay_short a ws d h = by (eqb (a % 4) 0) (ltb (a / 4) (length ws))
  where
    by : (x y : Bool) → cond x (cond y (d (a / 4)) 0) 0 ≤ 255
    by true true = h (a / 4)
    by true false = omega arith
    by false y = omega arith

-- the fault that a clock tells, as the book has it
abbrev pub fault_of_clock : CoreFault × ℕ → Fault
fault_of_clock e = record { cause = e.0.cause; address = e.0.address; instruction = e.1 }

module _ (k : Core) (f : CoreFacts k) where
  -- while it runs: the core and the words in which the instruction under way began, and the j steps of it that are done
  pub record Mid (s : State k.P) (b : Fed) : Type 0 where
    pub first : k.P
    pub ready : k.time first ≡ 0
    pub same : seen k first b.book.visible.words ≡ b.book.visible
    pub j : ℕ
    pub at : steps k j first b.book.visible.words ≡ more s.core s.words
    pub below : j < k.clocks b.book.visible
    pub count : s.clocks ≡ b.clocks + s.waits + j
    pub pace : Pace s.left (k.waits s.core) s.waits (b.accesses + k.accesses b.book.visible j)

  -- while it is stopped
  pub record Still (s : State k.P) (b : Fed) : Type 0 where
    pub ready : k.time s.core ≡ 0
    pub calm : s.reset ≡ false
    pub regs : k.regs s.core ≡ b.book.visible.regs
    pub words : s.words ≡ b.book.visible.words
    pub pc : s.mark ≡ false → k.pc s.core ≡ b.book.visible.pc
    pub count : s.clocks ≡ b.clocks + s.waits + b.lost
    pub slow : s.mark ≡ false → s.waits ≤ 255 * b.accesses

  -- the machine s, the book b, and the fault o that was told and stands
  pub record Ties (s : State k.P) (b : Fed) (o : Option Fault) : Type 0 where
    pub short : Short s.delays
    pub fit : Fits b.book.visible
    pub run : s.run ≡ b.book.run
    pub mark : s.mark ≡ b.book.mark
    pub waiting : b.waiting ≡ s.reset
    pub finished : s.finished ≡ b.finished
    pub stands : o ≡ b.fault
    pub unlost : s.mark ≡ false → b.lost ≡ 0
    -- a machine that runs has no mark
    pub clean : s.run ≡ true → s.mark ≡ false
    pub going : s.run ≡ true → Mid s b
    pub still : s.run ≡ false → Still s b

  pub refined : (p : k.P) (v : Visible) → k.time p ≡ 0 → seen k p v.words ≡ v → Fits v → Refined k p v.words
  refined p v r e g = f.refined p v.words r (subst Fits (sym e) g)

  -- an instruction has a clock
  pub some_clocks : (p : k.P) (v : Visible) → k.time p ≡ 0 → seen k p v.words ≡ v → Fits v → 0 < k.clocks v
  some_clocks p v r e g = subst (λ x. 0 < k.clocks x) e (go (k.clocks (seen k p v.words)) (refined p v r e g).after)
    where
      go : (n : ℕ) → Same k (steps k n p v.words) (instruction (seen k p v.words)) → 0 < n
      go ℕ.zero q = absurd q
      go (ℕ.suc n) q = omega arith

  -- the start of an instruction
  pub fresh_mid : (s : State k.P) (b : Fed) → k.time s.core ≡ 0 → seen k s.core s.words ≡ b.book.visible → Fits b.book.visible → s.left ≡ None → s.clocks ≡ b.clocks + s.waits → s.waits ≤ 255 * b.accesses → Mid s b
  fresh_mid s b r e g l c w =
      let ws : s.words ≡ b.book.visible.words = ap (λ x. x.words) e in
      let same : seen k s.core b.book.visible.words ≡ b.book.visible = subst (λ x. seen k s.core x ≡ b.book.visible) ws e in
      record {
        first = s.core;
        ready = r;
        same = same;
        j = 0;
        at = ap (λ x. more s.core x) (sym ws);
        below = some_clocks s.core b.book.visible r same g;
        count = omega arith;
        pace = subst (λ x. Pace x (k.waits s.core) s.waits (b.accesses + k.accesses b.book.visible 0)) (sym l) (omega arith);
      }

  module _ (s : State k.P) (b : Fed) (g : Fits b.book.visible) (m : Mid s b) where
    rf : Refined k m.first b.book.visible.words
    rf = refined m.first b.book.visible m.ready m.same g

    below_seen : m.j < k.clocks (seen k m.first b.book.visible.words)
    below_seen = subst (λ x. m.j < k.clocks x) (sym m.same) m.below

    -- registers and words within an instruction
    pub mid_keeps : (k.regs s.core ≡ b.book.visible.regs) × (s.words ≡ b.book.visible.words)
    mid_keeps =
        let q = subst (λ o. Quiet k (seen k m.first b.book.visible.words) o) m.at (rf.before m.j below_seen) in
        (q.0 ∙ ap (λ x. x.regs) m.same, q.1)

    -- the waits, with the step at hand
    pub mid_slow : Short s.delays → s.waits ≤ 255 * (b.accesses + k.accesses b.book.visible (suc m.j))
    mid_slow h =
        let up = pace_due s.left (k.waits s.core) (delay_at (k.address s.core) s.words s.delays) s.waits (b.accesses + k.accesses b.book.visible m.j) (delay_short _ s.words s.delays h) m.pace in
        let more_of = subst (λ x. k.accesses x m.j + cond (k.waits s.core) 1 0 ≤ k.accesses x (suc m.j)) m.same (rf.counted m.j s.core s.words (below_seen, m.at)) in
        omega (arith, up, more_of)

    -- and by the step T
    pub mid_slow_at : Short s.delays → s.waits ≤ 255 * (b.accesses + k.accesses b.book.visible (suc (k.time s.core)))
    mid_slow_at h =
        let by = subst (λ x. k.accesses x (suc m.j) ≤ k.accesses x (suc (k.time s.core))) m.same (rf.by_time m.j s.core s.words (below_seen, m.at)) in
        omega (arith, mid_slow h, by)

    -- a clock that only waits
    pub wait_mid : Short s.delays → 0 < pause k s → Mid (after_wait s (pause k s)) b
    wait_mid h pos = record {
      first = m.first;
      ready = m.ready;
      same = m.same;
      j = m.j;
      at = m.at;
      below = m.below;
      count = omega (arith, m.count);
      pace = paced s.left (k.waits s.core) (delay_at (k.address s.core) s.words s.delays) s.waits (b.accesses + k.accesses b.book.visible m.j) (delay_short _ s.words s.delays h) m.pace pos;
    }

    one_more : (o : Outcome k.P) → k.step s.core s.words ≡ o → steps k (suc m.j) m.first b.book.visible.words ≡ o
    one_more o e = ap (λ x. and_then x k.step) m.at ∙ e

    not_yet : (o : Outcome k.P) → k.step s.core s.words ≡ o → suc m.j < k.clocks b.book.visible → Quiet k (seen k m.first b.book.visible.words) o
    not_yet o e l = subst (λ x. Quiet k (seen k m.first b.book.visible.words) x) (one_more o e) (rf.before (suc m.j) (subst (λ x. suc m.j < k.clocks x) (sym m.same) l))

    at_end : (o : Outcome k.P) → k.step s.core s.words ≡ o → k.clocks b.book.visible ≡ suc m.j → Same k o (instruction b.book.visible)
    at_end o e l =
        let a : Same k (steps k (k.clocks b.book.visible) m.first b.book.visible.words) (instruction b.book.visible)
        = subst (λ x. Same k (steps k (k.clocks x) m.first b.book.visible.words) (instruction x)) m.same rf.after in
        subst (λ x. Same k x (instruction b.book.visible)) (ap (λ i. steps k i m.first b.book.visible.words) l ∙ one_more o e) a

    tight : ¬ (suc m.j < k.clocks b.book.visible) → k.clocks b.book.visible ≡ suc m.j
    tight n = let l = m.below in omega arith

    later : (p : k.P) (ws : List ℕ) → k.step s.core s.words ≡ more p ws → Dec (suc m.j < k.clocks b.book.visible) → suc m.j < k.clocks b.book.visible
    later p ws e (yes l) = l
    later p ws e (no n) = absurd (at_end (more p ws) e (tight n))

    at_last : (o : Outcome k.P) → (Quiet k (seen k m.first b.book.visible.words) o → ⊥) → k.step s.core s.words ≡ o → Dec (suc m.j < k.clocks b.book.visible) → k.clocks b.book.visible ≡ suc m.j
    at_last o q e (yes l) = absurd (q (not_yet o e l))
    at_last o q e (no n) = tight n

    -- a step within the instruction
    pub more_mid : (p : k.P) (ws : List ℕ) (d : Delays) → Short s.delays → k.step s.core s.words ≡ more p ws → Mid (after_more p ws s d) b
    more_mid p ws d h e = record {
      first = m.first;
      ready = m.ready;
      same = m.same;
      j = suc m.j;
      at = one_more (more p ws) e;
      below = later p ws e (dec_lt (suc m.j) (k.clocks b.book.visible));
      count = omega (arith, m.count);
      pace = mid_slow h;
    }

    -- where the last step leads, and how the counts stand then
    pub record Last (o : Outcome k.P) : Type 0 where
      pub same : Same k o (instruction b.book.visible)
      pub count : s.clocks + 1 ≡ b.clocks + k.clocks b.book.visible + s.waits
      pub slow : s.waits ≤ 255 * (b.accesses + k.accesses b.book.visible (k.clocks b.book.visible))

    pub last : (o : Outcome k.P) → Short s.delays → (Quiet k (seen k m.first b.book.visible.words) o → ⊥) → k.step s.core s.words ≡ o → Last o
    last o h q e =
        let l = at_last o q e (dec_lt (suc m.j) (k.clocks b.book.visible)) in
        record {
          same = at_end o e l;
          count = omega (arith, m.count, l);
          slow = subst (λ i. s.waits ≤ 255 * (b.accesses + k.accesses b.book.visible i)) (sym l) (mid_slow h);
        }

    pub fetched : (c : Cause) (a : ℕ) → k.step s.core s.words ≡ failed c a → k.origin s.core ≡ b.book.visible.pc
    fetched c a e = rf.fetched_at m.j s.core s.words c a (below_seen, m.at) e ∙ ap (λ x. x.pc) m.same

  -- what a clock tells decides what the book does, and which fault stands
  abbrev pub told_book : Result Bool (CoreFault × ℕ) → Fed → Fed
  told_book (Ok b) x = cond b (instruct k x) x
  told_book (Err e) x = instruct k x

  abbrev pub told_stands : Result Bool (CoreFault × ℕ) → Option Fault → Option Fault
  told_stands (Ok b) o = o
  told_stands (Err e) o = Some (fault_of_clock e)

  instruct_on : (b : Fed) → b.book.run ≡ true → instruct k b ≡ done_one k (instruction b.book.visible) b
  instruct_on b e = ap (λ x. cond x (done_one k (instruction b.book.visible) b) b) e

  module _ (s : State k.P) (b : Fed) (o : Option Fault) (d : Delays) (h : Ties s b o) (on : s.run ≡ true) (calm : s.reset ≡ false) (sd : Short d) where
    m : Mid s b
    m = h.going on

    -- a clock within the instruction
    goes_on : (t : State k.P) → Short t.delays → t.run ≡ s.run → t.mark ≡ s.mark → t.reset ≡ s.reset → t.finished ≡ s.finished → Mid t b → Ties t b o
    goes_on t sh r mk re fin mid = record {
      short = sh;
      fit = h.fit;
      run = r ∙ h.run;
      mark = mk ∙ h.mark;
      waiting = h.waiting ∙ sym re;
      finished = fin ∙ h.finished;
      stands = h.stands;
      unlost = λ um. h.unlost (sym mk ∙ um);
      clean = λ _. mk ∙ h.clean on;
      going = λ _. mid;
      still = λ off. absurd (true≢false (sym on ∙ sym r ∙ off));
    }

    -- the last step
    land_done : (z : Bool) (p : k.P) (ws : List ℕ) (r : After) → Same k (done z p ws) r → Keeps b.book.visible r →
        s.clocks + 1 ≡ b.clocks + k.clocks b.book.visible + s.waits →
        s.waits ≤ 255 * (b.accesses + k.accesses b.book.visible (k.clocks b.book.visible)) →
        Ties (after_end z p ws s d) (done_one k r b) o
    land_done z p ws (fault c a v) q g ct sl = absurd q
    land_done z p ws (next z' v) q g ct sl = record {
      short = sd;
      fit = g;
      run = ap (λ x. cond x false s.run) q.0 ∙ ap (λ x. cond z' false x) h.run;
      mark = h.mark;
      waiting = h.waiting;
      finished = ap (λ n. n + 1) h.finished;
      stands = h.stands;
      unlost = h.unlost;
      clean = λ _. h.clean on;
      going = λ _. fresh_mid (after_end z p ws s d) (done_one k (next z' v) b) q.2 q.1 g refl ct sl;
      still = λ _. record {
        ready = q.2;
        calm = calm;
        regs = ap (λ x. x.regs) q.1;
        words = ap (λ x. x.words) q.1;
        pc = λ _. ap (λ x. x.pc) q.1;
        count = omega (arith, h.unlost (h.clean on), ct);
        slow = λ _. sl;
      };
    }

    land_failed : (c : Cause) (a : ℕ) (r : After) → Same k (failed c a) r → Keeps b.book.visible r → k.origin s.core ≡ b.book.visible.pc →
        s.clocks + 1 ≡ b.clocks + k.clocks b.book.visible + s.waits →
        Ties (after_fault k s) (done_one k r b) (Some (fault_of_clock (core_fault k s c a, k.origin s.core)))
    land_failed c a (next z v) q g from ct = absurd q
    land_failed c a (fault c' a' v) q g from ct =
        let keep = mid_keeps s b h.fit m in
        let back = f.rewound s.core in
        record {
          short = h.short;
          fit = g.0;
          run = refl;
          mark = refl;
          waiting = h.waiting;
          finished = h.finished;
          stands = ap Some (ap (λ x. record { cause = cause_of x a s.words; address = a; instruction = k.origin s.core }) q.0
              ∙ ap (λ x. record { cause = cause_of c' x s.words; address = x; instruction = k.origin s.core }) q.1
              ∙ ap (λ x. record { cause = cause_of c' a' x; address = a'; instruction = k.origin s.core }) keep.1
              ∙ ap (λ x. record { cause = cause_of c' a' b.book.visible.words; address = a'; instruction = x }) from);
          unlost = λ off. absurd (true≢false off);
          clean = λ on'. absurd (true≢false (sym on'));
          going = λ on'. absurd (true≢false (sym on'));
          still = λ _. record {
            ready = back.2;
            calm = calm;
            regs = back.1 ∙ keep.0 ∙ sym g.1;
            words = keep.1 ∙ sym g.2;
            pc = λ off. absurd (true≢false off);
            count = omega (arith, ct);
            slow = λ off. absurd (true≢false off);
          };
        }

    by_step : (r : Outcome k.P) → k.step s.core s.words ≡ r → Ties (stepped k r s d) (told_book (told_of k r s) b) (told_stands (told_of k r s) o)
    by_step (more p ws) e = goes_on (after_more p ws s d) sd refl refl refl refl (more_mid s b h.fit m p ws d h.short e)
    by_step (done z p ws) e =
        let l = last s b h.fit m (done z p ws) h.short (λ q. q) e in
        subst (λ x. Ties (after_end z p ws s d) x o) (sym (instruct_on b (sym h.run ∙ on)))
        (land_done z p ws (instruction b.book.visible) l.same (keeps b.book.visible h.fit) l.count l.slow)
    by_step (failed c a) e =
        let l = last s b h.fit m (failed c a) h.short (λ q. q) e in
        subst (λ x. Ties (after_fault k s) x (Some (fault_of_clock (core_fault k s c a, k.origin s.core)))) (sym (instruct_on b (sym h.run ∙ on)))
        (land_failed c a (instruction b.book.visible) l.same (keeps b.book.visible h.fit) (fetched s b h.fit m c a e) l.count)

  module _ (s : State k.P) (b : Fed) (o : Option Fault) (d : Delays) (h : Ties s b o) (on : s.run ≡ true) (calm : s.reset ≡ false) (sd : Short d) where
    short_by : (w : Bool) → Short (cond w d s.delays)
    short_by true = sd
    short_by false = h.short

    abbrev clock_state : Bool → State k.P
    clock_state w = cond w (after_wait s (pause k s)) (stepped k (k.step s.core s.words) s (later_delays k s d))

    abbrev clock_told : Bool → Result Bool (CoreFault × ℕ)
    clock_told w = cond w (Ok false) (told_of k (k.step s.core s.words) s)

    by_wait : (w : Bool) → ltb 0 (pause k s) ≡ w → Ties (clock_state w) (told_book (clock_told w) b) (told_stands (clock_told w) o)
    by_wait true e = goes_on s b o d h on calm sd (after_wait s (pause k s)) h.short refl refl refl refl (wait_mid s b h.fit (h.going on) h.short (ltb-true 0 (pause k s) e))
    by_wait false e = by_step s b o (later_delays k s d) h on calm (short_by (k.waits s.core)) (k.step s.core s.words) refl

    -- one clock, with no reset waiting
    pub tick_ties : Ties (tick k s d) (told_book (told k s) b) (told_stands (told k s) o)
    tick_ties =
        let at : tick k s d ≡ clock_state (ltb 0 (pause k s))
        = ap (λ x. cond x (clocked k s d) s) on ∙ ap (λ x. cond x (after_reset k s) (clock_state (ltb 0 (pause k s)))) calm in
        let says : told k s ≡ clock_told (ltb 0 (pause k s)) = ap (λ x. cond x (Ok false) (clock_told (ltb 0 (pause k s)))) calm in
        subst (λ x. Ties x (told_book (told k s) b) (told_stands (told k s) o)) (sym at)
        (subst (λ x. Ties (clock_state (ltb 0 (pause k s))) (told_book x b) (told_stands x o)) (sym says) (by_wait (ltb 0 (pause k s)) refl))

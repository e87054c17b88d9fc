-- After every list of calls the machine agrees with the book; machines keep pace; a reset leaves whole instructions. Assumes nothing.
use Rattle.std.proofs.Common.{◌≡◌, ℕ, suc, ◌+◌, Bool, true, false, cond, ltb, List, [], ◌∷◌, ◌++◌, Some, None, Ok, Result, sym, refl, ap, ◌∙◌, subst, add-one, arith}
use Rattle.std.proofs.lemmas.Bool.{true≢false}
use Rattle.isa.specs.Book.{After, instruction}
use Rattle.isa.specs.Book.After.{next, fault}
use Rattle.run_control.specs.declared.faults.MachineFault.{MachineFault}
use Rattle.run_control.specs.declared.refusals.Refusal.TheVariants.{Stopped, ClocksFull}
use Rattle.run_control.specs.declared.calls.Call.{Call}
use Rattle.run_control.specs.declared.calls.Call.TheVariants.{Start, Clock}
use Rattle.run_control.specs.declared.calls.Answer.{Answer}
use Rattle.run_control.specs.declared.calls.Answer.TheVariants.{Done, Refused, Spent, Faulted}
use Rattle.run_control.specs.declared.calls.Turn.{Turn}
use Rattle.run_control.specs.Core.{Core, CoreFacts, Outcome, Small, seen, steps, and_then}
use Rattle.run_control.specs.Core.Outcome.{more, done, failed}
use Rattle.run_control.specs.State.{State, Delays, begin, turn, run_on, told, answer_of, ends, fault_in, after_reset}
use Rattle.run_control.specs.Calls.{set_up, with_reset, counted, clock_refusal, Spends, ClocksBy}
use Rattle.run_control.specs.Feeding.{Fed, new_book, started_book, reset_book, taken, done_one, instruct, instructs, feed, fed, standing}
use Rattle.run_control.specs.Whole.{clock_told, spent_or_fault, Bounded, OnlyClocked, StartedThenClocked, Agrees, Does, Leads, Comes, Follows, Carries, KeepsPace, Paced, any_delay, ResetsLeaveWholeInstructions, EveryCoreFollows}
use Rattle.run_control.proofs.Ticks.{Ties, mid_keeps, mid_slow_at}
use Rattle.run_control.proofs.Follow.{comes_ties, tick_reset, told_reset}

module _ (k : Core) (f : CoreFacts k) where
  abbrev core_in : k.P → Outcome k.P → k.P
  core_in y (more p ws) = p
  core_in y (done z p ws) = y
  core_in y (failed c a) = y

  abbrev IsMore : Outcome k.P → Type 0
  IsMore (more p ws) = Unit {0}
  IsMore (done z p ws) = ⊥
  IsMore (failed c a) = ⊥

  no_more : (o : Outcome k.P) (q : k.P) (us : List ℕ) → (IsMore o → ⊥) → o ≡ more q us → ⊥
  no_more o q us n e = n (subst IsMore (sym e) tt)

  -- within an instruction the step is not 0
  zero_by : (o : Outcome k.P) (q : k.P) (us : List ℕ) → and_then o k.step ≡ more q us → k.time q ≡ 0 → ⊥
  zero_by (more p ws) q us h z = f.moves p q ws us h z
  zero_by (done y p ws) q us h z = no_more (done y p ws) q us (λ n. n) h
  zero_by (failed c a) q us h z = no_more (failed c a) q us (λ n. n) h

  zero_steps : (p q : k.P) (ws us : List ℕ) (j : ℕ) → steps k j p ws ≡ more q us → k.time q ≡ 0 → (j ≡ 0) × (q ≡ p)
  zero_steps p q ws us ℕ.zero e z = (refl, sym (ap (core_in p) e))
  zero_steps p q ws us (ℕ.suc j) e z = absurd (zero_by (steps k j p ws) q us e z)

  agrees_on : (s : State k.P) (ps : List Turn) (b : Fed) → s.run ≡ true → Ties k f s b (standing None ps) → Agrees k s ps b
  agrees_on s ps b on h =
      let m = h.going on in
      let keeps = mid_keeps k f s b h.fit m in
      record {
        registers = keeps.0;
        words = keeps.1;
        run = h.run;
        mark = h.mark;
        reset = sym h.waiting;
        finished = h.finished;
        fault = h.stands;
        pc = λ z _.
            let is = zero_steps m.first s.core b.book.visible.words s.words m.j m.at z in
            ap (λ x. k.pc x) is.1 ∙ ap (λ x. x.pc) m.same;
        exact = λ z _.
            let is = zero_steps m.first s.core b.book.visible.words s.words m.j m.at z in
            omega (arith, m.count, is.0);
        faulted = λ marked. absurd (true≢false (sym marked ∙ h.clean on));
        waited = omega (arith, m.count);
        least = omega (arith, m.count);
        most = λ _. omega (arith, m.count, m.below);
        slow = λ _. mid_slow_at k f s b h.fit m h.short;
        slow_still = λ off _. absurd (true≢false (sym on ∙ off));
        still = λ off. absurd (true≢false (sym on ∙ off));
      }

  agrees_off : (s : State k.P) (ps : List Turn) (b : Fed) → s.run ≡ false → Ties k f s b (standing None ps) → Agrees k s ps b
  agrees_off s ps b off h =
      let st = h.still off in
      record {
        registers = st.regs;
        words = st.words;
        run = h.run;
        mark = h.mark;
        reset = sym h.waiting;
        finished = h.finished;
        fault = h.stands;
        pc = λ _ um. st.pc um;
        exact = λ _ um. omega (arith, st.count, h.unlost um);
        faulted = λ _. omega (arith, st.count);
        waited = omega (arith, st.count);
        least = omega (arith, st.count);
        most = λ on. absurd (true≢false (sym on ∙ off));
        slow = λ on. absurd (true≢false (sym on ∙ off));
        slow_still = λ _ um. st.slow um;
        still = λ _. (st.ready, st.calm);
      }

  agrees : (x : Bool) (s : State k.P) (ps : List Turn) (b : Fed) → s.run ≡ x → Ties k f s b (standing None ps) → Agrees k s ps b
  agrees true s ps b e h = agrees_on s ps b e h
  agrees false s ps b e h = agrees_off s ps b e h

  module _ {X : Type 0} (delay : X → Delays) (bd : Bounded delay) where
    -- every list of calls
    pub follows : Follows k delay
    follows ws x ps t l c = agrees t.run t ps (fed k (new_book ws) ps) refl (comes_ties k f delay bd ws x ps t l c)

    -- one turn more at the end
    pub leads_more : (ps : List Turn) (p : Turn) (s t u : State k.P) → Leads k delay s ps t → Does k delay t p.call p.answer u → Leads k delay s (ps ++ p ∷ []) u
    leads_more [] p s t u l x = (u, subst (λ y. Does k delay y p.call p.answer u) l x, refl)
    leads_more (q ∷ ps) p s t u l x = (l.0, l.1, leads_more ps p l.0 t u l.2 x)

    pub carries : (s : State k.P) (c : Call) (a : Answer) (t : State k.P) → Does k delay s c a t → Carries k delay s c a t
    carries s c a t x ws y ps l h =
        let more = leads_more ps (record { call = c; answer = a }) (set_up k ws (delay y)) s t h x in
        (more, follows ws y (ps ++ record { call = c; answer = a } ∷ []) t l more)

  -- instructions of the book one after another
  instruct_off : (b : Fed) → b.book.run ≡ false → instruct k b ≡ b
  instruct_off b e = ap (λ x. cond x (done_one k (instruction b.book.visible) b) b) e

  instruct_on : (b : Fed) → b.book.run ≡ true → instruct k b ≡ done_one k (instruction b.book.visible) b
  instruct_on b e = ap (λ x. cond x (done_one k (instruction b.book.visible) b) b) e

  instructs_more : (m n : ℕ) (b : Fed) → instructs k m (instructs k n b) ≡ instructs k (m + n) b
  instructs_more ℕ.zero n b = let e : n ≡ 0 + n = omega arith in ap (λ i. instructs k i b) e
  instructs_more (ℕ.suc m) n b = let e : suc (m + n) ≡ suc m + n = omega arith in ap (instruct k) (instructs_more m n b) ∙ ap (λ i. instructs k i b) e

  waits_on : (r : After) (b : Fed) → (done_one k r b).waiting ≡ b.waiting
  waits_on (next z v) b = refl
  waits_on (fault c a v) b = refl

  waits_by : (x : Bool) (b : Fed) → (cond x (done_one k (instruction b.book.visible) b) b).waiting ≡ b.waiting
  waits_by true b = waits_on (instruction b.book.visible) b
  waits_by false b = refl

  instructs_waiting : (n : ℕ) (b : Fed) → (instructs k n b).waiting ≡ b.waiting
  instructs_waiting ℕ.zero b = refl
  instructs_waiting (ℕ.suc n) b = waits_by (instructs k n b).book.run (instructs k n b) ∙ instructs_waiting n b

  -- an unmarked book that began at 0 has done as many instructions as it has finished
  one_finished : (r : After) (c : Fed) → (done_one k r c).book.mark ≡ false → ((done_one k r c).finished ≡ suc c.finished) × (c.book.mark ≡ false)
  one_finished (next z v) c um = (add-one c.finished, um)
  one_finished (fault e a v) c um = absurd (true≢false um)

  counted_one : (x : Bool) (c b : Fed) → c.book.run ≡ x → (c.book.mark ≡ false → c ≡ instructs k c.finished b) → (instruct k c).book.mark ≡ false → instruct k c ≡ instructs k (instruct k c).finished b
  counted_one true c b e ih um =
      let one = instruct_on c e in
      let is = one_finished (instruction c.book.visible) c (sym (ap (λ x. x.book.mark) one) ∙ um) in
      ap (instruct k) (ih is.1) ∙ ap (λ i. instructs k i b) (sym (ap (λ x. x.finished) one ∙ is.0))
  counted_one false c b e ih um =
      let none = instruct_off c e in
      none ∙ ih (sym (ap (λ x. x.book.mark) none) ∙ um) ∙ ap (λ i. instructs k i b) (sym (ap (λ x. x.finished) none))

  counted_all : (n : ℕ) (b : Fed) → b.finished ≡ 0 → (instructs k n b).book.mark ≡ false → instructs k n b ≡ instructs k (instructs k n b).finished b
  counted_all ℕ.zero b z um = ap (λ i. instructs k i b) (sym z)
  counted_all (ℕ.suc n) b z um = counted_one (instructs k n b).book.run (instructs k n b) b refl (λ c. counted_all n b z c) um

  -- clock calls do instructions and nothing else
  taken_calm : (b : Fed) → b.waiting ≡ false → taken b ≡ b
  taken_calm b e = ap (λ x. cond x (reset_book b) b) e

  fed_clock : (a : Answer) (n : ℕ) (b : Fed) → b.waiting ≡ false → (m : ℕ) × (feed k b (Clock n) a ≡ instructs k m b)
  fed_clock Done n b e = (0, refl)
  fed_clock (Refused x) n b e = (0, refl)
  fed_clock (Spent s i) n b e = (i, ap (instructs k i) (taken_calm b e))
  fed_clock (Faulted x) n b e = (suc x.finished, ap (λ y. instruct k (instructs k x.finished y)) (taken_calm b e))

  fed_clocked : (ps : List Turn) (b : Fed) → b.waiting ≡ false → OnlyClocked ps → (m : ℕ) × (fed k b ps ≡ instructs k m b)
  fed_clocked [] b e o = (0, refl)
  fed_clocked (p ∷ ps) b e o =
      let one = fed_clock p.answer o.0.0 b e in
      let is : feed k b p.call p.answer ≡ instructs k one.0 b = ap (λ x. feed k b x p.answer) o.0.1 ∙ one.1 in
      let rest = fed_clocked ps (instructs k one.0 b) (instructs_waiting one.0 b ∙ e) o.1 in
      (rest.0 + one.0, ap (λ x. fed k x ps) is ∙ rest.1 ∙ instructs_more rest.0 one.0 b)

  module _ {X : Type 0} (delay : X → Delays) where
    -- a new machine is started, so the book is
    first_fed : (ws : List ℕ) (x : X) (p : Turn) (m : State k.P) → p.call ≡ Start → Does k delay (set_up k ws (delay x)) p.call p.answer m → feed k (new_book ws) p.call p.answer ≡ started_book (new_book ws)
    first_fed ws x p m e d =
        let is : Does k delay (set_up k ws (delay x)) Start p.answer m = subst (λ c. Does k delay (set_up k ws (delay x)) c p.answer m) e d in
        ap (λ c. feed k (new_book ws) c p.answer) e ∙ ap (feed k (new_book ws) Start) is.0

    -- the book of a machine that is started once and then clocked, by the instructions that it has finished
    pub started_fed : (ws : List ℕ) (x : X) (ps : List Turn) (t : State k.P) → Comes k delay ws x ps t → StartedThenClocked ps → (fed k (new_book ws) ps).book.mark ≡ false →
        fed k (new_book ws) ps ≡ instructs k (fed k (new_book ws) ps).finished (started_book (new_book ws))
    started_fed ws x [] t c o um = absurd o
    started_fed ws x (p ∷ ps) t c o um =
        let one = first_fed ws x p c.0 o.0 c.1 in
        let all = fed_clocked ps (started_book (new_book ws)) refl o.1 in
        let is : fed k (new_book ws) (p ∷ ps) ≡ instructs k all.0 (started_book (new_book ws)) = ap (λ b. fed k b ps) one ∙ all.1 in
        let clean = sym (ap (λ b. b.book.mark) is) ∙ um in
        is ∙ counted_all all.0 (started_book (new_book ws)) refl clean ∙ ap (λ b. instructs k b.finished (started_book (new_book ws))) (sym is)

  -- what the program sees, where the book agrees
  seen_same : (s : State k.P) (ps : List Turn) (b : Fed) → Agrees k s ps b → k.time s.core ≡ 0 → s.mark ≡ false → seen k s.core s.words ≡ b.book.visible
  seen_same s ps b h z um =
      ap (λ x. record { pc = x; regs = k.regs s.core; words = s.words }) (h.pc z um)
      ∙ ap (λ x. record { pc = b.book.visible.pc; regs = x; words = s.words }) h.registers
      ∙ ap (λ x. record { pc = b.book.visible.pc; regs = b.book.visible.regs; words = x }) h.words

  pub keeps_pace : {X Y : Type 0} (delay : X → Delays) (delay' : Y → Delays) → Bounded delay → Bounded delay' → KeepsPace k delay delay'
  keeps_pace delay delay' bd bd' ws x y ps qs s t l c c' o o' z z' um um' n =
      let h = follows delay bd ws x ps s l c in
      let h' = follows delay' bd' ws y qs t l c' in
      let b = started_fed delay ws x ps s c o (sym h.mark ∙ um) in
      let b' = started_fed delay' ws y qs t c' o' (sym h'.mark ∙ um') in
      let same : fed k (new_book ws) ps ≡ fed k (new_book ws) qs
      = b ∙ ap (λ i. instructs k i (started_book (new_book ws))) (sym h.finished ∙ n ∙ h'.finished) ∙ sym b' in
      record {
        clocks = h.exact z um ∙ ap (λ w. w.clocks) same ∙ sym (h'.exact z' um');
        visible = seen_same s ps _ h z um ∙ ap (λ w. w.book.visible) same ∙ sym (seen_same t qs _ h' z' um');
        run = h.run ∙ ap (λ w. w.book.run) same ∙ sym h'.run;
      }

  pub paced : {X : Type 0} (delay : X → Delays) → Bounded delay → (ws : List ℕ) (x : X) (ps : List Turn) (s : State k.P) → Small ws → Comes k delay ws x ps s → Paced k ws ps s
  paced delay bd ws x ps s l c y qs t c' = keeps_pace delay any_delay bd (λ d. d.few) ws x y ps qs s t l c c'

  -- a reset that waits, and one clock
  module _ {X : Type 0} (delay : X → Delays) (m : State k.P) (on : m.run ≡ true) (re : m.reset ≡ true) where
    one_clock : (x : X) → run_on k delay (begin m) (x ∷ []) ≡ record { state = after_reset k m; spent = 1; finished = 0; fault = None }
    one_clock x =
        ap (λ v. cond v (turn k (begin m) (delay x)) (begin m)) on
        ∙ ap (λ y. record { state = y; spent = 1; finished = 0 + ends (told k m); fault = fault_in (told k m) }) (tick_reset k f m (delay x) on re)
        ∙ ap (λ y. record { state = after_reset k m; spent = 1; finished = 0 + ends y; fault = fault_in y }) (told_reset k f m re)

    spends_one : (xs : List X) (a : Result (ℕ × ℕ) MachineFault) (t : State k.P) → Spends k delay m 1 a t xs → (a ≡ Ok (1, 0)) × (t ≡ after_reset k m)
    spends_one [] a t sp = absurd (omega (arith, sp.whole (ap (λ x. x.run) sp.state ∙ on)))
    spends_one (x ∷ []) a t sp = (sp.answer ∙ ap answer_of (one_clock x), sp.state ∙ ap (λ g. g.state) (one_clock x))
    spends_one (x ∷ (y ∷ xs)) a t sp = absurd (omega (arith, sp.within))

    unrefused : clock_refusal m 1 ≡ None
    unrefused =
        ap (λ v. cond v (cond (ltb 1000000000000 (counted m + 1)) (Some (ClocksFull (counted m) 1)) None) (Some Stopped)) on
        ∙ ap (λ v. cond (ltb 1000000000000 (cond v 0 m.clocks + 1)) (Some (ClocksFull (cond v 0 m.clocks) 1)) None) re

    pub takes_reset : (b : Answer) (t : State k.P) → Does k delay m (Clock 1) b t → (b ≡ Spent 1 0) × (t ≡ after_reset k m)
    takes_reset b t d =
        let c = subst (λ w. ClocksBy k w delay m 1 d.0 t) unrefused d.2 in
        let is = spends_one c.2.0 c.0 t c.2.1 in
        (d.1 ∙ ap clock_told c.1 ∙ ap spent_or_fault is.0, is.1)

  pub resets_leave_whole_instructions : {X : Type 0} (delay : X → Delays) → Bounded delay → ResetsLeaveWholeInstructions k delay
  resets_leave_whole_instructions delay bd ws x ps s m t a b l c on r d =
      let h = follows delay bd ws x ps s l c in
      let waits : m ≡ with_reset s = r.1 ∙ ap (λ v. cond v (with_reset s) s) on in
      let took = takes_reset delay m (ap (λ y. y.run) waits ∙ on) (ap (λ y. y.reset) waits) b t d in
      let is : t ≡ after_reset k (with_reset s) = took.1 ∙ ap (after_reset k) waits in
      let back = f.restarted s.core in (
        took.0,
        record {
          registers = ap (λ y. k.regs y.core) is ∙ back.1 ∙ h.registers;
          words = ap (λ y. y.words) is ∙ h.words;
          run = ap (λ y. y.run) is ∙ on;
          pc = ap (λ y. k.pc y.core) is ∙ back.0;
          time = ap (λ y. k.time y.core) is ∙ back.2;
          counts = (ap (λ y. y.clocks) is, ap (λ y. y.waits) is, ap (λ y. y.finished) is);
        },
      )

pub every_core_follows : EveryCoreFollows
every_core_follows k f X delay bd = follows k f delay bd

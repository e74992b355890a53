-- No two transitions of a run print one number of a transaction.
use Rattle.std.proofs.Common.{◌≡◌, ℕ, ◌+◌, ◌<◌, Some, Option, List, [], ◌∷◌, ◌++◌, length, refl, sym, ap, subst, ◌∙◌}
use Rattle.std.specs.Prelude.{get_or, option_to_list}
use Rattle.std.specs.List.{Contains}
use Rattle.std.proofs.lemmas.List.{append-nil, append_assoc, get_or-set_same}
use Rattle.pv_base.specs.declared.txn.TxnId.{TxnId}
use Rattle.pv_format.specs.Contents.{greatest_epoch}
use Rattle.pv_format.specs.Record.{Record}
use Rattle.pv_law_acts.proofs.NumberLemmas.{next-unpassed, given-passed}
use Rattle.pv_law_acts.proofs.PassedLemmas.{passed-later}
use Rattle.pv_law_acts.proofs.SiteLemmas.{up-within}
use Rattle.pv_law_acts.specs.Acts.{Acts, no_act}
use Rattle.pv_law_acts.specs.Seen.{records_at, memory_at, IsPassed, IsNumberPassed, next_txn_in}
use Rattle.pv_law_answers.proofs.AnswerLemmas.{gives-sites, completed-records}
use Rattle.pv_law_answers.proofs.BeginNotes.{IsBeginning, begin-noted}
use Rattle.pv_law_answers.proofs.LineLemmas.{come-ends, line-noted}
use Rattle.pv_law_answers.proofs.RunLemmas.{follows-there, is-transition, noted-there}
use Rattle.pv_law_answers.specs.Numbers.{TxnsAreNew}
use Rattle.pv_law_answers.proofs.Origin.{IsNoted}
use Rattle.pv_law_events.proofs.EventActs.{then-acts, IsKnown}
use Rattle.pv_law_events.proofs.RunActs.{AreKnown}
use Rattle.pv_law_world.proofs.AppendLemmas.{world_after-append}
use Rattle.pv_law_world.proofs.DisarmLemmas.{site-disarmed}
use Rattle.pv_law_world.specs.Sites.{AreEpochsRecorded}
use Rattle.pv_law_world.specs.Transitions.{AreTransitions}
use Rattle.pv_protocol.specs.Anywhere.{MayFollow, IsRunWithFaults}
use Rattle.pv_protocol.specs.Arms.{completed}
use Rattle.pv_protocol.specs.Attempt.{Attempt, begun, of_step}
use Rattle.pv_protocol.specs.Here.{Here}
use Rattle.pv_protocol.specs.Lines.{Line, line_of}
use Rattle.pv_protocol.specs.Lock.{next_txn, beginning}
use Rattle.pv_protocol.specs.Run.{world_after}
use Rattle.pv_protocol.specs.State.{Setup, Arm, Running, Site, Step, Note, began, committed, refused, full, spent}
use Rattle.pv_protocol.specs.Step.{step_on}
use Rattle.pv_protocol.specs.World.{World, no_site}
use Rattle.pv_protocol.specs.WorldStep.{Transition}

-- A note that prints a transaction's number is that it has begun.
pub began-of : (n : ℕ) (note : Note) (t : TxnId) → line_of n note ≡ Line.txn t → note ≡ began t
began-of n (began u) t is = let own : u ≡ t = cc in ap began own
began-of n (committed u replies) t is = absurd (let wrong : ⊥ = cc in wrong)
began-of n (refused u cause) t is = absurd (let wrong : ⊥ = cc in wrong)
began-of n (full bytes) t is = absurd (let wrong : ⊥ = cc in wrong)
began-of n spent t is = absurd (let wrong : ⊥ = cc in wrong)

-- The site that has made its step.
completed-site : (found : World) (n : ℕ) (arm : Option Arm) (attempt : Attempt) → n < length found.sites → memory_at (completed found n attempt arm) n ≡ attempt.running
completed-site found n arm attempt within = ap (λ (s : Site). s.running) (get_or-set_same found.sites n _ no_site within)

-- The number is new in this transition, and then it is passed.
pub record IsGiven (world after : World) (txn : TxnId) : Type 0 where
  pub unpassed : IsPassed world txn → ⊥
  pub passed : IsPassed after txn

module _ (setup : Setup) (world : World) (transition : Transition) (txn : TxnId) (left : World) (noted : IsNoted setup world transition.event (Line.txn txn) left)
    (records : (n : ℕ) → records_at transition.world n ≡ records_at left n) (memories : (n : ℕ) → memory_at transition.world n ≡ memory_at left n) (recorded : AreEpochsRecorded world) where
  abbrev here : Here
  here = record { me = noted.n; setup = setup; records = records_at world noted.n; surplus = 0; running = noted.running }

  begins : IsBeginning here noted.input txn
  begins = begin-noted here txn noted.input (subst (Contains (step_on here noted.input).notes) (began-of noted.n noted.note txn noted.printed) noted.noted)

  abbrev step : Step
  step = step_on here noted.input

  same-sites : noted.found.sites ≡ world.sites
  same-sites = gives-sites world transition.event noted.n noted.input noted.found noted.gives

  within : noted.n < length noted.found.sites
  within = subst (λ (all : List Site). noted.n < length all) (sym same-sites) (up-within world noted.n noted.running noted.up)

  after-memory : memory_at transition.world noted.n ≡ Some (beginning here begins.program (next_txn here)).running
  after-memory =
      memories noted.n ∙ ap (λ w. memory_at w noted.n) noted.whole ∙ completed-site noted.found noted.n noted.arm (of_step noted.n step) within
      ∙ ap (λ (s : Step). Some s.running) begins.step

  after-records : records_at transition.world noted.n ≡ records_at world noted.n
  after-records =
      records noted.n ∙ ap (λ w. records_at w noted.n) noted.whole ∙ completed-records noted.found noted.n noted.arm (of_step noted.n step) within
      ∙ ap (λ (all : List Site). (get_or all noted.n no_site).records ++ option_to_list step.appended) same-sites
      ∙ ap (λ (s : Step). records_at world noted.n ++ option_to_list s.appended) begins.step
      ∙ append-nil (records_at world noted.n)

  epoch : noted.running.epoch ≡ greatest_epoch (records_at world noted.n)
  epoch = recorded noted.n noted.running noted.up

  next-new : IsPassed world (next_txn here) → ⊥
  next-new passed =
      next-unpassed (records_at world noted.n) noted.running.next_txn
      (subst (λ e. IsNumberPassed (records_at world noted.n) (Some noted.running.next_txn) e noted.running.next_txn) epoch
      (subst (λ (memory : Option Running). IsNumberPassed (records_at world noted.n) (next_txn_in memory) noted.running.epoch noted.running.next_txn) noted.up passed))

  next-given : IsPassed transition.world (next_txn here)
  next-given =
      subst (λ (memory : Option Running). IsNumberPassed (records_at transition.world noted.n) (next_txn_in memory) noted.running.epoch noted.running.next_txn) (sym after-memory)
      (subst (λ (rs : List Record). IsNumberPassed rs (Some (noted.running.next_txn + 1)) noted.running.epoch noted.running.next_txn) (sym after-records)
      (subst (λ e. IsNumberPassed (records_at world noted.n) (Some (noted.running.next_txn + 1)) e noted.running.next_txn) (sym epoch)
      (given-passed (records_at world noted.n) noted.running.next_txn)))

  is-given : IsGiven world transition.world txn
  is-given = record {
    unpassed = λ passed. next-new (subst (IsPassed world) begins.own passed);
    passed = subst (IsPassed transition.world) (sym begins.own) next-given;
  }

module _ (setup : Setup) where
  -- A run from one of its worlds on.

  known-along : (w : World) (before rest : List Transition) → AreKnown setup w (before ++ rest) → Acts setup w (world_after w before) × AreKnown setup (world_after w before) rest
  known-along w [] rest known = (no_act w, known)
  known-along w (t ∷ before) rest known =
      let on = known-along t.world before rest known.1 in (then-acts setup w t.world (world_after t.world before) known.0.1 on.0, on.1)

  -- What each transition gives: a number that it prints.
  abbrev pub Giving : World → List Transition → Type 0
  Giving w all = (before : List Transition) (t : Transition) (after : List Transition) → all ≡ before ++ t ∷ after → IsKnown setup (world_after w before)
      → (txn : TxnId) → Contains t.lines (Line.txn txn) → IsGiven (world_after w before) t.world txn

  pub any-giving : (w : World) (all : List Transition) → IsRunWithFaults setup w all → Giving w all
  any-giving w all run before t after split known txn listed =
      let now = world_after w before in
      let follows : MayFollow setup now t = follows-there setup w before t after (subst (IsRunWithFaults setup w) split run) in
      is-given setup now t txn follows.left
      (line-noted setup now (Line.txn txn) tt t.event t.lines follows.left (come-ends (begun setup now t.event) t.lines follows.left follows.comes) listed)
      (λ n. ap (λ w. records_at w n) follows.after ∙ ap (λ (s : Site). s.records) (site-disarmed follows.left n))
      (λ n. ap (λ w. memory_at w n) follows.after ∙ ap (λ (s : Site). s.running) (site-disarmed follows.left n))
      known.recorded

  pub run-giving : (w : World) (all : List Transition) → AreTransitions setup w all → Giving w all
  run-giving w all are before t after split known txn listed =
      let now = world_after w before in
      let is = is-transition setup w before t after (subst (AreTransitions setup w) split are) in
      is-given setup now t txn t.world (noted-there setup now t (Line.txn txn) is tt listed) (λ n. refl) (λ n. refl) known.recorded

  pub txns-new : (w : World) (all : List Transition) → AreKnown setup w all → Giving w all → TxnsAreNew all
  txns-new w all known giving before between after first second split txn printed again =
      let start = known-along w before (first ∷ (between ++ second ∷ after)) (subst (AreKnown setup w) split known) in
      let given = giving before first (between ++ second ∷ after) split start.1.0.0 txn printed in
      let on = known-along first.world between (second ∷ after) start.1.1 in
      let longer = before ++ first ∷ between in
      let at : world_after w longer ≡ world_after first.world between = world_after-append w before (first ∷ between) in
      let known_there : IsKnown setup (world_after w longer) = subst (IsKnown setup) (sym at) on.1.0.0 in
      let next = giving longer second after (split ∙ sym (append_assoc before (first ∷ between) (second ∷ after))) known_there txn again in
      next.unpassed (subst (λ u. IsPassed u txn) (sym at) (passed-later setup txn first.world (world_after first.world between) on.0 given.passed))

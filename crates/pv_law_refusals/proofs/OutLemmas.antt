-- A refused transaction is dead, and so it is out for ever.
use Rattle.std.proofs.Common.{◌≡◌, ⊎_elim, ℕ, ◌<◌, Some, Option, List, [], ◌∷◌, ◌++◌, map, length, sym, ap, subst, ◌∙◌}
use Rattle.std.specs.Prelude.{All, option_to_list, get_or}
use Rattle.std.specs.List.{Contains, list_any}
use Rattle.std.proofs.lemmas.List.{append-nil, append_assoc, get_or-set_same}
use Rattle.std.proofs.lemmas.List.Elements.{All-contains}
use Rattle.pv_base.proofs.ContainsLemmas.{Contains-cases}
use Rattle.pv_base.specs.declared.txn.TxnId.{TxnId}
use Rattle.pv_law_acts.proofs.PassedLemmas.{passed-later}
use Rattle.pv_law_acts.proofs.SiteLemmas.{up-within}
use Rattle.pv_law_acts.specs.Acts.{Acts}
use Rattle.pv_law_acts.specs.Seen.{records_at, memory_at, work_in, WorksAgeless, IsDead}
use Rattle.pv_law_answers.proofs.AnswerLemmas.{gives-sites, completed-records}
use Rattle.pv_law_answers.proofs.RefusalNotes.{Refuses, refusal-noted, Drops, refusal-drops}
use Rattle.pv_law_answers.proofs.RunLemmas.{worlds-cut}
use Rattle.pv_law_answers.proofs.Origin.{IsNoted}
use Rattle.pv_law_events.specs.Reached.{AreReached}
use Rattle.pv_law_outcomes.proofs.DecidedLemmas.{IsSettled, always-settled}
use Rattle.pv_law_outcomes.proofs.OutcomeLemmas.{dead-out, dead-after, settled-after}
use Rattle.pv_law_step.proofs.Lists.{all-from}
use Rattle.pv_law_world.specs.Sites.{AreMemoriesInOrder}
use Rattle.pv_protocol.specs.Arms.{completed}
use Rattle.pv_protocol.specs.Attempt.{Attempt, of_step}
use Rattle.pv_protocol.specs.Committed.{home_of, says_yes}
use Rattle.pv_protocol.specs.Here.{Here}
use Rattle.pv_protocol.specs.Lines.{Line, line_of}
use Rattle.pv_protocol.specs.Outcomes.{IsOut}
use Rattle.pv_protocol.specs.Run.{world_after, worlds_of}
use Rattle.pv_protocol.specs.State.{Setup, Arm, Site, Cause, Note, began, committed, refused, full, spent}
use Rattle.pv_protocol.specs.Step.{step_on}
use Rattle.pv_protocol.specs.World.{World, no_site, opening}
use Rattle.pv_protocol.specs.WorldStep.{Transition}

-- A note that prints a refusal is one.
pub refusal-of : (n : ℕ) (note : Note) (t : TxnId) (cause : Cause) → line_of n note ≡ Line.refuse t cause → note ≡ refused t cause
refusal-of n (began u) t cause is = absurd (let wrong : ⊥ = cc in wrong)
refusal-of n (committed u replies) t cause is = absurd (let wrong : ⊥ = cc in wrong)
refusal-of n (refused u other) t cause is = let own : u ≡ t = cc in let why : other ≡ cause = cc in λ i. refused (own i) (why i)
refusal-of n (full bytes) t cause is = absurd (let wrong : ⊥ = cc in wrong)
refusal-of n spent t cause is = absurd (let wrong : ⊥ = cc in wrong)

-- The memory of the site that has made its step.
completed-memory : (found : World) (n : ℕ) (arm : Option Arm) (attempt : Attempt) → n < length found.sites → memory_at (completed found n attempt arm) n ≡ attempt.running
completed-memory found n arm attempt within = ap (λ (s : Site). s.running) (get_or-set_same found.sites n _ no_site within)

module _ (setup : Setup) (world : World) (transition : Transition) (txn : TxnId) (cause : Cause) (left : World) (noted : IsNoted setup world transition.event (Line.refuse txn cause) left)
    (same_records : (n : ℕ) → records_at transition.world n ≡ records_at left n) (same_memory : (n : ℕ) → memory_at transition.world n ≡ memory_at left n) (ordered : AreMemoriesInOrder world)
    (settled : IsSettled setup world) (goes : Acts setup world transition.world) where
  abbrev pub here : Here
  here = record { me = noted.n; setup = setup; records = records_at world noted.n; surplus = 0; running = noted.running }

  pub refuses : Refuses here txn noted.input cause
  refuses = refusal-noted here txn cause noted.input (subst (Contains (step_on here noted.input).notes) (refusal-of noted.n noted.note txn cause noted.printed) noted.noted)

  drops : Drops here txn noted.input
  drops = refusal-drops here txn (ordered noted.n noted.running noted.up) noted.input cause refuses

  works : WorksAgeless world noted.n txn drops.entry
  works = ap (λ m. work_in m txn) noted.up ∙ drops.was

  pub home : home_of txn ≡ noted.n
  home = (settled.sound.passed.entries noted.n txn drops.entry works).home

  sites : noted.found.sites ≡ world.sites
  sites = gives-sites world transition.event noted.n noted.input noted.found noted.gives

  within : noted.n < length noted.found.sites
  within = subst (λ (all : List Site). noted.n < length all) (sym sites) (up-within world noted.n noted.running noted.up)

  records-stay : records_at transition.world noted.n ≡ records_at world noted.n
  records-stay =
      same_records noted.n
      ∙ ap (λ w. records_at w noted.n) noted.whole
      ∙ completed-records noted.found noted.n noted.arm (of_step noted.n (step_on here noted.input)) within
      ∙ ap (λ (all : List Site). (get_or all noted.n no_site).records ++ option_to_list (step_on here noted.input).appended) sites
      ∙ ap (λ o. records_at world noted.n ++ option_to_list o) drops.silent
      ∙ append-nil (records_at world noted.n)

  memory-then : memory_at transition.world noted.n ≡ Some (step_on here noted.input).running
  memory-then = same_memory noted.n ∙ ap (λ w. memory_at w noted.n) noted.whole ∙ completed-memory noted.found noted.n noted.arm (of_step noted.n (step_on here noted.input)) within

  -- A refused transaction is dead.
  pub refused-dead : IsDead transition.world txn
  refused-dead = record {
    passed = passed-later setup txn world transition.world goes (settled.sound.passed.entries noted.n txn drops.entry works).passed;
    idle = ap (λ m. work_in (memory_at transition.world m) txn) home ∙ ap (λ memory. work_in memory txn) memory-then ∙ drops.gone;
    uncommitted =
        ap (λ rs. list_any (says_yes txn) rs) (ap (records_at transition.world) home ∙ records-stay ∙ ap (records_at world) (sym home))
        ∙ settled.decided.working noted.n txn drops.entry works;
  }

-- A dead transaction of a run is out in each later world.
pub out-later : (setup : Setup) (earlier : List Transition) (t : Transition) (later : List Transition) → AreReached setup (worlds_of (opening setup) (earlier ++ t ∷ later))
    → (txn : TxnId) → IsDead t.world txn → All (IsOut txn) (worlds_of t.world later)
out-later setup earlier t later reached txn dead =
    let cut = worlds-cut (opening setup) earlier t later in
    let rest = map (λ (t : Transition). t.world) later in
    let now = world_after (opening setup) earlier in
    let at = reached (cut.0 ++ now ∷ []) rest t.world (cut.1 ∙ sym (append_assoc cut.0 (now ∷ []) (t.world ∷ rest))) in
    let settled = always-settled setup t.world at.0 in
    all-from (IsOut txn) (t.world ∷ rest) (λ w h. ⊎_elim
    (λ same. subst (IsOut txn) same (dead-out setup t.world settled txn dead))
    (λ behind. let acts = All-contains (Acts setup t.world) rest w at.1 behind in
    dead-out setup w (settled-after setup t.world w acts settled) txn (dead-after setup txn t.world w acts settled dead))
    (Contains-cases t.world rest w h))

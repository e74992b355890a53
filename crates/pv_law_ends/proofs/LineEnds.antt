-- A transition that prints how a transaction ends is one of its own site, which worked on it and does so no more; and it prints no transaction's end twice.
use Rattle.std.proofs.Common.{◌≡◌, ◌⊎◌, inl, inr, ℕ, ◌<◌, Some, None, Option, List, [], ◌∷◌, map, length, refl, sym, ap, subst, ◌∙◌, arith}
use Rattle.std.specs.Prelude.{slice_index_or}
use Rattle.std.specs.List.{AllPairs, Contains}
use Rattle.std.proofs.lemmas.List.{get_or-set_same}
use Rattle.std.proofs.lemmas.List.Elements.{All-contains_itself}
use Rattle.std.proofs.lemmas.Option.{none-some}
use Rattle.pv_base.proofs.OrderLemmas.{pairs-map}
use Rattle.pv_base.specs.declared.txn.TxnId.{TxnId}
use Rattle.pv_format.specs.Message.{Envelope}
use Rattle.pv_law_acts.proofs.PassedLemmas.{passed-later}
use Rattle.pv_law_acts.proofs.SiteLemmas.{up-within}
use Rattle.pv_law_acts.specs.Acts.{Acts}
use Rattle.pv_law_acts.specs.Passed.{IsEntryPassed}
use Rattle.pv_law_acts.specs.Seen.{IsPassed, WorksAgeless, memory_at, records_at, work_in}
use Rattle.pv_law_answers.proofs.AnswerLemmas.{gives-sites}
use Rattle.pv_law_answers.proofs.LineLemmas.{line-noted}
use Rattle.pv_law_answers.proofs.Origin.{Ends, Gives, IsNoted, IsTxnLine, broken, delivery, request, time, whole}
use Rattle.pv_law_ends.proofs.Pairs.{pairs-one}
use Rattle.pv_law_ends.proofs.StepEnds.{Closes, closes-noted}
use Rattle.pv_law_ends.specs.Ends.{TellOtherEnds, TellsEnd}
use Rattle.pv_law_events.proofs.EventActs.{IsKnown}
use Rattle.pv_law_outcomes.proofs.DecidedLemmas.{IsSettled}
use Rattle.pv_law_outcomes.proofs.OutcomeLemmas.{settled-after}
use Rattle.pv_law_world.specs.Transitions.{receiver_of, site_of}
use Rattle.pv_model.specs.Events.{Event}
use Rattle.pv_protocol.specs.Arms.{broken_line}
use Rattle.pv_protocol.specs.Attempt.{attempts, begun, delivered, given, of_step}
use Rattle.pv_protocol.specs.Committed.{home_of}
use Rattle.pv_protocol.specs.Here.{Here}
use Rattle.pv_protocol.specs.Lines.{Line, line_of}
use Rattle.pv_protocol.specs.State.{Entry, Input, Note, Running, Setup, Site, Step, submit, receive, tick}
use Rattle.pv_protocol.specs.Step.{site_step, step_on}
use Rattle.pv_protocol.specs.World.{World, no_site, site_at, with_done}
use Rattle.pv_protocol.specs.WorldStep.{Transition}

-- ## Where a line is of
-- What tells how a transaction ends says what becomes of it.
ends-decides : (txn : TxnId) (line : Line) → TellsEnd txn line → IsTxnLine line
ends-decides txn (Line.commit ended replies) tells = tt
ends-decides txn (Line.refuse ended cause) tells = tt
ends-decides txn (Line.txn begun) never = absurd never
ends-decides txn (Line.full site length) never = absurd never
ends-decides txn (Line.spent site) never = absurd never
ends-decides txn (Line.down site) never = absurd never
ends-decides txn (Line.up site) never = absurd never
ends-decides txn (Line.stopped site) never = absurd never
ends-decides txn (Line.fault site) never = absurd never
ends-decides txn (Line.started site epoch) never = absurd never
ends-decides txn (Line.no_message number) never = absurd never
ends-decides txn (Line.sent number from to kind other) never = absurd never
ends-decides txn (Line.order txns) never = absurd never
ends-decides txn (Line.committed txns) never = absurd never
ends-decides txn (Line.open_ones txns) never = absurd never
ends-decides txn (Line.item item value) never = absurd never
ends-decides txn (Line.item_locked item holder) never = absurd never
ends-decides txn (Line.item_down item) never = absurd never
ends-decides txn Line.end never = absurd never
ends-decides txn (Line.total sums) never = absurd never
ends-decides txn (Line.total_locked item) never = absurd never
ends-decides txn (Line.total_down site) never = absurd never
ends-decides txn (Line.total_limit names) never = absurd never

-- An event is of the site that it gives something to do.
gives-site : (world : World) (event : Event) (n : ℕ) (input : Input) (found : World) → Gives world event n input found → site_of world event ≡ Some n
gives-site world _ _ _ _ (request n query text program) = refl
gives-site world _ _ _ _ (delivery number envelope there) = ap receiver_of there
gives-site world _ _ _ _ (time n) = refl

-- The lines are those of the notes, or there is one line.
abbrev AreNoted : ℕ → List Note → List Line → Type 0
AreNoted n notes lines = (lines ≡ map (line_of n) notes) ⊎ ((one : Line) × (lines ≡ one ∷ []))

module _ (setup : Setup) (world : World) where
  step-lines : (found : World) (n : ℕ) (step : Step) (lines : List Line) (left : World) → Ends (attempts found n (of_step n step)) lines left → AreNoted n step.notes lines
  step-lines found n step _ _ (whole found' n' attempt' arm) = inl refl
  step-lines found n step _ _ (broken found' after' n' attempt' stops) = inr (broken_line n stops, refl)

  given-lines : (found : World) (n : ℕ) (input : Input) (running : Running) (lines : List Line) (left : World) → (site_at found n).running ≡ Some running
      → Ends (given setup found n input (site_at found n).running) lines left → AreNoted n (site_step setup n (site_at found n).records running input).notes lines
  given-lines found n input running lines left up ends =
      step-lines found n (site_step setup n (site_at found n).records running input) lines left
      (subst (λ (memory : Option Running). Ends (given setup found n input memory) lines left) up ends)

  -- What a site that is up is given to do prints what it notes, or one line.
  noted-lines : (event : Event) (n : ℕ) (input : Input) (found : World) → Gives world event n input found → (running : Running) → (site_at world n).running ≡ Some running
      → (lines : List Line) (left : World) → Ends (begun setup world event) lines left → AreNoted n (site_step setup n (site_at world n).records running input).notes lines
  unfolding begun
  noted-lines _ _ _ _ (request n query text program) running up lines left ends = given-lines world n (submit program) running lines left up ends
  noted-lines _ _ _ _ (delivery number envelope there) running up lines left ends =
      given-lines (with_done world number) envelope.to (receive envelope.from envelope.message) running lines left up
      (subst (λ (found : Option Envelope). Ends (delivered setup world number found) lines left) there ends)
  noted-lines _ _ _ _ (time n) running up lines left ends = given-lines world n tick running lines left up ends

-- ## A transition
-- The number is passed, and no site works on the transaction.
pub record HasEnded (world : World) (txn : TxnId) : Type 0 where
  pub passed : IsPassed world txn
  pub idle : (n : ℕ) (entry : Entry) → WorksAgeless world n txn entry → ⊥

-- The transaction ends in the transition: its site, whose transition it is, worked on it, and none does afterwards.
pub record EndsIn (world : World) (transition : Transition) (txn : TxnId) : Type 0 where
  pub n : ℕ
  pub entry : Entry
  pub works : WorksAgeless world n txn entry
  pub home : site_of world transition.event ≡ Some (home_of txn)
  pub over : HasEnded transition.world txn

-- Each transaction of which the transition tells an end ends in it, and it tells none's end twice.
pub record TellsRight (world : World) (transition : Transition) : Type 0 where
  pub each : (txn : TxnId) (line : Line) → Contains transition.lines line → TellsEnd txn line → EndsIn world transition txn
  pub once : AllPairs TellOtherEnds transition.lines

module _ (setup : Setup) (world : World) (transition : Transition) (left : World) (ends : Ends (begun setup world transition.event) transition.lines left)
    (memories : (n : ℕ) → memory_at transition.world n ≡ memory_at left n) (known : IsKnown setup world) (goes : Acts setup world transition.world) where
  module _ (txn : TxnId) (line : Line) (there : Contains transition.lines line) (tells : TellsEnd txn line) where
    noted : IsNoted setup world transition.event line left
    noted = line-noted setup world line (ends-decides txn line tells) transition.event transition.lines left ends there

    abbrev here : Here
    here = record { me = noted.n; setup = setup; records = records_at world noted.n; surplus = 0; running = noted.running }

    closes : Closes here (known.ordered noted.n noted.running noted.up) noted.n txn noted.input
    closes =
        closes-noted here (known.ordered noted.n noted.running noted.up) noted.n txn noted.input noted.note noted.noted (subst (TellsEnd txn) (sym noted.printed) tells)

    works : WorksAgeless world noted.n txn closes.entry
    works = ap (λ (m : Option Running). work_in m txn) noted.up ∙ closes.was

    was-passed : IsEntryPassed world noted.n txn closes.entry
    was-passed = known.settled.sound.passed.entries noted.n txn closes.entry works

    within : noted.n < length noted.found.sites
    within =
        subst (λ (all : List Site). noted.n < length all) (sym (gives-sites world transition.event noted.n noted.input noted.found noted.gives))
        (up-within world noted.n noted.running noted.up)

    memory-then : memory_at transition.world noted.n ≡ Some (step_on here noted.input).running
    memory-then =
        memories noted.n ∙ ap (λ (w : World). memory_at w noted.n) noted.whole
        ∙ ap (λ (s : Site). s.running) (get_or-set_same noted.found.sites noted.n _ no_site within)

    idle-then : work_in (memory_at transition.world noted.n) txn ≡ None
    idle-then = ap (λ (m : Option Running). work_in m txn) memory-then ∙ closes.gone

    after : IsSettled setup transition.world
    after = settled-after setup world transition.world goes known.settled

    ends-in : EndsIn world transition txn
    ends-in = record {
      n = noted.n;
      entry = closes.entry;
      works = works;
      home = gives-site world transition.event noted.n noted.input noted.found noted.gives ∙ ap Some (sym was-passed.home);
      over = record {
        passed = passed-later setup txn world transition.world goes was-passed.passed;
        idle = λ m entry still.
            let same : m ≡ noted.n = sym (after.sound.passed.entries m txn entry still).home ∙ was-passed.home in
            none-some entry (sym idle-then ∙ subst (λ k. WorksAgeless transition.world k txn entry) same still);
      };
    }

    pairs-of : AreNoted noted.n (step_on here noted.input).notes transition.lines → AllPairs TellOtherEnds transition.lines
    pairs-of (inl are) = subst (AllPairs TellOtherEnds) (sym are) (pairs-map TellOtherEnds (line_of noted.n) (step_on here noted.input).notes closes.apart)
    pairs-of (inr alone) = subst (AllPairs TellOtherEnds) (sym alone.1) (pairs-one TellOtherEnds alone.0)

    all-apart : AllPairs TellOtherEnds transition.lines
    all-apart =
        pairs-of
        (noted-lines setup world transition.event noted.n noted.input noted.found noted.gives noted.running noted.up transition.lines left ends)

  pub tells-right : TellsRight world transition
  tells-right = record {
    each = ends-in;
    once = λ i j d before within txn first second.
        all-apart txn (slice_index_or transition.lines i d) (All-contains_itself transition.lines i d (omega (arith, before, within))) first i j d before within txn first second;
  }

-- The numbers that a site gives only rise, and a start begins a new epoch.
use Rattle.std.proofs.Common.{arith, ◌≡◌, ℕ, zero, suc, ◌+◌, Some, None, Option, List, [], ◌∷◌, refl, sym, ap, ◌∙◌, subst}
use Rattle.std.specs.Prelude.{get_or, set, slice_get, nat_lt, nat_le}
use Rattle.std.proofs.lemmas.Option.{none-some}
use Rattle.pv_base.proofs.Basics.{Some_inj}
use Rattle.pv_base.specs.declared.limits.TheConstants.{NEVER_GIVEN}
use Rattle.pv_format.specs.Checkpoint.{greatest_number}
use Rattle.pv_format.specs.Contents.{greatest_epoch}
use Rattle.pv_format.specs.Message.{Envelope}
use Rattle.pv_format.specs.Record.{Record, epoch_begun}
use Rattle.pv_law_step.proofs.Appended.{steady}
use Rattle.pv_law_step.proofs.StepCases.{if_case}
use Rattle.pv_law_step.specs.Appends.{Rises}
use Rattle.pv_law_world.proofs.EventView.{by-beginning}
use Rattle.pv_law_world.specs.EventView.{Beginning, begun_by}
use Rattle.pv_model.specs.Events.{Event}
use Rattle.pv_protocol.specs.Arms.{Reached, waits, fires, reached, calls_of, attempted}
use Rattle.pv_protocol.specs.Attempt.{Attempt, Begun, at_once, attempts, begun, given, delivered, lost, halted, opened, packed, of_step, of_start}
use Rattle.pv_protocol.specs.Lines.{Line}
use Rattle.pv_protocol.specs.Records.{record_bytes, journal_bytes}
use Rattle.pv_protocol.specs.Start.{Started, site_start}
use Rattle.pv_protocol.specs.State.{Setup, Running, Site, Input, receive}
use Rattle.pv_protocol.specs.Step.{site_step}
use Rattle.pv_protocol.specs.World.{World, no_site, site_at, with_done}
use Rattle.pv_protocol.specs.WorldStep.{ended, transition_of}

-- What a site has in memory then is of no lesser numbers; and where it was down, of a new epoch.
pub record IsLater (old : Site) (running : Option Running) : Type 0 where
  pub up : (before after : Running) → old.running ≡ Some before → running ≡ Some after → Rises before after
  pub start : (after : Running) → old.running ≡ None → running ≡ Some after → after.epoch ≡ greatest_epoch old.records + 1

no-some : {A : Type 0} {x : A} → None ≡ Some x → ⊥
no-some is = cc

steady-rises : (running : Running) → Rises running running
steady-rises running = record { epoch = refl; txns = omega arith; grants = omega arith }

same-later : (site : Site) → IsLater site site.running
same-later site = record {
  up = λ before after was is. subst (Rises before) (Some_inj (sym was ∙ is)) (steady-rises before);
  start = λ after was is. absurd (none-some _ (sym was ∙ is));
}

down-later : (site : Site) → IsLater site None
down-later site = record { up = λ before after was is. absurd (no-some is); start = λ after was is. absurd (no-some is) }

put-later : (sites : List Site) (k : ℕ) (site : Site) → IsLater (get_or sites k no_site) site.running
    → (n : ℕ) → IsLater (get_or sites n no_site) (get_or (set sites k site) n no_site).running
put-later [] k site later n = same-later _
put-later (first ∷ sites) zero site later zero = later
put-later (first ∷ sites) zero site later (suc n) = same-later _
put-later (first ∷ sites) (suc k) site later zero = same-later _
put-later (first ∷ sites) (suc k) site later (suc n) = put-later sites k site later n

-- What an event comes to before any write: no site's numbers fall, and what a site attempts is later than it is.
data Rising (world : World) : Begun → Type 0 where
  settles : (lines : List Line) (after : World) → ((n : ℕ) → IsLater (site_at world n) (site_at after n).running) → Rising world (at_once lines after)
  goes_on : (before : World) (n : ℕ) (attempt : Attempt) → before.sites ≡ world.sites → IsLater (site_at world n) attempt.running
      → Rising world (attempts before n attempt)

module _ (setup : Setup) (world : World) where
  rising-same : (lines : List Line) → Rising world (at_once lines world)
  rising-same lines = settles lines world (λ n. same-later (site_at world n))

  stepped-later : (n : ℕ) (records : List Record) (running : Running) (input : Input) → (site_at world n).running ≡ Some running
      → IsLater (site_at world n) (of_step n (site_step setup n records running input)).running
  stepped-later n records running input is = record {
    up = λ before after was now.
        subst (λ (r : Running). Rises r after) (Some_inj (sym is ∙ was))
        (subst (Rises running) (Some_inj now) (steady (record { me = n; setup = setup; records = records; surplus = 0; running = running }) input).rises);
    start = λ after was now. absurd (none-some _ (sym was ∙ is));
  }

  given-rising : (before : World) → before.sites ≡ world.sites → (n : ℕ) (input : Input) (running : Option Running) → (site_at world n).running ≡ running
      → Rising world (given setup before n input running)
  given-rising before sites n input None is =
      settles _ before (λ m. subst (λ (all : List Site). IsLater (site_at world m) (get_or all m no_site).running) (sym sites) (same-later (site_at world m)))
  given-rising before sites n input (Some running) is = goes_on before n _ sites (stepped-later n (site_at before n).records running input is)

  delivered-rising : (number : ℕ) (envelope : Option Envelope) → Rising world (delivered setup world number envelope)
  delivered-rising number None = rising-same _
  delivered-rising number (Some envelope) = given-rising (with_done world number) refl envelope.to (receive envelope.from envelope.message) _ refl

  lost-rising : (number : ℕ) (envelope : Option Envelope) → Rising world (lost world number envelope)
  lost-rising number None = rising-same _
  lost-rising number (Some envelope) = settles _ _ (λ n. same-later (site_at world n))

  halted-rising : (n : ℕ) (running : Option Running) → Rising world (halted world n running)
  halted-rising n None = rising-same _
  halted-rising n (Some running) = settles _ _ (put-later world.sites n _ (down-later (site_at world n)))

  started-later : (n : ℕ) → (site_at world n).running ≡ None → IsLater (site_at world n) (of_start n (site_start setup 0 (site_at world n).records)).running
  unfolding site_start
  started-later n is =
      if_case (λ (s : Started). IsLater (site_at world n) (of_start n s).running) (nat_le NEVER_GIVEN (greatest_epoch (site_at world n).records + 1))
      (λ spent. down-later (site_at world n))
      (λ some. if_case (λ (s : Started). IsLater (site_at world n) (of_start n s).running)
      (nat_lt setup.catalog.journal (journal_bytes (site_at world n).records + record_bytes (epoch_begun (greatest_epoch (site_at world n).records + 1))))
      (λ full. down-later (site_at world n))
      (λ room. record {
        up = λ before after was now. absurd (none-some _ (sym is ∙ was));
        start = λ after was now. ap (λ (r : Running). r.epoch) (sym (Some_inj now));
      }))

  opened-rising : (n : ℕ) (running : Option Running) → (site_at world n).running ≡ running → Rising world (opened setup world n running)
  opened-rising n (Some running) is = rising-same _
  opened-rising n None is = goes_on world n _ refl (started-later n is)

  packed-rising : (n : ℕ) (running : Option Running) → (site_at world n).running ≡ running → Rising world (packed world n running)
  packed-rising n None is = rising-same _
  packed-rising n (Some running) is =
      if_case (Rising world) (nat_lt (site_at world n).standing.number greatest_number)
      (λ left. goes_on world n _ refl (subst (IsLater (site_at world n)) is (same-later (site_at world n))))
      (λ spent. rising-same _)

  beginning-rising : (beginning : Beginning) → Rising world (begun_by setup world beginning)
  beginning-rising (Beginning.gives n input) = given-rising world refl n input _ refl
  beginning-rising (Beginning.delivers number) = delivered-rising number (slice_get world.sent number)
  beginning-rising (Beginning.loses number) = lost-rising number (slice_get world.sent number)
  beginning-rising (Beginning.drops n) = settles _ _ (λ m. same-later (site_at world m))
  beginning-rising (Beginning.halts n) = halted-rising n (site_at world n).running
  beginning-rising (Beginning.opens n) = opened-rising n (site_at world n).running refl
  beginning-rising (Beginning.packs n) = packed-rising n (site_at world n).running refl
  beginning-rising (Beginning.arms n arm) = settles _ _ (put-later world.sites n _ (same-later (site_at world n)))
  beginning-rising (Beginning.prints printed) = rising-same _

  begun-rising : (event : Event) → Rising world (begun setup world event)
  begun-rising event = by-beginning (Rising world) setup world event (λ beginning guard. beginning-rising beginning)

  -- the site put into a world with the same sites
  put-rising : (before : World) (n : ℕ) (site : Site) → before.sites ≡ world.sites → IsLater (site_at world n) site.running
      → (m : ℕ) → IsLater (site_at world m) (get_or (set before.sites n site) m no_site).running
  put-rising before n site sites later m =
      subst (λ (all : List Site). IsLater (site_at world m) (get_or (set all n site) m no_site).running) (sym sites) (put-later world.sites n site later m)

  attempted-rising : (before : World) (n : ℕ) (attempt : Attempt) → before.sites ≡ world.sites → IsLater (site_at world n) attempt.running → (left : Reached)
      → (m : ℕ) → IsLater (site_at world m) (site_at (attempted before n attempt left).1 m).running
  attempted-rising before n attempt sites later (waits arm) m = put-rising before n _ sites later m
  attempted-rising before n attempt sites later (fires arm) m = put-rising before n _ sites (down-later (site_at world n)) m

  ended-rising : (b : Begun) → Rising world b → (m : ℕ) → IsLater (site_at world m) (site_at (ended b).1 m).running
  ended-rising b (settles lines after later) m = later m
  ended-rising b (goes_on before n attempt sites later) m =
      attempted-rising before n attempt sites later (reached (calls_of attempt) (site_at before n).arm) m

  pub transition-later : (event : Event) (n : ℕ) → IsLater (site_at world n) (site_at (transition_of setup world event).world n).running
  unfolding transition_of
  transition-later event n = ended-rising (begun setup world event) (begun-rising event) n

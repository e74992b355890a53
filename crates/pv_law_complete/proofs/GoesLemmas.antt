-- What one transition of a run does to the sites and to what was sent.
use Rattle.std.proofs.Common.{◌≡◌, ◌≢◌, ℕ, zero, suc, ◌<◌, Some, None, Option, List, [], ◌∷◌, ◌++◌, length, refl, sym, ap, subst, ◌∙◌}
use Rattle.std.specs.Prelude.{slice_get, option_to_list, get_or, set, nat_lt}
use Rattle.std.proofs.lemmas.List.{append-nil, get_or-set_same, get_or-set_other}
use Rattle.std.proofs.lemmas.Option.{none-some}
use Rattle.pv_format.specs.Checkpoint.{Standing, done, greatest_number}
use Rattle.pv_format.specs.Message.{Envelope}
use Rattle.pv_law_acts.proofs.SiteLemmas.{up-within}
use Rattle.pv_law_acts.specs.Seen.{records_at, memory_at}
use Rattle.pv_law_refusals.proofs.MoveLemmas.{asked-comes}
use Rattle.pv_law_refusals.proofs.Moves.{Comes}
use Rattle.pv_law_step.proofs.StepCases.{if_case}
use Rattle.pv_law_world.proofs.DisarmLemmas.{site-disarmed}
use Rattle.pv_law_world.proofs.EventView.{by-beginning}
use Rattle.pv_law_world.specs.EventView.{Beginning, begun_by, IsGuarded}
use Rattle.pv_model.specs.Events.{Event}
use Rattle.pv_protocol.specs.Anywhere as anywhere
use Rattle.pv_protocol.specs.Anywhere.{MayEnd, MayCome, MayFollow, disarmed}
use Rattle.pv_protocol.specs.Arms.{completed}
use Rattle.pv_protocol.specs.Attempt.{Attempt, Begun, at_once, attempts, begun, given, delivered, lost, halted, opened, packed, of_start, of_step, of_checkpoint, without_site}
use Rattle.pv_protocol.specs.Lines.{Line}
use Rattle.pv_protocol.specs.Start.{Started, starts, too_long, no_epoch, site_start}
use Rattle.pv_protocol.specs.State.{Setup, Site, Arm, Running, Input, submit, receive, tick, Step}
use Rattle.pv_protocol.specs.Step.{site_step, records_after}
use Rattle.pv_protocol.specs.World.{World, no_site, site_at, with_site, with_done, from_site}
use Rattle.pv_protocol.specs.WorldStep.{Transition}

-- The site has the same records and the same in memory.
pub record IsSame (w v : World) (n : ℕ) : Type 0 where
  pub records : records_at v n ≡ records_at w n
  pub memory : memory_at v n ≡ memory_at w n

-- The site makes this step.
pub record MakesItsStep (w v : World) (n : ℕ) (step : Step) : Type 0 where
  pub others : (m : ℕ) → m ≢ n → IsSame w v m
  pub memory : memory_at v n ≡ Some step.running
  pub records : records_at v n ≡ records_after (records_at w n) step
  pub sent : v.sent ≡ w.sent ++ from_site n step.sends

-- What becomes of a world: nothing that matters; a site goes down; a site that was down is started; or a site makes its step.
pub data Goes (setup : Setup) (w : World) (event : Event) (v : World) : Type 0 where
  stays : ((n : ℕ) → IsSame w v n) → v.sent ≡ w.sent → Goes setup w event v
  halts : (m : ℕ) → ((n : ℕ) → n ≢ m → IsSame w v n) → memory_at v m ≡ None → v.sent ≡ w.sent → Goes setup w event v
  opens : (m : ℕ) → ((n : ℕ) → n ≢ m → IsSame w v n) → memory_at w m ≡ None → v.sent ≡ w.sent → Goes setup w event v
  steps : (m : ℕ) (running : Running) (input : Input) → Comes w event m input → memory_at w m ≡ Some running
      → MakesItsStep w v m (site_step setup m (records_at w m) running input) → Goes setup w event v

-- A start sends nothing.
start-silent : (n : ℕ) (started : Started) → (of_start n started).sends ≡ []
start-silent n (starts running epoch) = refl
start-silent n (too_long bytes) = refl
start-silent n no_epoch = refl

-- What is looked at is the same, where a site is put in that looks the same.
put-same : {X : Type 0} (f : Site → X) (sites : List Site) (n m : ℕ) (site : Site) → f site ≡ f (get_or sites n no_site) → f (get_or (set sites n site) m no_site) ≡ f (get_or sites m no_site)
put-same f [] n m site same = refl
put-same f (first ∷ sites) zero zero site same = same
put-same f (first ∷ sites) zero (suc m) site same = refl
put-same f (first ∷ sites) (suc n) zero site same = refl
put-same f (first ∷ sites) (suc n) (suc m) site same = put-same f sites n m site same

module _ (setup : Setup) (w : World) where
  -- the other sites, where one is put in
  others : (found : World) → found.sites ≡ w.sites → (m : ℕ) (site : Site) (v : World) → v.sites ≡ set found.sites m site → (n : ℕ) → n ≢ m → IsSame w v n
  others found sites m site v are n other =
      let same : site_at v n ≡ site_at w n =
      ap (λ (all : List Site). get_or all n no_site) are ∙ get_or-set_other found.sites m n site no_site other ∙ ap (λ (all : List Site). get_or all n no_site) sites in
      record { records = ap (λ (s : Site). s.records) same; memory = ap (λ (s : Site). s.running) same }

  same-sites : (v : World) → v.sites ≡ w.sites → (n : ℕ) → IsSame w v n
  same-sites v sites n = record {
    records = ap (λ (all : List Site). (get_or all n no_site).records) sites;
    memory = ap (λ (all : List Site). (get_or all n no_site).running) sites;
  }

  own-site : (found : World) → found.sites ≡ w.sites → (m : ℕ) (running : Running) → memory_at w m ≡ Some running → (site : Site) → get_or (set found.sites m site) m no_site ≡ site
  own-site found sites m running up site = get_or-set_same found.sites m site no_site (subst (λ (all : List Site). m < length all) (sym sites) (up-within w m running up))

  whole-makes : (n : ℕ) (step : Step) (found : World) → found.sites ≡ w.sites → found.sent ≡ w.sent → (running : Running) → memory_at w n ≡ Some running
      → MakesItsStep w (completed found n (of_step n step) None) n step
  whole-makes n step found sites sent running up =
      let site : Site = record { records = records_at found n ++ option_to_list step.appended; standing = (site_at found n).standing; arm = None; running = Some step.running } in
      record {
        others = others found sites n site (completed found n (of_step n step) None) refl;
        memory = ap (λ (s : Site). s.running) (own-site found sites n running up site);
        records = ap (λ (s : Site). s.records) (own-site found sites n running up site) ∙ ap (λ (all : List Site). (get_or all n no_site).records ++ option_to_list step.appended) sites;
        sent = ap (λ (all : List Envelope). all ++ from_site n step.sends) sent;
      }

  step-goes : (event : Event) (n : ℕ) (input : Input) (found : World) → found.sites ≡ w.sites → found.sent ≡ w.sent → Comes w event n input → (running : Running) → memory_at w n ≡ Some running
      → (lines : List Line) (left : World) → MayEnd found n (of_step n (site_step setup n (records_at w n) running input)) lines left → Goes setup w event left
  step-goes event n input found sites sent comes running up lines left anywhere.whole =
      steps n running input comes up (whole-makes n (site_step setup n (records_at w n) running input) found sites sent running up)
  step-goes event n input found sites sent comes running up lines left (anywhere.without stops some standing may) =
      let site : Site = record { records = records_at found n ++ []; standing = standing; arm = None; running = None } in
      halts n (others found sites n site left refl) (ap (λ (s : Site). s.running) (own-site found sites n running up site)) sent
  step-goes event n input found sites sent comes running up lines left (anywhere.with_record stops appended is standing may) =
      let site : Site = record { records = records_at found n ++ appended ∷ []; standing = standing; arm = None; running = None } in
      halts n (others found sites n site left refl) (ap (λ (s : Site). s.running) (own-site found sites n running up site)) sent

  once-goes : (event : Event) (reported : List Line) (then_world : World) (lines : List Line) (left : World) → MayCome (at_once reported then_world) lines left → Goes setup w event then_world → Goes setup w event left
  once-goes event reported then_world lines left (anywhere.without_attempt reported' then') goes = goes

  given-goes : (event : Event) (n : ℕ) (input : Input) (found : World) → found.sites ≡ w.sites → found.sent ≡ w.sent → Comes w event n input → (running : Option Running) → memory_at w n ≡ running
      → (lines : List Line) (left : World) → MayCome (given setup found n input running) lines left → Goes setup w event left
  given-goes event n input found sites sent comes None up lines left come = once-goes event _ found lines left come (stays (same-sites found sites) sent)
  given-goes event n input found sites sent comes (Some running) up lines left (anywhere.by_attempt found' left' n' attempt' lines' ends) =
      step-goes event n input found sites sent comes running up lines left
      (subst (λ rs. MayEnd found n (of_step n (site_step setup n rs running input)) lines left) (ap (λ (all : List Site). (get_or all n no_site).records) sites) ends)

  delivered-goes : (event : Event) (number : ℕ) → event ≡ Event.deliver number → (envelope : Option Envelope) → slice_get w.sent number ≡ envelope → (lines : List Line) (left : World) → MayCome (delivered setup w number envelope) lines left
      → Goes setup w event left
  delivered-goes event number is None there lines left come = once-goes event _ w lines left come (stays (same-sites w refl) refl)
  delivered-goes event number is (Some envelope) there lines left come =
      given-goes event envelope.to (receive envelope.from envelope.message) (with_done w number) refl refl (number, (is, there)) (memory_at w envelope.to) refl lines left come

  lost-goes : (event : Event) (number : ℕ) (envelope : Option Envelope) (lines : List Line) (left : World) → MayCome (lost w number envelope) lines left → Goes setup w event left
  lost-goes event number None lines left come = once-goes event _ w lines left come (stays (same-sites w refl) refl)
  lost-goes event number (Some envelope) lines left come = once-goes event _ (with_done w number) lines left come (stays (same-sites (with_done w number) refl) refl)

  halted-goes : (event : Event) (n : ℕ) (running : Option Running) → memory_at w n ≡ running → (lines : List Line) (left : World) → MayCome (halted w n running) lines left → Goes setup w event left
  halted-goes event n None up lines left come = once-goes event _ w lines left come (stays (same-sites w refl) refl)
  halted-goes event n (Some running) up lines left come =
      let site : Site = record (site_at w n) { running = None } in
      once-goes event _ (with_site w n site) lines left come
      (halts n (others w refl n site (with_site w n site) refl) (ap (λ (s : Site). s.running) (own-site w refl n running up site)) refl)

  start-goes : (event : Event) (n : ℕ) (attempt : Attempt) → attempt.sends ≡ [] → memory_at w n ≡ None → (lines : List Line) (left : World) → MayEnd w n attempt lines left → Goes setup w event left
  start-goes event n attempt none down lines left anywhere.whole = opens n (others w refl n _ left refl) down (ap (λ sends. w.sent ++ from_site n sends) none ∙ append-nil w.sent)
  start-goes event n attempt none down lines left (anywhere.without stops some standing may) = opens n (others w refl n _ left refl) down refl
  start-goes event n attempt none down lines left (anywhere.with_record stops appended is standing may) = opens n (others w refl n _ left refl) down refl

  opened-goes : (event : Event) (n : ℕ) (running : Option Running) → memory_at w n ≡ running → (lines : List Line) (left : World) → MayCome (opened setup w n running) lines left → Goes setup w event left
  opened-goes event n (Some running) up lines left come = once-goes event _ w lines left come (stays (same-sites w refl) refl)
  opened-goes event n None down lines left (anywhere.by_attempt found' left' n' attempt' lines' ends) =
      start-goes event n (of_start n (site_start setup 0 (records_at w n))) (start-silent n (site_start setup 0 (records_at w n))) down lines left ends

  -- a checkpoint leaves records and memories, or its site down
  packing-goes : (event : Event) (n : ℕ) (was : Standing) (running : Running) → memory_at w n ≡ Some running → (lines : List Line) (left : World)
      → MayEnd w n (of_checkpoint was running) lines left → Goes setup w event left
  packing-goes event n was running up lines left anywhere.whole =
      let site : Site = record { records = records_at w n ++ []; standing = done (site_at w n).standing; arm = None; running = Some running } in
      stays (λ m. record {
        records = put-same (λ (s : Site). s.records) w.sites n m site (append-nil (records_at w n));
        memory = put-same (λ (s : Site). s.running) w.sites n m site (sym up);
      }) (append-nil w.sent)
  packing-goes event n was running up lines left (anywhere.without stops some standing may) =
      let site : Site = record { records = records_at w n ++ []; standing = standing; arm = None; running = None } in
      halts n (others w refl n site left refl) (ap (λ (s : Site). s.running) (own-site w refl n running up site)) refl
  packing-goes event n was running up lines left (anywhere.with_record stops appended is standing may) = absurd (none-some _ is)

  packed-goes : (event : Event) (n : ℕ) (running : Option Running) → memory_at w n ≡ running → (lines : List Line) (left : World) → MayCome (packed w n running) lines left → Goes setup w event left
  packed-goes event n None up lines left come = once-goes event _ w lines left come (stays (same-sites w refl) refl)
  packed-goes event n (Some running) up lines left come =
      if_case (λ (b : Begun). MayCome b lines left → Goes setup w event left) (nat_lt (site_at w n).standing.number greatest_number)
      (λ some began. attempted began)
      (λ spent began. once-goes event _ w lines left began (stays (same-sites w refl) refl)) come where
        attempted : MayCome (attempts w n (of_checkpoint (site_at w n).standing running)) lines left → Goes setup w event left
        attempted (anywhere.by_attempt found' left' n' attempt' lines' ends) = packing-goes event n (site_at w n).standing running up lines left ends

  armed-goes : (event : Event) (n : ℕ) (arm : Option Arm) (lines : List Line) (left : World) → MayCome (at_once [] (with_site w n (record (site_at w n) { arm = arm }))) lines left → Goes setup w event left
  armed-goes event n arm lines left come =
      once-goes event [] (with_site w n (record (site_at w n) { arm = arm })) lines left come
      (stays (λ m. record {
        records = put-same (λ (s : Site). s.records) w.sites n m (record (site_at w n) { arm = arm }) refl;
        memory = put-same (λ (s : Site). s.running) w.sites n m (record (site_at w n) { arm = arm }) refl;
      }) refl)

  beginning-goes : (event : Event) (beginning : Beginning) → IsGuarded event beginning → (lines : List Line) (left : World) → MayCome (begun_by setup w beginning) lines left
      → Goes setup w event left
  beginning-goes event (Beginning.gives n input) guard lines left come = given-goes event n input w refl refl (asked-comes w event n input guard) (memory_at w n) refl lines left come
  beginning-goes event (Beginning.delivers number) guard lines left come = delivered-goes event number guard (slice_get w.sent number) refl lines left come
  beginning-goes event (Beginning.loses number) guard lines left come = lost-goes event number (slice_get w.sent number) lines left come
  beginning-goes event (Beginning.drops n) guard lines left come =
      let now : World = record w { fresh = without_site n w.sent w.fresh } in once-goes event [] now lines left come (stays (same-sites now refl) refl)
  beginning-goes event (Beginning.halts n) guard lines left come = halted-goes event n (memory_at w n) refl lines left come
  beginning-goes event (Beginning.opens n) guard lines left come = opened-goes event n (memory_at w n) refl lines left come
  beginning-goes event (Beginning.packs n) guard lines left come = packed-goes event n (memory_at w n) refl lines left come
  beginning-goes event (Beginning.arms n arm) guard lines left come = armed-goes event n arm lines left come
  beginning-goes event (Beginning.prints printed) guard lines left come = once-goes event _ w lines left come (stays (same-sites w refl) refl)

  begun-goes : (event : Event) (lines : List Line) (left : World) → MayCome (begun setup w event) lines left → Goes setup w event left
  begun-goes event = by-beginning (λ (b : Begun). (lines : List Line) (left : World) → MayCome b lines left → Goes setup w event left) setup w event (beginning-goes event)

  -- the same without armed faults
  disarmed-same : (v : World) (n : ℕ) → IsSame w v n → IsSame w (disarmed v) n
  disarmed-same v n same = record {
    records = ap (λ (s : Site). s.records) (site-disarmed v n) ∙ same.records;
    memory = ap (λ (s : Site). s.running) (site-disarmed v n) ∙ same.memory;
  }

  disarmed-makes : (n : ℕ) (step : Step) (v : World) → MakesItsStep w v n step → MakesItsStep w (disarmed v) n step
  disarmed-makes n step v makes = record {
    others = λ m other. disarmed-same v m (makes.others m other);
    memory = ap (λ (s : Site). s.running) (site-disarmed v n) ∙ makes.memory;
    records = ap (λ (s : Site). s.records) (site-disarmed v n) ∙ makes.records;
    sent = makes.sent;
  }

  disarmed-goes : (event : Event) (v : World) → Goes setup w event v → Goes setup w event (disarmed v)
  disarmed-goes event v (stays same sent) = stays (λ n. disarmed-same v n (same n)) sent
  disarmed-goes event v (halts m same down sent) = halts m (λ n other. disarmed-same v n (same n other)) (ap (λ (s : Site). s.running) (site-disarmed v m) ∙ down) sent
  disarmed-goes event v (opens m same down sent) = opens m (λ n other. disarmed-same v n (same n other)) down sent
  disarmed-goes event v (steps m running input comes up makes) = steps m running input comes up (disarmed-makes m (site_step setup m (records_at w m) running input) v makes)

  pub follow-goes : (transition : Transition) → MayFollow setup w transition → Goes setup w transition.event transition.world
  follow-goes transition follows =
      subst (Goes setup w transition.event) (sym follows.after)
      (disarmed-goes transition.event follows.left (begun-goes transition.event transition.lines follows.left follows.comes))

  -- A step that leaves its site up is whole.
  up-makes : (n : ℕ) (step : Step) (found : World) → found.sites ≡ w.sites → found.sent ≡ w.sent → (running : Running) → memory_at w n ≡ Some running
      → (lines : List Line) (left : World) → MayEnd found n (of_step n step) lines left → (memory_at left n ≡ None → ⊥) → MakesItsStep w left n step
  up-makes n step found sites sent running up lines left anywhere.whole still = whole-makes n step found sites sent running up
  up-makes n step found sites sent running up lines left (anywhere.without stops some standing may) still =
      let site : Site = record { records = records_at found n ++ []; standing = standing; arm = None; running = None } in
      absurd (still (ap (λ (s : Site). s.running) (own-site found sites n running up site)))
  up-makes n step found sites sent running up lines left (anywhere.with_record stops appended is standing may) still =
      let site : Site = record { records = records_at found n ++ appended ∷ []; standing = standing; arm = None; running = None } in
      absurd (still (ap (λ (s : Site). s.running) (own-site found sites n running up site)))

  given-makes : (n : ℕ) (input : Input) (found : World) → found.sites ≡ w.sites → found.sent ≡ w.sent → (running : Running) → memory_at w n ≡ Some running
      → (lines : List Line) (left : World) → MayCome (given setup found n input (Some running)) lines left → (memory_at left n ≡ None → ⊥)
      → MakesItsStep w left n (site_step setup n (records_at w n) running input)
  given-makes n input found sites sent running up lines left (anywhere.by_attempt found' left' n' attempt' lines' ends) still =
      up-makes n (site_step setup n (records_at w n) running input) found sites sent running up lines left
      (subst (λ rs. MayEnd found n (of_step n (site_step setup n rs running input)) lines left) (ap (λ (all : List Site). (get_or all n no_site).records) sites) ends) still

  begun-makes : (event : Event) (n : ℕ) (input : Input) → Comes w event n input → (running : Running) → memory_at w n ≡ Some running
      → (lines : List Line) (left : World) → MayCome (begun setup w event) lines left → (memory_at left n ≡ None → ⊥)
      → MakesItsStep w left n (site_step setup n (records_at w n) running input)
  unfolding begun
  begun-makes event n (submit program) (query, (text, is)) running up lines left come still =
      given-makes n (submit program) w refl refl running up lines left
      (subst (λ o. MayCome (given setup w n (submit program) o) lines left) up (subst (λ e. MayCome (begun setup w e) lines left) is come)) still
  begun-makes event n (receive from message) (number, (is, there)) running up lines left come still =
      given-makes n (receive from message) (with_done w number) refl refl running up lines left
      (subst (λ o. MayCome (given setup (with_done w number) n (receive from message) o) lines left) up
      (subst (λ o. MayCome (delivered setup w number o) lines left) there (subst (λ e. MayCome (begun setup w e) lines left) is come))) still
  begun-makes event n tick is running up lines left come still =
      given-makes n tick w refl refl running up lines left
      (subst (λ o. MayCome (given setup w n tick o) lines left) up (subst (λ e. MayCome (begun setup w e) lines left) is come)) still

  -- A site that is given something and is up afterwards has made its step.
  pub follow-makes : (transition : Transition) → MayFollow setup w transition → (n : ℕ) (input : Input) → Comes w transition.event n input
      → (running : Running) → memory_at w n ≡ Some running → (memory_at transition.world n ≡ None → ⊥) → MakesItsStep w transition.world n (site_step setup n (records_at w n) running input)
  follow-makes transition follows n input comes running up still =
      let step = site_step setup n (records_at w n) running input in
      subst (λ v. MakesItsStep w v n step) (sym follows.after)
      (disarmed-makes n step follows.left
      (begun-makes transition.event n input comes running up transition.lines follows.left follows.comes
      (λ down. still (ap (λ v. memory_at v n) follows.after ∙ (ap (λ (s : Site). s.running) (site-disarmed follows.left n) ∙ down)))))

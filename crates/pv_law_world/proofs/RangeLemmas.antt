-- Worlds stay in range.
use Rattle.std.proofs.Common.{arith, ◌≡◌, ℕ, zero, suc, ◌+◌, ◌<◌, ◌≤◌, Bool, true, false, Some, None, Option, List, [], ◌∷◌, ◌++◌, length, refl, sym, ◌∙◌, subst}
use Rattle.std.specs.Prelude.{get_or, set, slice_get, option_to_list, nat_lt, ◌&&◌, if◌then◌else◌, All}
use Rattle.std.proofs.lemmas.List.{append-nil, length-set}
use Rattle.std.proofs.lemmas.List.Elements.{All-append, All-map, All-nil, All-contains}
use Rattle.std.proofs.lemmas.Option.{slice_get_within, get_or_from_slice_get}
use Rattle.pv_base.proofs.Basics.{Some_inj}
use Rattle.pv_base.specs.declared.limits.TheConstants.{MAX_SITES}
use Rattle.pv_format.specs.Checkpoint.{greatest_number}
use Rattle.pv_format.specs.Message.{Envelope}
use Rattle.pv_format.specs.Range.{IsEnvelopeWithin, IsRecordWithin}
use Rattle.pv_format.specs.Record.{Record}
use Rattle.pv_law_step.proofs.StepCases.{if_case}
use Rattle.pv_law_world.proofs.EventView.{by-beginning, asked-runs}
use Rattle.pv_law_world.specs.EventView.{Beginning, begun_by, IsAsked, IsGuarded}
use Rattle.pv_law_world.specs.Ranges.{IsSiteInRange, IsWorldInRange}
use Rattle.pv_model.specs.Events.{Event}
use Rattle.pv_protocol.specs.Arms.{Reached, waits, fires, reached, calls_of, is_kept, standing_made, standing_left, attempted}
use Rattle.pv_protocol.specs.Attempt.{Attempt, Begun, at_once, attempts, begun, given, delivered, lost, halted, opened, packed, of_start}
use Rattle.pv_protocol.specs.Here.{Here}
use Rattle.pv_protocol.specs.Lines.{Line}
use Rattle.pv_protocol.specs.Sound.{IsRunningInRange, IsSetupInRange, IsHereInRange, IsInputInRange, IsSentInRange}
use Rattle.pv_protocol.specs.Start.{Started, starts, too_long, no_epoch, site_start}
use Rattle.pv_protocol.specs.State.{Setup, Running, Site, Input, submit, receive, tick}
use Rattle.pv_protocol.specs.Step.{step_on, after_step}
use Rattle.pv_protocol.specs.WellFormed.{IsWellFormed}
use Rattle.pv_protocol.specs.Width.{IsNarrow}
use Rattle.pv_protocol.specs.World.{World, no_site, site_at, with_site, with_done, from_site}
use Rattle.pv_protocol.specs.WorldStep.{ended, transition_of}

-- what holds of one step
abbrev pub SendsInRange : Type 0
SendsInRange = (sites : ℕ) (here : Here) (input : Input) → IsHereInRange sites here → IsInputInRange sites here input → All (IsSentInRange sites here) (step_on here input).sends

abbrev pub StaysSound : Type 0
StaysSound = (sites : ℕ) (here : Here) (input : Input) → IsHereInRange sites here → IsInputInRange sites here input → IsHereInRange sites (after_step here (step_on here input))

no-some : {A : Type 0} {x : A} → None ≡ Some x → ⊥
no-some is = cc

-- A site that is down, with the records of one in range.
pub down-in-range : {setup : Setup} {n : ℕ} {site : Site} → IsSiteInRange setup n site → (down : Site) → down.records ≡ site.records → down.running ≡ None
    → IsSiteInRange setup n down
down-in-range {setup} {n} {site} fine down records none = record {
  records = rw records fine.records;
  narrow = subst (IsNarrow setup.held_names setup.catalog n) (sym records) fine.narrow;
  room = rw records fine.room;
  running = λ running is. absurd (no-some (sym none ∙ is));
}

-- A site's place in the list, put where each has what is asked at its number.
pub put-in-range : (P : ℕ → Site → Type 0) (sites : List Site) (k : ℕ) (site : Site) → (k < length sites → P k site)
    → ((n : ℕ) → n < length sites → P n (get_or sites n no_site)) → (n : ℕ) → n < length sites → P n (get_or (set sites k site) n no_site)
put-in-range P [] k site fine all n below = absurd (omega arith)
put-in-range P (first ∷ sites) zero site fine all zero below = fine (omega arith)
put-in-range P (first ∷ sites) zero site fine all (suc n) below = all (suc n) below
put-in-range P (first ∷ sites) (suc k) site fine all zero below = all zero below
put-in-range P (first ∷ sites) (suc k) site fine all (suc n) below =
    put-in-range (λ m s. P (suc m) s) sites k site (λ within. fine (omega arith)) (λ m under. all (suc m) (omega arith)) n (omega arith)

-- A site that is up is one of the list.
pub up-within : (sites : List Site) (n : ℕ) (running : Running) → (get_or sites n no_site).running ≡ Some running → n < length sites
up-within [] n running is = absurd (no-some is)
up-within (first ∷ sites) zero running is = omega arith
up-within (first ∷ sites) (suc n) running is = let rest : n < length sites = up-within sites n running is in omega arith

-- What a site attempts leaves it in range, and sends what is in range.
pub record IsAttemptInRange (setup : Setup) (site : Site) (n : ℕ) (attempt : Attempt) : Type 0 where
  pub whole : (whole : Site) → whole.records ≡ site.records ++ option_to_list attempt.appended → whole.running ≡ attempt.running → IsSiteInRange setup n whole
  pub sends : All (IsEnvelopeWithin setup.catalog.sites) (from_site n attempt.sends)

-- What an event comes to before any write is in range.
pub data IsBegunInRange (setup : Setup) : Begun → Type 0 where
  settles : (lines : List Line) (after : World) → IsWorldInRange setup after → IsBegunInRange setup (at_once lines after)
  goes_on : (before : World) (n : ℕ) (attempt : Attempt) → IsWorldInRange setup before
      → (n < length before.sites → IsSiteInRange setup n (site_at before n) → IsAttemptInRange setup (site_at before n) n attempt)
      → All (IsEnvelopeWithin setup.catalog.sites) (from_site n attempt.sends) → IsBegunInRange setup (attempts before n attempt)

module _ (setup : Setup) where
  -- a site in range, put into a world in range
  pub put-world : (world : World) (n : ℕ) (site : Site) → IsWorldInRange setup world
      → (n < length world.sites → IsSiteInRange setup n (site_at world n) → IsSiteInRange setup n site) → IsWorldInRange setup (with_site world n site)
  put-world world n site fine put = record {
    count = length-set world.sites n site ∙ fine.count;
    sites = λ m below.
        put-in-range (IsSiteInRange setup) world.sites n site
        (λ within. put within (fine.sites n (subst (λ (count : ℕ). n < count) fine.count within)))
        (λ k under. fine.sites k (subst (λ (count : ℕ). k < count) fine.count under))
        m (subst (λ (count : ℕ). m < count) (sym fine.count) below);
    sent = fine.sent;
  }

  pub attempted-range : (before : World) (n : ℕ) (attempt : Attempt) → IsWorldInRange setup before
      → (n < length before.sites → IsSiteInRange setup n (site_at before n) → IsAttemptInRange setup (site_at before n) n attempt)
      → All (IsEnvelopeWithin setup.catalog.sites) (from_site n attempt.sends) → (left : Reached) → IsWorldInRange setup (attempted before n attempt left).1
  attempted-range before n attempt fine may sends (waits arm) =
      let put : IsWorldInRange setup (with_site before n (record { records = (site_at before n).records ++ option_to_list attempt.appended; standing = standing_made attempt.packs (site_at before n).standing; arm = arm; running = attempt.running }))
      = put-world before n _ fine (λ within site_fine. (may within site_fine).whole _ refl refl) in
      record { count = put.count; sites = put.sites; sent = All-append (IsEnvelopeWithin setup.catalog.sites) before.sent (from_site n attempt.sends) fine.sent sends }
  attempted-range before n attempt fine may sends (fires arm) = left-over (nat_lt (attempt.calls + 2) arm.call && is_kept arm.mode)
    where
      left-over : (kept : Bool) → IsWorldInRange setup
          (with_site before n (record { records = (site_at before n).records ++ option_to_list (if kept then attempt.appended else None); standing = standing_left attempt.packs arm (site_at before n).standing; arm = None; running = None }))
      left-over true =
          put-world before n _ fine (λ within site_fine.
          down-in-range ((may within site_fine).whole (record { records = (site_at before n).records ++ option_to_list attempt.appended; standing = standing_made attempt.packs (site_at before n).standing; arm = None; running = attempt.running }) refl refl)
          _ refl refl)
      left-over false = put-world before n _ fine (λ within site_fine. down-in-range site_fine _ (append-nil _) refl)

  ended-range : (b : Begun) → IsBegunInRange setup b → IsWorldInRange setup (ended b).1
  ended-range b (settles lines after fine) = fine
  ended-range b (goes_on before n attempt fine may sends) =
      attempted-range before n attempt fine may sends (reached (calls_of attempt) (site_at before n).arm)

-- the running site of a world
abbrev here_at : Setup → World → ℕ → Running → Here
here_at setup world n running = record { me = n; setup = setup; records = (site_at world n).records; surplus = 0; running = running }

module _ (sends_stay : SendsInRange) (sound_stays : StaysSound) (setup : Setup) (setup_fine : IsSetupInRange setup) (world : World) (fine : IsWorldInRange setup world) where
  -- a running site of a world in range
  here-sound : (n : ℕ) (running : Running) → (site_at world n).running ≡ Some running → IsHereInRange setup.catalog.sites (here_at setup world n running)
  here-sound n running is =
      let within : n < setup.catalog.sites = subst (λ (count : ℕ). n < count) fine.count (up-within world.sites n running is) in
      let site : IsSiteInRange setup n (site_at world n) = fine.sites n within in
      record {
        me = within;
        bound = omega arith;
        most = setup_fine.sites;
        setup = setup_fine;
        records = site.records;
        narrow = site.narrow;
        room = site.room;
        running = site.running running is;
      }

  step-sends : (n : ℕ) (running : Running) (input : Input) → (site_at world n).running ≡ Some running → IsInputInRange setup.catalog.sites (here_at setup world n running) input
      → All (IsEnvelopeWithin setup.catalog.sites) (from_site n (step_on (here_at setup world n running) input).sends)
  step-sends n running input is good =
      All-map (IsEnvelopeWithin setup.catalog.sites) _ (step_on (here_at setup world n running) input).sends (sends_stay setup.catalog.sites (here_at setup world n running) input (here-sound n running is) good)

  step-whole : (n : ℕ) (running : Running) (input : Input) → (site_at world n).running ≡ Some running → IsInputInRange setup.catalog.sites (here_at setup world n running) input
      → (whole : Site) → whole.records ≡ (site_at world n).records ++ option_to_list (step_on (here_at setup world n running) input).appended
      → whole.running ≡ Some (step_on (here_at setup world n running) input).running → IsSiteInRange setup n whole
  step-whole n running input is good whole records memory =
      let here = here_at setup world n running in
      let sound : IsHereInRange setup.catalog.sites (after_step here (step_on here input)) = sound_stays setup.catalog.sites here input (here-sound n running is) good in
      record {
        records = rw records sound.records;
        narrow = subst (IsNarrow setup.held_names setup.catalog n) (sym records) sound.narrow;
        room = rw records sound.room;
        running = λ now was. subst (IsRunningInRange setup.catalog.sites setup.catalog n) (Some_inj (sym memory ∙ was)) sound.running;
      }

  given-range : (n : ℕ) (input : Input) → ((running : Running) → IsInputInRange setup.catalog.sites (here_at setup world n running) input)
      → (running : Option Running) → (site_at world n).running ≡ running → IsBegunInRange setup (given setup world n input running)
  given-range n input good None is = settles _ world fine
  given-range n input good (Some running) is =
      goes_on world n _ fine
      (λ within site_fine. record { whole = step-whole n running input is (good running); sends = step-sends n running input is (good running) })
      (step-sends n running input is (good running))

-- what holds of a start
abbrev pub StartsSound : Type 0
StartsSound =
    (sites : ℕ) (setup : Setup) → setup.catalog.sites ≤ sites → sites ≤ MAX_SITES → (me surplus : ℕ) (records : List Record) → IsSetupInRange setup
    → me < setup.catalog.sites → All (IsRecordWithin sites) records
    → IsNarrow setup.held_names setup.catalog me records → (running : Running) (new : Record) → site_start setup surplus records ≡ starts running new
    → IsHereInRange sites (record { me = me; setup = setup; records = records ++ new ∷ []; surplus = surplus; running = running })

module _ (sends_stay : SendsInRange) (sound_stays : StaysSound) (starts_sound : StartsSound) (setup : Setup) (setup_fine : IsSetupInRange setup)
    (world : World) (fine : IsWorldInRange setup world) where
  given-here : (before : World) → IsWorldInRange setup before → (n : ℕ) (input : Input)
      → ((running : Running) → IsInputInRange setup.catalog.sites (here_at setup before n running) input) → IsBegunInRange setup (given setup before n input (site_at before n).running)
  given-here before before_fine n input good =
      given-range sends_stay sound_stays setup setup_fine before before_fine n input good (site_at before n).running refl

  done-fine : (number : ℕ) → IsWorldInRange setup (with_done world number)
  done-fine number = record { count = fine.count; sites = fine.sites; sent = fine.sent }

  delivered-range : (number : ℕ) (envelope : Option Envelope) → slice_get world.sent number ≡ envelope → IsBegunInRange setup (delivered setup world number envelope)
  delivered-range number None is = settles _ world fine
  delivered-range number (Some envelope) is =
      given-here (with_done world number) (done-fine number) envelope.to (receive envelope.from envelope.message)
      (λ running. All-contains (IsEnvelopeWithin setup.catalog.sites) world.sent envelope fine.sent
      (number, slice_get_within world.sent number envelope is, get_or_from_slice_get world.sent number envelope envelope is))

  lost-range : (number : ℕ) (envelope : Option Envelope) → IsBegunInRange setup (lost world number envelope)
  lost-range number None = settles _ world fine
  lost-range number (Some envelope) = settles _ _ (done-fine number)

  -- a site with other memory or another armed fault
  changed-range : (n : ℕ) (site : Site) → (IsSiteInRange setup n (site_at world n) → IsSiteInRange setup n site) → IsWorldInRange setup (with_site world n site)
  changed-range n site change = put-world setup world n site fine (λ within site_fine. change site_fine)

  halted-range : (n : ℕ) (running : Option Running) → IsBegunInRange setup (halted world n running)
  halted-range n None = settles _ world fine
  halted-range n (Some running) = settles _ _ (changed-range n _ (λ site. down-in-range site _ refl refl))

  started-range : (n : ℕ) (started : Started) → site_start setup 0 (site_at world n).records ≡ started → n < length world.sites
      → IsSiteInRange setup n (site_at world n) → IsAttemptInRange setup (site_at world n) n (of_start n started)
  started-range n (starts running new) is within site = record {
    whole = λ whole records memory.
        let sound : IsHereInRange setup.catalog.sites (record { me = n; setup = setup; records = (site_at world n).records ++ new ∷ []; surplus = 0; running = running })
        = starts_sound setup.catalog.sites setup (omega arith) setup_fine.sites n 0 (site_at world n).records setup_fine (subst (λ (count : ℕ). n < count) fine.count within) site.records site.narrow running new is in
        record {
          records = rw records sound.records;
          narrow = subst (IsNarrow setup.held_names setup.catalog n) (sym records) sound.narrow;
          room = rw records sound.room;
          running = λ now was. subst (IsRunningInRange setup.catalog.sites setup.catalog n) (Some_inj (sym memory ∙ was)) sound.running;
        };
    sends = All-nil (IsEnvelopeWithin setup.catalog.sites);
  }
  started-range n (too_long bytes) is within site = record {
    whole = λ whole records memory. down-in-range site whole (records ∙ append-nil _) memory;
    sends = All-nil (IsEnvelopeWithin setup.catalog.sites);
  }
  started-range n no_epoch is within site = record {
    whole = λ whole records memory. down-in-range site whole (records ∙ append-nil _) memory;
    sends = All-nil (IsEnvelopeWithin setup.catalog.sites);
  }

  start-silent : (n : ℕ) (started : Started) → All (IsEnvelopeWithin setup.catalog.sites) (from_site n (of_start n started).sends)
  start-silent n (starts running new) = All-nil (IsEnvelopeWithin setup.catalog.sites)
  start-silent n (too_long bytes) = All-nil (IsEnvelopeWithin setup.catalog.sites)
  start-silent n no_epoch = All-nil (IsEnvelopeWithin setup.catalog.sites)

  opened-range : (n : ℕ) (running : Option Running) → IsBegunInRange setup (opened setup world n running)
  opened-range n (Some running) = settles _ world fine
  opened-range n None =
      goes_on world n _ fine (started-range n (site_start setup 0 (site_at world n).records) refl) (start-silent n (site_start setup 0 (site_at world n).records))

  packed-range : (n : ℕ) (running : Option Running) → (site_at world n).running ≡ running → IsBegunInRange setup (packed world n running)
  packed-range n None is = settles _ world fine
  packed-range n (Some running) is =
      if_case (IsBegunInRange setup) (nat_lt (site_at world n).standing.number greatest_number)
      (λ left. goes_on world n _ fine
      (λ within site. record {
        whole = λ whole records memory.
            let same = records ∙ append-nil _ in
            record {
              records = rw same site.records;
              narrow = subst (IsNarrow setup.held_names setup.catalog n) (sym same) site.narrow;
              room = rw same site.room;
              running = λ now was. site.running now (is ∙ (sym memory ∙ was));
            };
        sends = All-nil (IsEnvelopeWithin setup.catalog.sites);
      })
      (All-nil (IsEnvelopeWithin setup.catalog.sites)))
      (λ spent. settles _ world fine)

  -- what an event asks of a site
  asked-range : (event : Event) (n : ℕ) (input : Input) → IsAsked event n input → IsWellFormed setup.catalog event → (running : Running)
      → IsInputInRange setup.catalog.sites (here_at setup world n running) input
  asked-range event n (submit program) asked good running = asked-runs setup.catalog event n program asked good
  asked-range event n (receive from message) never good running = absurd never
  asked-range event n tick asked good running = tt

  beginning-range : (event : Event) → IsWellFormed setup.catalog event → (beginning : Beginning) → IsGuarded event beginning → IsBegunInRange setup (begun_by setup world beginning)
  beginning-range event good (Beginning.gives n input) guard = given-here world fine n input (asked-range event n input guard good)
  beginning-range event good (Beginning.delivers number) guard = delivered-range number (slice_get world.sent number) refl
  beginning-range event good (Beginning.loses number) guard = lost-range number (slice_get world.sent number)
  beginning-range event good (Beginning.drops n) guard = settles _ _ (record { count = fine.count; sites = fine.sites; sent = fine.sent })
  beginning-range event good (Beginning.halts n) guard = halted-range n (site_at world n).running
  beginning-range event good (Beginning.opens n) guard = opened-range n (site_at world n).running
  beginning-range event good (Beginning.packs n) guard = packed-range n (site_at world n).running refl
  beginning-range event good (Beginning.arms n arm) guard =
      settles _ _ (changed-range n _ (λ site. record { records = site.records; narrow = site.narrow; room = site.room; running = site.running }))
  beginning-range event good (Beginning.prints printed) guard = settles _ world fine

  pub begun-range : (event : Event) → IsWellFormed setup.catalog event → IsBegunInRange setup (begun setup world event)
  begun-range event good = by-beginning (IsBegunInRange setup) setup world event (beginning-range event good)

  pub transition-range : (event : Event) → IsWellFormed setup.catalog event → IsWorldInRange setup (transition_of setup world event).world
  unfolding transition_of
  transition-range event good = ended-range setup (begun setup world event) (begun-range event good)

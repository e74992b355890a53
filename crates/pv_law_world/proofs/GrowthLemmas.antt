-- Records, sent messages and the order only grow, each message is marked, and a site that is down sends nothing.
use Rattle.std.proofs.Common.{◌≡◌, ℕ, zero, suc, ◌⊎◌, inl, inr, Bool, Some, None, Option, List, [], ◌∷◌, ◌++◌, length, length-append, true, false, ◌+◌, refl, sym, ap, ◌∙◌, subst}
use Rattle.std.specs.Prelude.{get_or, set, replicate, nat_lt, slice_get, option_to_list, All, IsSome, is_some}
use Rattle.std.proofs.lemmas.List.{append-nil, length-set, length-replicate}
use Rattle.std.proofs.lemmas.List.Elements.{All-nil, All-map}
use Rattle.pv_format.specs.Checkpoint.{greatest_number}
use Rattle.pv_format.specs.Message.{Envelope}
use Rattle.pv_format.specs.Record.{Record}
use Rattle.pv_law_step.proofs.StepCases.{if_case}
use Rattle.pv_law_world.proofs.EventView.{by-beginning, asked-site}
use Rattle.pv_law_world.specs.EventView.{Beginning, begun_by, IsGuarded}
use Rattle.pv_law_world.specs.Pumps.{AreMarked}
use Rattle.pv_law_world.specs.Transitions.{receiver_of, site_of}
use Rattle.pv_model.specs.Events.{Event}
use Rattle.pv_protocol.specs.Arms.{Reached, waits, fires, reached, calls_of, record_left, attempted}
use Rattle.pv_protocol.specs.Attempt.{Attempt, Begun, at_once, attempts, begun, given, delivered, lost, without_site, halted, opened, packed, of_start}
use Rattle.pv_protocol.specs.Lines.{Line}
use Rattle.pv_protocol.specs.Start.{Started, starts, too_long, no_epoch, site_start}
use Rattle.pv_protocol.specs.State.{Setup, Running, Site, Input, receive, Placed}
use Rattle.pv_protocol.specs.World.{World, no_site, site_at, with_site, with_done, from_site}
use Rattle.pv_protocol.specs.WorldStep.{ended, transition_of}

abbrev pub Extends : {A : Type 0} → List A → List A → Type 0
Extends {A} old new = (more : List A) × (new ≡ old ++ more)

pub same : {A : Type 0} (xs : List A) → Extends xs xs
same xs = ([], sym (append-nil xs))

-- a site in the place of one with fewer records
set-extends : (sites : List Site) (k : ℕ) (site : Site) → Extends (get_or sites k no_site).records site.records
    → (n : ℕ) → Extends (get_or sites n no_site).records (get_or (set sites k site) n no_site).records
set-extends [] k site more n = same _
set-extends (first ∷ sites) zero site more zero = more
set-extends (first ∷ sites) zero site more (suc n) = same _
set-extends (first ∷ sites) (suc k) site more zero = same _
set-extends (first ∷ sites) (suc k) site more (suc n) = set-extends sites k site more n

-- a site in the place of one with the same records
set-keeps : (sites : List Site) (k : ℕ) (site : Site) → site.records ≡ (get_or sites k no_site).records
    → (n : ℕ) → (get_or (set sites k site) n no_site).records ≡ (get_or sites n no_site).records
set-keeps [] k site same n = refl
set-keeps (first ∷ sites) zero site same zero = same
set-keeps (first ∷ sites) zero site same (suc n) = refl
set-keeps (first ∷ sites) (suc k) site same zero = refl
set-keeps (first ∷ sites) (suc k) site same (suc n) = set-keeps sites k site same n

-- The records of all sites, the sent messages and the order are the same.
pub record Keeps (world after : World) : Type 0 where
  pub records : (n : ℕ) → (site_at after n).records ≡ (site_at world n).records
  pub sent : after.sent ≡ world.sent
  pub order : after.order ≡ world.order
  pub marks : length after.fresh ≡ length world.fresh

-- The site is up, or the attempt sends nothing.
abbrev pub IsAudible : World → ℕ → Attempt → Type 0
IsAudible world n attempt = IsSome (site_at world n).running ⊎ (attempt.sends ≡ [])

-- What an event of this site, if it is of one, comes to before any write leaves all of that as it was.
pub data Leaves (world : World) (source : Option ℕ) : Begun → Type 0 where
  settles : (lines : List Line) (after : World) → Keeps world after → Leaves world source (at_once lines after)
  goes_on : (before : World) (n : ℕ) (attempt : Attempt) → before.sites ≡ world.sites → before.sent ≡ world.sent → before.order ≡ world.order
      → length before.fresh ≡ length world.fresh → source ≡ Some n → IsAudible world n attempt → Leaves world source (attempts before n attempt)

-- the marks are as many without a site
without-marks : (n : ℕ) (sent : List Envelope) (marks : List Bool) → length (without_site n sent marks) ≡ length marks
without-marks n [] marks = refl
without-marks n (envelope ∷ sent) [] = refl
without-marks n (envelope ∷ sent) (mark ∷ marks) = ap suc (without-marks n sent marks)

module _ (setup : Setup) (world : World) where
  keeps-all : Keeps world world
  keeps-all = record { records = λ n. refl; sent = refl; order = refl; marks = refl }

  given-leaves : (before : World) → before.sites ≡ world.sites → before.sent ≡ world.sent → before.order ≡ world.order
      → length before.fresh ≡ length world.fresh → (n : ℕ) (input : Input) (running : Option Running) → (site_at world n).running ≡ running
      → Leaves world (Some n) (given setup before n input running)
  given-leaves before sites messages order marks n input None is =
      settles _ before (record { records = λ m. ap (λ (all : List Site). (get_or all m no_site).records) sites; sent = messages; order = order; marks = marks })
  given-leaves before sites messages order marks n input (Some running) is = goes_on before n _ sites messages order marks refl (inl (ap is_some is))

  delivered-leaves : (number : ℕ) (envelope : Option Envelope) → Leaves world (receiver_of envelope) (delivered setup world number envelope)
  delivered-leaves number None = settles _ world keeps-all
  delivered-leaves number (Some envelope) = given-leaves (with_done world number) refl refl refl (length-set world.fresh number false) envelope.to (receive envelope.from envelope.message) _ refl

  lost-leaves : (source : Option ℕ) (number : ℕ) (envelope : Option Envelope) → Leaves world source (lost world number envelope)
  lost-leaves source number None = settles _ world keeps-all
  lost-leaves source number (Some envelope) = settles _ _ (record { records = λ n. refl; sent = refl; order = refl; marks = length-set world.fresh number false })

  -- a site with other memory, or another armed fault
  put-keeps : (n : ℕ) (site : Site) → site.records ≡ (site_at world n).records → Keeps world (with_site world n site)
  put-keeps n site is = record { records = set-keeps world.sites n site is; sent = refl; order = refl; marks = refl }

  halted-leaves : (source : Option ℕ) (n : ℕ) (running : Option Running) → Leaves world source (halted world n running)
  halted-leaves source n None = settles _ world keeps-all
  halted-leaves source n (Some running) = settles _ _ (put-keeps n _ refl)

  start-silent : (n : ℕ) (started : Started) → (of_start n started).sends ≡ []
  start-silent n (starts running epoch) = refl
  start-silent n (too_long length) = refl
  start-silent n no_epoch = refl

  opened-leaves : (n : ℕ) (running : Option Running) → Leaves world (Some n) (opened setup world n running)
  opened-leaves n (Some running) = settles _ world keeps-all
  opened-leaves n None = goes_on world n _ refl refl refl refl refl (inr (start-silent n (site_start setup 0 (site_at world n).records)))

  packed-leaves : (n : ℕ) (running : Option Running) → Leaves world (Some n) (packed world n running)
  packed-leaves n None = settles _ world keeps-all
  packed-leaves n (Some running) =
      if_case (Leaves world (Some n)) (nat_lt (site_at world n).standing.number greatest_number) (λ left. goes_on world n _ refl refl refl refl refl (inr refl))
      (λ spent. settles _ world keeps-all)

  beginning-leaves : (event : Event) (beginning : Beginning) → IsGuarded event beginning → Leaves world (site_of world event) (begun_by setup world beginning)
  beginning-leaves event (Beginning.gives n input) guard =
      subst (λ (source : Option ℕ). Leaves world source (begun_by setup world (Beginning.gives n input))) (sym (asked-site world event n input guard))
      (given-leaves world refl refl refl refl n input _ refl)
  beginning-leaves event (Beginning.delivers number) guard =
      subst (λ (source : Option ℕ). Leaves world source (begun_by setup world (Beginning.delivers number))) (sym (ap (site_of world) guard))
      (delivered-leaves number (slice_get world.sent number))
  beginning-leaves event (Beginning.loses number) guard = lost-leaves (site_of world event) number (slice_get world.sent number)
  beginning-leaves event (Beginning.drops n) guard = settles _ _ (record { records = λ m. refl; sent = refl; order = refl; marks = without-marks n world.sent world.fresh })
  beginning-leaves event (Beginning.halts n) guard = halted-leaves (site_of world event) n (site_at world n).running
  beginning-leaves event (Beginning.opens n) guard =
      subst (λ (source : Option ℕ). Leaves world source (begun_by setup world (Beginning.opens n))) (sym (guard.of world)) (opened-leaves n (site_at world n).running)
  beginning-leaves event (Beginning.packs n) guard =
      subst (λ (source : Option ℕ). Leaves world source (begun_by setup world (Beginning.packs n))) (sym (guard.of world)) (packed-leaves n (site_at world n).running)
  beginning-leaves event (Beginning.arms n arm) guard = settles _ _ (put-keeps n _ refl)
  beginning-leaves event (Beginning.prints printed) guard = settles _ world keeps-all

  pub begun-leaves : (event : Event) → Leaves world (site_of world event) (begun setup world event)
  begun-leaves event = by-beginning (Leaves world (site_of world event)) setup world event (beginning-leaves event)

-- All of that grows, what is sent comes from this site, which was up, and each message is marked.
pub record Grown (world : World) (source : Option ℕ) (after : World) : Type 0 where
  pub records : (n : ℕ) → Extends (site_at world n).records (site_at after n).records
  pub order : Extends world.order after.order
  pub sent : (more : List Envelope) × (after.sent ≡ world.sent ++ more) × All (λ envelope. (source ≡ Some envelope.from) × IsSome (site_at world envelope.from).running) more
  pub marked : AreMarked world → AreMarked after

-- The messages of an audible attempt come from its site, which was up.
from-up : (world : World) (source : Option ℕ) (n : ℕ) (attempt : Attempt) → source ≡ Some n → IsAudible world n attempt
    → All (λ envelope. (source ≡ Some envelope.from) × IsSome (site_at world envelope.from).running) (from_site n attempt.sends)
from-up world source n attempt is (inl up) =
    All-map (λ envelope. (source ≡ Some envelope.from) × IsSome (site_at world envelope.from).running) _ attempt.sends (λ k d below. (is, up))
from-up world source n attempt is (inr silent) = rw silent (All-nil _)

keeps-grown : {world after : World} → (source : Option ℕ) → Keeps world after → Grown world source after
keeps-grown {world} {after} source keeps = record {
  records = λ n. ([], keeps.records n ∙ sym (append-nil _));
  order = ([], keeps.order ∙ sym (append-nil _));
  sent = ([], keeps.sent ∙ sym (append-nil _), All-nil _);
  marked = λ marked. ap length keeps.sent ∙ (marked ∙ sym keeps.marks);
}

module _ (world : World) (source : Option ℕ) (before : World) (n : ℕ) (attempt : Attempt) (sites : before.sites ≡ world.sites) (messages : before.sent ≡ world.sent)
    (order : before.order ≡ world.order) (marks : length before.fresh ≡ length world.fresh) where
  -- the site with more records, in the place of what it was
  put-extends : (site : Site) (more : List Record) → site.records ≡ (site_at before n).records ++ more
      → (m : ℕ) → Extends (site_at world m).records (get_or (set before.sites n site) m no_site).records
  put-extends site more is m =
      subst (λ (all : List Site). Extends (get_or all m no_site).records (get_or (set before.sites n site) m no_site).records) sites
      (set-extends before.sites n site (more, is) m)

  before-marked : AreMarked world → AreMarked before
  before-marked marked = ap length messages ∙ (marked ∙ sym marks)

  attempted-grown : source ≡ Some n → IsAudible world n attempt → (left : Reached) → Grown world source (attempted before n attempt left).1
  attempted-grown its audible (waits arm) = record {
    records = put-extends _ (option_to_list attempt.appended) refl;
    order = (option_to_list attempt.placed, ap (λ (all : List Placed). all ++ option_to_list attempt.placed) order);
    sent = (from_site n attempt.sends, ap (λ (all : List Envelope). all ++ from_site n attempt.sends) messages, from-up world source n attempt its audible);
    marked = λ marked. rw (
      length-append before.sent (from_site n attempt.sends),
      length-append before.fresh (replicate (length (from_site n attempt.sends)) true),
      length-replicate (length (from_site n attempt.sends)) true,
    )
        (ap (λ (count : ℕ). count + length (from_site n attempt.sends)) (before-marked marked));
  }
  attempted-grown its audible (fires arm) = record {
    records = put-extends _ (option_to_list (record_left attempt.calls attempt.appended arm)) refl;
    order = ([], order ∙ sym (append-nil _));
    sent = ([], messages ∙ sym (append-nil _), All-nil _);
    marked = before-marked;
  }

ended-grown : (world : World) (source : Option ℕ) (b : Begun) → Leaves world source b → Grown world source (ended b).1
ended-grown world source b (settles lines after keeps) = keeps-grown source keeps
ended-grown world source b (goes_on before n attempt sites messages order marks its audible) =
    attempted-grown world source before n attempt sites messages order marks its audible (reached (calls_of attempt) (site_at before n).arm)

-- A transition's world grows out of the one before it.
pub transition-grown : (setup : Setup) (world : World) (event : Event) → Grown world (site_of world event) (transition_of setup world event).world
unfolding transition_of
transition-grown setup world event = ended-grown world (site_of world event) (begun setup world event) (begun-leaves setup world event)

-- What an event comes to that changes the world at once, or that another event stands for.
use Rattle.std.proofs.Common.{◌≡◌, ℕ, ◌<◌, Bool, Option, Some, None, List, [], ◌++◌, sym, ap, subst, ◌∙◌, refl}
use Rattle.std.specs.Prelude.{Result, Ok, Err, IsErrAnd, get_or, slice_get}
use Rattle.std.specs.Global.{Vec}
use Rattle.std.proofs.lemmas.List.{append-nil}
use Rattle.pv_base.specs.declared.mode.Mode.{Mode}
use Rattle.pv_model.specs.Events.{Event}
use Rattle.pv_model.specs.Syntax.{Program}
use Rattle.pv_protocol.specs.Attempt.{at_once, begun, delivered, given, halted, lost, opened, packed, with_arm, without_site}
use Rattle.pv_protocol.specs.Lines as protocol
use Rattle.pv_protocol.specs.Report.{report_of, sent_lines, total_of}
use Rattle.pv_protocol.specs.Run.{lines_of_transitions, transitions_of}
use Rattle.pv_protocol.specs.State as state
use Rattle.pv_protocol.specs.State.{Arm, Setup}
use Rattle.pv_protocol.specs.World as model
use Rattle.pv_protocol.specs.World.{site_at}
use Rattle.pv_script.specs.ScheduleView.{event_of}
use Rattle.pv_script.specs.declared.line.Line.{Line}
use Rattle.pv_script.specs.declared.schedule.Event as script
use Rattle.pv_script.specs.declared.schedule.Event.TheVariants.{Pump}
use Rattle.pv_site.specs.SiteState.{setup_of}
use Rattle.pv_world.proofs.ChangeLemmas.{own-stands, put-stands, with_cell}
use Rattle.pv_world.proofs.EventLemmas.{IsNoPump}
use Rattle.pv_world.proofs.StandLemmas.{stands-dropped}
use Rattle.pv_world.specs.Mail.{without_posts_to}
use Rattle.pv_world.specs.Stands.{Stands, StandsForSite}
use Rattle.pv_world.specs.Steps.{Comes, IsSameBeside, MakesTransitions, Steps, lines_of}
use Rattle.pv_world.specs.declared.cell.Cell.{Cell}
use Rattle.pv_world.specs.declared.error.WorldError.{WorldError}
use Rattle.pv_world.specs.declared.error.WorldError.TheVariants.{SentLimit, NoMemory}
use Rattle.pv_world.specs.declared.world.World.{World}

module _ {X : Type 0} (old new : World) (before after : List Line) (is : model.World) (event : Event) (result : Result X WorldError) where
  pub comes-submitted : (n : ℕ) (query : Bool) (text : List ℕ) (program : Program) → event ≡ Event.submit n query text program
      → Comes old new before after (given (setup_of old.catalog) is n (state.submit program) (site_at is n).running) result
      → Comes old new before after (begun (setup_of old.catalog) is event) result
  unfolding begun
  comes-submitted n query text program same comes =
      subst (λ (e : Event). Comes old new before after (begun (setup_of old.catalog) is e) result) (sym same) comes

  pub comes-delivered : (n : ℕ) → event ≡ Event.deliver n → Comes old new before after (delivered (setup_of old.catalog) is n (slice_get is.sent n)) result
      → Comes old new before after (begun (setup_of old.catalog) is event) result
  unfolding begun
  comes-delivered n same comes = subst (λ (e : Event). Comes old new before after (begun (setup_of old.catalog) is e) result) (sym same) comes

  pub comes-lost : (n : ℕ) → event ≡ Event.lose n → Comes old new before after (lost is n (slice_get is.sent n)) result
      → Comes old new before after (begun (setup_of old.catalog) is event) result
  unfolding begun
  comes-lost n same comes = subst (λ (e : Event). Comes old new before after (begun (setup_of old.catalog) is e) result) (sym same) comes

  pub comes-ticked : (n : ℕ) → event ≡ Event.tick n → Comes old new before after (given (setup_of old.catalog) is n state.tick (site_at is n).running) result
      → Comes old new before after (begun (setup_of old.catalog) is event) result
  unfolding begun
  comes-ticked n same comes = subst (λ (e : Event). Comes old new before after (begun (setup_of old.catalog) is e) result) (sym same) comes

  pub comes-stopped : (n : ℕ) → event ≡ Event.stop n → Comes old new before after (halted is n (site_at is n).running) result
      → Comes old new before after (begun (setup_of old.catalog) is event) result
  unfolding begun
  comes-stopped n same comes = subst (λ (e : Event). Comes old new before after (begun (setup_of old.catalog) is e) result) (sym same) comes

  pub comes-packed : (n : ℕ) → event ≡ Event.checkpoint n → Comes old new before after (packed is n (site_at is n).running) result
      → Comes old new before after (begun (setup_of old.catalog) is event) result
  unfolding begun
  comes-packed n same comes = subst (λ (e : Event). Comes old new before after (begun (setup_of old.catalog) is e) result) (sym same) comes

  pub comes-started : (n : ℕ) → event ≡ Event.start n → Comes old new before after (opened (setup_of old.catalog) is n (site_at is n).running) result
      → Comes old new before after (begun (setup_of old.catalog) is event) result
  unfolding begun
  comes-started n same comes = subst (λ (e : Event). Comes old new before after (begun (setup_of old.catalog) is e) result) (sym same) comes

module _ {X : Type 0} (old new : World) (before after : List Line) (is : model.World) (event : Event) (x : X) where
  -- The event changes the world at once.
  at-once : (lines : List protocol.Line) (next : model.World) → begun (setup_of old.catalog) is event ≡ at_once lines next → Stands new next → IsSameBeside old new
      → lines_of after ≡ lines_of before ++ lines → Comes {X = X} old new before after (begun (setup_of old.catalog) is event) (Ok x)
  at-once lines next begins stands same more =
      subst (λ b. Comes {X = X} old new before after b (Ok x)) (sym begins) (stands, same, more)

  pub comes-sent : event ≡ Event.sent → Stands new is → IsSameBeside old new → lines_of after ≡ lines_of before ++ sent_lines is
      → Comes {X = X} old new before after (begun (setup_of old.catalog) is event) (Ok x)
  unfolding begun
  comes-sent same stands beside more = at-once (sent_lines is) is (ap (begun (setup_of old.catalog) is) same) stands beside more

  pub comes-reported : event ≡ Event.report → Stands new is → IsSameBeside old new → lines_of after ≡ lines_of before ++ report_of (setup_of old.catalog) is
      → Comes {X = X} old new before after (begun (setup_of old.catalog) is event) (Ok x)
  unfolding begun
  comes-reported same stands beside more = at-once (report_of (setup_of old.catalog) is) is (ap (begun (setup_of old.catalog) is) same) stands beside more

  pub comes-totalled : event ≡ Event.total → Stands new is → IsSameBeside old new → lines_of after ≡ lines_of before ++ total_of (setup_of old.catalog) is
      → Comes {X = X} old new before after (begun (setup_of old.catalog) is event) (Ok x)
  unfolding begun
  comes-totalled same stands beside more = at-once (total_of (setup_of old.catalog) is) is (ap (begun (setup_of old.catalog) is) same) stands beside more

module _ {X : Type 0} (old : World) (lines : List Line) (is : model.World) (stands : Stands old is) (event : Event) (x : X) where
  pub comes-dropped : (new : World) (n : ℕ) → event ≡ Event.drop n → new.catalog ≡ old.catalog → new.cells ≡ old.cells → new.order ≡ old.order
      → new.mail ≡ record old.mail { posts = without_posts_to n old.mail.posts }
      → Comes {X = X} old new lines lines (begun (setup_of old.catalog) is event) (Ok x)
  unfolding begun
  comes-dropped new n same catalog cells order mail =
      at-once old new lines lines is event x [] (record is { fresh = without_site n is.sent is.fresh }) (ap (begun (setup_of old.catalog) is) same)
      (stands-dropped old is stands new catalog cells order n mail) (record { catalog = catalog; limit = ap (λ m. m.limit) mail }) (sym (append-nil (lines_of lines)))

  -- The event does nothing.
  pub comes-to-nothing : begun (setup_of old.catalog) is event ≡ at_once [] is → Comes {X = X} old old lines lines (begun (setup_of old.catalog) is event) (Ok x)
  comes-to-nothing begins =
      at-once old old lines lines is event x [] is begins stands (record { catalog = refl; limit = refl }) (sym (append-nil (lines_of lines)))

  -- Another fault is armed at a site's disk, or none.
  pub comes-rearmed : (n : ℕ) → n < old.catalog.sites → (cell : Cell) → cell ≡ get_or old.cells.items n cell → (new : Cell) (armed : Option Arm)
      → ((site : state.Site) → StandsForSite old.catalog n cell site → StandsForSite old.catalog n new (record site { arm = armed }))
      → begun (setup_of old.catalog) is event ≡ at_once [] (with_arm is n armed)
      → Comes {X = X} old (with_cell old n new) lines lines (begun (setup_of old.catalog) is event) (Ok x)
  comes-rearmed n within cell at new armed turns begins =
      at-once old (with_cell old n new) lines lines is event x [] (with_arm is n armed) begins
      (put-stands old is stands n within cell at new (record (site_at is n) { arm = armed }) (turns (site_at is n) (own-stands old is stands n within cell at)))
      (record { catalog = refl; limit = refl }) (sym (append-nil (lines_of lines)))

module _ (setup : Setup) (is : model.World) (event : Event) where
  pub begun-armed : (n call : ℕ) (mode : Mode) (stops : Bool) → event ≡ Event.arm n call mode stops
      → begun setup is event ≡ at_once [] (with_arm is n (Some (record { call = call; mode = mode; stops = stops })))
  unfolding begun
  begun-armed n call mode stops same = ap (begun setup is) same

  pub begun-mended : (n : ℕ) → event ≡ Event.mend n → begun setup is event ≡ at_once [] (with_arm is n None)
  unfolding begun
  begun-mended n same = ap (begun setup is) same

-- An event that isn't read as a pump is none.
pub no-pump : (event : script.Event) → ((most : Option ℕ) → event ≡ Pump most → ⊥) → IsNoPump (event_of event)
no-pump (Pump most) other = absurd (other most refl)
no-pump _ other = tt

-- A step prints the lines that its event adds to none.
pub steps-made : {X : Type 0} (old new : World) (before : List Line) (lines : Vec Line) (event : Event) (is : model.World) (x : X) → before ≡ []
    → MakesTransitions {X = X} old new before lines.items is (transitions_of (setup_of old.catalog) is event) (Ok x) → Steps old new event is (Ok lines)
steps-made old new before lines event is x none makes =
    (makes.0, makes.1, makes.2 ∙ ap (λ (b : List Line). lines_of b ++ lines_of_transitions (transitions_of (setup_of old.catalog) is event)) none)

-- An error of the event is the step's.
steps-as : (X : Type 0) (old new : World) (before after : List Line) (event : Event) (is : model.World) (error : WorldError)
    → MakesTransitions {X = X} old new before after is (transitions_of (setup_of old.catalog) is event) (Err error) → Steps old new event is (Err error)
steps-as X old new before after event is (SentLimit total) makes = makes
steps-as X old new before after event is NoMemory makes = tt

pub steps-failed : (X : Type 0) (old new : World) (before after : List Line) (event : Event) (is : model.World) (result : Result (Vec Line) WorldError) (error : WorldError)
    → IsErrAnd result (λ e. e ≡ error) → MakesTransitions {X = X} old new before after is (transitions_of (setup_of old.catalog) is event) (Err error)
    → Steps old new event is result
steps-failed X old new before after event is (Ok lines) error same makes = absurd same
steps-failed X old new before after event is (Err e) error same makes =
    subst (λ (w : WorldError). Steps old new event is (Err w)) (sym same) (steps-as X old new before after event is error makes)

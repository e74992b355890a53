-- What a step leaves of a site in a box.
use Rattle.std.proofs.Common.{◌≡◌, ℕ, ◌+◌, ◌*◌, ◌<◌, ◌≤◌, ◌^◌, Option, None, Some, List, length, refl, sym, ap, ◌∙◌, subst, arith}
use Rattle.std.proofs.lemmas.List.{length-map}
use Rattle.std.specs.Option.{unwrap_or}
use Rattle.std.specs.Prelude.{Result, Ok, Err, ⊤}
use Rattle.pv_base.specs.Catalog.{Declared}
use Rattle.pv_disk_model.specs.LogModel.{LogModel}
use Rattle.pv_history.specs.declared.entry.TheConstants.{MAX_ENTRIES}
use Rattle.pv_law_load.proofs.EntryLemmas.{entries-grow}
use Rattle.pv_law_load.proofs.SendLemmas.{sends-few}
use Rattle.pv_law_step.proofs.WidthSteps.{step-narrow}
use Rattle.pv_law_world.specs.Pumps.{HasFewSites}
use Rattle.pv_protocol.specs.Sound.{IsSetupInRange}
use Rattle.pv_protocol.specs.State as state
use Rattle.pv_protocol.specs.State.{Input, Running}
use Rattle.pv_protocol.specs.Step.{step_on}
use Rattle.pv_site.specs.SiteState.{SiteState, here_with, setup_of}
use Rattle.pv_site.specs.Steps.{Breaks, HasMade, Stays, Steps}
use Rattle.pv_site.specs.Values.{outgoing_of}
use Rattle.pv_site.specs.declared.error.StepError.{StepError}
use Rattle.pv_site.specs.declared.error.StepError.TheVariants.{Fault, Down, NoMemory}
use Rattle.pv_site.specs.declared.input.Step.{Step}
use Rattle.pv_cell.specs.Box.{Stands}

-- The answer isn't that the site was down.
abbrev pub NotDown : Result Step StepError → Type 0
NotDown (Ok step) = ⊤
NotDown (Err Fault) = ⊤
NotDown (Err Down) = ⊥
NotDown (Err NoMemory) = ⊤

abbrev IsNone : Option Running → Type 0
IsNone None = ⊤
IsNone (Some running) = ⊥

few-sites : (catalog : Declared) → IsSetupInRange (setup_of catalog) → HasFewSites catalog
few-sites catalog is = record { few = is.sites; homes = is.homes }

module _ {W : Type 0} (M : LogModel W) (count : ℕ) (old new : SiteState W) (stands : Stands count old) where
  -- of a step that was made
  pub stands-made : (answer : Step) (running : Running) (input : Input) → old.running ≡ Some running
      → HasMade M old new answer (step_on (here_with old running) input) → Stands (count + 1) new
  stands-made answer running input is made =
      let after = step_on (here_with old running) input in
      let few : length running.entries ≤ count = stands.entered running is in
      let grown : length after.running.entries ≤ length running.entries + 1 = entries-grow (here_with old running) input in
      let entries : length after.running.entries ≤ count + 1 = omega arith in
      subst (Stands (count + 1)) (sym made.site) record {
        within = stands.within;
        setup = stands.setup;
        narrow = step-narrow (here_with old running) input stands.narrow;
        surplus = stands.surplus;
        entered = λ other same. subst (λ (r : Running). length r.entries ≤ count + 1) (ap (λ (o : Option Running). unwrap_or o other) same) entries;
      }

  -- where its log failed
  pub stands-broken : (step : state.Step) → Breaks M old new step → Stands (count + 1) new
  stands-broken step breaks =
      subst (Stands (count + 1)) (sym breaks.site) record {
        within = stands.within;
        setup = stands.setup;
        narrow = stands.narrow;
        surplus = stands.surplus;
        entered = λ other same. absurd (subst IsNone same tt);
      }

  -- where it is the same
  pub stands-same : new ≡ old → Stands (count + 1) new
  stands-same same =
      subst (Stands (count + 1)) (sym same) record {
        within = stands.within;
        setup = stands.setup;
        narrow = stands.narrow;
        surplus = stands.surplus;
        entered = λ running is. let few : length running.entries ≤ count = stands.entered running is in omega arith;
      }

  -- where it is as if nothing had come
  pub stands-still : Stays M old new → Stands count new
  stands-still stays =
      subst (Stands count) (sym stays.site) record { within = stands.within; setup = stands.setup; narrow = stands.narrow; surplus = stands.surplus; entered = stands.entered }

  -- A step sends so few messages that they can be counted.
  sends-counted : (answer : Step) (input : Input) → count ≤ MAX_ENTRIES → (running : Option Running) → old.running ≡ running
      → Steps M old new running input (Ok answer) → length answer.sends.items < 2 ^ 32
  sends-counted answer input within None is steps = absurd (subst NotDown steps.0 tt)
  sends-counted answer input within (Some running) is made =
      let here = here_with old running in
      let same : length answer.sends.items ≡ length (step_on here input).sends =
      sym (length-map answer.sends.items outgoing_of) ∙ ap (λ (all : List state.Outgoing). length all) made.answered.sends in
      let few : length (step_on here input).sends ≤ 16 * length running.entries + 100000 =
      sends-few here (few-sites old.catalog stands.setup) stands.setup.items stands.narrow input in
      let entered : length running.entries ≤ count = stands.entered running is in
      let most : count ≤ 1048576 = within in
      omega arith

  pub sends-fit : (answer : Step) (input : Input) → count ≤ MAX_ENTRIES → Steps M old new old.running input (Ok answer)
      → length answer.sends.items < 2 ^ 32
  sends-fit answer input within steps = sends-counted answer input within old.running refl steps

-- What the lines of a live script said so far, as plain data.
use Rattle.std.specs.Prelude.{◌≡◌, ◌≢◌, ℕ, ◌≤◌, false, Some, None, List, [], All, map}
use Rattle.std.specs.Option.{option_map}
use Rattle.pv_base.specs.Catalog.{Item, place_of}
use Rattle.pv_base.specs.declared.limits.TheConstants.{MAX_REQUESTS}
use Rattle.pv_model.specs.LineCauses.{Before, home_of, last_requests, last_site}
use Rattle.pv_model.specs.LineForms.{live}
use Rattle.pv_model.specs.LiveScript as model
use Rattle.pv_script.specs.LiveView.{client_of, HasPlans}
use Rattle.pv_script.specs.Said.{Beside, before_with, IsLimited}
use Rattle.pv_script.specs.declared.live_said.FaultPlan.{FaultPlan}
use Rattle.pv_script.specs.declared.live_said.LiveSaid.{LiveSaid}
use Rattle.pv_script.specs.declared.schedule.LineCause.{LineCause}
use Rattle.pv_script.specs.declared.schedule.LineCause.TheVariants.{ClientExpected, TooManyRequests, NoSuchItem, OtherSite}

abbrev pub fault_plan_in : FaultPlan → model.FaultPlan
fault_plan_in fault_plan = record { drop_each = fault_plan.drop_each; double_each = fault_plan.double_each }

-- what a live script alone says
abbrev pub beside_of : LiveSaid → Beside
beside_of said = record { script = live; fault_plan = option_map fault_plan_in said.fault_plan; clients = map client_of said.clients.items }

abbrev pub before_of_live : LiveSaid → Before
before_of_live live_said = before_with (beside_of live_said) live_said.said

-- The catalog has the limit that was said, there is no client before the script has begun, and each request has its plan.
pub record IsSound (said : LiveSaid) : Type 0 where
  pub limited : IsLimited said.said
  pub early : said.said.begun ≡ false → said.clients.items ≡ []
  pub plans : All (HasPlans said.said.catalog) said.clients.items

-- No item of this name can be looked at by the last client, for this cause.
abbrev pub IsItemFault : List Item → List ℕ → List model.Client → LineCause → Type 0
IsItemFault items name clients NoSuchItem = place_of name items ≡ None
IsItemFault items name clients OtherSite = (place : ℕ) × (place_of name items ≡ Some place) × (home_of items place ≢ last_site clients)
IsItemFault items name clients _ = ⊥

-- The last client wants nothing more, for this cause.
abbrev pub IsNumberFault : List model.Client → LineCause → Type 0
IsNumberFault clients ClientExpected = clients ≡ []
IsNumberFault clients TooManyRequests = MAX_REQUESTS ≤ last_requests clients
IsNumberFault clients _ = ⊥

-- A live script that is read, as the plain data of the definitions.
use Rattle.std.specs.Prelude.{List, All, map, ⊤}
use Rattle.pv_base.specs.Catalog.{Declared}
use Rattle.pv_model.specs.Check.{IsPlan}
use Rattle.pv_model.specs.LiveScript as model
use Rattle.pv_script.specs.declared.live.Client.{Client}
use Rattle.pv_script.specs.declared.live.LiveScript.{LiveScript}
use Rattle.pv_script.specs.declared.live.Request.{Request}
use Rattle.pv_script.specs.declared.live.Wish.{Wish}
use Rattle.pv_script.specs.declared.live.Wish.TheVariants.{Do, Peek}

abbrev pub request_of : Request → model.Request
request_of request = record { number = request.number; query = request.query; text = request.text.items; program = request.program }

abbrev pub wish_of : Wish → model.Wish
wish_of (Do request) = model.to_ask (request_of request)
wish_of (Peek number item) = model.to_peek number item.0

-- the requests among what a client wants, in order
abbrev pub requests_by : Client → List model.Request
requests_by client = model.requests_among (map wish_of client.requests.items)

abbrev pub client_of : Client → model.Client
client_of client = record { site = client.site.0; requests = map wish_of client.requests.items }

abbrev pub live_script_of : LiveScript → model.LiveScript
live_script_of script = record {
  catalog = script.catalog;
  fault_plan = record { drop_each = script.drop_each; double_each = script.double_each };
  clients = map client_of script.clients.items;
}

-- A request has the plan of its program over the catalog.
abbrev pub IsPlanned : Declared → Wish → Type 0
IsPlanned catalog (Do request) = IsPlan request.program catalog.items request.plan.parts.items
IsPlanned catalog (Peek number item) = ⊤

-- So it is of each request of the client.
abbrev pub HasPlans : Declared → Client → Type 0
HasPlans catalog client = All (IsPlanned catalog) client.requests.items

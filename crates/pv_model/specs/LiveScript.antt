-- What a live script says: a catalog, which messages between sites fail, and what each client asks for.
use Rattle.std.specs.Prelude.{ℕ, Bool, List, [], ◌∷◌}
use Rattle.pv_base.specs.Catalog.{Declared}
use Rattle.pv_model.specs.Syntax.{Program}

-- A request, with its number among all that its client wants, from 0, and with the text of its program as it stands; a query only answers.
pub record Request : Type 0 where
  pub number : ℕ
  pub query : Bool
  pub text : List ℕ
  pub program : Program

-- What a client wants: a request, or a look at an item, with its number among all that its client wants, from 0.
pub data Wish : Type 0 where
  to_ask : Request → Wish
  to_peek : (number item : ℕ) → Wish

-- its number among all that its client wants
abbrev pub number_of : Wish → ℕ
number_of (to_ask request) = request.number
number_of (to_peek number item) = number

-- the requests among these, in order
abbrev pub requests_among : List Wish → List Request
requests_among [] = []
requests_among (to_ask request ∷ wishes) = request ∷ requests_among wishes
requests_among (to_peek number item ∷ wishes) = requests_among wishes

-- a client, which wants these of its site, in order
pub record Client : Type 0 where
  pub site : ℕ
  pub requests : List Wish

-- From each site to each, the messages whose numbers, from 1, are multiples of the first number are lost. Of the others, those whose numbers are multiples
-- of the second come twice. Where a number is 0 there are none.
pub record FaultPlan : Type 0 where
  pub drop_each : ℕ
  pub double_each : ℕ

-- what is declared, how messages fail, and the clients in order
pub record LiveScript : Type 0 where
  pub catalog : Declared
  pub fault_plan : FaultPlan
  pub clients : List Client

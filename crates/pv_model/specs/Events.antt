-- What a schedule says: a catalog, and what happens.
use Rattle.std.specs.Prelude.{ℕ, Bool, Option, List}
use Rattle.pv_base.specs.Catalog.{Declared}
use Rattle.pv_base.specs.declared.mode.Mode.{Mode}
use Rattle.pv_model.specs.Syntax.{Program}

pub data Event : Type 0 where
  -- a request at a site, with the text of its program as it stands; a query only answers
  submit : (site : ℕ) (query : Bool) (text : List ℕ) (program : Program) → Event
  deliver : (message : ℕ) → Event
  -- all messages are delivered, or at most so many
  pump : (most : Option ℕ) → Event
  lose : (message : ℕ) → Event
  drop : (site : ℕ) → Event
  tick : (site : ℕ) → Event
  stop : (site : ℕ) → Event
  start : (site : ℕ) → Event
  -- the site's call of this number from now on stops it, or fails
  arm : (site call : ℕ) (mode : Mode) (stops : Bool) → Event
  mend : (site : ℕ) → Event
  -- the site writes its log anew, packed
  checkpoint : (site : ℕ) → Event
  sent : Event
  report : Event
  total : Event

-- what is declared, and what happens
pub record Schedule : Type 0 where
  pub catalog : Declared
  pub events : List Event

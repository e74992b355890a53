-- The texts that are programs over the items of a catalog, and why another text is refused.
use Rattle.std.specs.Prelude.{◌≡◌, ℕ, ◌+◌, ◌<◌, ◌≤◌, nat_le, Option, Some, None, List, [], ◌∷◌, ◌++◌, length, map, ◌⊎◌, IsTrue}
use Rattle.pv_base.specs.declared.limits.TheConstants.{MAX_DEPTH, MAX_LINE}
use Rattle.std.specs.List.{list_all}
use Rattle.pv_base.specs.Catalog.{Declared, place_of}
use Rattle.pv_model.specs.Syntax.{Program}
use Rattle.pv_model.specs.FirstMisplaced.{IsFirstFault, without_numbers}
use Rattle.pv_model.specs.Tokens.{Token, HasTokens}
use Rattle.pv_model.specs.Grammar.{Nested, ReadsProgram}

-- the number of the item of this name
abbrev pub item_in : Declared → List ℕ → Option ℕ
item_in catalog name = place_of name catalog.items

-- for the grammar alone every name is an item's
abbrev pub any_item : List ℕ → Option ℕ
any_item name = Some 0

-- nested tokens, without their nestings
abbrev pub without_nestings : List Nested → List Token
without_nestings placed = map (λ t. t.1) placed

-- Nested tokens are a whole program.
abbrev pub AreNested : (List ℕ → Option ℕ) → List Nested → Program → Type 0
AreNested item_of placed program = ReadsProgram item_of 0 placed [] program

-- Tokens are this program, where their nestings are these.
pub record AreProgram (item_of : List ℕ → Option ℕ) (tokens : List Token) (program : Program) : Type 0 where
  pub placed : List Nested
  pub same : tokens ≡ without_nestings placed
  pub reads : AreNested item_of placed program

-- Tokens are some program, whatever its names.
abbrev pub AreSomeProgram : List Token → Type 0
AreSomeProgram tokens = (program : Program) × AreProgram any_item tokens program

-- A text has at most 1,000 bytes. Its tokens are the program, its names are items of the catalog, and no token is nested deeper than
-- `MAX_DEPTH`.
pub record IsProgramText (catalog : Declared) (text : List ℕ) (program : Program) : Type 0 where
  pub short : length text ≤ MAX_LINE
  pub tokens : List (ℕ × Token)
  pub has : HasTokens text tokens
  pub are : AreProgram (item_in catalog) (without_numbers tokens) program
  pub shallow : IsTrue (list_all (λ t. nat_le t.0 MAX_DEPTH) are.placed)

-- The first token that can't continue a program begins at this column, or the text ends before it is one.
abbrev pub IsMalformedProgram : List ℕ → ℕ → Type 0
IsMalformedProgram text column = (tokens : List (ℕ × Token)) × HasTokens text tokens × IsFirstFault AreSomeProgram tokens (length text + 1) column

-- At this column stands a name that no item has.
pub record NamesNoItem (catalog : Declared) (text : List ℕ) (column : ℕ) : Type 0 where
  pub front : List (ℕ × Token)
  pub name : List ℕ
  pub later : List (ℕ × Token)
  pub has : HasTokens text (front ++ (column, Token.name name) ∷ later)
  pub none : place_of name catalog.items ≡ None

-- At this column stands a token that is nested deeper than `MAX_DEPTH` in a program that the tokens up to it begin.
pub record IsTooDeep (text : List ℕ) (column : ℕ) : Type 0 where
  pub front : List (ℕ × Token)
  pub token : Token
  pub later : List (ℕ × Token)
  pub has : HasTokens text (front ++ (column, token) ∷ later)
  pub program : Program
  pub before : List Nested
  pub nesting : ℕ
  pub after : List Nested
  pub same : without_numbers front ≡ without_nestings before
  pub reads : AreNested any_item (before ++ (nesting, token) ∷ after) program
  pub deep : MAX_DEPTH < nesting

-- the kinds of faults, as they are ranked at one column
pub data Kind : Type 0 where
  malformed : Kind
  unknown_name : Kind
  too_deep : Kind

abbrev pub kind_rank : Kind → ℕ
kind_rank malformed = 0
kind_rank unknown_name = 1
kind_rank too_deep = 2

-- A text has a fault of this kind at this column.
abbrev pub HasFaultAt : Declared → List ℕ → Kind → ℕ → Type 0
HasFaultAt catalog text malformed column = IsMalformedProgram text column
HasFaultAt catalog text unknown_name column = NamesNoItem catalog text column
HasFaultAt catalog text too_deep column = IsTooDeep text column

-- A fault comes before another one, or both are one: it is further left, or at the same column and of no higher rank.
abbrev pub ComesFirst : Kind → ℕ → Kind → ℕ → Type 0
ComesFirst kind column other place = (column < place) ⊎ ((column ≡ place) × (kind_rank kind ≤ kind_rank other))

-- the fault that is answered: the leftmost, and at one column the first by rank
pub record IsLeftmost (catalog : Declared) (text : List ℕ) (kind : Kind) (column : ℕ) : Type 0 where
  pub has : HasFaultAt catalog text kind column
  pub first : (other : Kind) (place : ℕ) → HasFaultAt catalog text other place → ComesFirst kind column other place

-- why a text is refused
pub data Refusal : Type 0 where
  too_large : ℕ → Refusal
  at_fault : Kind → ℕ → Refusal

-- A text of more than 1,000 bytes is refused with its length, and another for its leftmost fault.
abbrev pub IsRefused : Declared → List ℕ → Refusal → Type 0
IsRefused catalog text (too_large n) = (n ≡ length text) × (MAX_LINE < n)
IsRefused catalog text (at_fault kind column) = (length text ≤ MAX_LINE) × IsLeftmost catalog text kind column

-- Why a line of a script is malformed.
use Rattle.std.specs.Prelude.{◌≡◌, ◌≢◌, ℕ, ◌<◌, ◌≤◌, Bool, true, false, Option, Some, None, List, [], ◌∷◌, length, map, slice_get, ◌⊎◌, codes}
use Rattle.pv_base.specs.declared.limits.TheConstants.{MAX_CLIENTS, MAX_ITEMS, MAX_JOURNAL, MAX_PROGRAM_ITEMS, MAX_REQUESTS}
use Rattle.std.specs.List.{list_all, Contains}
use Rattle.pv_base.specs.Catalog.{Item, Declared, place_of}
use Rattle.pv_base.specs.Name.{is_name}
use Rattle.pv_model.specs.Check.{names_item, AreItems, has_assignment, has_return}
use Rattle.pv_model.specs.LineForms.{Script, live, most_bytes, Field, mode, name, item_name, program, first_word, forms_of, is_wished, form_of, fields_of, has_good_number}
use Rattle.pv_model.specs.LiveScript.{Client, FaultPlan}
use Rattle.pv_model.specs.ProgramText.{Kind, IsProgramText, at_fault, IsRefused}
use Rattle.pv_model.specs.Syntax.{Program}
use Rattle.pv_model.specs.Text.{TextLine, is_text_byte}

-- What the lines before one said, in a script of this kind: the count of sites and the limit of the journals, if they did, the items so far, and whether an
-- event or a client came. In a live script also the fault plan, if they did, and the clients so far, with what they want.
pub record Before : Type 0 where
  pub script : Script
  pub sites : Option ℕ
  pub journal : Option ℕ
  pub items : List Item
  pub begun : Bool
  pub fault_plan : Option FaultPlan
  pub clients : List Client

-- nothing was said yet
abbrev pub at_first : Script → Before
at_first script = record { script = script; sites = None; journal = None; items = []; begun = false; fault_plan = None; clients = [] }

-- a number that was said, or this one where none was
abbrev pub or_default : ℕ → Option ℕ → ℕ
or_default default None = default
or_default default (Some n) = n

-- What is declared by what was said. Journals have the greatest limit where none is declared.
abbrev pub declared_by : Before → Declared
declared_by before = record { sites = or_default 0 before.sites; journal = or_default MAX_JOURNAL before.journal; items = before.items }

-- how much the last client wants
abbrev pub last_requests : List Client → ℕ
last_requests [] = 0
last_requests (client ∷ []) = length client.requests
last_requests (client ∷ next ∷ clients) = last_requests (next ∷ clients)

-- the site of the last client, if there is one
abbrev pub last_site : List Client → Option ℕ
last_site [] = None
last_site (client ∷ []) = Some client.site
last_site (client ∷ next ∷ clients) = last_site (next ∷ clients)

-- the site of the item at this place
abbrev pub home_of : List Item → ℕ → Option ℕ
home_of items place = slice_get (map (λ declared. declared.site) items) place

pub data LineCause : Type 0 where
  too_long : LineCause
  not_text : LineCause
  sites_expected : LineCause
  unknown_word : LineCause
  twice : LineCause
  too_late : LineCause
  wrong_count : LineCause
  client_expected : LineCause
  too_many_clients : LineCause
  too_many_requests : LineCause
  no_such_item : LineCause
  other_site : LineCause
  bad_number : LineCause
  bad_mode : LineCause
  bad_name : LineCause
  name_taken : LineCause
  too_many_items : LineCause
  at_program : Kind → ℕ → LineCause
  names_no_item : LineCause
  too_many_names : ℕ → LineCause
  query_assigns : LineCause
  no_return : LineCause
  -- the line of a trace is none; no line of a script has this cause
  not_a_trace : LineCause

-- the order in which causes are reported
abbrev pub line_cause_rank : LineCause → ℕ
line_cause_rank too_long = 0
line_cause_rank not_text = 1
line_cause_rank sites_expected = 2
line_cause_rank unknown_word = 3
line_cause_rank twice = 4
line_cause_rank too_late = 5
line_cause_rank wrong_count = 6
line_cause_rank client_expected = 7
line_cause_rank too_many_clients = 8
line_cause_rank too_many_requests = 9
line_cause_rank no_such_item = 10
line_cause_rank other_site = 11
line_cause_rank bad_number = 12
line_cause_rank bad_mode = 13
line_cause_rank bad_name = 14
line_cause_rank name_taken = 15
line_cause_rank too_many_items = 16
line_cause_rank (at_program kind column) = 17
line_cause_rank names_no_item = 18
line_cause_rank (too_many_names n) = 19
line_cause_rank query_assigns = 20
line_cause_rank no_return = 21
line_cause_rank not_a_trace = 22

-- the line begins with this word
abbrev pub HasFirstWord : List ℕ → TextLine → Type 0
HasFirstWord word line = first_word line ≡ word

-- something was said
abbrev pub IsSaid : {A : Type 0} → Option A → Type 0
IsSaid said = said ≢ None

-- By the line a client of a live script wants something.
abbrev pub IsAsked : Before → TextLine → Type 0
IsAsked before line = (before.script ≡ live) × (is_wished (first_word line) ≡ true)

-- This stands in the field of a line of such a script.
abbrev pub Has : Script → TextLine → Field → List ℕ → Type 0
Has script line field word = Contains (fields_of script line) (field, word)

-- The program that stands in the line, where its text is one.
abbrev pub HasProgram : Before → TextLine → Program → Type 0
HasProgram before line p = (text : List ℕ) × Has before.script line program text × IsProgramText (declared_by before) text p

-- what a mode is called
abbrev pub mode_words : List (List ℕ)
mode_words = codes "lost" ∷ codes "kept" ∷ codes "torn" ∷ []

-- The line has this cause after what was said, whatever other causes it has.
abbrev pub HasLineCause : Before → TextLine → LineCause → Type 0
HasLineCause before line too_long = most_bytes before.script < length line
HasLineCause before line not_text = list_all is_text_byte line ≡ false
HasLineCause before line sites_expected = (before.sites ≡ None) × (HasFirstWord (codes "sites") line → ⊥)
HasLineCause before line unknown_word = forms_of before.script (first_word line) ≡ []
HasLineCause before line twice =
    (HasFirstWord (codes "sites") line × IsSaid before.sites)
    ⊎ ((HasFirstWord (codes "journal") line × IsSaid before.journal) ⊎ (HasFirstWord (codes "plan") line × IsSaid before.fault_plan))
HasLineCause before line too_late =
    (HasFirstWord (codes "journal") line ⊎ (HasFirstWord (codes "item") line ⊎ HasFirstWord (codes "plan") line)) × (before.begun ≡ true)
HasLineCause before line wrong_count = form_of before.script line ≡ None
HasLineCause before line client_expected = IsAsked before line × (before.clients ≡ [])
HasLineCause before line too_many_clients = HasFirstWord (codes "client") line × (MAX_CLIENTS ≤ length before.clients)
HasLineCause before line too_many_requests = IsAsked before line × (MAX_REQUESTS ≤ last_requests before.clients)
HasLineCause before line no_such_item = (word : List ℕ) × Has before.script line item_name word × (place_of word before.items ≡ None)
HasLineCause before line other_site =
    (word : List ℕ) × (place : ℕ) × Has before.script line item_name word × (place_of word before.items ≡ Some place)
    × (home_of before.items place ≢ last_site before.clients)
HasLineCause before line bad_number = list_all (has_good_number (or_default 0 before.sites)) (fields_of before.script line) ≡ false
HasLineCause before line bad_mode = (word : List ℕ) × Has before.script line mode word × (Contains mode_words word → ⊥)
HasLineCause before line bad_name = (word : List ℕ) × Has before.script line name word × (is_name word ≡ false)
HasLineCause before line name_taken = (word : List ℕ) × Has before.script line name word × (place_of word before.items ≢ None)
HasLineCause before line too_many_items = HasFirstWord (codes "item") line × (MAX_ITEMS ≤ length before.items)
HasLineCause before line (at_program kind column) = (text : List ℕ) × Has before.script line program text × IsRefused (declared_by before) text (at_fault kind column)
HasLineCause before line names_no_item = (p : Program) × HasProgram before line p × ((n : ℕ) → names_item p n ≡ false)
HasLineCause before line (too_many_names n) = (p : Program) × HasProgram before line p × (items : List ℕ) × AreItems p items × (n ≡ length items) × (MAX_PROGRAM_ITEMS < n)
HasLineCause before line query_assigns = (p : Program) × HasProgram before line p × HasFirstWord (codes "query") line × (has_assignment p ≡ true)
HasLineCause before line no_return = (p : Program) × HasProgram before line p × HasFirstWord (codes "query") line × (has_return p ≡ false)
HasLineCause before line not_a_trace = ⊥

-- The line's first cause, in the order of causes.
pub record IsFirstCause (before : Before) (line : TextLine) (cause : LineCause) : Type 0 where
  pub has : HasLineCause before line cause
  pub first : (other : LineCause) → HasLineCause before line other → line_cause_rank cause ≤ line_cause_rank other

-- The texts that are scripts of each kind, schedules and live scripts, line by line, and the first line at fault of another text.
use Rattle.std.specs.Prelude.{◌≡◌, ◌≢◌, ℕ, ◌+◌, ◌-◌, ◌^◌, ◌<◌, ◌≤◌, Bool, true, false, Option, Some, None, List, [], ◌∷◌, ◌++◌, length, ◌⊎◌, IsTrue, codes}
use Rattle.pv_base.specs.declared.limits.TheConstants.{MAX_CALL, MAX_CLIENTS, MAX_ITEMS, MAX_JOURNAL, MAX_PROGRAM_ITEMS, MAX_PUMP, MAX_REQUESTS, MAX_SITES, MIN_JOURNAL}
use Rattle.pv_base.specs.Catalog.{Item, place_of}
use Rattle.pv_base.specs.Name.{is_name}
use Rattle.pv_base.specs.declared.mode.Mode.{Mode}
use Rattle.pv_base.specs.declared.mode.Mode.TheVariants.{Lost, Kept, Torn}
use Rattle.pv_model.specs.LineCauses.{Before, at_first, or_default, declared_by, last_requests, last_site, home_of, LineCause, sites_expected, IsFirstCause}
use Rattle.pv_model.specs.Check.{AreItems, has_assignment, has_return}
use Rattle.pv_model.specs.Events.{Event, submit, deliver, pump, lose, drop, tick, stop, start, arm, mend, checkpoint, sent, report, total, Schedule}
use Rattle.pv_model.specs.FirstMisplaced.{without_numbers}
use Rattle.pv_model.specs.LineForms.{Script, scheduled, live, most_bytes, arguments}
use Rattle.pv_model.specs.LiveScript.{Request, Wish, to_ask, to_peek, Client, FaultPlan, LiveScript}
use Rattle.pv_model.specs.Meaning.{fits_i64}
use Rattle.pv_model.specs.ProgramText.{IsProgramText}
use Rattle.pv_model.specs.Syntax.{Program}
use Rattle.pv_model.specs.Text.{TextLine, IsText, IsDecimal, IsSignedDecimal, lines, numbered, words}

-- The word spells a number in this range.
abbrev pub IsIn : ℕ → ℕ → List ℕ → ℕ → Type 0
IsIn least most word n = IsDecimal word n × (least ≤ n) × (n ≤ most)

-- The word spells a site, where so many were said.
abbrev pub IsDeclaredSite : Before → List ℕ → ℕ → Type 0
IsDeclaredSite before word n = IsDecimal word n × (n < or_default 0 before.sites)

abbrev pub IsMode : List ℕ → Mode → Type 0
IsMode word Lost = word ≡ codes "lost"
IsMode word Kept = word ≡ codes "kept"
IsMode word Torn = word ≡ codes "torn"

-- The line is a first word with one more, of which this holds.
abbrev pub IsOne : List ℕ → (List ℕ → Type 0) → TextLine → Type 0
IsOne word Holds line = (given : List ℕ) × (words line ≡ word ∷ given ∷ []) × Holds given

-- The line is a first word alone.
abbrev pub IsAlone : List ℕ → TextLine → Type 0
IsAlone word line = words line ≡ word ∷ []

-- The line is a first word with a site, a number of a call and a mode.
abbrev pub IsArm : Before → List ℕ → ℕ → ℕ → Mode → TextLine → Type 0
IsArm before word site call mode line =
    (at number left : List ℕ) × (words line ≡ word ∷ at ∷ number ∷ left ∷ []) × IsDeclaredSite before at site × IsIn 1 MAX_CALL number call × IsMode left mode

-- what a request is called
abbrev pub request_word : Bool → List ℕ
request_word true = codes "query"
request_word false = codes "submit"

-- A program may run: it names an item and at most 16 of them, and a query has no assignment and has a `return`.
pub record MayRun (p : Program) (query : Bool) : Type 0 where
  pub items : List ℕ
  pub are : AreItems p items
  pub some : 0 < length items
  pub few : length items ≤ MAX_PROGRAM_ITEMS
  pub answers : query ≡ true → (has_assignment p ≡ false) × (has_return p ≡ true)

-- The line is a request at the site with the text of a program that may run.
pub record IsRequest (before : Before) (site : ℕ) (query : Bool) (text : List ℕ) (p : Program) (line : TextLine) : Type 0 where
  pub more : List (List ℕ)
  pub first : words line ≡ request_word query ∷ more
  pub at : List ℕ
  pub given : arguments before.script line ≡ at ∷ text ∷ []
  pub place : IsDeclaredSite before at site
  pub is : IsProgramText (declared_by before) text p
  pub may : MayRun p query

-- What the line says is this event.
abbrev pub Says : Before → TextLine → Event → Type 0
Says before line (submit site query text p) = IsRequest before site query text p line
Says before line (deliver n) = IsOne (codes "deliver") (λ word. IsIn 0 (2 ^ 64 - 1) word n) line
Says before line (lose n) = IsOne (codes "lose") (λ word. IsIn 0 (2 ^ 64 - 1) word n) line
Says before line (pump None) = IsAlone (codes "pump") line
Says before line (pump (Some n)) = IsOne (codes "pump") (λ word. IsIn 1 MAX_PUMP word n) line
Says before line (drop site) = IsOne (codes "drop") (λ word. IsDeclaredSite before word site) line
Says before line (tick site) = IsOne (codes "tick") (λ word. IsDeclaredSite before word site) line
Says before line (stop site) = IsOne (codes "stop") (λ word. IsDeclaredSite before word site) line
Says before line (start site) = IsOne (codes "start") (λ word. IsDeclaredSite before word site) line
Says before line (mend site) = IsOne (codes "mend") (λ word. IsDeclaredSite before word site) line
Says before line (checkpoint site) = IsOne (codes "checkpoint") (λ word. IsDeclaredSite before word site) line
Says before line (arm site call mode true) = IsArm before (codes "cut") site call mode line
Says before line (arm site call mode false) = IsArm before (codes "fail") site call mode line
Says before line sent = IsAlone (codes "sent") line
Says before line report = IsAlone (codes "report") line
Says before line total = IsAlone (codes "total") line

-- An event is a well-formed line of a schedule after the count of sites.
pub record IsEvent (before : Before) (line : TextLine) (event : Event) : Type 0 where
  pub kind : before.script ≡ scheduled
  pub text : IsText (most_bytes before.script) line
  pub sites : ℕ
  pub said : before.sites ≡ Some sites
  pub says : Says before line event

-- what was said with an event more
abbrev pub with_event : Before → Before
with_event before = record before { begun = true }

-- `sites N`, which comes first
pub record DeclaresSites (before : Before) (line : TextLine) (after : Before) : Type 0 where
  pub text : IsText (most_bytes before.script) line
  pub first : before.sites ≡ None
  pub count : ℕ
  pub is : IsOne (codes "sites") (λ word. IsIn 1 MAX_SITES word count) line
  pub same : after ≡ record before { sites = Some count }

-- `journal N`, once and before all events
pub record DeclaresJournal (before : Before) (line : TextLine) (after : Before) : Type 0 where
  pub text : IsText (most_bytes before.script) line
  pub sites : ℕ
  pub said : before.sites ≡ Some sites
  pub once : before.journal ≡ None
  pub early : before.begun ≡ false
  pub limit : ℕ
  pub is : IsOne (codes "journal") (λ word. IsIn MIN_JOURNAL MAX_JOURNAL word limit) line
  pub same : after ≡ record before { journal = Some limit }

-- `item NAME SITE VALUE`, with a name that no item has, before all events
pub record DeclaresItem (before : Before) (line : TextLine) (after : Before) : Type 0 where
  pub text : IsText (most_bytes before.script) line
  pub sites : ℕ
  pub said : before.sites ≡ Some sites
  pub early : before.begun ≡ false
  pub item : Item
  pub at : List ℕ
  pub number : List ℕ
  pub is : words line ≡ codes "item" ∷ item.name ∷ at ∷ number ∷ []
  pub place : IsDeclaredSite before at item.site
  pub worth : IsSignedDecimal number item.value
  pub fits : IsTrue (fits_i64 item.value)
  pub name : IsTrue (is_name item.name)
  pub free : place_of item.name before.items ≡ None
  pub room : length before.items < MAX_ITEMS
  pub same : after ≡ record before { items = before.items ++ item ∷ [] }

-- `plan D E` in a live script, once and before all clients
pub record DeclaresPlan (before : Before) (line : TextLine) (after : Before) : Type 0 where
  pub kind : before.script ≡ live
  pub text : IsText (most_bytes before.script) line
  pub sites : ℕ
  pub said : before.sites ≡ Some sites
  pub once : before.fault_plan ≡ None
  pub early : before.begun ≡ false
  pub fault_plan : FaultPlan
  pub dropped : List ℕ
  pub doubled : List ℕ
  pub is : words line ≡ codes "plan" ∷ dropped ∷ doubled ∷ []
  pub drops : IsIn 0 (2 ^ 32 - 1) dropped fault_plan.drop_each
  pub doubles : IsIn 0 (2 ^ 32 - 1) doubled fault_plan.double_each
  pub same : after ≡ record before { fault_plan = Some fault_plan }

-- a client that wants nothing yet
abbrev pub new_client : ℕ → Client
new_client site = record { site = site; requests = [] }

-- a client that wants one thing more
abbrev pub with_one_more : Client → Wish → Client
with_one_more client wish = record client { requests = client.requests ++ wish ∷ [] }

-- clients, of which the last wants one thing more
abbrev pub with_wish : List Client → Wish → List Client
with_wish [] wish = []
with_wish (client ∷ []) wish = with_one_more client wish ∷ []
with_wish (client ∷ next ∷ clients) wish = client ∷ with_wish (next ∷ clients) wish

-- `client SITE` in a live script, the last client so far
pub record DeclaresClient (before : Before) (line : TextLine) (after : Before) : Type 0 where
  pub kind : before.script ≡ live
  pub text : IsText (most_bytes before.script) line
  pub sites : ℕ
  pub said : before.sites ≡ Some sites
  pub site : ℕ
  pub is : IsOne (codes "client") (λ word. IsDeclaredSite before word site) line
  pub room : length before.clients < MAX_CLIENTS
  pub same : after ≡ record before { begun = true; clients = before.clients ++ new_client site ∷ [] }

-- `submit PROGRAM` or `query PROGRAM` in a live script, a request of the last client so far, with the text of a program that may run
pub record DeclaresRequest (before : Before) (line : TextLine) (after : Before) : Type 0 where
  pub kind : before.script ≡ live
  pub text : IsText (most_bytes before.script) line
  pub sites : ℕ
  pub said : before.sites ≡ Some sites
  pub request : Request
  pub more : List (List ℕ)
  pub first : words line ≡ request_word request.query ∷ more
  pub given : arguments before.script line ≡ request.text ∷ []
  pub some : before.clients ≢ []
  pub room : last_requests before.clients < MAX_REQUESTS
  pub number : request.number ≡ last_requests before.clients
  pub is : IsProgramText (declared_by before) request.text request.program
  pub may : MayRun request.program request.query
  pub same : after ≡ record before { clients = with_wish before.clients (to_ask request) }

-- `peek NAME` in a live script: the last client so far wants to look at an item of its site
pub record DeclaresPeek (before : Before) (line : TextLine) (after : Before) : Type 0 where
  pub kind : before.script ≡ live
  pub text : IsText (most_bytes before.script) line
  pub sites : ℕ
  pub said : before.sites ≡ Some sites
  pub name : List ℕ
  pub is : words line ≡ codes "peek" ∷ name ∷ []
  pub some : before.clients ≢ []
  pub room : last_requests before.clients < MAX_REQUESTS
  pub item : ℕ
  pub at : place_of name before.items ≡ Some item
  pub here : home_of before.items item ≡ last_site before.clients
  pub same : after ≡ record before { clients = with_wish before.clients (to_peek (last_requests before.clients) item) }

-- The line declares something that a live script alone has.
abbrev pub DeclaresLive : Before → TextLine → Before → Type 0
DeclaresLive before line after =
    DeclaresPlan before line after ⊎ (DeclaresClient before line after ⊎ (DeclaresRequest before line after ⊎ DeclaresPeek before line after))

-- The line declares something.
abbrev pub Declares : Before → TextLine → Before → Type 0
Declares before line after = DeclaresSites before line after ⊎ (DeclaresJournal before line after ⊎ (DeclaresItem before line after ⊎ DeclaresLive before line after))

-- Lines after what was said are declarations and events: each one by what those before it said. They end with these events, and with this said. Events are of
-- schedules alone; a live script has declarations alone.
pub data AreLines : Before → List TextLine → List Event → Before → Type 0 where
  none : (before : Before) → AreLines before [] [] before
  declaration : (before after last : Before) (line : TextLine) (lines : List TextLine) (events : List Event) → Declares before line after
      → AreLines after lines events last → AreLines before (line ∷ lines) events last
  event : (before last : Before) (line : TextLine) (lines : List TextLine) (e : Event) (events : List Event) → IsEvent before line e
      → AreLines (with_event before) lines events last → AreLines before (line ∷ lines) (e ∷ events) last

-- the significant lines of a text, without their numbers
abbrev pub significant : List ℕ → List TextLine
significant text = without_numbers (numbered text)

-- A text is a schedule: its significant lines are one, and the count of sites is among them.
pub record IsSchedule (text : List ℕ) (schedule : Schedule) : Type 0 where
  pub last : Before
  pub are : AreLines (at_first scheduled) (significant text) schedule.events last
  pub sites : ℕ
  pub said : last.sites ≡ Some sites
  pub catalog : schedule.catalog ≡ declared_by last

-- the fault plan that was said. Where none was, messages between sites don't fail.
abbrev pub fault_plan_of : Option FaultPlan → FaultPlan
fault_plan_of None = record { drop_each = 0; double_each = 0 }
fault_plan_of (Some fault_plan) = fault_plan

-- the live script that was said
abbrev pub live_script_by : Before → LiveScript
live_script_by before = record { catalog = declared_by before; fault_plan = fault_plan_of before.fault_plan; clients = before.clients }

-- A text is a live script: its significant lines are one, and the count of sites is among them. There may be no client.
pub record IsLiveScript (text : List ℕ) (script : LiveScript) : Type 0 where
  pub last : Before
  pub are : AreLines (at_first live) (significant text) [] last
  pub sites : ℕ
  pub said : last.sites ≡ Some sites
  pub is : script ≡ live_script_by last

-- The first line that has a cause, with its first cause: those before it are lines of a script of this kind.
pub record IsAtFault (script : Script) (text : List ℕ) (number : ℕ) (cause : LineCause) : Type 0 where
  pub front : List (ℕ × TextLine)
  pub line : TextLine
  pub rest : List (ℕ × TextLine)
  pub split : numbered text ≡ front ++ (number, line) ∷ rest
  pub events : List Event
  pub before : Before
  pub are : AreLines (at_first script) (without_numbers front) events before
  pub first : IsFirstCause before line cause

-- A text without significant lines lacks the count of sites after its last line.
pub record LacksSites (text : List ℕ) (number : ℕ) (cause : LineCause) : Type 0 where
  pub empty : numbered text ≡ []
  pub place : number ≡ length (lines text) + 1
  pub is : cause ≡ sites_expected

-- A text that is to be a script of this kind is malformed at the line of this number, for this cause.
abbrev pub IsMalformed : Script → List ℕ → ℕ → LineCause → Type 0
IsMalformed script text number cause = IsAtFault script text number cause ⊎ LacksSites text number cause

abbrev pub IsMalformedSchedule : List ℕ → ℕ → LineCause → Type 0
IsMalformedSchedule text number cause = IsMalformed scheduled text number cause

abbrev pub IsMalformedLiveScript : List ℕ → ℕ → LineCause → Type 0
IsMalformedLiveScript text number cause = IsMalformed live text number cause

-- What the lines so far said, as plain data, and what the words of one line say.
use Rattle.std.specs.Prelude.{◌≡◌, ◌≤◌, ℕ, length, Bool, true, false, Option, Some, None, List, [], ◌∷◌, codes}
use Rattle.pv_base.specs.declared.limits.TheConstants.{MAX_JOURNAL, MAX_LINE, MAX_PUMP}
use Rattle.pv_model.specs.LineCauses.{Before, or_default, LineCause, at_program, line_cause_rank, HasFirstWord, Has, HasLineCause}
use Rattle.pv_model.specs.LineForms.{Script, scheduled, most_bytes, program}
use Rattle.pv_model.specs.LiveScript.{Client, FaultPlan}
use Rattle.pv_model.specs.Events.{Event}
use Rattle.pv_model.specs.ProgramText.{malformed}
use Rattle.pv_model.specs.Schedule.{IsIn, Says, request_word}
use Rattle.pv_model.specs.Text.{TextLine, IsText, words}
use Rattle.pv_script.specs.declared.said.Said.{Said}

-- what a script of this kind says beside what a script of each kind may
pub record Beside : Type 0 where
  pub script : Script
  pub fault_plan : Option FaultPlan
  pub clients : List Client

abbrev pub nothing_beside : Script → Beside
nothing_beside script = record { script = script; fault_plan = None; clients = [] }

-- what was said, this beside it
abbrev pub before_with : Beside → Said → Before
before_with beside said = record {
  script = beside.script;
  sites = Some said.catalog.sites;
  journal = said.journal;
  items = said.catalog.items;
  begun = said.begun;
  fault_plan = beside.fault_plan;
  clients = beside.clients;
}

-- what a schedule said
abbrev pub before_of : Said → Before
before_of said = before_with (nothing_beside scheduled) said

-- The catalog has the limit that was said.
abbrev pub IsLimited : Said → Type 0
IsLimited said = said.catalog.journal ≡ or_default MAX_JOURNAL said.journal

-- Whatever line has these words says this event, where there are so many sites.
abbrev pub WordsSay : ℕ → List (List ℕ) → Event → Type 0
WordsSay sites spelled event = (before : Before) (line : TextLine) → or_default 0 before.sites ≡ sites → words line ≡ spelled → Says before line event

-- words after `pump`, and how many messages they name
abbrev pub IsMost : List (List ℕ) → Option ℕ → Type 0
IsMost args None = args ≡ []
IsMost args (Some n) = (word : List ℕ) × (args ≡ word ∷ []) × IsIn 1 MAX_PUMP word n

-- what a line begins with that stops a call or makes it fail
abbrev pub arm_word : Bool → List ℕ
arm_word true = codes "cut"
arm_word false = codes "fail"

-- A line after what was said is text of this word and those.
pub record IsHead (before : Before) (line : TextLine) (word : List ℕ) (args : List (List ℕ)) : Type 0 where
  pub text : IsText (most_bytes before.script) line
  pub sites : ℕ
  pub said : before.sites ≡ Some sites
  pub words : words line ≡ word ∷ args

-- The line is a request with this text of a program, and only its program can be at fault.
pub record IsProgramLine (before : Before) (line : TextLine) (query : Bool) (text : List ℕ) : Type 0 where
  pub first : HasFirstWord (request_word query) line
  pub has : Has before.script line program text
  pub only : (other : List ℕ) → Has before.script line program other → text ≡ other
  pub short : length text ≤ MAX_LINE
  pub rest : (cause : LineCause) → HasLineCause before line cause → line_cause_rank (at_program malformed 0) ≤ line_cause_rank cause

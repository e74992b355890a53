-- The catalogs and the events that a line of a schedule may say.
use Rattle.std.specs.Prelude.{◌≡◌, ℕ, ◌^◌, ◌<◌, ◌≤◌, Bool, false, Some, None, List, [], ◌∷◌, ◌++◌, length, ⊤, IsTrue}
use Rattle.std.specs.List.{list_all}
use Rattle.pv_base.specs.declared.limits.TheConstants.{MAX_CALL, MAX_ITEMS, MAX_JOURNAL, MAX_LIVE_LINE, MAX_PUMP, MAX_SITES, MIN_JOURNAL}
use Rattle.pv_base.specs.declared.mode.Mode.{Mode}
use Rattle.pv_base.specs.Catalog.{Declared, Item, place_of}
use Rattle.pv_base.specs.Name.{is_blank, is_name}
use Rattle.pv_model.specs.Events.{Event, submit, deliver, pump, lose, drop, tick, stop, start, arm, mend, checkpoint, sent, report, total}
use Rattle.pv_model.specs.LineForms.{before_blanks}
use Rattle.pv_model.specs.LiveScript.{Wish, to_ask, to_peek}
use Rattle.pv_model.specs.Meaning.{fits_i64}
use Rattle.pv_model.specs.ProgramText.{IsProgramText}
use Rattle.pv_model.specs.Schedule.{MayRun}
use Rattle.pv_model.specs.Syntax.{Program}
use Rattle.pv_model.specs.Text.{is_text_byte}

-- An item may be declared after these, where there are so many sites.
pub record IsNewItem (sites : ℕ) (earlier : List Item) (item : Item) : Type 0 where
  pub place : item.site < sites
  pub fits : IsTrue (fits_i64 item.value)
  pub name : IsTrue (is_name item.name)
  pub free : place_of item.name earlier ≡ None
  pub room : length earlier < MAX_ITEMS

-- Items may be declared after these, one by one.
abbrev pub AreNewItems : ℕ → List Item → List Item → Type 0
AreNewItems sites earlier [] = ⊤
AreNewItems sites earlier (item ∷ items) = IsNewItem sites earlier item × AreNewItems sites (earlier ++ item ∷ []) items

-- A catalog that the lines of a schedule may declare.
pub record IsWritten (catalog : Declared) : Type 0 where
  pub some : 1 ≤ catalog.sites
  pub few : catalog.sites ≤ MAX_SITES
  pub least : MIN_JOURNAL ≤ catalog.journal
  pub most : catalog.journal ≤ MAX_JOURNAL
  pub items : AreNewItems catalog.sites [] catalog.items

-- The text of a request as a line has it: no longer than the line of a live script, of bytes of text alone, and without blanks before it and behind it.
pub record IsLineText (text : List ℕ) : Type 0 where
  pub short : length text ≤ MAX_LIVE_LINE
  pub bytes : IsTrue (list_all is_text_byte text)
  pub first : ℕ
  pub more : List ℕ
  pub begins : text ≡ first ∷ more
  pub starts : is_blank first ≡ false
  pub ends : before_blanks text ≡ text

-- A request that a line may say.
pub record IsWrittenRequest (catalog : Declared) (query : Bool) (text : List ℕ) (program : Program) : Type 0 where
  pub line : IsLineText text
  pub is : IsProgramText catalog text program
  pub may : MayRun program query

-- Of what a client wants, a request that a line may say; an item that is looked at stands in no schedule.
abbrev pub IsWrittenWish : Declared → Wish → Type 0
IsWrittenWish catalog (to_ask request) = IsWrittenRequest catalog request.query request.text request.program
IsWrittenWish catalog (to_peek number item) = ⊤

-- An event that a line of a schedule of this catalog may say.
pub data IsWrittenEvent (catalog : Declared) : Event → Type 0 where
  of_submit : (site : ℕ) (query : Bool) (text : List ℕ) (program : Program) → site < catalog.sites → IsWrittenRequest catalog query text program
      → IsWrittenEvent catalog (submit site query text program)
  of_deliver : (n : ℕ) → n < 2 ^ 64 → IsWrittenEvent catalog (deliver n)
  of_pump : IsWrittenEvent catalog (pump None)
  of_pump_most : (most : ℕ) → 1 ≤ most → most ≤ MAX_PUMP → IsWrittenEvent catalog (pump (Some most))
  of_lose : (n : ℕ) → n < 2 ^ 64 → IsWrittenEvent catalog (lose n)
  of_drop : (site : ℕ) → site < catalog.sites → IsWrittenEvent catalog (drop site)
  of_tick : (site : ℕ) → site < catalog.sites → IsWrittenEvent catalog (tick site)
  of_stop : (site : ℕ) → site < catalog.sites → IsWrittenEvent catalog (stop site)
  of_start : (site : ℕ) → site < catalog.sites → IsWrittenEvent catalog (start site)
  of_arm : (site call : ℕ) (mode : Mode) (stops : Bool) → site < catalog.sites → 1 ≤ call → call ≤ MAX_CALL
      → IsWrittenEvent catalog (arm site call mode stops)
  of_mend : (site : ℕ) → site < catalog.sites → IsWrittenEvent catalog (mend site)
  of_checkpoint : (site : ℕ) → site < catalog.sites → IsWrittenEvent catalog (checkpoint site)
  of_sent : IsWrittenEvent catalog sent
  of_report : IsWrittenEvent catalog report
  of_total : IsWrittenEvent catalog total

-- Events that the lines of a schedule of this catalog may say.
abbrev pub AreWritten : Declared → List Event → Type 0
AreWritten catalog [] = ⊤
AreWritten catalog (event ∷ events) = IsWrittenEvent catalog event × AreWritten catalog events

-- The lines that a run may print, and their text: a printed line is exactly what printing gives.
use Rattle.std.specs.Prelude.{◌≡◌, ℕ, ℤ, pos, negsuc, ◌^◌, ◌<◌, ⊤, List, [], ◌∷◌, length, All, IsTrue}
use Rattle.pv_base.specs.Catalog.{Declared}
use Rattle.pv_base.specs.Name.{is_name}
use Rattle.pv_base.specs.Polyvalue.{Case, IsPolyvalue}
use Rattle.pv_base.specs.declared.limits.TheConstants.{HELD_NAMES}
use Rattle.pv_base.specs.declared.reply.Reply.{Reply}
use Rattle.pv_base.specs.declared.reply.Reply.TheVariants.{Value, Nothing, Declined}
use Rattle.pv_base.specs.declared.txn.TxnId.{TxnId}
use Rattle.pv_model.specs.Meaning.{fits_i64}
use Rattle.pv_model.specs.Text.{TextLine}
use Rattle.pv_protocol.specs.Lines.{Line}
use Rattle.pv_protocol.specs.LineText.{name_of, words_of}
use Rattle.pv_protocol.specs.State.{Cause, conflict, outcome_limit, uncertain, expired, grant_lost, journal_full}
use Rattle.pv_report.specs.NamesOnlyItems.{NamesOnlyItems}

-- A site has 8 bits.
abbrev pub IsSite : ℕ → Type 0
IsSite site = site < 2 ^ 8

-- The site of a transaction has 8 bits, its epoch and its number 32.
pub record IsTxn (txn : TxnId) : Type 0 where
  pub site : IsSite txn.site.0
  pub epoch : txn.epoch < 2 ^ 32
  pub number : txn.number < 2 ^ 32

-- A reply that is a number has 64 bits.
abbrev pub IsReply : Reply → Type 0
IsReply (Value v) = IsTrue (fits_i64 v)
IsReply Nothing = ⊤
IsReply (Declined decline) = ⊤

-- A sum has 128 bits.
abbrev pub IsSum : ℤ → Type 0
IsSum (pos n) = n < 2 ^ 127
IsSum (negsuc n) = n < 2 ^ 127

-- A case has a value of 64 bits, and names transactions.
pub record IsCase (case : Case ℤ) : Type 0 where
  pub value : IsTrue (fits_i64 case.value)
  pub txns : All (λ literal. IsTxn literal.txn) case.when

-- The cases of an item are canonical, and name no more outcomes than a polyvalue may.
pub record AreCases (cases : List (Case ℤ)) : Type 0 where
  pub polyvalue : IsPolyvalue HELD_NAMES cases
  pub each : All IsCase cases

abbrev pub IsCause : Cause → Type 0
IsCause (conflict site item holder) = IsSite site × IsTxn holder
IsCause (outcome_limit names) = names < 2 ^ 32
IsCause (uncertain item names) = names < 2 ^ 32
IsCause (expired site) = IsSite site
IsCause (grant_lost site) = IsSite site
IsCause (journal_full site length) = IsSite site × (length < 2 ^ 64)

-- Each number of the line has as many bits as its place has.
abbrev pub IsWithin : Line → Type 0
IsWithin (Line.txn t) = IsTxn t
IsWithin (Line.commit t replies) = IsTxn t × All IsReply replies
IsWithin (Line.refuse t cause) = IsTxn t × IsCause cause
IsWithin (Line.full site length) = IsSite site × (length < 2 ^ 64)
IsWithin (Line.spent site) = IsSite site
IsWithin (Line.down site) = IsSite site
IsWithin (Line.up site) = IsSite site
IsWithin (Line.stopped site) = IsSite site
IsWithin (Line.fault site) = IsSite site
IsWithin (Line.started site epoch) = IsSite site × (epoch < 2 ^ 32)
IsWithin (Line.no_message n) = n < 2 ^ 64
IsWithin (Line.sent n from to kind t) = (n < 2 ^ 64) × IsSite from × IsSite to × IsTxn t
IsWithin (Line.order txns) = All IsTxn txns
IsWithin (Line.committed txns) = All IsTxn txns
IsWithin (Line.open_ones txns) = All IsTxn txns
IsWithin (Line.item n cases) = AreCases cases
IsWithin (Line.item_locked n t) = IsTxn t
IsWithin (Line.item_down n) = ⊤
IsWithin Line.end = ⊤
IsWithin (Line.total sums) = All IsSum sums
IsWithin (Line.total_locked n) = ⊤
IsWithin (Line.total_down site) = IsSite site
IsWithin (Line.total_limit names) = names < 2 ^ 32

-- Each item's name is one, and no other item has it.
pub record AreNamed (catalog : Declared) : Type 0 where
  pub names : All (λ item. IsTrue (is_name item.name)) catalog.items
  pub apart : (item other : ℕ) → item < length catalog.items → other < length catalog.items → name_of catalog item ≡ name_of catalog other → item ≡ other

-- The text is what this line prints as, over the catalog: one space between words, no leading zeros.
pub record IsPrinted (catalog : Declared) (text : TextLine) (line : Line) : Type 0 where
  pub is : text ≡ words_of catalog line
  pub items : NamesOnlyItems catalog line
  pub within : IsWithin line

-- The text is what some line prints as.
abbrev pub IsPrintedForm : Declared → TextLine → Type 0
IsPrintedForm catalog text = (line : Line) × IsPrinted catalog text line

-- Each text is what the line beside it prints as.
pub data ArePrinted (catalog : Declared) : List TextLine → List Line → Type 0 where
  none : ArePrinted catalog [] []
  more : (text : TextLine) (line : Line) (texts : List TextLine) (lines : List Line) → IsPrinted catalog text line
      → ArePrinted catalog texts lines → ArePrinted catalog (text ∷ texts) (line ∷ lines)

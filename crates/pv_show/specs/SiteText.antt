-- What is told of a site, by what is found on its disk.
use Rattle.std.specs.Prelude.{◌≡◌, ◌⊎◌, ℕ, List, ◌++◌, length, flat_map, codes, decimal, take, MatchBool, Option, Some, None}
use Rattle.std.specs.Str.{bytes_eq}
use Rattle.pv_base.specs.Catalog.{Declared}
use Rattle.pv_format.specs.Contents.{IsFirstBadContent, SpellRecords, greatest_epoch}
use Rattle.pv_format.specs.Record.{Record}
use Rattle.pv_disk_model.specs.Size.{Contents}
use Rattle.pv_format.specs.Journal.{IsJournal, IsNotOurs}
use Rattle.pv_law_checkpoints.specs.Roots.{start}
use Rattle.pv_law_checkpoints.specs.TwoAreas as two_areas
use Rattle.pv_law_checkpoints.specs.TwoAreas.{IsTwoAreas}
use Rattle.pv_model.specs.ReplyText.{line_feed}
use Rattle.pv_protocol.specs.LineText.{line_text}
use Rattle.pv_protocol.specs.Lines.{Line}
use Rattle.pv_protocol.specs.Shown.{shown}
use Rattle.pv_store.specs.Refusals.{site_items, too_many_in}

-- What is found on a disk: a log with its contents, or no log, which shows at a place.
pub data Found : Type 0 where
  log : Contents → Found
  no_log : (place : ℕ) → Found

-- The bytes of the disk are that: of a log in two areas where they begin as such a log does, and else of a journal.
abbrev pub IsFoundIn : List ℕ → Found → Type 0
IsFoundIn bytes (log contents) = MatchBool (bytes_eq (take 8 bytes) start) (IsTwoAreas contents bytes) (IsJournal contents bytes)
IsFoundIn bytes (no_log place) = MatchBool (bytes_eq (take 8 bytes) start) (two_areas.IsNotOurs bytes place) (IsNotOurs bytes place)

-- a line about a site, which ends so
abbrev pub site_line : ℕ → List ℕ → List ℕ
site_line site rest = codes "site " ++ (decimal site ++ rest)

-- the line of a site that tells one thing, with a number: why its items aren't shown
unfoldable pub refusal_text : ℕ → List ℕ → ℕ → List ℕ
refusal_text site why number = site_line site (codes " " ++ (why ++ (codes " " ++ (decimal number ++ line_feed))))

-- the line of a site that tells one thing: a word
unfoldable pub word_text : ℕ → List ℕ → List ℕ
word_text site word = site_line site (codes " " ++ (word ++ line_feed))

-- the line of a site whose disk failed
abbrev pub failure_text : ℕ → List ℕ
failure_text site = word_text site (codes "fault")

-- the line of a site whose items are shown: the greatest epoch that is recorded, and how many records there are
unfoldable pub head_text : ℕ → ℕ → ℕ → List ℕ
head_text site epoch count = site_line site (codes " epoch " ++ (decimal epoch ++ (codes " records " ++ (decimal count ++ line_feed))))

-- the line of an item, as these records show it
abbrev pub item_text : Declared → List Record → ℕ → List ℕ
item_text catalog records item = line_text catalog (Line.item item (shown catalog records item))

-- the lines of the items of a site, in order of declaration
abbrev pub items_text : Declared → ℕ → List Record → List ℕ
items_text catalog site records = flat_map (item_text catalog records) (site_items catalog site)

-- the lines of a site with these records: its own and those of its items, unless a value names too many outcomes
abbrev pub text_unless : Option ℕ → Declared → ℕ → List Record → List ℕ
text_unless None catalog site records = head_text site (greatest_epoch records) (length records) ++ items_text catalog site records
text_unless (Some names) catalog site records = refusal_text site (codes "too-many") names

-- the lines of a site with these records
abbrev pub records_text : Declared → ℕ → List Record → List ℕ
records_text catalog site records = text_unless (too_many_in catalog site records) catalog site records

-- What is found on the disk of a site is told by this text: by the records that the contents spell, or by the first content that spells none.
abbrev pub IsTold : Declared → ℕ → Found → List ℕ → Type 0
IsTold catalog site (no_log place) text = text ≡ refusal_text site (codes "not-ours") place
IsTold catalog site (log contents) text =
    ((records : List Record) × SpellRecords records contents × (text ≡ records_text catalog site records))
    ⊎ ((index : ℕ) × IsFirstBadContent contents index × (text ≡ refusal_text site (codes "bad-record") index))

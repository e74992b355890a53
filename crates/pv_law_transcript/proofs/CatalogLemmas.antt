-- The lines of a catalog declare it.
use Rattle.std.proofs.Common.{◌≡◌, ◌∙◌, ℕ, ◌^◌, ◌<◌, ◌≤◌, false, Some, None, List, [], ◌∷◌, ◌++◌, map, refl, sym, ap, subst, arith, append_assoc, append-nil, inl, inr}
use Rattle.std.specs.Prelude.{codes}
use Rattle.std.specs.Fmt.{decimal, signed_decimal}
use Rattle.std.specs.List.{flat_map}
use Rattle.pv_base.specs.declared.limits.TheConstants.{MAX_SITES}
use Rattle.pv_base.specs.Catalog.{Declared, Item}
use Rattle.pv_model.specs.Events.{Event}
use Rattle.pv_model.specs.LineCauses.{Before, at_first}
use Rattle.pv_model.specs.LineForms.{scheduled}
use Rattle.pv_model.specs.ReplyText.{line_feed}
use Rattle.pv_model.specs.Schedule.{AreLines, declaration}
use Rattle.pv_model.specs.Text.{TextLine, is_significant, words}
use Rattle.pv_protocol.specs.LineText.{numbered_text}
use Rattle.pv_transcript.specs.ScheduleText.{item_line}
use Rattle.pv_law_transcript.specs.Written.{IsNewItem, AreNewItems, IsWritten}
use Rattle.pv_law_transcript.proofs.LineLemmas.{AreTexts, with_feeds}
use Rattle.pv_law_transcript.proofs.WordLemmas.{words-cons, words-last, text-cons, text-last, length-cons}
use Rattle.pv_law_transcript.proofs.NumberLemmas.{decimal-word, decimal-reads, decimal-short, signed-word, signed-reads, signed-short, name-word, name-short}
use Rattle.pv_law_transcript.proofs.EventLemmas.{IsLine, numbered-line, numbered-words}

-- the words of an item
abbrev pub item_words : Item → List ℕ
item_words item = codes "item" ++ 32 ∷ (item.name ++ 32 ∷ (decimal item.site ++ 32 ∷ signed_decimal item.value))

pub item-text : (item : Item) → item_line item ≡ item_words item ++ line_feed
unfolding item_line
item-text item =
    let name = item.name in
    let site = decimal item.site in
    let value = signed_decimal item.value in
    sym (ap (λ (t : List ℕ). codes "item" ++ 32 ∷ t) (append_assoc name (32 ∷ (site ++ 32 ∷ value)) line_feed ∙ ap (λ (t : List ℕ). name ++ 32 ∷ t) (append_assoc site (32 ∷ value) line_feed)))

pub items-text : (items : List Item) → flat_map item_line items ≡ with_feeds (map item_words items)
items-text [] = refl
items-text (item ∷ items) = ap (λ (t : List ℕ). t ++ flat_map item_line items) (item-text item) ∙ ap (λ (t : List ℕ). (item_words item ++ line_feed) ++ t) (items-text items)

module _ (sites : ℕ) (few : sites ≤ MAX_SITES) (earlier : List Item) (item : Item) (is : IsNewItem sites earlier item) where
  site-small : item.site < 2 ^ 64
  site-small = let below = is.place in omega (arith, few, below)

  pub item-splits : words (item_words item) ≡ codes "item" ∷ item.name ∷ decimal item.site ∷ signed_decimal item.value ∷ []
  item-splits =
      words-cons (codes "item") (item.name ++ 32 ∷ (decimal item.site ++ 32 ∷ signed_decimal item.value)) refl
      ∙ ap (λ (more : List (List ℕ)). codes "item" ∷ more) (words-cons item.name (decimal item.site ++ 32 ∷ signed_decimal item.value) (name-word item.name is.name))
      ∙ ap (λ (more : List (List ℕ)). codes "item" ∷ item.name ∷ more) (words-cons (decimal item.site) (signed_decimal item.value) (decimal-word item.site site-small))
      ∙ ap (λ (more : List (List ℕ)). codes "item" ∷ item.name ∷ decimal item.site ∷ more) (words-last (signed_decimal item.value) (signed-word item.value is.fits))

  pub item-is-line : IsLine (item_words item)
  unfolding is_significant
  item-is-line =
      let a = length-cons (codes "item") (item.name ++ 32 ∷ (decimal item.site ++ 32 ∷ signed_decimal item.value)) in
      let b = length-cons item.name (decimal item.site ++ 32 ∷ signed_decimal item.value) in
      let c = length-cons (decimal item.site) (signed_decimal item.value) in
      let d = name-short item.name is.name in
      let e = decimal-short item.site site-small in
      let f = signed-short item.value is.fits in
      record {
        short = omega (arith, a, b, c, d, e, f);
        bytes = text-cons (codes "item") (item.name ++ 32 ∷ (decimal item.site ++ 32 ∷ signed_decimal item.value)) refl
            (text-cons item.name (decimal item.site ++ 32 ∷ signed_decimal item.value) (name-word item.name is.name)
            (text-cons (decimal item.site) (signed_decimal item.value) (decimal-word item.site site-small) (text-last (signed_decimal item.value) (signed-word item.value is.fits))));
        counts = refl;
      }

-- what was said once these items came, before all events
abbrev pub saying : (sites journal : ℕ) → List Item → Before
saying sites journal items = record { script = scheduled; sites = Some sites; journal = Some journal; items = items; begun = false; fault_plan = None; clients = [] }

pub items-lines : (sites journal : ℕ) (earlier items : List Item) (rest : List TextLine) (es : List Event) (last : Before) → sites ≤ MAX_SITES → AreNewItems sites earlier items
    → AreLines (saying sites journal (earlier ++ items)) rest es last → AreLines (saying sites journal earlier) (map item_words items ++ rest) es last
items-lines sites journal earlier [] rest es last few new are = subst (λ (all : List Item). AreLines (saying sites journal all) rest es last) (append-nil earlier) are
items-lines sites journal earlier (item ∷ items) rest es last few new are =
    let line = item-is-line sites few earlier item new.0 in
    declaration (saying sites journal earlier) (saying sites journal (earlier ++ item ∷ [])) last (item_words item) (map item_words items ++ rest) es
    (inr (inr (inl (record {
      text = record { short = line.short; bytes = line.bytes };
      sites = sites;
      said = refl;
      early = refl;
      item = item;
      at = decimal item.site;
      number = signed_decimal item.value;
      is = item-splits sites few earlier item new.0;
      place = (decimal-reads item.site (site-small sites few earlier item new.0), new.0.place);
      worth = signed-reads item.value new.0.fits;
      fits = new.0.fits;
      name = new.0.name;
      free = new.0.free;
      room = new.0.room;
      same = refl;
    }))))
    (items-lines sites journal (earlier ++ item ∷ []) items rest es last few new.1
    (subst (λ (all : List Item). AreLines (saying sites journal all) rest es last) (sym (append_assoc earlier (item ∷ []) items)) are))

pub items-texts : (sites : ℕ) (earlier items : List Item) (rest : List TextLine) → sites ≤ MAX_SITES → AreNewItems sites earlier items → AreTexts rest → AreTexts (map item_words items ++ rest)
items-texts sites earlier [] rest few new are = are
items-texts sites earlier (item ∷ items) rest few new are =
    let line = item-is-line sites few earlier item new.0 in
    ((line.bytes, line.counts), items-texts sites (earlier ++ item ∷ []) items rest few new.1 are)

-- The lines of the head.

module _ (catalog : Declared) (is : IsWritten catalog) where
  sites-small : catalog.sites < 2 ^ 64
  sites-small = let few = is.few in omega (arith, few)

  journal-small : catalog.journal < 2 ^ 64
  journal-small = let most = is.most in omega (arith, most)

  pub sites-line : IsLine (numbered_text (codes "sites") catalog.sites)
  unfolding is_significant
  sites-line = numbered-line (codes "sites") catalog.sites refl (omega arith) sites-small refl

  pub journal-line : IsLine (numbered_text (codes "journal") catalog.journal)
  unfolding is_significant
  journal-line = numbered-line (codes "journal") catalog.journal refl (omega arith) journal-small refl

  pub head-lines : (rest : List TextLine) (es : List Event) (last : Before) → AreLines (saying catalog.sites catalog.journal []) rest es last
      → AreLines (at_first scheduled) (numbered_text (codes "sites") catalog.sites ∷ numbered_text (codes "journal") catalog.journal ∷ rest) es last
  head-lines rest es last are =
      declaration (at_first scheduled) (record (at_first scheduled) { sites = Some catalog.sites }) last (numbered_text (codes "sites") catalog.sites)
      (numbered_text (codes "journal") catalog.journal ∷ rest) es
      (inl (record {
        text = record { short = sites-line.short; bytes = sites-line.bytes };
        first = refl;
        count = catalog.sites;
        is = (decimal catalog.sites, numbered-words (codes "sites") catalog.sites refl sites-small, (decimal-reads catalog.sites sites-small, is.some, is.few));
        same = refl;
      }))
      (declaration (record (at_first scheduled) { sites = Some catalog.sites }) (saying catalog.sites catalog.journal []) last (numbered_text (codes "journal") catalog.journal) rest es
      (inr (inl (record {
        text = record { short = journal-line.short; bytes = journal-line.bytes };
        sites = catalog.sites;
        said = refl;
        once = refl;
        early = refl;
        limit = catalog.journal;
        is = (decimal catalog.journal, numbered-words (codes "journal") catalog.journal refl journal-small, (decimal-reads catalog.journal journal-small, is.least, is.most));
        same = refl;
      })))
      are)

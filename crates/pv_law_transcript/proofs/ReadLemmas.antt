-- A schedule written out reads back.
use Rattle.std.proofs.Common.{◌≡◌, ◌∙◌, ℕ, List, [], ◌∷◌, ◌++◌, map, refl, sym, ap, subst, append_assoc}
use Rattle.std.specs.Prelude.{codes}
use Rattle.std.specs.List.{flat_map}
use Rattle.std.proofs.lemmas.Grind.{flat_map-append}
use Rattle.std.proofs.lemmas.List.Folds.{flat_map-map}
use Rattle.pv_base.specs.Catalog.{Declared, Item}
use Rattle.pv_model.specs.Events.{Event, Schedule}
use Rattle.pv_model.specs.FirstMisplaced.{without_numbers}
use Rattle.pv_model.specs.LineCauses.{Before, at_first}
use Rattle.pv_model.specs.LineForms.{scheduled}
use Rattle.pv_model.specs.ReplyText.{line_feed}
use Rattle.pv_model.specs.Schedule.{AreLines, IsSchedule, significant}
use Rattle.pv_model.specs.Text.{TextLine, numbered, significant_from}
use Rattle.pv_protocol.specs.LineText.{numbered_text}
use Rattle.pv_transcript.specs.ScheduleText.{event_words, events_text, item_line, catalog_text, schedule_text}
use Rattle.pv_law_transcript.specs.Written.{AreWritten, IsWritten}
use Rattle.pv_law_transcript.proofs.LineLemmas.{AreTexts, with_feeds, lines-with_feeds, all-significant}
use Rattle.pv_law_transcript.proofs.EventLemmas.{Knows, after_events, events-lines, events-texts, knows-after}
use Rattle.pv_law_transcript.proofs.CatalogLemmas.{item_words, items-text, saying, items-lines, items-texts, sites-line, journal-line, head-lines}

abbrev body_lines : Declared → List Event → List TextLine
body_lines catalog events = map item_words catalog.items ++ map event_words events

-- all lines of the schedule
abbrev all_lines : Declared → List Event → List TextLine
all_lines catalog events = numbered_text (codes "sites") catalog.sites ∷ numbered_text (codes "journal") catalog.journal ∷ body_lines catalog events

body-text : (items : List Item) (events : List Event) → with_feeds (map item_words items ++ map event_words events) ≡ flat_map item_line items ++ events_text events
body-text items events =
    flat_map-append (λ (line : TextLine). line ++ line_feed) (map item_words items) (map event_words events)
    ∙ ap (λ (t : List ℕ). t ++ with_feeds (map event_words events)) (sym (items-text items))
    ∙ ap (λ (t : List ℕ). flat_map item_line items ++ t) (flat_map-map (λ (line : TextLine). line ++ line_feed) event_words events)

-- the pieces of a schedule, put together to the right
pieces : (a b c d : List ℕ) → (a ++ (line_feed ++ (b ++ (line_feed ++ c)))) ++ d ≡ (a ++ line_feed) ++ ((b ++ line_feed) ++ (c ++ d))
pieces a b c d =
    append_assoc a (10 ∷ (b ++ 10 ∷ c)) d
    ∙ ap (λ (t : List ℕ). a ++ 10 ∷ t) (append_assoc b (10 ∷ c) d)
    ∙ sym (append_assoc a line_feed ((b ++ line_feed) ++ (c ++ d)) ∙ ap (λ (t : List ℕ). a ++ 10 ∷ t) (append_assoc b line_feed (c ++ d)))

all-text : (catalog : Declared) (events : List Event) → schedule_text catalog events ≡ with_feeds (all_lines catalog events)
unfolding catalog_text
all-text catalog events =
    pieces (numbered_text (codes "sites") catalog.sites) (numbered_text (codes "journal") catalog.journal) (flat_map item_line catalog.items) (events_text events)
    ∙ ap (λ (t : List ℕ). (numbered_text (codes "sites") catalog.sites ++ line_feed) ++ ((numbered_text (codes "journal") catalog.journal ++ line_feed) ++ t)) (sym (body-text catalog.items events))

significant-lines : (text : List ℕ) (ls : List TextLine) → text ≡ with_feeds ls → AreTexts ls → significant text ≡ ls
unfolding numbered
significant-lines text ls whole are =
    ap significant whole
    ∙ ap (λ (all : List TextLine). without_numbers (significant_from 1 all)) (lines-with_feeds ls are)
    ∙ all-significant 1 ls are

module _ (schedule : Schedule) (catalog-is : IsWritten schedule.catalog) (events-are : AreWritten schedule.catalog schedule.events) where
  abbrev catalog : Declared
  catalog = schedule.catalog

  abbrev before : Before
  before = saying catalog.sites catalog.journal catalog.items

  knows : Knows catalog before
  knows = record { few = catalog-is.few; kind = refl; said = refl; declared = refl }

  texts : AreTexts (all_lines catalog schedule.events)
  texts =
      let sites = sites-line catalog catalog-is in
      let journal = journal-line catalog catalog-is in (
        (sites.bytes, sites.counts),
        (
          (journal.bytes, journal.counts),
          items-texts catalog.sites [] catalog.items (map event_words schedule.events) catalog-is.few catalog-is.items (events-texts catalog schedule.events catalog-is.few events-are),
        ),
      )

  are : AreLines (at_first scheduled) (all_lines catalog schedule.events) schedule.events (after_events before schedule.events)
  are =
      head-lines catalog catalog-is (body_lines catalog schedule.events) schedule.events (after_events before schedule.events)
      (items-lines catalog.sites catalog.journal [] catalog.items (map event_words schedule.events) schedule.events (after_events before schedule.events) catalog-is.few catalog-is.items
      (events-lines catalog before schedule.events knows events-are))

  pub reads-back : IsSchedule (schedule_text catalog schedule.events) schedule
  reads-back =
      let same = significant-lines (schedule_text catalog schedule.events) (all_lines catalog schedule.events) (all-text catalog schedule.events) texts in
      let at_end = knows-after catalog before schedule.events knows in
      record {
        last = after_events before schedule.events;
        are = subst (λ (ls : List TextLine). AreLines (at_first scheduled) ls schedule.events (after_events before schedule.events)) (sym same) are;
        sites = catalog.sites;
        said = at_end.said;
        catalog = sym at_end.declared;
      }

-- What a schedule's text declares is in range.
use Rattle.std.proofs.Common.{arith, ◌≡◌, inl, inr, ℕ, ◌<◌, ◌≤◌, pos, Option, None, List, [], ◌∷◌, length, length-append, sym, subst}
use Rattle.std.specs.Prelude.{get_or, All}
use Rattle.std.specs.Int.{w64}
use Rattle.std.specs.Int.RustNames.{FitsSigned}
use Rattle.std.proofs.lemmas.List.Elements.{All-append, All-cons, All-nil, All-get_or, All-from_get_or}
use Rattle.pv_base.specs.Catalog.{Item, Declared}
use Rattle.pv_base.specs.declared.limits.TheConstants.{MAX_SITES, MAX_ITEMS, MIN_JOURNAL, MAX_JOURNAL, HELD_NAMES}
use Rattle.pv_law_step.proofs.FitLemmas.{fits-from}
use Rattle.pv_law_world.specs.Ranges.{with_limits}
use Rattle.pv_model.specs.LineCauses.{Before, or_default, at_first}
use Rattle.pv_model.specs.Events.{Event, Schedule}
use Rattle.pv_model.specs.LineForms.{scheduled}
use Rattle.pv_model.specs.Schedule.{Declares, AreLines, none, declaration, event, with_event, IsSchedule}
use Rattle.pv_model.specs.Text.{TextLine}
use Rattle.pv_protocol.specs.Sound.{IsSetupInRange}

-- What was said so far is in range.
record IsSaidInRange (before : Before) : Type 0 where
  sites : or_default 0 before.sites ≤ MAX_SITES
  items : length before.items ≤ MAX_ITEMS
  least : MIN_JOURNAL ≤ or_default MAX_JOURNAL before.journal
  journal : or_default MAX_JOURNAL before.journal ≤ MAX_JOURNAL
  homes : All (λ item. item.site < or_default 0 before.sites) before.items
  values : All (λ item. FitsSigned w64 item.value) before.items

-- an item that stands for one beyond the list
no_item : Item
no_item = record { name = []; site = 0; value = pos 0 }

-- Before the count of sites is said no item is declared.
none-before : (before : Before) → before.sites ≡ None → (item : Item) → item.site < or_default 0 before.sites → ⊥
none-before before unsaid item home =
    let below : item.site < 0 = subst (λ (said : Option ℕ). item.site < or_default 0 said) unsaid home in omega (arith, below)

first-fine : IsSaidInRange (at_first scheduled)
first-fine = record {
  sites = omega arith;
  items = omega arith;
  least = omega arith;
  journal = omega arith;
  homes = All-nil (λ (item : Item). item.site < 0);
  values = All-nil (λ (item : Item). FitsSigned w64 item.value);
}

declared-fine : (before after : Before) (line : TextLine) → IsSaidInRange before → Declares before line after → IsSaidInRange after
declared-fine before after line fine (inl declares) =
    subst IsSaidInRange (sym declares.same) (record {
      sites = omega (arith, declares.is.2.2);
      items = fine.items;
      least = fine.least;
      journal = fine.journal;
      homes = All-from_get_or (λ (item : Item). item.site < declares.count) before.items no_item
          (λ i below.
          absurd (none-before before declares.first (get_or before.items i no_item)
          (All-get_or (λ (item : Item). item.site < or_default 0 before.sites) before.items i no_item below fine.homes)));
      values = fine.values;
    })
declared-fine before after line fine (inr (inl declares)) =
    subst IsSaidInRange (sym declares.same) (record {
      sites = fine.sites;
      items = fine.items;
      least = omega (arith, declares.is.2.1);
      journal = omega (arith, declares.is.2.2);
      homes = fine.homes;
      values = fine.values;
    })
declared-fine before after line fine (inr (inr (inl declares))) =
    subst IsSaidInRange (sym declares.same) (record {
      sites = fine.sites;
      items = omega (arith, declares.room, length-append before.items (declares.item ∷ []));
      least = fine.least;
      journal = fine.journal;
      homes = All-append (λ (item : Item). item.site < or_default 0 before.sites) before.items (declares.item ∷ []) fine.homes
          (All-cons (λ (item : Item). item.site < or_default 0 before.sites) declares.item [] declares.place.1 (All-nil (λ (item : Item). item.site < or_default 0 before.sites)));
      values = All-append (λ (item : Item). FitsSigned w64 item.value) before.items (declares.item ∷ []) fine.values
          (All-cons (λ (item : Item). FitsSigned w64 item.value) declares.item [] (fits-from declares.item.value declares.fits) (All-nil (λ (item : Item). FitsSigned w64 item.value)));
    })
declared-fine before after line fine (inr (inr (inr (inl declares)))) =
    subst IsSaidInRange (sym declares.same)
    (record { sites = fine.sites; items = fine.items; least = fine.least; journal = fine.journal; homes = fine.homes; values = fine.values })
declared-fine before after line fine (inr (inr (inr (inr (inl declares))))) =
    subst IsSaidInRange (sym declares.same)
    (record { sites = fine.sites; items = fine.items; least = fine.least; journal = fine.journal; homes = fine.homes; values = fine.values })
declared-fine before after line fine (inr (inr (inr (inr (inr (inl declares)))))) =
    subst IsSaidInRange (sym declares.same)
    (record { sites = fine.sites; items = fine.items; least = fine.least; journal = fine.journal; homes = fine.homes; values = fine.values })
declared-fine before after line fine (inr (inr (inr (inr (inr (inr declares)))))) =
    subst IsSaidInRange (sym declares.same)
    (record { sites = fine.sites; items = fine.items; least = fine.least; journal = fine.journal; homes = fine.homes; values = fine.values })

lines-fine : (before last : Before) (lines : List TextLine) (events : List Event) → IsSaidInRange before → AreLines before lines events last → IsSaidInRange last
lines-fine before last lines events fine (none same) = fine
lines-fine before last lines events fine (declaration first mid end line rest es declares are) =
    lines-fine mid last rest es (declared-fine before mid line fine declares) are
lines-fine before last lines events fine (event first end line rest e es is are) =
    lines-fine (with_event before) last rest es
    (record { sites = fine.sites; items = fine.items; least = fine.least; journal = fine.journal; homes = fine.homes; values = fine.values }) are

pub schedule-in-range : (text : List ℕ) (schedule : Schedule) (read_names held_names : ℕ) → IsSchedule text schedule → read_names < held_names → held_names ≤ HELD_NAMES
    → IsSetupInRange (with_limits schedule.catalog read_names held_names)
schedule-in-range text schedule read_names held_names is apart held =
    let fine : IsSaidInRange is.last = lines-fine (at_first scheduled) is.last _ schedule.events first-fine is.are in
    subst (λ (catalog : Declared). IsSetupInRange (with_limits catalog read_names held_names)) (sym is.catalog) (record {
      sites = fine.sites;
      items = fine.items;
      least = fine.least;
      journal = fine.journal;
      homes = fine.homes;
      values = fine.values;
      apart = apart;
      held = held;
    })

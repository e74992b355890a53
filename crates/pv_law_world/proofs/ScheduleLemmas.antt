-- The events of a schedule's text are well formed.
use Rattle.std.proofs.Common.{arith, ◌≡◌, inl, inr, ℕ, ◌<◌, ◌≤◌, true, false, Option, Some, List, [], ◌∷◌, length, length-append, le_trans, lt_of_lt_of_le, sym, subst, ◌∙◌}
use Rattle.std.specs.Prelude.{get_or, All, IsTrue}
use Rattle.pv_base.specs.Catalog.{Declared}
use Rattle.std.proofs.lemmas.List.Elements.{All-nil, All-cons, All-get_or}
use Rattle.std.proofs.lemmas.Option.{none-some}
use Rattle.pv_law_programs.proofs.DeclaredItems.{declared-items}
use Rattle.pv_law_world.proofs.NumeralLemmas.{small-numbers}
use Rattle.pv_model.specs.LineCauses.{Before, or_default, declared_by, at_first}
use Rattle.pv_model.specs.Check.{names_item}
use Rattle.pv_model.specs.LineForms.{scheduled}
use Rattle.pv_model.specs.Events.{Event, submit, deliver, pump, lose, drop, tick, stop, start, arm, mend, checkpoint, sent, report, total, Schedule}
use Rattle.pv_model.specs.Schedule.{IsDeclaredSite, Says, Declares, AreLines, none, declaration, event, with_event, IsSchedule}
use Rattle.pv_model.specs.Text.{TextLine}
use Rattle.pv_protocol.specs.WellFormed.{IsWellFormed}

-- What was said stays said: the count of sites, and the items.
record Lasts (before after : Before) : Type 0 where
  sites : (count : ℕ) → before.sites ≡ Some count → after.sites ≡ Some count
  items : length before.items ≤ length after.items

declared-lasts : (before after : Before) (line : TextLine) → Declares before line after → Lasts before after
declared-lasts before after line (inl declares) =
    subst (Lasts before) (sym declares.same)
    (record { sites = λ count said. absurd (none-some _ (sym declares.first ∙ said)); items = omega arith })
declared-lasts before after line (inr (inl declares)) = subst (Lasts before) (sym declares.same) (record { sites = λ count said. said; items = omega arith })
declared-lasts before after line (inr (inr (inl declares))) =
    subst (Lasts before) (sym declares.same)
    (record { sites = λ count said. said; items = rw (length-append before.items (declares.item ∷ [])) (omega arith) })
declared-lasts before after line (inr (inr (inr (inl declares)))) =
    subst (Lasts before) (sym declares.same) (record { sites = λ count said. said; items = omega arith })
declared-lasts before after line (inr (inr (inr (inr (inl declares))))) =
    subst (Lasts before) (sym declares.same) (record { sites = λ count said. said; items = omega arith })
declared-lasts before after line (inr (inr (inr (inr (inr (inl declares)))))) =
    subst (Lasts before) (sym declares.same) (record { sites = λ count said. said; items = omega arith })
declared-lasts before after line (inr (inr (inr (inr (inr (inr declares)))))) =
    subst (Lasts before) (sym declares.same) (record { sites = λ count said. said; items = omega arith })

chained : {before mid last : Before} → Lasts before mid → Lasts mid last → Lasts before last
chained first second = record { sites = λ count said. second.sites count (first.sites count said); items = le_trans first.items second.items }

lines-last : (before last : Before) (lines : List TextLine) (events : List Event) → AreLines before lines events last → Lasts before last
lines-last before last lines events (none same) = record { sites = λ count said. said; items = omega arith }
lines-last before last lines events (declaration first mid end line rest es declares are) =
    chained (declared-lasts before mid line declares) (lines-last mid last rest es are)
lines-last before last lines events (event first end line rest e es is are) =
    let rest_lasts : Lasts (with_event before) last = lines-last (with_event before) last rest es are in
    record { sites = rest_lasts.sites; items = rest_lasts.items }

module _ (before last : Before) (count : ℕ) (said : before.sites ≡ Some count) (lasts : Lasts before last) where
  site-well : (word : List ℕ) (n : ℕ) → IsDeclaredSite before word n → n < or_default 0 last.sites
  site-well word n is = rw (lasts.sites count said) (subst (λ (sites : Option ℕ). n < or_default 0 sites) said is.1)

  says-well : (line : TextLine) (e : Event) → Says before line e → IsWellFormed (declared_by last) e
  says-well line (submit n query text p) says = (
    site-well says.at n says.place,
    record {
      runnable = record {
        items = says.may.items;
        are = says.may.are;
        some = says.may.some;
        few = says.may.few;
        known = λ k d below. lt_of_lt_of_le (declared-items (declared_by before) text p says.is (get_or says.may.items k d) (All-get_or (λ m. IsTrue (names_item p m)) says.may.items k d below says.may.are.each)) lasts.items;
      };
      numbers = small-numbers (declared_by before) text p says.is;
    },
  )
  says-well line (deliver n) says = tt
  says-well line (pump most) says = tt
  says-well line (lose n) says = tt
  says-well line (drop n) says = site-well says.0 n says.2
  says-well line (tick n) says = site-well says.0 n says.2
  says-well line (stop n) says = site-well says.0 n says.2
  says-well line (start n) says = site-well says.0 n says.2
  says-well line (arm n call mode true) says = (site-well says.0 n says.4, says.5.1)
  says-well line (arm n call mode false) says = (site-well says.0 n says.4, says.5.1)
  says-well line (mend n) says = site-well says.0 n says.2
  says-well line (checkpoint n) says = site-well says.0 n says.2
  says-well line sent says = tt
  says-well line report says = tt
  says-well line total says = tt

lines-well : (before last : Before) (lines : List TextLine) (events : List Event) → AreLines before lines events last
    → All (IsWellFormed (declared_by last)) events
lines-well before last lines events (none same) = All-nil (IsWellFormed (declared_by last))
lines-well before last lines events (declaration first mid end line rest es declares are) = lines-well mid last rest es are
lines-well before last lines events (event first end line rest e es is are) =
    let lasts : Lasts (with_event before) last = lines-last (with_event before) last rest es are in
    All-cons (IsWellFormed (declared_by last)) e es (says-well before last is.sites is.said (record { sites = lasts.sites; items = lasts.items }) line e is.says)
    (lines-well (with_event before) last rest es are)

pub schedule-well : (text : List ℕ) (schedule : Schedule) → IsSchedule text schedule → All (IsWellFormed schedule.catalog) schedule.events
schedule-well text schedule is =
    subst (λ (catalog : Declared). All (IsWellFormed catalog) schedule.events) (sym is.catalog) (lines-well (at_first scheduled) is.last _ schedule.events is.are)

-- What a line of a schedule says, it says without the blanks at its ends.
use Rattle.std.proofs.Common.{◌≡◌, ◌∙◌, inl, inr, ℕ, Bool, true, false, Some, None, List, sym, subst}
use Rattle.pv_law_traces.specs.Bare.{bare}
use Rattle.pv_law_traces.proofs.BareLemmas.{bare-arguments, bare-text, bare-words}
use Rattle.pv_model.specs.Events.{Event, submit, deliver, pump, lose, drop, tick, stop, start, arm, mend, checkpoint, sent, report, total}
use Rattle.pv_model.specs.LineCauses.{Before}
use Rattle.pv_model.specs.LineForms.{Script, arguments, live, most_bytes, scheduled}
use Rattle.pv_model.specs.Schedule.{Declares, DeclaresItem, DeclaresJournal, DeclaresSites, IsAlone, IsArm, IsEvent, IsOne, IsRequest, Says}
use Rattle.pv_model.specs.Syntax.{Program}
use Rattle.pv_model.specs.Text.{TextLine}
use Rattle.pv_base.specs.declared.mode.Mode.{Mode}

module _ (line : TextLine) where
  one-bare : {word : List ℕ} {Holds : List ℕ → Type 0} → IsOne word Holds line → IsOne word Holds (bare line)
  one-bare is = (is.0, bare-words line ∙ is.1, is.2)

  alone-bare : {word : List ℕ} → IsAlone word line → IsAlone word (bare line)
  alone-bare is = bare-words line ∙ is

  arm-bare : (before : Before) (word : List ℕ) (site call : ℕ) (mode : Mode) → IsArm before word site call mode line → IsArm before word site call mode (bare line)
  arm-bare before word site call mode is = (is.0, is.1, is.2, bare-words line ∙ is.3, is.4, is.5, is.6)

  arguments-bare : (script : Script) → script ≡ scheduled → arguments script (bare line) ≡ arguments script line
  arguments-bare script kind = subst (λ (s : Script). arguments s (bare line) ≡ arguments s line) (sym kind) (bare-arguments line)

  request-bare : (before : Before) (site : ℕ) (query : Bool) (text : List ℕ) (p : Program) → before.script ≡ scheduled
      → IsRequest before site query text p line → IsRequest before site query text p (bare line)
  request-bare before site query text p kind is = record {
    more = is.more;
    first = bare-words line ∙ is.first;
    at = is.at;
    given = arguments-bare before.script kind ∙ is.given;
    place = is.place;
    is = is.is;
    may = is.may;
  }

  says-bare : (before : Before) → before.script ≡ scheduled → (event : Event) → Says before line event → Says before (bare line) event
  says-bare before kind (submit site query text p) is = request-bare before site query text p kind is
  says-bare before kind (deliver n) is = one-bare is
  says-bare before kind (pump None) is = alone-bare is
  says-bare before kind (pump (Some n)) is = one-bare is
  says-bare before kind (lose n) is = one-bare is
  says-bare before kind (drop site) is = one-bare is
  says-bare before kind (tick site) is = one-bare is
  says-bare before kind (stop site) is = one-bare is
  says-bare before kind (start site) is = one-bare is
  says-bare before kind (arm site call mode true) is = arm-bare before _ site call mode is
  says-bare before kind (arm site call mode false) is = arm-bare before _ site call mode is
  says-bare before kind (mend site) is = one-bare is
  says-bare before kind (checkpoint site) is = one-bare is
  says-bare before kind sent is = alone-bare is
  says-bare before kind report is = alone-bare is
  says-bare before kind total is = alone-bare is

  pub event-bare : (before : Before) (event : Event) → IsEvent before line event → IsEvent before (bare line) event
  event-bare before event is = record {
    kind = is.kind;
    text = bare-text (most_bytes before.script) line is.text;
    sites = is.sites;
    said = is.said;
    says = says-bare before is.kind event is.says;
  }

  -- ---- declarations

  not-live : (before : Before) → before.script ≡ scheduled → before.script ≡ live → ⊥
  not-live before kind other = let same : scheduled ≡ live = sym kind ∙ other in cc

  sites-bare : (before after : Before) → DeclaresSites before line after → DeclaresSites before (bare line) after
  sites-bare before after is = record {
    text = bare-text (most_bytes before.script) line is.text;
    first = is.first;
    count = is.count;
    is = one-bare is.is;
    same = is.same;
  }

  journal-bare : (before after : Before) → DeclaresJournal before line after → DeclaresJournal before (bare line) after
  journal-bare before after is = record {
    text = bare-text (most_bytes before.script) line is.text;
    sites = is.sites;
    said = is.said;
    once = is.once;
    early = is.early;
    limit = is.limit;
    is = one-bare is.is;
    same = is.same;
  }

  item-bare : (before after : Before) → DeclaresItem before line after → DeclaresItem before (bare line) after
  item-bare before after is = record {
    text = bare-text (most_bytes before.script) line is.text;
    sites = is.sites;
    said = is.said;
    early = is.early;
    item = is.item;
    at = is.at;
    number = is.number;
    is = bare-words line ∙ is.is;
    place = is.place;
    worth = is.worth;
    fits = is.fits;
    name = is.name;
    free = is.free;
    room = is.room;
    same = is.same;
  }

  pub declares-bare : (before after : Before) → before.script ≡ scheduled → Declares before line after → Declares before (bare line) after
  declares-bare before after kind (inl sites) = inl (sites-bare before after sites)
  declares-bare before after kind (inr (inl journal)) = inr (inl (journal-bare before after journal))
  declares-bare before after kind (inr (inr (inl item))) = inr (inr (inl (item-bare before after item)))
  declares-bare before after kind (inr (inr (inr (inl plan)))) = absurd (not-live before kind plan.kind)
  declares-bare before after kind (inr (inr (inr (inr (inl client))))) = absurd (not-live before kind client.kind)
  declares-bare before after kind (inr (inr (inr (inr (inr (inl request)))))) = absurd (not-live before kind request.kind)
  declares-bare before after kind (inr (inr (inr (inr (inr (inr peek)))))) = absurd (not-live before kind peek.kind)

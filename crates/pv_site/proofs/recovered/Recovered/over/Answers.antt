-- A store takes no records with which a value would name too many outcomes.
use Rattle.std.proofs.Common.{◌≡◌, ◌∙◌, None, List, ℕ, sym, ap, subst}
use Rattle.std.specs.Prelude.{All}
use Rattle.pv_base.specs.Catalog.{Declared}
use Rattle.pv_base.specs.declared.limits.TheConstants.{HELD_NAMES}
use Rattle.pv_format.specs.Contents.{greatest_epoch}
use Rattle.pv_format.specs.Range.{IsRecordInRange}
use Rattle.pv_format.specs.Record.{Record}
use Rattle.pv_protocol.specs.Width.{IsNarrow}
use Rattle.pv_replay.specs.Values.{records_of}
use Rattle.pv_site.proofs.OpenLemmas.{narrow-taken}
use Rattle.pv_site.proofs.recovered.Recovered.over.Goals as goal
use Rattle.pv_store.specs.Refusals.{too_many_in}

pub invariant_of-result : goal.invariant_of-result
invariant_of-result c =
    let read : List Record = records_of c.args.past.now.records.items in
    let none : too_many_in c.in_ok-store.store.catalog c.in_ok-store.store.site read ≡ None = c.in-Ok.ensures.answer.given in
    let catalog_is : c.in_ok-store.store.catalog ≡ c.args.catalog = c.in_ok-store.ensures.catalog in
    record {
      site = c.in-Ok.ensures.same_site ∙ c.in_ok-store.ensures.site;
      catalog = c.in-Ok.ensures.same_catalog ∙ catalog_is;
      epoch = ap greatest_epoch c.in-Ok.ensures.loaded ∙ sym c.requires.epoch;
      range = subst (All IsRecordInRange) (sym c.in-Ok.ensures.loaded) c.requires.range;
      narrow = subst (IsNarrow HELD_NAMES c.args.catalog c.args.me.0) (sym c.in-Ok.ensures.loaded)
          (subst (λ (site : ℕ). IsNarrow HELD_NAMES c.args.catalog site read) c.in_ok-store.ensures.site
          (subst (λ (declared : Declared). IsNarrow HELD_NAMES declared c.in_ok-store.store.site read) catalog_is
          (narrow-taken c.in_ok-store.store.catalog c.in_ok-store.store.site read none)));
    }

-- A start changes nothing that is shown.
use Rattle.std.proofs.Common.{◌≡◌, ◌≤◌, [], ℕ, List, length, sym, subst, arith}
use Rattle.std.specs.Prelude.{IsTrue}
use Rattle.pv_base.specs.declared.limits.TheConstants.{HELD_NAMES}
use Rattle.pv_base.specs.Named.{names_of}
use Rattle.pv_base.specs.Polyvalue.{names}
use Rattle.pv_format.specs.Record.{epoch_begun}
use Rattle.pv_law_values.proofs.ShownMore.{shown-epoch}
use Rattle.pv_model.specs.Alternatives.{Read}
use Rattle.pv_store.specs.Kept.{Kept, IsPlannedOn}
use Rattle.pv_store.specs.Held.{AreShown, ArePlaced}
use Rattle.pv_store.proofs.store.Store.plan_epoch.Goals as goal

planned-epoch : (kept : Kept) (epoch : ℕ) (none : List Read) → none ≡ [] → (values : _) → AreShown kept.catalog kept.site kept.records kept.records values
    → ArePlaced kept.catalog kept.site kept.records kept.records kept.room.places → IsPlannedOn kept (record { appended = epoch_begun epoch; values = none })
planned-epoch kept epoch none empty values are placed =
    subst (λ (reads : List Read). IsPlannedOn kept (record { appended = epoch_begun epoch; values = reads })) (sym empty) (record {
      here = λ k d below. absurd (omega (arith, below));
      shown_then = λ item home. shown-epoch kept.catalog kept.records epoch item;
      narrow = λ item home. subst (λ cases. length (names_of cases) ≤ HELD_NAMES) (sym (shown-epoch kept.catalog kept.records epoch item)) (are.narrow item home);
      placed = λ item txn home named. placed item txn home (subst (λ cases. IsTrue (names cases txn)) (shown-epoch kept.catalog kept.records epoch item) named);
      told = λ k d below. absurd (omega (arith, below));
      room = tt;
    })

pub returns-clause-planned : goal.returns-clause-planned
returns-clause-planned c =
    subst (λ (kept : Kept). IsPlannedOn kept (record { appended = epoch_begun c.args.epoch; values = c.new.result.items })) c.self.view_is
    (planned-epoch _ c.args.epoch _ c.new.ensures.items _ c.self.invariant.values c.self.invariant.placed)

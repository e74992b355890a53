-- The records so far are loaded.
use Rattle.std.proofs.Common.{ℕ, []}
use Rattle.pv_base.specs.Catalog.{Declared}
use Rattle.pv_replay.specs.Values.{records_of}
use Rattle.pv_store.specs.Held.{AreKnown, AreShown, AreTouched}
use Rattle.pv_store.proofs.LoadLemmas.{AreLoaded}
use Rattle.pv_store.proofs.load.values_of.Given as goal

abbrev pub invariant-loop-record : goal.invariant-loop-record
invariant-loop-record l = record {
  loaded : (catalog : Declared) (site : ℕ) → AreKnown l.outcomes.outcomes (records_of l.records) → AreShown catalog site [] [] l.declared
      → AreLoaded catalog site (records_of l.records) l.record-index l.values.items l.dependents.places;
  touched : (catalog : Declared) (site : ℕ) → AreShown catalog site [] [] l.declared → AreTouched l.values.items l.dependents.touched;
}

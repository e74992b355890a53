-- One value after another is put in its place.
use Rattle.std.proofs.Common.{◌≡◌, ◌∙◌, ◌<◌, ℕ, ℤ, true, [], ◌∷◌, Option, None, Some, List, length, arith, ap, sym, refl, subst}
use Rattle.std.specs.Prelude.{slice_get, All, IsTrue}
use Rattle.std.specs.Option.{option_map}
use Rattle.std.proofs.lemmas.List.Elements.{All-head, All-tail}
use Rattle.pv_base.specs.declared.txn.TxnId.{TxnId}
use Rattle.pv_base.specs.Polyvalue.{Case, names}
use Rattle.pv_model.specs.Alternatives.{Read}
use Rattle.pv_store.specs.Held.{replaced_at}
use Rattle.pv_store.specs.Kept.{Places, has_place}
use Rattle.pv_store.proofs.HeldLemmas.{Puts, puts-step}
use Rattle.pv_store.proofs.values.put_values.Goals as goal

abbrev IsPlaced : Places → Read → Type 0
IsPlaced places read = (txn : TxnId) → IsTrue (names read.cases txn) → has_place places txn read.item ≡ true

pub loop-value-init : goal.loop-value-init
loop-value-init c =
    let all = c.into_iter-value-iterator.ensures.into_iter_gives.0 in
    record {
      puts = record {
        within = subst (λ (reads : List Read). All (λ (read : Read). read.item < length c.args.values.now) reads) (sym all) c.requires.within;
        same = λ item. ap (λ (reads : List Read). option_map (replaced_at item reads) (slice_get c.args.values.now item)) all;
      };
      placed = subst (λ (reads : List Read). All (IsPlaced c.args.dependents.now.places) reads) (sym all) c.requires.placed;
      more = λ other there is. is;
      touched = λ are. are;
    }

pub put_value-requires : goal.put_value-requires
put_value-requires c =
    let value : Read = c.in-Some.value in
    let rest : List Read = c.next.new.self.rest.items in
    record {
      within = All-head (λ (read : Read). read.item < length c.loop-value.values) value rest
          (subst (λ (reads : List Read). All (λ (read : Read). read.item < length c.loop-value.values) reads) c.in-Some.ensures.steps.0 c.loop-value.invariant.puts.within);
      placed = λ txn named. c.loop-value.invariant.more txn value.item
          (All-head (IsPlaced c.args.dependents.now.places) value rest
          (subst (λ (reads : List Read). All (IsPlaced c.args.dependents.now.places) reads) c.in-Some.ensures.steps.0 c.loop-value.invariant.placed) txn named);
    }

pub loop-value-preserved : goal.loop-value-preserved
loop-value-preserved c =
    let value : Read = c.in-Some.value in
    let rest : List Read = c.next.new.self.rest.items in
    record {
      puts = subst (Puts c.args.new.items c.args.values.now rest) (sym c.put_value.ensures.values)
          (puts-step c.args.new.items c.args.values.now c.loop-value.value-iterator.rest.items rest c.loop-value.values value value c.in-Some.ensures.steps.0 refl c.loop-value.invariant.puts);
      placed = All-tail (IsPlaced c.args.dependents.now.places) value rest
          (subst (λ (reads : List Read). All (IsPlaced c.args.dependents.now.places) reads) c.in-Some.ensures.steps.0 c.loop-value.invariant.placed);
      more = λ other there is. c.put_value.ensures.more other there (c.loop-value.invariant.more other there is);
      touched = λ are. c.put_value.ensures.touched (c.loop-value.invariant.touched are);
    }

no-more : {X : Type 0} (xs : List X) → length xs ≡ 0 → xs ≡ []
no-more [] none = refl
no-more (x ∷ xs) none = absurd (omega (arith, none))

as-is : (item : ℕ) (found : Option (Option (List (Case ℤ)))) → option_map (replaced_at item []) found ≡ found
as-is item None = refl
as-is item (Some value) = refl

pub returns-clause-values : goal.returns-clause-values
returns-clause-values c = λ item.
    let rest = c.loop-value.value-iterator.rest in
    let none : rest.items ≡ [] = no-more rest.items (sym rest.ok.0 ∙ c.in-None.ensures.steps.0) in
    sym (as-is item (slice_get c.loop-value.values item))
    ∙ ap (λ (reads : List Read). option_map (replaced_at item reads) (slice_get c.loop-value.values item)) (sym none)
    ∙ c.loop-value.invariant.puts.same item

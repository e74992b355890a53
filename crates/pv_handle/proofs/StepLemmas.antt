-- A call on what is in a slot.
use Rattle.std.proofs.Common.{◌≡◌, sym, subst, Option, Some, Result, Ok}
use Rattle.pv_handle.specs.Slot.{Calls}

module _ {T E : Type 0} (Does : T → T → Result (Unit {0}) E → Type 0) where
  pub steps-in : (old new : Option T) (before after : T) (done : Result (Unit {0}) E) (x : Unit {0}) → old ≡ Some before → new ≡ Some after
      → done ≡ Ok x → Does before after done → Calls Does old new (Ok tt)
  steps-in old new before after done x was is ok steps =
      subst (λ (o : Option T). Calls Does o new (Ok tt)) (sym was)
      (subst (λ (n : Option T). Calls Does (Some before) n (Ok tt)) (sym is) (subst (Does before after) ok steps))

use Rattle.std.proofs.Common.{◌≡◌, true, sym, ◌∙◌, ap, subst, arith}
use Rattle.std.specs.List.{insert}
use Rattle.std.specs.Prelude.{is_ok, if◌then◌else◌}
use Rattle.pv_locks.proofs.HolderLemmas.{holder-order}
use Rattle.pv_locks.proofs.PutLemmas.{in-place-put, insert-put, place-within}
use Rattle.pv_locks.proofs.holders.add_holder.Goals as goal
use Rattle.pv_locks.specs.Holders.{comes_before, AreInPlace, place_of_holder}
use Rattle.pv_locks.specs.declared.holders.Holder.{Holder}

pub insert-requires : goal.insert-requires
insert-requires c =
    let bound = place-within (λ (other : Holder). comes_before other c.args.holder) c.args.holders.now.items in
    let at = c.place_of-place.ensures ∙ ap (place_of_holder c.args.holder) c.deref.ensures.value in
    omega (arith, bound, at)

-- What is inserted at the place is put there.
pub returns-clause-added : goal.returns-clause-added
returns-clause-added c =
    let items = c.args.holders.now.items in
    let ok : is_ok c.insert.result ≡ true = c.insert.ensures.succeeds (omega arith) in
    c.insert.ensures.items ∙ ap (λ b. if b then insert items c.place_of-place.result c.args.holder else items) ok
    ∙ ap (λ n. insert items n c.args.holder) (c.place_of-place.ensures ∙ ap (place_of_holder c.args.holder) c.deref.ensures.value)
    ∙ insert-put (λ (other : Holder). comes_before other c.args.holder) c.args.holder items

pub returns-clause-order : goal.returns-clause-order
returns-clause-order c =
    subst AreInPlace (sym (returns-clause-added c)) (in-place-put comes_before holder-order c.args.holder c.args.holders.now.items c.requires.order)

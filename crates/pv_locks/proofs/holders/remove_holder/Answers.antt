use Rattle.std.proofs.Common.{◌<◌, length, sym, ◌∙◌, ap, subst, arith}
use Rattle.std.specs.List.{remove}
use Rattle.pv_locks.proofs.HolderLemmas.{holder-order}
use Rattle.pv_locks.proofs.PutLemmas.{place-put, remove-put}
use Rattle.pv_locks.proofs.holders.remove_holder.Goals as goal
use Rattle.pv_locks.specs.Holders.{comes_before, place_of_holder}

-- What is removed at the place is what was put there.
pub returns-then-place-len-clause-left : goal.returns-then-place-len-clause-left
returns-then-place-len-clause-left c others is =
    c.remove.ensures.items
    ∙ ap (λ n. remove c.args.holders.now.items n) (c.place_of-place.ensures ∙ ap (place_of_holder c.args.holder) c.deref.ensures.value)
    ∙ ap (λ l. remove l (place_of_holder c.args.holder l)) is
    ∙ remove-put comes_before holder-order c.args.holder others

-- Nothing is left out, since the place of what was put in is within.
pub returns-else-place-len-clause-left : goal.returns-else-place-len-clause-left
returns-else-place-len-clause-left c others is =
    let within = subst (λ l. place_of_holder c.args.holder l < length l) (sym is) (place-put comes_before holder-order c.args.holder others) in
    let at = c.place_of-place.ensures ∙ ap (place_of_holder c.args.holder) c.deref.ensures.value in
    absurd (omega (arith, within, at))

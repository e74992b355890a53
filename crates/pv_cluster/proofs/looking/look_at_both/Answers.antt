-- Looks at two rings with both their ends leave the boxes as they were.
use Rattle.std.proofs.Common.{refl, set, ap, subst}
use Rattle.pv_cell.specs.Lending.{PostsNothing}
use Rattle.pv_mail.specs.declared.ends.Ends.{Ends}
use Rattle.pv_rings.specs.Rings.{Rests}
use Rattle.pv_cluster.proofs.LookLemmas.{begins, brought-by}
use Rattle.pv_cluster.proofs.StillLemmas.{both-still, ends_with, ring-at}
use Rattle.pv_cluster.proofs.looking.look_at_both.Goals as goal

pub returns-clause-one : goal.returns-clause-one
returns-clause-one g c =
    let at = c.args.to in
    let old = c.args.one.now.ends in
    let mid = c.ends-here.result.now in
    let is = c.ends-here.ensures.value in (
      refl,
      both-still old (ends_with mid at c.beside-2.new.self c.beside.new.out) at at c.beside-2.new.self c.beside.new.out (ap (λ (e : Ends). set e.sites_in.items at c.beside-2.new.self) is)
          (ap (λ (e : Ends). set e.sites_out.items at c.beside.new.out) is) (ap (λ (e : Ends). e.clients_in) is) (ap (λ (e : Ends). e.clients_out) is)
          c.requires.places.0 c.requires.places.1
          (λ any. subst (λ ring. Rests ring c.beside-2.new.self)
          (ring-at old.sites_in.items mid.sites_in.items at c.index_mut-3.result.now c.index_mut-3.ensures.value (ap (λ (e : Ends). e.sites_in.items) is)
          c.requires.places.0 any) (c.beside-2.ensures.ring.0, c.beside-2.ensures.taken))
          (λ any. subst (λ ring. PostsNothing ring c.beside.new.out)
          (ring-at old.sites_out.items mid.sites_out.items at c.index_mut-2.result.now c.index_mut-2.ensures.value (ap (λ (e : Ends). e.sites_out.items) is)
          c.requires.places.1 any) (c.beside.ensures.ring.1, c.beside.ensures.posted.0, c.beside.ensures.posted.1)),
    )

pub returns-clause-other : goal.returns-clause-other
returns-clause-other g c =
    let at = c.args.at in
    let old = c.args.other.now.ends in
    let mid = c.ends-there.result.now in
    let is = c.ends-there.ensures.value in (
      refl,
      both-still old (ends_with mid at c.beside.new.self c.beside-2.new.out) at at c.beside.new.self c.beside-2.new.out (ap (λ (e : Ends). set e.sites_in.items at c.beside.new.self) is)
          (ap (λ (e : Ends). set e.sites_out.items at c.beside-2.new.out) is) (ap (λ (e : Ends). e.clients_in) is) (ap (λ (e : Ends). e.clients_out) is)
          c.requires.others.0 c.requires.others.1
          (λ any. subst (λ ring. Rests ring c.beside.new.self)
          (ring-at old.sites_in.items mid.sites_in.items at c.index_mut.result.now c.index_mut.ensures.value (ap (λ (e : Ends). e.sites_in.items) is)
          c.requires.others.0 any) (c.beside.ensures.ring.0, c.beside.ensures.taken))
          (λ any. subst (λ ring. PostsNothing ring c.beside-2.new.out)
          (ring-at old.sites_out.items mid.sites_out.items at c.index_mut-4.result.now c.index_mut-4.ensures.value (ap (λ (e : Ends). e.sites_out.items) is)
          c.requires.others.1 any) (c.beside-2.ensures.ring.1, c.beside-2.ensures.posted.0, c.beside-2.ensures.posted.1)),
    )

pub returns-clause-on : goal.returns-clause-on
returns-clause-on g c =
    let one = c.args.one.now in
    let other = c.args.other.now in
    brought-by c.args.at c.args.to one other c.index_mut-2.result.now c.index_mut.result.now
    (ring-at one.ends.sites_out.items c.ends-here.result.now.sites_out.items c.args.to c.index_mut-2.result.now c.index_mut-2.ensures.value
    (ap (λ (e : Ends). e.sites_out.items) c.ends-here.ensures.value) c.requires.places.1)
    (ring-at other.ends.sites_in.items c.ends-there.result.now.sites_in.items c.args.at c.index_mut.result.now c.index_mut.ensures.value
    (ap (λ (e : Ends). e.sites_in.items) c.ends-there.ensures.value) c.requires.others.0)
    (begins c.index_mut-2.result.now c.beside.new.out c.index_mut.result.now c.beside.new.self c.beside.ensures.taken c.beside.ensures.posted.0 c.beside.ensures.all)

pub returns-clause-back : goal.returns-clause-back
returns-clause-back g c =
    let one = c.args.other.now in
    let other = c.args.one.now in
    brought-by c.args.to c.args.at one other c.index_mut-4.result.now c.index_mut-3.result.now
    (ring-at one.ends.sites_out.items c.ends-there.result.now.sites_out.items c.args.at c.index_mut-4.result.now c.index_mut-4.ensures.value
    (ap (λ (e : Ends). e.sites_out.items) c.ends-there.ensures.value) c.requires.others.1)
    (ring-at other.ends.sites_in.items c.ends-here.result.now.sites_in.items c.args.to c.index_mut-3.result.now c.index_mut-3.ensures.value
    (ap (λ (e : Ends). e.sites_in.items) c.ends-here.ensures.value) c.requires.places.0)
    (begins c.index_mut-4.result.now c.beside-2.new.out c.index_mut-3.result.now c.beside-2.new.self c.beside-2.ensures.taken c.beside-2.ensures.posted.0 c.beside-2.ensures.all)

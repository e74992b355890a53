-- A look at a ring with both its ends leaves the box as it was.
use Rattle.std.proofs.Common.{refl, set, ap, subst}
use Rattle.pv_cell.specs.Lending.{PostsNothing}
use Rattle.pv_mail.specs.declared.ends.Ends.{Ends}
use Rattle.pv_rings.specs.Rings.{Rests}
use Rattle.pv_cluster.proofs.LookLemmas.{begins, brought-by}
use Rattle.pv_cluster.proofs.StillLemmas.{both-still, ends_with, ring-at}
use Rattle.pv_cluster.proofs.looking.look_at_own.Goals as goal

pub returns-clause-still : goal.returns-clause-still
returns-clause-still g c =
    let at = c.args.at in
    let old = c.args.one.now.ends in
    let mid = c.ends-ends.result.now in
    let is = c.ends-ends.ensures.value in (
      refl,
      both-still old (ends_with mid at c.beside.new.self c.beside.new.out) at at c.beside.new.self c.beside.new.out (ap (λ (e : Ends). set e.sites_in.items at c.beside.new.self) is)
          (ap (λ (e : Ends). set e.sites_out.items at c.beside.new.out) is) (ap (λ (e : Ends). e.clients_in) is) (ap (λ (e : Ends). e.clients_out) is)
          c.requires.places.0 c.requires.places.1
          (λ any. subst (λ ring. Rests ring c.beside.new.self)
          (ring-at old.sites_in.items c.ends-ends.result.now.sites_in.items at c.index_mut.result.now c.index_mut.ensures.value (ap (λ (e : Ends). e.sites_in.items) is)
          c.requires.places.0 any) (c.beside.ensures.ring.0, c.beside.ensures.taken))
          (λ any. subst (λ ring. PostsNothing ring c.beside.new.out)
          (ring-at old.sites_out.items c.ends-ends.result.now.sites_out.items at c.index_mut-2.result.now c.index_mut-2.ensures.value
          (ap (λ (e : Ends). e.sites_out.items) is) c.requires.places.1 any) (c.beside.ensures.ring.1, c.beside.ensures.posted.0, c.beside.ensures.posted.1)),
    )

pub returns-clause-brought : goal.returns-clause-brought
returns-clause-brought g c =
    let at = c.args.at in
    let one = c.args.one.now in
    let is = c.ends-ends.ensures.value in
    brought-by at at one one c.index_mut-2.result.now c.index_mut.result.now
    (ring-at one.ends.sites_out.items c.ends-ends.result.now.sites_out.items at c.index_mut-2.result.now c.index_mut-2.ensures.value
    (ap (λ (e : Ends). e.sites_out.items) is) c.requires.places.1)
    (ring-at one.ends.sites_in.items c.ends-ends.result.now.sites_in.items at c.index_mut.result.now c.index_mut.ensures.value
    (ap (λ (e : Ends). e.sites_in.items) is) c.requires.places.0)
    (begins c.index_mut-2.result.now c.beside.new.out c.index_mut.result.now c.beside.new.self c.beside.ensures.taken c.beside.ensures.posted.0 c.beside.ensures.all)

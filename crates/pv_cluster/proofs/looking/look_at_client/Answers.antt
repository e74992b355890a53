-- A look at a client's ring with both its ends leaves box and client as they were.
use Rattle.std.proofs.Common.{◌≡◌, refl, set, ap, subst, inl, inr, ⊎_elim}
use mathlib.Core.List.{IsPrefix}
use Rattle.pv_mail.specs.declared.ends.Ends.{Ends}
use Rattle.pv_post.specs.Ends.{posted, taken}
use Rattle.pv_rings.specs.Rings.{Rests}
use Rattle.pv_cluster.proofs.LookLemmas.{begins, emptied}
use Rattle.pv_cluster.proofs.StillLemmas.{asked_with, client-still, ring-at}
use Rattle.pv_cluster.proofs.looking.look_at_client.Goals as goal

pub returns-clause-still : goal.returns-clause-still
returns-clause-still g c =
    let place = c.args.place in
    let old = c.args.one.now.ends in
    let mid = c.ends-ends.result.now in
    let is = c.ends-ends.ensures.value in
    let ring = c.beside-held.new.self in (
      refl,
      client-still old (asked_with mid place ring) place ring (ap (λ (e : Ends). set e.clients_in.items place ring) is)
          (ap (λ (e : Ends). e.sites_in) is) (ap (λ (e : Ends). e.sites_out) is) (ap (λ (e : Ends). e.clients_out) is) c.requires.0
          (λ any. subst (λ one. Rests one ring)
          (ring-at old.clients_in.items mid.clients_in.items place c.index_mut.result.now c.index_mut.ensures.value (ap (λ (e : Ends). e.clients_in.items) is)
          c.requires.0 any) (c.beside-held.ensures.ring.0, c.beside-held.ensures.taken)),
    )

pub returns-clause-looked : goal.returns-clause-looked
returns-clause-looked g c = ((refl, c.beside-held.ensures.ring.1), refl, c.beside-held.ensures.posted.0)

pub returns-clause-began : goal.returns-clause-began
returns-clause-began g c inlet =
    let place = c.args.place in
    let old = c.args.one.now.ends in
    let mid = c.ends-ends.result.now in
    subst (λ ring. IsPrefix (taken ring) (posted c.args.ended.now.asks))
    (ring-at old.clients_in.items mid.clients_in.items place c.index_mut.result.now c.index_mut.ensures.value
    (ap (λ (e : Ends). e.clients_in.items) c.ends-ends.ensures.value) c.requires.0 inlet)
    (begins c.args.ended.now.asks c.beside-held.new.out c.index_mut.result.now c.beside-held.new.self c.beside-held.ensures.taken
    c.beside-held.ensures.posted.0 c.beside-held.ensures.all)

pub returns-clause-before : goal.returns-clause-before
returns-clause-before g c over = (c.is_over.ensures over).0

pub returns-clause-taken : goal.returns-clause-taken
returns-clause-taken g c over =
    let place = c.args.place in
    let old = c.args.one.now.ends in
    let mid = c.ends-ends.result.now in
    ⊎_elim (λ (worn : c.is_worn-worn.result ≡ _). inl (c.is_worn-worn.ensures.0 worn))
    (λ none. inr (λ inlet.
    subst (λ ring. taken ring ≡ posted c.args.ended.now.asks)
    (ring-at old.clients_in.items mid.clients_in.items place c.index_mut.result.now c.index_mut.ensures.value
    (ap (λ (e : Ends). e.clients_in.items) c.ends-ends.ensures.value) c.requires.0 inlet)
    (emptied c.args.ended.now.asks c.beside-held.new.out c.index_mut.result.now c.beside-held.new.self c.beside-held.result c.beside-held.ensures.taken
    c.beside-held.ensures.posted.0 c.beside-held.ensures.all c.beside-held.ensures.count none)))
    (c.is_over.ensures over).1

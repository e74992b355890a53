-- What was read has another length than the log, so it isn't known what the log holds.
use Rattle.std.proofs.Common.{◌≡◌, ◌-◌, ◌^◌, map, min, subst}
use Rattle.pv_outbox.specs.Opens.{Reads}
use Rattle.pv_outbox.proofs.OpeningLemmas.{loads-read, were-read}
use Rattle.pv_disk_model.specs.Size.{size_of}
use Rattle.pv_outbox.specs.Values.{contents_of}
use Rattle.pv_outbox.proofs.LogLemmas.{unknown-contents}
use Rattle.pv_outbox.proofs.opening.load.Goals as goal

pub returns-then-length-clause-loaded : goal.returns-then-length-clause-loaded
returns-then-length-clause-loaded g c = (
  c.in-Ok.ensures.effect.0,
  c.in-Ok.ensures.effect.1,
  unknown-contents g.L.Log.model c.args.log.now c.read_all.new.self (map (λ it. it.items) c.in-Ok.contents.items) c.length_of-length.result c.length.result c.requires.intact c.requires.up
      c.in-Ok.ensures.effect.1 c.in-Ok.ensures.contents
      (subst (λ contents. c.length_of-length.result ≡ min (size_of (contents_of contents)) (2 ^ 64 - 1)) c.deref.ensures.value c.length_of-length.ensures) c.length.ensures c.if-length.true,
)

pub returns-clause-loaded : goal.returns-clause-loaded
returns-clause-loaded g c =
    let up = c.in-Ok.ensures.effect.0 in
    let kept = c.in-Ok.ensures.effect.1 in
    loads-read g.L.Log.model c.args.log.now c.read_all.new.self up kept (map (λ it. it.items) c.in-Ok.contents.items) c.facts_of.result
    (were-read g.L.Log.model c.args.log.now c.read_all.new.self up kept (map (λ it. it.items) c.in-Ok.contents.items) c.length_of-length.result c.length.result c.requires.intact
    c.in-Ok.ensures.contents
    (subst (λ contents. c.length_of-length.result ≡ min (size_of (contents_of contents)) (2 ^ 64 - 1)) c.deref.ensures.value c.length_of-length.ensures)
    c.length.ensures c.if-length.false)
    (subst (λ contents. Reads (contents_of contents) c.facts_of.result) c.deref-2.ensures.value c.facts_of.ensures)

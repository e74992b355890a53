-- What was read has another length than the log, so it isn't known what the log holds.
use Rattle.std.proofs.Common.{◌≡◌, ◌-◌, ◌^◌, map, min, subst}
use Rattle.pv_disk_model.specs.Size.{size_of}
use Rattle.pv_quorum.specs.Opens.{contents_of}
use Rattle.pv_quorum.proofs.LogLemmas.{unknown-contents}
use Rattle.pv_quorum.proofs.opening.load.Goals as goal

pub returns-then-length-clause-loaded : goal.returns-then-length-clause-loaded
returns-then-length-clause-loaded g c = (
  c.in-Ok.ensures.effect.0,
  c.in-Ok.ensures.effect.1,
  unknown-contents g.L.Log.model c.args.log.now c.read_all.new.self (map (λ it. it.items) c.in-Ok.contents.items) c.length_of-length.result c.length.result c.requires.intact c.requires.up
      c.in-Ok.ensures.effect.1 c.in-Ok.ensures.contents
      (subst (λ contents. c.length_of-length.result ≡ min (size_of (contents_of contents)) (2 ^ 64 - 1)) c.deref.ensures.value c.length_of-length.ensures) c.length.ensures c.if-length.true,
)

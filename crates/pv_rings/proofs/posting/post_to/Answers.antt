-- The ring at this place is handed the message.
use Rattle.std.proofs.Common.{◌<◌, length, arith}
use Rattle.pv_rings.proofs.RingLemmas.{one-handed, posted-kept}
use Rattle.pv_rings.proofs.posting.post_to.Goals as goal

pub returns-then-to-len : goal.returns-then-to-len
returns-then-to-len g c =
    let within : c.args.to < length c.args.rings.now.items = omega (arith, c.if-to-len.true, c.len.ensures) in
    one-handed c.args.to c.args.message c.args.rings.now.items c.index_mut.result.now c.post.new.self within c.index_mut.ensures.value (
      c.post.ensures.ring,
      c.post.ensures.offered,
      posted-kept c.index_mut.result.now c.post.new.self c.args.message c.post.ensures.ring c.post.ensures.offered c.post.result c.post.ensures.posted,
    )

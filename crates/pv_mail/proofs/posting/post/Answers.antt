-- The parcel is handed to the ring of its site.
use Rattle.pv_mail.proofs.PostingLemmas.{posts-one}
use Rattle.pv_mail.specs.declared.ends.Parcel.{Parcel}
use Rattle.pv_site.specs.Values.{outgoing_of}
use Rattle.pv_mail.proofs.posting.post.Goals as goal

pub returns-clause-posted : goal.returns-clause-posted
returns-clause-posted c =
    let parcel : Parcel = record { stamp = c.args.stamp; place = c.args.place; bytes = c.in_ok-bytes.bytes } in
    posts-one c.args.from.0 c.args.stamp c.args.place (outgoing_of c.args.outgoing) parcel c.args.outs.now.items c.post_to.new.rings.items
    (cc, cc, c.in_ok-bytes.ensures) c.post_to.ensures

-- What the outbox is refused for is so of the file.
use Rattle.pv_embed_outbox.proofs.OpeningLemmas.{refused_on}
use Rattle.pv_embed_outbox.proofs.hosted.HostedOutbox.open.Goals as goal

pub returns-in-Err : goal.returns-in-Err
returns-in-Err c =
    let log = c.in-Ok.log in
    let opened = c.in-Ok.ensures.opened in
    refused_on c.args.journal.items _ log c.fault_of.result opened (c.fault_of.ensures log (opened.up, opened.unread) c.in-Err.ensures.opened)

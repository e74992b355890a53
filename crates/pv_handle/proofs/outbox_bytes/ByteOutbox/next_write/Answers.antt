-- What the host is asked to write has room.
use Rattle.std.proofs.Common.{rules, ◌≡◌, ◌≤◌, Some, length, true, ap, subst, sym, ◌∙◌}
use Rattle.std.specs.Option.{option_map}
use Rattle.pv_host.specs.HostLog.{next_write}
use Rattle.pv_host.specs.HostWrites.{write_of}
use Rattle.pv_embed_outbox.specs.Hosted.{AsksForGroup, HostedState}
use Rattle.pv_handle.proofs.OutboxLemmas.{box_write_given}
use Rattle.pv_handle.proofs.outbox_bytes.ByteOutbox.next_write.Goals as goal
use Rattle.pv_handle.specs.Outbox.{BoxState, TakesBoxWrite}

pub returns : goal.returns
returns c =
    let inside = c.self.inside in
    let room = c.args.out.now in
    let after = c.next_write.follows.lender-at-none in
    let same : after ≡ c.ask.new.self = search rules in
    let asks : AsksForGroup (length room) inside.outbox after =
    subst (λ (outbox : HostedState). AsksForGroup (length room) outbox after) c.least_write.ensures.unchanged
    (subst (λ (outbox : HostedState). AsksForGroup (length room) c.least_write.new.self outbox) (sym same) c.ask.ensures.asks) in
    let is : next_write after.outbox.log ≡ Some (write_of c.in-Some-next_write.write) =
    ap (λ (outbox : HostedState). next_write outbox.outbox.log) same ∙ sym c.next_write.ensures.write ∙ ap (option_map write_of) c.in-Some-next_write.is in
    let le : c.in-Some.needed ≤ length room = search rules in
    subst (λ (old : BoxState). TakesBoxWrite room c.give-given.new.out old (record { hosted = after; taken = true }) c.give-given.result) c.self.view_is
    (box_write_given (record { hosted = inside.outbox; taken = inside.taken }) after room c.give-given.new.out c.in-Some.needed (write_of c.in-Some-next_write.write) c.give-given.result asks
    (sym c.least_write.ensures.least ∙ c.in-Some.is) le c.groups_fit_their_room.ensures is c.give-given.ensures)

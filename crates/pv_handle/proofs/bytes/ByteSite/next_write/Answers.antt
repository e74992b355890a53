-- What the host is asked to write has room.
use Rattle.std.proofs.Common.{rules, ◌≡◌, ◌≤◌, Some, length, true, ap, subst, sym, ◌∙◌}
use Rattle.std.specs.Option.{option_map}
use Rattle.pv_host.specs.HostLog.{next_write}
use Rattle.pv_host.specs.HostWrites.{write_of}
use Rattle.pv_embed.specs.Hosted.{AsksForGroup, HostedState}
use Rattle.pv_handle.proofs.ByteLemmas.{front}
use Rattle.pv_handle.proofs.WriteLemmas.{next-given}
use Rattle.pv_handle.proofs.bytes.ByteSite.next_write.Goals as goal
use Rattle.pv_handle.specs.ByteSite.{TakesWrite}
use Rattle.pv_handle.specs.ByteState.{ByteState}

pub returns : goal.returns
returns c =
    let inside = c.self.inside in
    let room = c.args.out.now in
    let after = c.next_write.follows.lender-at-none in
    let same : after ≡ c.ask.new.self = search rules in
    let asks : AsksForGroup (length room) inside.site after =
    subst (λ (site : HostedState). AsksForGroup (length room) site after) c.least_write.ensures.unchanged
    (subst (λ (site : HostedState). AsksForGroup (length room) c.least_write.new.self site) (sym same) c.ask.ensures.asks) in
    let is : next_write after.site.log ≡ Some (write_of c.in-Some-next_write.write) =
    ap (λ (site : HostedState). next_write site.site.log) same ∙ sym c.next_write.ensures.write ∙ ap (option_map write_of) c.in-Some-next_write.is in
    let le : c.in-Some.needed ≤ length room = search rules in
    subst (λ (old : ByteState). TakesWrite room c.give-given.new.out old (record { hosted = front inside.waiting after; taken = true; tags = inside.tags.items }) c.give-given.result) c.self.view_is
    (next-given inside.waiting inside.taken inside.tags.items inside.site after room c.give-given.new.out c.in-Some.needed (write_of c.in-Some-next_write.write) c.give-given.result asks
    (sym c.least_write.ensures.least ∙ c.in-Some.is) le c.groups_fit_their_room.ensures is c.give-given.ensures)

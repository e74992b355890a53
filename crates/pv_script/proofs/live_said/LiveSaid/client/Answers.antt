-- A client has one word behind the first, there are fewer than eight, and it has a site.
use Rattle.std.proofs.Common.{refl, [], get_or, true, arith}
use Rattle.std.proofs.lemmas.Bool.{both_ways}
use Rattle.std.proofs.lemmas.List.{length-map}
use Rattle.pv_model.specs.LineForms.{site}
use Rattle.pv_script.specs.LineFaults.{texts}
use Rattle.pv_script.specs.LiveSaid.{before_of_live}
use Rattle.pv_script.specs.LiveView.{client_of}
use Rattle.pv_script.specs.declared.schedule.LineCause.TheVariants.{BadNumber}
use Rattle.pv_script.proofs.FieldLemmas.{texts-one, bad-alone}
use Rattle.pv_script.proofs.HeadLemmas.{IsLineFault-client_words, IsLineFault-full_clients, IsLineFault-client}
use Rattle.pv_script.proofs.LiveSaidLemmas.{client-few, client-many, client-plans}
use Rattle.pv_script.proofs.live_said.LiveSaid.client.Goals as goal

pub returns-in_default-clause-fault : goal.returns-in_default-clause-fault
returns-in_default-clause-fault c = λ line head.
    IsLineFault-client_words (before_of_live c.args.self.now) line (texts c.args.args.now) refl head (client-few c.args.args.now c.in_default.len_below)

pub returns-in_default-2-clause-fault : goal.returns-in_default-2-clause-fault
returns-in_default-2-clause-fault c = λ line head.
    IsLineFault-client_words (before_of_live c.args.self.now) line (texts c.args.args.now) refl head (client-many c.args.args.now c.in_default.len_at_least)

pub returns-then-len-ge-MAX_CLIENTS-clause-fault : goal.returns-then-len-ge-MAX_CLIENTS-clause-fault
returns-then-len-ge-MAX_CLIENTS-clause-fault c = λ line head.
    let many = length-map c.args.self.now.clients.items client_of in
    IsLineFault-full_clients (before_of_live c.args.self.now) line (texts c.args.args.now) refl (get_or c.args.args.now 0 (record { ref_ptr = (0, 0); now = [] })).now
    (texts-one c.args.args.now (record { ref_ptr = (0, 0); now = [] }) c.in-len1.len_at_least c.in-len1.len_below) head
    (omega (arith, many, c.len.ensures, c.if-len-ge-MAX_CLIENTS.true, c.args.self.now.clients.ok.0))

pub returns-in_default-site_in-clause-fault : goal.returns-in_default-site_in-clause-fault
returns-in_default-site_in-clause-fault c = λ line head.
    let many = length-map c.args.self.now.clients.items client_of in
    let bad = rw c.sites.ensures.count at c.in_default-site_in.ensures.none in
    IsLineFault-client (before_of_live c.args.self.now) line (texts c.args.args.now) refl BadNumber head
    (omega (arith, many, c.len.ensures, c.if-len-ge-MAX_CLIENTS.false, c.args.self.now.clients.ok.0))
    (bad-alone site c.args.self.now.said.catalog.sites c.args.args.now (record { ref_ptr = (0, 0); now = [] }) c.in-len1.len_at_least c.in-len1.len_below bad)

pub returns-clause-sound : goal.returns-clause-sound
returns-clause-sound c = record {
  limited = c.requires.limited;
  early = λ quiet. absurd (both_ways true quiet refl);
  plans = client-plans c.args.self.now.said.catalog c.args.self.now.clients.items c.push.new.self.items _ c.in_ok-push.ensures.items c.new.ensures.items c.requires.plans;
}

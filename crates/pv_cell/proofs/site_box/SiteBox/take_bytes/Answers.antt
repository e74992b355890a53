use Rattle.std.proofs.Common.{rules, ◌≡◌, ℕ, List, sym, subst, ◌∙◌}
use Rattle.pv_base.specs.Answer.{Answers}
use Rattle.pv_cell.proofs.ArrivalLemmas.{elsewhere, unread-takes}
use Rattle.pv_cell.proofs.site_box.SiteBox.take_bytes.Goals as goal
use Rattle.pv_cell.specs.Visits.{TakesArrival}
use Rattle.pv_cell.specs.declared.visit.Visit.{Visit}
use Rattle.pv_format.specs.FirstFault.{EnvelopeFault}
use Rattle.pv_format.specs.MessageSpelling.{SpellsEnvelope}
use Rattle.pv_law_histories.proofs.MergingLemmas.{never-both}
use Rattle.pv_mail.specs.declared.arrival.Arrival.TheVariants as arrival
use Rattle.pv_wire.specs.Faults.{fault_of}
use Rattle.pv_wire.specs.Values.{envelope_of}

pub returns-in-Err-clause-takes : goal.returns-in-Err-clause-takes
returns-in-Err-clause-takes g c =
    let same : c.deref.result.now ≡ c.args.parcel.now.bytes.items = search rules in
    subst (λ (visit : Visit). TakesArrival g.L.Log.model c.args.self.now c.args.self.now (arrival.Parcel c.args.from c.args.parcel.now) visit)
    (sym c.unread.ensures)
    (unread-takes g.L.Log.model c.args.self.now c.args.from c.args.parcel.now c.decode.result
    (subst (λ (bytes : List ℕ). Answers (λ envelope. SpellsEnvelope envelope bytes) (EnvelopeFault bytes) envelope_of fault_of c.decode.result) same
    c.decode.ensures.answer) c.in-Err.error c.in-Err.is)

pub returns-then-not-is_between-clause-takes : goal.returns-then-not-is_between-clause-takes
returns-then-not-is_between-clause-takes g c =
    let same : c.deref.result.now ≡ c.args.parcel.now.bytes.items = search rules in
    elsewhere g.L.Log.model c.args.self.now c.args.from c.args.parcel.now c.decode.result
    (subst (λ (bytes : List ℕ). Answers (λ envelope. SpellsEnvelope envelope bytes) (EnvelopeFault bytes) envelope_of fault_of c.decode.result) same
    c.decode.ensures.answer) c.in-Ok.envelope c.in-Ok.is
    (λ both. never-both c.is_between.result (search rules) (c.is_between.ensures.1 (both.0, both.1 ∙ sym c.requires.is_box.me)))

-- What was written of a tour, by the status.
use Rattle.std.proofs.Common.{◌≡◌, ◌⊎◌, inl, inr, List, ℕ, ◌<◌, ◌≤◌, length, Option, Result, Ok, Err, OnOk, OnErr, cond, is_ok, refl, sym, ap, subst, arith}
use Rattle.std.specs.Prelude.{IfErr}
use Rattle.std.proofs.lemmas.List.{take_all}
use Rattle.std.proofs.KnownBytes.{Appends-nil, Keeps-refl}
use Rattle.std.specs.Io.KnownBytes.{Appends}
use Rattle.std.specs.Bool.{⊤}
use Rattle.pv_app.specs.TourEnds.{AnswersTour, Tells, TellsOfSites, end_of_refusal, tour_status}
use Rattle.pv_app.specs.declared.tour.Tour.{Tour}
use Rattle.pv_app.specs.declared.tour_end.TourEnd.{TourEnd}
use Rattle.pv_app.specs.declared.tour_end.TourEnd.TheVariants as at
use Rattle.pv_base.specs.Catalog.{Declared}
use Rattle.pv_base.specs.declared.limits.TheConstants.{MAX_INPUT}
use Rattle.pv_disk.specs.BayModel.{BayModel}
use Rattle.pv_io.specs.SinkEffects.{Writes, WritesPrefix}
use Rattle.pv_io.specs.Stream.{AppendsPrefix}
use Rattle.pv_io.specs.declared.read_end.ReadEnd.{ReadEnd}
use Rattle.pv_io.specs.declared.read_end.ReadEnd.TheVariants as why
use Rattle.pv_io.specs.declared.sink.Sink.{Ghosts}
use Rattle.pv_disk_model.specs.DiskModel.{DiskModel}
use Rattle.pv_run.specs.InputAnswers.{GivesUp}
use Rattle.pv_run.specs.WriteEndView.{IsWriteFault}
use Rattle.pv_run.specs.declared.status.Status.TheVariants.{Malformed, WriteFault}
use Rattle.pv_run.specs.declared.write_end.WriteEnd.{WriteEnd}
use Rattle.pv_run.specs.declared.write_end.WriteEnd.TheVariants as unwritten
use Rattle.pv_show.specs.Bays.{UsesDisks, none, one_more, not_handed_out}

-- What was written whole, or in part after an error, is a beginning.
pub prefix-either : {T E : Type 0} (r : Result T E) (old new : Option (List ℕ)) (output : List ℕ) → OnOk r (Appends old new output)
    → OnErr r (AppendsPrefix old new output) → AppendsPrefix old new output
prefix-either (Ok done) old new output whole part = (length output, subst (Appends old new) (sym (take_all (length output) output (omega arith))) whole)
prefix-either (Err e) old new output whole part = part

-- The text was written, or a beginning of it.
pub tour-written : {B V W E : Type 0} (M : BayModel B) (D : DiskModel V) (sink : Ghosts W) (tour : Tour) (catalog : Declared) (written : Result ⊤ E) (ended : TourEnd) (old new : B) (before after : W)
    (text : List ℕ) → ended ≡ cond (is_ok written) at.Done at.WriteFault → Tells M D tour catalog old new text → OnOk written (Writes sink before after text)
    → OnErr written (WritesPrefix sink before after text) → TellsOfSites M D sink tour catalog old new before after ended
tour-written M D sink tour catalog (Ok taken) ended old new before after text is all whole part =
    subst (TellsOfSites M D sink tour catalog old new before after) (sym is) (text, all, whole)
tour-written M D sink tour catalog (Err e) ended old new before after text is all whole part =
    subst (TellsOfSites M D sink tour catalog old new before after) (sym is) (text, all, part)

-- Disks of fewer sites are disks of more.
pub UsesDisks-wider : {B V : Type 0} (M : BayModel B) (D : DiskModel V) (Uses : V → V → Type 0) (few many : ℕ) (old new : B) → few ≤ many → UsesDisks M D Uses few old new
    → UsesDisks M D Uses many old new
UsesDisks-wider M D Uses few many old new fewer none = none
UsesDisks-wider M D Uses few many old new fewer (one_more mid _ site taken given within before used) =
    one_more mid new site taken given (omega (arith, within, fewer)) (UsesDisks-wider M D Uses few many old mid fewer before) used
UsesDisks-wider M D Uses few many old new fewer (not_handed_out mid _ site e within before asks) =
    not_handed_out mid new site e (omega (arith, within, fewer)) (UsesDisks-wider M D Uses few many old mid fewer before) asks

-- A line was refused, or it gave up.
pub refused-or-not : (written : Result ⊤ WriteEnd) (ended : TourEnd) → ended ≡ end_of_refusal written
    → GivesUp (tour_status (Ok ended)) ⊎ (tour_status (Ok ended) ≡ Malformed)
refused-or-not (Ok all) ended is = inr (ap (λ (e : TourEnd). tour_status (Ok e)) is)
refused-or-not (Err unwritten.WriteFault) ended is = inl (subst (λ (e : TourEnd). GivesUp (tour_status (Ok e))) (sym is) tt)
refused-or-not (Err unwritten.NoMemory) ended is = inl (subst (λ (e : TourEnd). GivesUp (tour_status (Ok e))) (sym is) tt)

-- What is so where all was written is so where the line was refused.
pub at_refused : (written : Result ⊤ WriteEnd) (ended : TourEnd) (P : Type 0) → ended ≡ end_of_refusal written → OnOk written P → ended ≡ at.Malformed → P
at_refused (Ok all) ended P is so refused = so
at_refused (Err unwritten.WriteFault) ended P is so refused = absurd (let wrong : ⊥ = cc in wrong)
at_refused (Err unwritten.NoMemory) ended P is so refused = absurd (let wrong : ⊥ = cc in wrong)

-- And what is so where the output failed is so where that of the refusal did.
pub at_refusal_fault : (written : Result ⊤ WriteEnd) (ended : TourEnd) (P : Type 0) → ended ≡ end_of_refusal written → IfErr written (λ e. IsWriteFault e → P)
    → ended ≡ at.WriteFault → P
at_refusal_fault (Ok all) ended P is so fault = absurd (let wrong : ⊥ = cc in wrong)
at_refusal_fault (Err unwritten.WriteFault) ended P is so fault = so refl
at_refusal_fault (Err unwritten.NoMemory) ended P is so fault = absurd (let wrong : ⊥ = cc in wrong)

-- A refusal is no other end.
pub refused-not-done : (written : Result ⊤ WriteEnd) (ended : TourEnd) → ended ≡ end_of_refusal written → ended ≡ at.Done → ⊥
refused-not-done (Ok all) ended is done = let wrong : ⊥ = cc in wrong
refused-not-done (Err unwritten.WriteFault) ended is done = let wrong : ⊥ = cc in wrong
refused-not-done (Err unwritten.NoMemory) ended is done = let wrong : ⊥ = cc in wrong

pub refused-not-bay : (written : Result ⊤ WriteEnd) (ended : TourEnd) → ended ≡ end_of_refusal written → ended ≡ at.BayFault → ⊥
refused-not-bay (Ok all) ended is other = let wrong : ⊥ = cc in wrong
refused-not-bay (Err unwritten.WriteFault) ended is other = let wrong : ⊥ = cc in wrong
refused-not-bay (Err unwritten.NoMemory) ended is other = let wrong : ⊥ = cc in wrong

-- The status tells that the output failed.
pub tour-write-fault : (ended : TourEnd) → tour_status (Ok ended) ≡ WriteFault → ended ≡ at.WriteFault
tour-write-fault at.Done is = absurd (let wrong : ⊥ = cc in wrong)
tour-write-fault at.Malformed is = absurd (let wrong : ⊥ = cc in wrong)
tour-write-fault at.WriteFault is = refl
tour-write-fault at.NoMemory is = absurd (let wrong : ⊥ = cc in wrong)
tour-write-fault at.BayFault is = absurd (let wrong : ⊥ = cc in wrong)

-- For an input that wasn't read there is no tour.
module _ {W B V : Type 0} (sink : Ghosts W) (M : BayModel B) (D : DiskModel V) (tour : Tour) (same : W) (bay : B) (input : List ℕ) where
  pub unread : (end : ReadEnd) → (end ≡ why.TooLong → MAX_INPUT < length input) → AnswersTour sink M D tour same same bay bay (Err end) input
  unread why.Failed over = record {
    told = λ short script says. (refl, Keeps-refl (sink.held same));
    refused = λ short number cause is.
        ((inl tt, (0, Appends-nil (sink.held same)), λ fault. absurd (let wrong : ⊥ = cc in wrong)), refl, λ malformed. absurd (let wrong : ⊥ = cc in wrong));
    long = λ long. ((inl tt, (0, Appends-nil (sink.held same)), λ fault. absurd (let wrong : ⊥ = cc in wrong)), refl);
    done = λ done. absurd (let wrong : ⊥ = cc in wrong);
    malformed = λ is. absurd (let wrong : ⊥ = cc in wrong);
    only_declared = λ script says. none;
  }
  unread why.TooLong over = record {
    told = λ short script says. absurd (omega (arith, short, over refl));
    refused = λ short number cause is. absurd (omega (arith, short, over refl));
    long = λ long. ((inr refl, (0, Appends-nil (sink.held same)), λ fault. absurd (let wrong : ⊥ = cc in wrong)), refl);
    done = λ done. absurd (let wrong : ⊥ = cc in wrong);
    malformed = λ is. absurd (let wrong : ⊥ = cc in wrong);
    only_declared = λ script says. none;
  }
  unread why.NoMemory over = record {
    told = λ short script says. (refl, Keeps-refl (sink.held same));
    refused = λ short number cause is.
        ((inl tt, (0, Appends-nil (sink.held same)), λ fault. absurd (let wrong : ⊥ = cc in wrong)), refl, λ malformed. absurd (let wrong : ⊥ = cc in wrong));
    long = λ long. ((inl tt, (0, Appends-nil (sink.held same)), λ fault. absurd (let wrong : ⊥ = cc in wrong)), refl);
    done = λ done. absurd (let wrong : ⊥ = cc in wrong);
    malformed = λ is. absurd (let wrong : ⊥ = cc in wrong);
    only_declared = λ script says. none;
  }

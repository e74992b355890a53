-- A box stays the box that it was.
use Rattle.std.proofs.Common.{◌≡◌, ◌≢◌, ◌⊎◌, ℕ, ◌==◌, ◌≤◌, Bool, true, false, List, [], ◌∷◌, length, refl, sym, ap, ◌∙◌, subst, inl, inr, ⊎_elim, append-nil, eqb-true, arith, Vec, Global}
use Rattle.std.proofs.lemmas.Bool.{eqb-false}
use Rattle.std.specs.Prelude.{Option, Some, None, Result, Ok, Err, is_some}
use base.Growing.{prefix_trans}
use Rattle.pv_base.specs.Fault.{Rose}
use Rattle.pv_disk_model.specs.LogModel.{LogModel}
use Rattle.pv_format.specs.Record.{Record}
use Rattle.pv_history.specs.Entries.{stamped_of}
use Rattle.pv_law_histories.specs.History.{Came, Intake, done, fault, down, tick}
use Rattle.pv_mail.specs.Answers.{asker_of}
use Rattle.pv_mail.specs.Arrivals.{Comes}
use Rattle.pv_mail.specs.Looks.{SameInRings}
use Rattle.pv_mail.specs.Telling.{TellsDownTo, TellsLossTo}
use Rattle.pv_mail.specs.declared.answer.Answer.{Answer}
use Rattle.pv_mail.specs.declared.arrival.Arrival.{Arrival}
use Rattle.pv_mail.specs.declared.arrival.Arrival.TheVariants as arrival
use Rattle.pv_mail.specs.declared.asked.Asker.{Asker}
use Rattle.pv_mail.specs.declared.asked.Begun.{Begun}
use Rattle.pv_mail.specs.declared.ends.Ends.{Ends}
use Rattle.pv_mail.specs.declared.ends.Parcel.{Parcel}
use Rattle.pv_post.specs.Ends.{SameIn, SameOut}
use Rattle.pv_post.specs.declared.inlet.In.{In}
use Rattle.pv_post.specs.declared.outlet.Out.{Out}
use Rattle.pv_protocol.specs.State.{Input, Outgoing, Running}
use Rattle.pv_rings.proofs.EachLemmas.{each-self, each-trans, each-weaker}
use Rattle.pv_rings.proofs.RingLemmas.{hands-nothing, rests-self}
use Rattle.pv_rings.specs.Rings.{Each, Gives, GivesOne, Hands, HandsEach, IsFoundEmpty, Rests}
use Rattle.pv_script.specs.declared.live.Request.{Request}
use Rattle.pv_site.specs.OnLog.{Logs}
use Rattle.pv_site.specs.SiteState.{SiteState}
use Rattle.pv_site.specs.Steps.{Stays, Steps}
use Rattle.pv_site.specs.declared.error.StepError.{StepError}
use Rattle.pv_site.specs.declared.error.StepError.TheVariants.{Fault, Down, NoMemory}
use Rattle.pv_site.specs.declared.input.Step.{Step}
use Rattle.pv_cell.proofs.CourseLemmas.{one-site}
use Rattle.pv_cell.specs.Box.{IsTickDue}
use Rattle.pv_cell.specs.Changes.{Enters, Kept, Loses, Posts, TellsOf, kept_of}
use Rattle.pv_cell.specs.Course.{Became}
use Rattle.pv_cell.specs.Visits.{Arrives, IsNext, TakesArrival, TakesTick, Visits}
use Rattle.pv_cell.specs.declared.site_box.SiteBox.{SiteBox}
use Rattle.pv_cell.specs.declared.visit.Visit.{Visit}
use Rattle.pv_cell.specs.declared.visit.Visit.TheVariants.{Took, Idle, Worn, Lost, Stray}

-- ## Ends
module _ {M : Type 0} where
  abbrev SameIns : List (In M) → List (In M) → Type 0
  SameIns old new = Each (λ (k : ℕ) (one other : In M). SameIn one other) old new

  abbrev SameOuts : List (Out M) → List (Out M) → Type 0
  SameOuts old new = Each (λ (k : ℕ) (one other : Out M). SameOut one other) old new

  ins-equal : (old new : List (In M)) → new ≡ old → SameIns old new
  ins-equal old new is =
      subst (λ (rings : List (In M)). SameIns old rings) (sym is) (each-self (λ (k : ℕ) (one other : In M). SameIn one other) old (λ k ring within. (rests-self ring).0))

  pub outs-equal : (old new : List (Out M)) → new ≡ old → SameOuts old new
  outs-equal old new is =
      subst (λ (rings : List (Out M)). SameOuts old rings) (sym is)
      (each-self (λ (k : ℕ) (one other : Out M). SameOut one other) old (λ k ring within. (hands-nothing ring).0))

  ins-rest : (old new : List (In M)) → Each (λ k one other. Rests one other) old new → SameIns old new
  ins-rest old new each =
      each-weaker (λ (k : ℕ) (one other : In M). Rests one other) (λ (k : ℕ) (one other : In M). SameIn one other) old new (λ k x y within rests. rests.0) each

  ins-empty : (old new : List (In M)) → Each (λ k one other. IsFoundEmpty one other) old new → SameIns old new
  ins-empty old new each =
      each-weaker (λ (k : ℕ) (one other : In M). IsFoundEmpty one other) (λ (k : ℕ) (one other : In M). SameIn one other) old new (λ k x y within is. is.0.0) each

  ins-give : (ring : ℕ) (message : M) (count : ℕ) (old new : List (In M)) → GivesOne ring message count old new → SameIns old new
  ins-give ring message count old new gives =
      each-weaker (λ (k : ℕ) (one other : In M). (k ≡ ring → Gives message count one other) × (k ≢ ring → Rests one other))
      (λ (k : ℕ) (one other : In M). SameIn one other) old new (λ k x y within one. at k (k == ring) refl x y one) gives.1
    where
      at : (k : ℕ) (test : Bool) → (k == ring) ≡ test → (x y : In M) → (k ≡ ring → Gives message count x y) × (k ≢ ring → Rests x y) → SameIn x y
      at k true is x y one = (one.0 (eqb-true k ring is)).0
      at k false is x y one = (one.1 (eqb-false k ring is)).0

  outs-hand : (P : ℕ → List M → Type 0) (old new : List (Out M)) → HandsEach P old new → SameOuts old new
  outs-hand P old new each =
      each-weaker (λ (k : ℕ) (one other : Out M). (more : List M) × Hands more one other × P k more) (λ (k : ℕ) (one other : Out M). SameOut one other) old new
      (λ k x y within hands. hands.1.0) each

  outs-one : (more : ℕ → List M) (old new : List (Out M)) → Each (λ k one other. Hands (more k) one other) old new → SameOuts old new
  outs-one more old new each =
      each-weaker (λ (k : ℕ) (one other : Out M). Hands (more k) one other) (λ (k : ℕ) (one other : Out M). SameOut one other) old new
      (λ k x y within hands. hands.0) each

  in-trans : (a b c : In M) → SameIn a b → SameIn b c → SameIn a c
  in-trans a b c one other = ((other.0.0 ∙ one.0.0, other.0.1 ∙ one.0.1, other.0.2 ∙ one.0.2, other.0.3 ∙ one.0.3), other.1 ∙ one.1)

  out-trans : (a b c : Out M) → SameOut a b → SameOut b c → SameOut a c
  out-trans a b c one other =
      (((other.0.0.0 ∙ one.0.0.0, other.0.0.1 ∙ one.0.0.1, other.0.0.2 ∙ one.0.0.2, other.0.0.3 ∙ one.0.0.3), other.0.1 ∙ one.0.1), other.1 ∙ one.1)

  ins-trans : (a b c : List (In M)) → SameIns a b → SameIns b c → SameIns a c
  ins-trans a b c one other =
      each-trans (λ (k : ℕ) (x y : In M). SameIn x y) (λ (k : ℕ) (x y : In M). SameIn x y) (λ (k : ℕ) (x y : In M). SameIn x y) a b c
      (λ k x y z within. in-trans x y z) one other

  outs-trans : (a b c : List (Out M)) → SameOuts a b → SameOuts b c → SameOuts a c
  outs-trans a b c one other =
      each-trans (λ (k : ℕ) (x y : Out M). SameOut x y) (λ (k : ℕ) (x y : Out M). SameOut x y) (λ (k : ℕ) (x y : Out M). SameOut x y) a b c
      (λ k x y z within. out-trans x y z) one other

-- ## What is handed out
posts-same : (me stamp : ℕ) (came : Came) (sends : List Outgoing) (old new : List (Out Parcel)) → Posts me stamp came sends old new → SameOuts old new
posts-same me stamp (done notes) sends old new posts = outs-hand _ old new posts
posts-same me stamp fault sends old new same = outs-equal old new same
posts-same me stamp down sends old new same = outs-equal old new same

down-same : (me seen : ℕ) (asker : Option Asker) (old new : List (Out Answer)) → TellsDownTo me seen asker old new → SameOuts old new
down-same me seen None old new same = outs-equal old new same
down-same me seen (Some asker) old new tells = outs-one _ old new tells

loss-same : (seen : ℕ) (asker : Option Asker) (old new : List (Out Answer)) → TellsLossTo seen asker old new → SameOuts old new
loss-same seen None old new same = outs-equal old new same
loss-same seen (Some asker) old new tells = outs-one _ old new tells

tells-same : (me seen : ℕ) (begun : List Begun) (intake : Intake) (came : Came) (old new : List (Out Answer)) → TellsOf me seen begun intake came old new
    → SameOuts old new
tells-same me seen begun intake (done notes) old new tells = outs-hand _ old new tells
tells-same me seen begun intake fault old new same = outs-equal old new same
tells-same me seen begun intake down old new tells = down-same me seen (asker_of intake) old new tells

-- ## What comes in
abbrev SameWaysIn : Ends → Ends → Type 0
SameWaysIn old new = SameIns old.sites_in.items new.sites_in.items × SameIns old.clients_in.items new.clients_in.items

same-in : (old new : Ends) → SameInRings old new → SameWaysIn old new
same-in old new same = (
  ins-equal old.sites_in.items new.sites_in.items (ap (λ (all : Vec (In Parcel) Global). all.items) same.0),
  ins-equal old.clients_in.items new.clients_in.items (ap (λ (all : Vec (In Request) Global). all.items) same.1),
)

comes-in : (old new : Ends) (came : Arrival) (count : ℕ) → Comes old new came count → SameWaysIn old new
comes-in old new (arrival.Request client request) count comes =
    (ins-rest old.sites_in.items new.sites_in.items comes.1, ins-give client request count old.clients_in.items new.clients_in.items comes.0)
comes-in old new (arrival.Parcel from parcel) count comes =
    (ins-give from.0 parcel count old.sites_in.items new.sites_in.items comes.0, ins-rest old.clients_in.items new.clients_in.items comes.1)

-- ## Logs
-- Whether the log tells what it holds is as it was.
abbrev IsKnownAlike : {W : Type 0} → LogModel W → W → W → Type 0
IsKnownAlike M old new = is_some (M.contents new) ≡ is_some (M.contents old)

logs-known : {W : Type 0} (M : LogModel W) (old new : W) (appended : Option Record) → Logs M old new appended → IsKnownAlike M old new
logs-known {W} M old new None same = ap (λ (log : W). is_some (M.contents log)) same
logs-known {W} M old new (Some record_appended) logs = logs.1.2.known

step-known : {W : Type 0} (M : LogModel W) (old new : SiteState W) (running : Option Running) (input : Input) (answer : Result Step StepError)
    → Steps M old new running input answer → IsKnownAlike M old.log new.log
step-known {W} M old new None input answer is = ap (λ (s : SiteState W). is_some (M.contents s.log)) is.1
step-known {W} M old new (Some running) input (Ok step) made = logs-known M old.log new.log _ made.log
step-known {W} M old new (Some running) input (Err Fault) breaks = breaks.log.log.known
step-known {W} M old new (Some running) input (Err Down) steps = absurd steps
step-known {W} M old new (Some running) input (Err NoMemory) stays = ap is_some stays.log.contents

-- ## Faults
-- The log's count of faults didn't fall, and it rose where the site was up and is down.
abbrev CountsFaults : {W : Type 0} → LogModel W → SiteState W → SiteState W → Type 0
CountsFaults M old new =
    (M.faults old.log ≤ M.faults new.log) × (is_some old.running ≡ true → is_some new.running ≡ false → Rose (M.faults old.log) (M.faults new.log))

-- The site stays up, and nothing was counted.
counts-none : {W : Type 0} (M : LogModel W) (old new : SiteState W) → M.faults new.log ≡ M.faults old.log → (is_some old.running ≡ true → is_some new.running ≡ true)
    → CountsFaults M old new
counts-none M old new same up = (omega (arith, same), λ was isnt. absurd (both-ways (is_some new.running) (up was) isnt))
  where
    both-ways : (test : Bool) → test ≡ true → test ≡ false → ⊥
    both-ways true is isnt = cc
    both-ways false is isnt = cc

pub same-counts : {W : Type 0} (M : LogModel W) (old new : SiteState W) → new ≡ old → CountsFaults M old new
same-counts {W} M old new same =
    counts-none M old new (ap (λ (s : SiteState W). M.faults s.log) same) (λ was. ap (λ (s : SiteState W). is_some s.running) same ∙ was)

stays-counts : {W : Type 0} (M : LogModel W) (old new : SiteState W) → Stays M old new → CountsFaults M old new
stays-counts {W} M old new stays = counts-none M old new stays.up.faults (λ was. ap (λ (s : SiteState W). is_some s.running) stays.site ∙ was)

logs-counts : {W : Type 0} (M : LogModel W) (old new : W) (appended : Option Record) → Logs M old new appended → M.faults new ≡ M.faults old
logs-counts M old new None same = ap M.faults same
logs-counts M old new (Some record_appended) logs = logs.0.faults

step-counts : {W : Type 0} (M : LogModel W) (old new : SiteState W) (running : Option Running) (input : Input) (answer : Result Step StepError)
    → Steps M old new running input answer → CountsFaults M old new
step-counts {W} M old new None input answer is = same-counts M old new is.1
step-counts {W} M old new (Some running) input (Ok step) made =
    counts-none M old new (logs-counts M old.log new.log _ made.log) (λ was. ap (λ (s : SiteState W). is_some s.running) made.site)
step-counts {W} M old new (Some running) input (Err Fault) breaks = (breaks.log.down.faults, λ was isnt. breaks.log.down.fault)
step-counts {W} M old new (Some running) input (Err Down) steps = absurd steps
step-counts {W} M old new (Some running) input (Err NoMemory) stays = stays-counts M old new stays

-- A count that rose from a later one on rose from the earlier one on.
rose-later : (old mid new : ℕ) → old ≤ mid → Rose mid new → Rose old new
rose-later old mid new later rose = omega (arith, later, rose)

-- ## Boxes
module _ {W : Type 0} where
  down-both : (M : LogModel W) (old mid new : SiteBox W) → Became M old mid → Became M mid new → (up : Bool) → is_some mid.site.running ≡ up
      → is_some old.site.running ≡ true → is_some new.site.running ≡ false → Rose (M.faults old.site.log) (M.faults new.site.log)
  down-both M old mid new one other true up was isnt =
      rose-later (M.faults old.site.log) (M.faults mid.site.log) (M.faults new.site.log) one.faults (other.down up isnt)
  down-both M old mid new one other false fell was isnt = omega (arith, one.down was fell, other.faults)

  pub became-trans : (M : LogModel W) (old mid new : SiteBox W) → Became M old mid → Became M mid new → Became M old new
  became-trans M old mid new one other = record {
    site = (other.site.0 ∙ one.site.0, other.site.1 ∙ one.site.1);
    known = other.known ∙ one.known;
    faults = omega (arith, one.faults, other.faults);
    down = down-both M old mid new one other (is_some mid.site.running) refl;
    ends = (
      ins-trans old.ends.sites_in.items mid.ends.sites_in.items new.ends.sites_in.items one.ends.0 other.ends.0,
      outs-trans old.ends.sites_out.items mid.ends.sites_out.items new.ends.sites_out.items one.ends.1 other.ends.1,
      ins-trans old.ends.clients_in.items mid.ends.clients_in.items new.ends.clients_in.items one.ends.2 other.ends.2,
      outs-trans old.ends.clients_out.items mid.ends.clients_out.items new.ends.clients_out.items one.ends.3 other.ends.3,
    );
    history = prefix_trans old.history.items mid.history.items new.history.items one.history other.history;
  }

  pub became-self : (M : LogModel W) (box : SiteBox W) → Became M box box
  became-self M box = record {
    site = (refl, refl);
    known = refl;
    faults = (same-counts M box.site box.site refl).0;
    down = (same-counts M box.site box.site refl).1;
    ends = (
      ins-equal box.ends.sites_in.items box.ends.sites_in.items refl,
      outs-equal box.ends.sites_out.items box.ends.sites_out.items refl,
      ins-equal box.ends.clients_in.items box.ends.clients_in.items refl,
      outs-equal box.ends.clients_out.items box.ends.clients_out.items refl,
    );
    history = ([], append-nil box.history.items);
  }

  next-in : (old new : SiteBox W) (came : Arrival) (count : ℕ) → IsNext old new came count → SameWaysIn old.ends new.ends
  next-in old new came count (inl left) = same-in old.ends new.ends left.3
  next-in old new came count (inr next) = comes-in old.ends new.ends came count next.1

  module _ (M : LogModel W) (old new : SiteBox W) (ways : SameWaysIn old.ends new.ends) where
    enters-became : (intake : Intake) → Enters M (kept_of old) (kept_of new) intake → Became M old new
    enters-became intake e = record {
      site = one-site M old.site new.site old.site.running _ e.answer e.made;
      known = step-known M old.site new.site old.site.running _ e.answer e.made;
      faults = (step-counts M old.site new.site old.site.running _ e.answer e.made).0;
      down = (step-counts M old.site new.site old.site.running _ e.answer e.made).1;
      ends = (
        ways.0,
        posts-same old.site.me e.entry.stamp (stamped_of e.entry).came _ old.ends.sites_out.items new.ends.sites_out.items e.posts,
        ways.1,
        tells-same old.site.me (length new.history.items) old.begun.items intake (stamped_of e.entry).came old.ends.clients_out.items new.ends.clients_out.items e.tells,
      );
      history = (e.entry ∷ [], sym e.history);
    }

    loses-became : (asker : Option Asker) → Loses M (kept_of old) (kept_of new) asker → Became M old new
    loses-became asker loses = record {
      site = ⊎_elim (λ same. (ap (λ (s : SiteState W). s.me) same, ap (λ (s : SiteState W). s.catalog) same))
          (λ stays. (ap (λ (s : SiteState W). s.me) stays.site, ap (λ (s : SiteState W). s.catalog) stays.site)) loses.site;
      known = ⊎_elim (λ same. ap (λ (s : SiteState W). is_some (M.contents s.log)) same) (λ stays. ap is_some stays.log.contents) loses.site;
      faults = (⊎_elim (same-counts M old.site new.site) (stays-counts M old.site new.site) loses.site).0;
      down = (⊎_elim (same-counts M old.site new.site) (stays-counts M old.site new.site) loses.site).1;
      ends = (
        ways.0,
        outs-equal old.ends.sites_out.items new.ends.sites_out.items (ap (λ (k : Kept W). k.sites_out) loses.changed),
        ways.1,
        loss-same (length old.history.items) asker old.ends.clients_out.items new.ends.clients_out.items loses.tells,
      );
      history = ([], append-nil old.history.items ∙ sym (ap (λ (k : Kept W). k.history) loses.changed));
    }

    same-became : kept_of new ≡ kept_of old → Became M old new
    same-became same = record {
      site = (ap (λ (k : Kept W). k.site.me) same, ap (λ (k : Kept W). k.site.catalog) same);
      known = ap (λ (k : Kept W). is_some (M.contents k.site.log)) same;
      faults = (same-counts M old.site new.site (ap (λ (k : Kept W). k.site) same)).0;
      down = (same-counts M old.site new.site (ap (λ (k : Kept W). k.site) same)).1;
      ends = (
        ways.0,
        outs-equal old.ends.sites_out.items new.ends.sites_out.items (ap (λ (k : Kept W). k.sites_out) same),
        ways.1,
        outs-equal old.ends.clients_out.items new.ends.clients_out.items (ap (λ (k : Kept W). k.clients_out) same),
      );
      history = ([], append-nil old.history.items ∙ sym (ap (λ (k : Kept W). k.history) same));
    }

  module _ (M : LogModel W) (old new : SiteBox W) where
    pub tick-became : (visit : Visit) → TakesTick M old new visit → Became M old new
    tick-became Took takes = enters-became M old new (same-in old.ends new.ends takes.1.2) tick takes.2
    tick-became Worn takes = subst (λ (box : SiteBox W). Became M old box) (sym takes.1) (became-self M old)
    tick-became Lost takes = loses-became M old new (same-in old.ends new.ends takes.1.2) None takes.2
    tick-became Idle takes = absurd takes
    tick-became Stray takes = absurd takes

    arrival-became : (came : Arrival) → Arrives old new came → (visit : Visit) → TakesArrival M old new came visit → Became M old new
    arrival-became came arrives Took takes = enters-became M old new (next-in old new came arrives.0 arrives.1) takes.1.0 takes.1.2
    arrival-became came arrives Lost takes = loses-became M old new (next-in old new came arrives.0 arrives.1) _ takes
    arrival-became came arrives Stray takes = same-became M old new (next-in old new came arrives.0 arrives.1) takes.1
    arrival-became came arrives Idle takes = absurd takes
    arrival-became came arrives Worn takes = absurd takes

    taking-became : (visit : Visit)
        → (IsTickDue old × TakesTick M old new visit)
        ⊎ ((IsTickDue old → ⊥) × (new.idle ≡ 0) × ((came : Arrival) × Arrives old new came × TakesArrival M old new came visit)) → Became M old new
    taking-became visit (inl due) = tick-became visit due.1
    taking-became visit (inr came) = arrival-became came.2.0 came.2.1 visit came.2.2

    pub visit-became : (visit : Visit) → Visits M old new visit → Became M old new
    visit-became Worn visits = subst (λ (box : SiteBox W). Became M old box) (sym visits.1) (became-self M old)
    visit-became Idle visits =
        same-became M old new
        (ins-empty old.ends.sites_in.items new.ends.sites_in.items visits.2.rings.0, ins-empty old.ends.clients_in.items new.ends.clients_in.items visits.2.rings.1)
        visits.2.kept
    visit-became Took visits = taking-became Took visits.1
    visit-became Lost visits = taking-became Lost visits.1
    visit-became Stray visits = taking-became Stray visits.1

-- What clients were told is by the history.
use Rattle.std.proofs.Common.{◌≡◌, ◌⊎◌, ℕ, zero, suc, ◌+◌, ◌==◌, Bool, true, false, if◌then◌else◌, List, [], ◌∷◌, ◌++◌, length, get_or, map, refl, sym, ap, ◌∙◌, subst, inl, inr, ⊎_elim, append-nil, append_assoc, eqb-true, eq-eqb, length-append, arith, All}
use Rattle.std.proofs.lemmas.List.{length-map, map-append, map-id}
use Rattle.std.proofs.lemmas.List.Elements.{All-append, All-cons, All-nil, All-weaker, Contains-append_left, Contains-append_right, Contains-push}
use Rattle.std.specs.Prelude.{Contains, Option, Some, None}
use Rattle.pv_disk_model.specs.LogModel.{LogModel}
use Rattle.pv_history.specs.Entries.{stamped_of, stamps_of}
use Rattle.pv_history.specs.declared.entry.Entry.{Entry}
use Rattle.pv_law_histories.specs.History.{Came, Intake, Stamped, done, fault, down, tick}
use Rattle.pv_mail.specs.Answers.{AllTell, Says, Told, asker_of, begun_by, told, told_by, told_to}
use Rattle.pv_mail.specs.Telling.{TellsAll, TellsDownTo, TellsLossTo, TellsOne}
use Rattle.pv_mail.specs.declared.answer.Answer.{Answer}
use Rattle.pv_mail.specs.declared.answer.What.{What}
use Rattle.pv_mail.specs.declared.answer.What.TheVariants as what
use Rattle.pv_mail.specs.declared.arrival.Arrival.{Arrival}
use Rattle.pv_mail.specs.declared.asked.Asker.{Asker}
use Rattle.pv_mail.specs.declared.asked.Begun.{Begun}
use Rattle.pv_post.specs.Ends.{offered, plan_of, posted}
use Rattle.pv_post.specs.declared.outlet.Out.{Out}
use Rattle.pv_protocol.specs.Lines.{Line}
use Rattle.pv_rings.proofs.EachLemmas.{each-self, each-weaker}
use Rattle.pv_rings.proofs.RingLemmas.{hands-nothing}
use Rattle.pv_rings.specs.Rings.{Each, Hands}
use Rattle.pv_script.specs.LineView.{line_of}
use Rattle.pv_script.specs.declared.line.Line.TheVariants as line
use Rattle.pv_site.specs.SiteState.{SiteState}
use Rattle.pv_cell.proofs.CourseLemmas.{none-shown, one-site}
use Rattle.pv_cell.proofs.TrafficLemmas.{each-shows, keeps-among}
use Rattle.pv_cell.specs.Box.{IsTickDue}
use Rattle.pv_cell.specs.Changes.{Enters, Kept, Loses, TellsOf, kept_of}
use Rattle.pv_cell.specs.Course.{IsNew}
use Rattle.pv_cell.specs.Opens.{IsFreshOut}
use Rattle.pv_cell.specs.Told.{Heard, IsHeard, IsHeardAs, IsTold, TellsItsHistory, begun_along, heard_along, heard_at, heard_of}
use Rattle.pv_cell.specs.Visits.{Arrives, TakesArrival, TakesTick, Visits}
use Rattle.pv_cell.specs.declared.site_box.SiteBox.{SiteBox}
use Rattle.pv_cell.specs.declared.visit.Visit.{Visit}
use Rattle.pv_cell.specs.declared.visit.Visit.TheVariants.{Took, Idle, Worn, Lost, Stray}

-- ## An answer
in-front : (front back : List Heard) (number seen : ℕ) (it : What) → IsHeardAs front number seen it → IsHeardAs (front ++ back) number seen it
in-front front back number seen (what.Line said) heard = Contains-append_left front back (record { number = number; seen = seen; line = line_of said }) heard
in-front front back number seen what.NoMemory heard = tt

in-back : (front back : List Heard) (number seen : ℕ) (it : What) → IsHeardAs back number seen it → IsHeardAs (front ++ back) number seen it
in-back front back number seen (what.Line said) heard = Contains-append_right front back (record { number = number; seen = seen; line = line_of said }) heard
in-back front back number seen what.NoMemory heard = tt

said-first : (seen : ℕ) (one : Told) (rest : List Heard) (number made : ℕ) (it : What) → number ≡ one.asker.number → made ≡ seen → Says it one.line
    → IsHeardAs (heard_at seen one ∷ rest) number made it
said-first seen one rest number made (what.Line said) same_number same_seen says =
    subst (λ (heard : Heard). Contains (heard_at seen one ∷ rest) heard) (λ i. record { number = sym same_number i; seen = sym same_seen i; line = sym says i })
    (Contains-append_left (heard_at seen one ∷ []) rest (heard_at seen one) (Contains-push [] (heard_at seen one)))
said-first seen one rest number made what.NoMemory same_number same_seen says = tt

all-heard : (seen : ℕ) (answers : List Answer) (all : List Told) → AllTell seen answers all → All (IsHeard (map (heard_at seen) all)) answers
all-heard seen [] [] tell = All-nil (IsHeard [])
all-heard seen [] (one ∷ all) tell = absurd tell
all-heard seen (answer ∷ answers) [] tell = absurd tell
all-heard seen (answer ∷ answers) (one ∷ all) tell =
    let rest = map (heard_at seen) all in
    All-cons (IsHeard (heard_at seen one ∷ rest)) answer answers
    (said-first seen one rest answer.number answer.seen answer.what tell.0.0 tell.0.1 tell.0.2)
    (All-weaker (IsHeard rest) (IsHeard (heard_at seen one ∷ rest))
    (λ (it : Answer) heard. in-back (heard_at seen one ∷ []) rest it.number it.seen it.what heard) answers (all-heard seen answers all tell.1))

-- ## What rings of clients are handed
-- The ring of this client is handed what the client hears of these.
abbrev Hears : ℕ → List Told → ℕ → Out Answer → Out Answer → Type 0
Hears seen all client one other = (more : List Answer) × Hands more one other × All (IsHeard (heard_of client seen all)) more

module _ (seen : ℕ) (old new : List (Out Answer)) where
  all-hears : (all : List Told) → TellsAll seen all old new → Each (Hears seen all) old new
  all-hears all tells =
      each-weaker (λ (k : ℕ) (one other : Out Answer). (more : List Answer) × Hands more one other × AllTell seen more (told_to k all)) (Hears seen all) old new
      (λ k x y within hands. (hands.0, hands.1, all-heard seen hands.0 (told_to k all) hands.2)) tells

  same-hears : new ≡ old → Each (Hears seen []) old new
  same-hears is =
      subst (λ (outs : List (Out Answer)). Each (Hears seen []) old outs) (sym is)
      (each-self (Hears seen []) old (λ k ring within. ([], hands-nothing ring, All-nil (IsHeard []))))

  -- Of one answer to a client, the others hear nothing.
  one-hears : (asker : Asker) (it : What) (all : List Told) → ((k : ℕ) → k ≡ asker.client → IsHeardAs (heard_of k seen all) asker.number seen it)
      → TellsOne asker.client (record { number = asker.number; seen = seen; what = it }) old new → Each (Hears seen all) old new
  one-hears asker it all said tells =
      each-weaker (λ (k : ℕ) (one other : Out Answer). Hands (if k == asker.client then answer ∷ [] else []) one other) (Hears seen all) old new
      (λ k x y within hands. at k (k == asker.client) refl x y hands) tells
    where
      answer : Answer
      answer = record { number = asker.number; seen = seen; what = it }

      at : (k : ℕ) (test : Bool) → (k == asker.client) ≡ test → (x y : Out Answer) → Hands (if test then answer ∷ [] else []) x y → Hears seen all k x y
      at k true is x y hands =
          (answer ∷ [], hands, All-cons (IsHeard (heard_of k seen all)) answer [] (said k (eqb-true k asker.client is)) (All-nil (IsHeard (heard_of k seen all))))
      at k false is x y hands = ([], hands, All-nil (IsHeard (heard_of k seen all)))

  down-hears : (me : ℕ) (asker : Option Asker) → TellsDownTo me seen asker old new → Each (Hears seen (told asker (Line.down me))) old new
  down-hears me None is = same-hears is
  down-hears me (Some asker) tells =
      one-hears asker (what.Line (line.Down (record { 0 = me }))) (told (Some asker) (Line.down me))
      (λ k is.
      subst (λ (test : Bool). Contains (map (heard_at seen) (if test then one ∷ [] else [])) (heard_at seen one)) (sym (eq-eqb asker.client k (sym is)))
      (Contains-push [] (heard_at seen one))) tells
    where
      one : Told
      one = record { asker = asker; line = Line.down me }

  loss-hears : (asker : Option Asker) → TellsLossTo seen asker old new → Each (Hears seen []) old new
  loss-hears None is = same-hears is
  loss-hears (Some asker) tells = one-hears asker what.NoMemory [] (λ k is. tt) tells

  of-hears : (me : ℕ) (begun : List Begun) (intake : Intake) (came : Came) → TellsOf me seen begun intake came old new
      → Each (Hears seen (told_by me begun intake came)) old new
  of-hears me begun intake (done notes) tells = all-hears (told_by me begun intake (done notes)) tells
  of-hears me begun intake fault is = same-hears is
  of-hears me begun intake down tells = down-hears me (asker_of intake) tells

-- ## What was said goes on
abbrev Shown : Type 0
Shown = List Answer × List (Answer × ℕ)

abbrev shown : Out Answer → Shown
shown out = (offered out, posted out)

-- what was said by these, and held of what was said
abbrev Stands : List Heard → Shown → Type 0
Stands all it = All (IsHeard all) it.0 × All (λ (one : Answer × ℕ). Contains it.0 one.0) it.1

show-both : (outs : List (Out Answer)) (k : ℕ) → get_or (map shown outs) k ([], []) ≡ (get_or (map offered outs) k [], get_or (map posted outs) k [])
show-both [] k = refl
show-both (out ∷ outs) zero = refl
show-both (out ∷ outs) (suc k) = show-both outs k

module _ (seen : ℕ) (all : List Told) (old new : List (Out Answer)) (before : ℕ → List Heard) where
  abbrev After : ℕ → List Heard
  After client = before client ++ heard_of client seen all

  abbrev Goes : ℕ → Shown → Shown → Type 0
  Goes client one other = Stands (before client) one → Stands (After client) other

  goes-on : (k : ℕ) (x y : Out Answer) → Hears seen all k x y → Goes k (shown x) (shown y)
  goes-on k x y hears stood =
      let more = hears.0 in
      let kept = hears.1.2.0 in
      let whole = offered x ++ more in
      let among : All (λ (one : Answer × ℕ). Contains more one.0) kept =
      subst (λ (list : List Answer). All (λ (one : Answer × ℕ). Contains list one.0) kept) (map-id more)
      (subst (λ (held : List (Answer × ℕ)). All (λ (one : Answer × ℕ). Contains (map (λ (it : Answer). it) more) one.0) held) (map-id kept)
      (keeps-among (λ (it : Answer). it) (plan_of x) (length (offered x) + 1) more kept hears.1.2.2)) in (
        subst (λ (list : List Answer). All (IsHeard (After k)) list) (sym hears.1.1)
            (All-append (IsHeard (After k)) (offered x) more
            (All-weaker (IsHeard (before k)) (IsHeard (After k)) (λ (it : Answer) heard. in-front (before k) (heard_of k seen all) it.number it.seen it.what heard) (offered x) stood.0)
            (All-weaker (IsHeard (heard_of k seen all)) (IsHeard (After k)) (λ (it : Answer) heard. in-back (before k) (heard_of k seen all) it.number it.seen it.what heard) more hears.2)),
        subst (λ (list : List Answer). All (λ (one : Answer × ℕ). Contains list one.0) (posted y)) (sym hears.1.1)
            (subst (λ (held : List (Answer × ℕ)). All (λ (one : Answer × ℕ). Contains whole one.0) held) (sym hears.1.2.1)
            (All-append (λ (one : Answer × ℕ). Contains whole one.0) (posted x) kept
            (All-weaker (λ (one : Answer × ℕ). Contains (offered x) one.0) (λ (one : Answer × ℕ). Contains whole one.0)
            (λ one there. Contains-append_left (offered x) more one.0 there) (posted x) stood.1)
            (All-weaker (λ (one : Answer × ℕ). Contains more one.0) (λ (one : Answer × ℕ). Contains whole one.0)
            (λ one there. Contains-append_right (offered x) more one.0 there) kept among))),
      )

  stands-on : Each (Hears seen all) old new → (client : ℕ)
      → Stands (before client) (get_or (map offered old) client [], get_or (map posted old) client [])
      → Stands (After client) (get_or (map offered new) client [], get_or (map posted new) client [])
  stands-on each client stood =
      subst (λ (it : Shown). Stands (After client) it) (show-both new client)
      (each-shows (Hears seen all) shown ([], []) Goes old new each (λ k x y within hears. goes-on k x y hears)
      (λ k past none. (All-nil (IsHeard (After k)), All-nil (λ (one : Answer × ℕ). Contains [] one.0))) client
      (subst (λ (it : Shown). Stands (before client) it) (sym (show-both old client)) stood))

-- ## Histories
begun-push : (begun : List Begun) (entries : List Stamped) (entry : Stamped)
    → begun_along begun (entries ++ entry ∷ []) ≡ begun_by (begun_along begun entries) entry.intake entry.came
begun-push begun [] entry = refl
begun-push begun (first ∷ entries) entry = begun-push (begun_by begun first.intake first.came) entries entry

heard-push : (me client count : ℕ) (begun : List Begun) (entries : List Stamped) (entry : Stamped) (seen : ℕ) → seen ≡ count + length entries + 1
    → heard_along me client count begun (entries ++ entry ∷ [])
    ≡ heard_along me client count begun entries ++ heard_of client seen (told_by me (begun_along begun entries) entry.intake entry.came)
heard-push me client count begun [] entry seen is =
    let same : count + 1 ≡ seen = omega (arith, is) in
    append-nil (heard_of client (count + 1) (told_by me begun entry.intake entry.came))
    ∙ ap (λ (n : ℕ). heard_of client n (told_by me begun entry.intake entry.came)) same
heard-push me client count begun (first ∷ entries) entry seen is =
    let here = heard_of client (count + 1) (told_by me begun first.intake first.came) in
    let later = begun_by begun first.intake first.came in
    let longer : seen ≡ suc (count + length entries + 1) = is ∙ omega arith in
    ap (λ (rest : List Heard). here ++ rest) (heard-push me client (count + 1) later entries entry seen (omega (arith, longer)))
    ∙ sym (append_assoc here (heard_along me client (count + 1) later entries) (heard_of client seen (told_by me (begun_along later entries) entry.intake entry.came)))

-- ## Boxes
module _ {W : Type 0} (M : LogModel W) (old new : SiteBox W) (has : TellsItsHistory old) where
  abbrev History : List Stamped
  History = stamps_of old.history.items

  abbrev Before : ℕ → List Heard
  Before client = heard_along old.site.me client 0 [] History

  abbrev Here : ℕ → List Stamped → Type 0
  Here me history = IsTold me history new.begun.items new.ends.clients_out.items

  enters-told : (intake : Intake) → Enters M (kept_of old) (kept_of new) intake → TellsItsHistory new
  enters-told intake e =
      let entry = stamped_of e.entry in
      let seen = length new.history.items in
      let hears : Each (Hears seen (told_by old.site.me old.begun.items intake entry.came)) old.ends.clients_out.items new.ends.clients_out.items =
      of-hears seen old.ends.clients_out.items new.ends.clients_out.items old.site.me old.begun.items intake entry.came e.tells in
      let told_is : told_by old.site.me old.begun.items intake entry.came ≡ told_by old.site.me (begun_along [] History) entry.intake entry.came =
      λ i. told_by old.site.me (has.begun i) (sym e.intake_is i) entry.came in
      let counted : seen ≡ length History + 1 =
      ap (λ (list : List Entry). length list) e.history ∙ length-append old.history.items (e.entry ∷ []) ∙ ap (λ (n : ℕ). n + 1) (sym (length-map old.history.items stamped_of)) in
      let count : seen ≡ 0 + length History + 1 = omega (arith, counted) in
      let grown : History ++ entry ∷ [] ≡ stamps_of new.history.items = sym (ap stamps_of e.history ∙ map-append stamped_of old.history.items (e.entry ∷ [])) in
      let now : (client : ℕ) → Stands (heard_along old.site.me client 0 [] (History ++ entry ∷ []))
      (get_or (map offered new.ends.clients_out.items) client [], get_or (map posted new.ends.clients_out.items) client []) =
      λ client.
      subst (λ (list : List Heard). Stands list (get_or (map offered new.ends.clients_out.items) client [], get_or (map posted new.ends.clients_out.items) client []))
      (ap (λ (all : List Told). Before client ++ heard_of client seen all) told_is ∙ sym (heard-push old.site.me client 0 [] History entry seen count))
      (stands-on seen (told_by old.site.me old.begun.items intake entry.came) old.ends.clients_out.items new.ends.clients_out.items Before hears client
      (has.said client, has.held client)) in
      subst (λ (me : ℕ). Here me (stamps_of new.history.items)) (sym (one-site M old.site new.site old.site.running _ e.answer e.made).0)
      (subst (λ (history : List Stamped). Here old.site.me history) grown record {
        begun = e.begun ∙ (λ i. begun_by (has.begun i) (sym e.intake_is i) entry.came) ∙ sym (begun-push [] History entry);
        said = λ client. (now client).0;
        held = λ client. (now client).1;
      })

  -- The history is the same, and nobody hears of it.
  stays-told : new.site.me ≡ old.site.me → new.history.items ≡ old.history.items → new.begun.items ≡ old.begun.items → (seen : ℕ)
      → Each (Hears seen []) old.ends.clients_out.items new.ends.clients_out.items → TellsItsHistory new
  stays-told me history begun seen hears =
      let now : (client : ℕ) → Stands (Before client) (get_or (map offered new.ends.clients_out.items) client [], get_or (map posted new.ends.clients_out.items) client []) =
      λ client.
      subst (λ (list : List Heard). Stands list (get_or (map offered new.ends.clients_out.items) client [], get_or (map posted new.ends.clients_out.items) client []))
      (append-nil (Before client))
      (stands-on seen [] old.ends.clients_out.items new.ends.clients_out.items Before hears client (has.said client, has.held client)) in
      subst (λ (n : ℕ). Here n (stamps_of new.history.items)) (sym me)
      (subst (λ (list : List Stamped). Here old.site.me list) (ap stamps_of (sym history)) record {
        begun = begun ∙ has.begun;
        said = λ client. (now client).0;
        held = λ client. (now client).1;
      })

  loses-told : (asker : Option Asker) → Loses M (kept_of old) (kept_of new) asker → TellsItsHistory new
  loses-told asker loses =
      stays-told (⊎_elim (λ same. ap (λ (s : SiteState W). s.me) same) (λ stays. ap (λ (s : SiteState W). s.me) stays.site) loses.site)
      (ap (λ (k : Kept W). k.history) loses.changed) (ap (λ (k : Kept W). k.begun) loses.changed) (length old.history.items)
      (loss-hears (length old.history.items) old.ends.clients_out.items new.ends.clients_out.items asker loses.tells)

  same-told : kept_of new ≡ kept_of old → TellsItsHistory new
  same-told same =
      stays-told (ap (λ (k : Kept W). k.site.me) same) (ap (λ (k : Kept W). k.history) same) (ap (λ (k : Kept W). k.begun) same) 0
      (same-hears 0 old.ends.clients_out.items new.ends.clients_out.items (ap (λ (k : Kept W). k.clients_out) same))

  pub tick-told : (visit : Visit) → TakesTick M old new visit → TellsItsHistory new
  tick-told Took takes = enters-told tick takes.2
  tick-told Worn takes = subst (λ (box : SiteBox W). TellsItsHistory box) (sym takes.1) has
  tick-told Lost takes = loses-told None takes.2
  tick-told Idle takes = absurd takes
  tick-told Stray takes = absurd takes

  arrival-told : (came : Arrival) (visit : Visit) → TakesArrival M old new came visit → TellsItsHistory new
  arrival-told came Took takes = enters-told takes.1.0 takes.1.2
  arrival-told came Lost takes = loses-told _ takes
  arrival-told came Stray takes = same-told takes.1
  arrival-told came Idle takes = absurd takes
  arrival-told came Worn takes = absurd takes

  taking-told : (visit : Visit)
      → (IsTickDue old × TakesTick M old new visit)
      ⊎ ((IsTickDue old → ⊥) × (new.idle ≡ 0) × ((came : Arrival) × Arrives old new came × TakesArrival M old new came visit)) → TellsItsHistory new
  taking-told visit (inl due) = tick-told visit due.1
  taking-told visit (inr came) = arrival-told came.2.0 visit came.2.2

  pub visit-told : (visit : Visit) → Visits M old new visit → TellsItsHistory new
  visit-told Worn visits = subst (λ (box : SiteBox W). TellsItsHistory box) (sym visits.1) has
  visit-told Idle visits = same-told visits.2.kept
  visit-told Took visits = taking-told Took visits.1
  visit-told Lost visits = taking-told Lost visits.1
  visit-told Stray visits = taking-told Stray visits.1

module _ {W : Type 0} (box : SiteBox W) (is : IsNew box) where
  pub new-told : TellsItsHistory box
  new-told =
      let outs = box.ends.clients_out.items in
      subst (λ (history : List Stamped). IsTold box.site.me history box.begun.items outs) (ap stamps_of (sym is.history.0)) record {
        begun = is.history.3;
        said = λ client.
            subst (λ (all : List Answer). All (IsHeard []) all) (sym (none-shown offered outs
            (All-weaker (λ (out : Out Answer). IsFreshOut out) (λ (out : Out Answer). offered out ≡ []) (λ out fresh. fresh.0) outs is.fresh.3) client))
            (All-nil (IsHeard []));
        held = λ client.
            subst (λ (all : List (Answer × ℕ)). All (λ (one : Answer × ℕ). Contains (get_or (map offered outs) client []) one.0) all) (sym (none-shown posted outs
            (All-weaker (λ (out : Out Answer). IsFreshOut out) (λ (out : Out Answer). posted out ≡ []) (λ out fresh. fresh.1) outs is.fresh.3) client))
            (All-nil (λ (one : Answer × ℕ). Contains (get_or (map offered outs) client []) one.0));
      }

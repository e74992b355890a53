-- What the site's answer makes of its box.
use Rattle.std.proofs.Common.{◌≡◌, ℕ, ◌+◌, ◌-◌, ◌<◌, ◌≤◌, true, Option, None, Some, List, [], ◌∷◌, ◌++◌, length, map, take, refl, sym, ap, ◌∙◌, subst, length-append, arith, inr}
use Rattle.std.proofs.lemmas.List.{length-map}
use Rattle.std.proofs.lemmas.List.Elements.{All-push}
use Rattle.std.specs.Prelude.{Ok, Err, All, is_some, max, not}
use Rattle.pv_base.specs.Catalog.{Declared}
use Rattle.pv_disk_model.specs.LogModel.{LogModel}
use Rattle.pv_history.specs.Entries.{intake_of, stamped_of}
use Rattle.pv_history.specs.declared.entry.Entry.{Entry}
use Rattle.pv_history.specs.declared.entry.Seen.TheVariants as seen
use Rattle.pv_history.specs.declared.entry.Taken.{Taken}
use Rattle.pv_history.specs.declared.entry.TheConstants.{MAX_ENTRIES}
use Rattle.pv_law_histories.specs.Course.{IsStepAt, left_at, input_of, sent_at, sent_by}
use Rattle.pv_law_histories.specs.Posting.{kept_by, stamp_with}
use Rattle.pv_mail.specs.Answers.{asker_of, begun_after_all, told_of_all}
use Rattle.pv_mail.specs.Given.{IsTakenFor}
use Rattle.pv_mail.specs.Posting.{PostsAll}
use Rattle.pv_mail.specs.Telling.{TellsAll, TellsDownTo, TellsLossTo}
use Rattle.pv_mail.specs.declared.answer.Answer.{Answer}
use Rattle.pv_mail.specs.declared.asked.Asker.{Asker}
use Rattle.pv_post.specs.declared.outlet.Out.{Out}
use Rattle.pv_protocol.specs.State.{Input, Outgoing, Running}
use Rattle.pv_protocol.specs.Step.{site_step, step_on}
use Rattle.pv_site.specs.SiteState.{SiteState, here_with, setup_of}
use Rattle.pv_site.specs.Steps.{Breaks, HasMade, IsReady, Stays, Steps}
use Rattle.pv_site.specs.Values.{note_of, outgoing_of}
use Rattle.pv_site.specs.declared.error.StepError.{StepError}
use Rattle.pv_site.specs.declared.error.StepError.TheVariants.{Fault, Down, NoMemory}
use Rattle.pv_site.specs.declared.input.Step.{Step}
use Rattle.pv_cell.proofs.HistoryLemmas.{made-follows, broken-follows, down-follows}
use Rattle.pv_cell.proofs.SiteLemmas.{NotDown, stands-made, stands-broken, stands-same, stands-still}
use Rattle.pv_cell.specs.Box.{ArePlanned, IsBox, IsFromSite, Stands, course_site}
use Rattle.pv_cell.specs.Changes.{Enters, TakesIn, kept_of}
use Rattle.pv_cell.specs.Follows.{Follows, FollowsNo}
use Rattle.pv_cell.specs.declared.site_box.SiteBox.{SiteBox}
use Rattle.pv_cell.specs.declared.visit.Visit.{Visit}
use Rattle.pv_cell.specs.declared.visit.Visit.TheVariants.{Took, Idle, Worn, Lost, Stray}

-- A client that is told of a loss is told by its ring.
pub loss-length : (seen : ℕ) (asker : Option Asker) (outs after : List (Out Answer)) → TellsLossTo seen asker outs after → length outs ≡ length after
loss-length seen None outs after is = ap (λ (all : List (Out Answer)). length all) (sym is)
loss-length seen (Some asker) outs after tells = tells.0

-- So it is where it is told that its site is down.
down-length : (me seen : ℕ) (asker : Option Asker) (outs after : List (Out Answer)) → TellsDownTo me seen asker outs after → length outs ≡ length after
down-length me seen None outs after is = ap (λ (all : List (Out Answer)). length all) (sym is)
down-length me seen (Some asker) outs after tells = tells.0

module _ {W : Type 0} (M : LogModel W) (old new : SiteBox W) (site : SiteState W) (taken : Taken) (stamp : ℕ) (asker : Option Asker)
    (box : IsBox M old) (ready : IsReady M site) (room : length old.history.items < MAX_ENTRIES)
    (stamp_is : stamp ≡ max old.stamp (stamp_with (intake_of taken)) + 1) (asker_is : asker ≡ asker_of (intake_of taken))
    (planned : IsTakenFor old.site.me old.site.catalog taken) where
  -- the box, after the site's answer
  abbrev mid : SiteBox W
  mid = record old { site = site }

  abbrev Ends : SiteBox W → Visit → Type 0
  Ends end visit = TakesIn M old end (intake_of taken) visit × IsBox M end

  counted : (entry : Entry) → new.history.items ≡ old.history.items ++ entry ∷ [] → length new.history.items ≡ length old.history.items + 1
  counted entry is = ap (λ (all : List Entry). length all) is ∙ length-append old.history.items (entry ∷ [])

  all-planned : (entry : Entry) → entry.input ≡ taken → new.history.items ≡ old.history.items ++ entry ∷ [] → site.me ≡ old.site.me → site.catalog ≡ old.site.catalog
      → ArePlanned site new.history.items
  all-planned entry input is me catalog =
      subst (λ (all : List Entry). ArePlanned site all) (sym is)
      (subst (λ (n : ℕ). All (λ (one : Entry). IsTakenFor n site.catalog one.input) (old.history.items ++ entry ∷ [])) (sym me)
      (subst (λ (declared : Declared). All (λ (one : Entry). IsTakenFor old.site.me declared one.input) (old.history.items ++ entry ∷ [])) (sym catalog)
      (All-push (λ (one : Entry). IsTakenFor old.site.me old.site.catalog one.input) old.history.items entry box.planned
      (subst (λ (t : Taken). IsTakenFor old.site.me old.site.catalog t) (sym input) planned))))

  still-planned : site.me ≡ old.site.me → site.catalog ≡ old.site.catalog → ArePlanned site old.history.items
  still-planned me catalog =
      subst (λ (n : ℕ). All (λ (one : Entry). IsTakenFor n site.catalog one.input) old.history.items) (sym me)
      (subst (λ (declared : Declared). All (λ (one : Entry). IsTakenFor old.site.me declared one.input) old.history.items) (sym catalog) box.planned)

  -- ## A step was made
  module _ (step : Step) (running : Running) (is : old.site.running ≡ Some running)
      (made : HasMade M old.site site step (step_on (here_with old.site running) (input_of (intake_of taken))))
      (follows : Follows mid new stamp taken asker step) where
    -- The log has the records as they are written, so this is the step of the definition.
    plain-made : HasMade M old.site site step (site_step (setup_of old.site.catalog) old.site.me old.site.records running (input_of (intake_of taken)))
    plain-made =
        subst (λ (surplus : ℕ). HasMade M old.site site step (step_on (record (here_with old.site running) { surplus = surplus }) (input_of (intake_of taken))))
        box.stands.surplus made

    abbrev entry : Entry
    entry = record { stamp = stamp; input = taken; sends = length step.sends.items; short = follows.short; seen = seen.Done step.notes }

    abbrev after : SiteBox W
    after = record mid {
      ends = record old.ends { sites_out = new.ends.sites_out; clients_out = new.ends.clients_out };
      history = new.history;
      stamp = stamp;
      begun = new.begun;
    }

    count-is : length new.history.items ≡ length old.history.items + 1
    count-is = counted entry follows.history

    sent-is : sent_by (setup_of old.site.catalog) old.site.me (course_site old.site) (stamped_of entry) ≡ map outgoing_of step.sends.items
    sent-is = ap (λ (r : Option Running). sent_at (setup_of old.site.catalog) old.site.me old.site.records r (stamped_of entry)) is ∙ sym plain-made.answered.sends

    kept-is : kept_by (setup_of old.site.catalog) old.site.me (course_site old.site) (stamped_of entry)
        ≡ take (length step.sends.items - follows.short) (map outgoing_of step.sends.items)
    kept-is =
        ap (λ (all : List Outgoing). take (length all - follows.short) all) sent-is
        ∙ ap (λ (n : ℕ). take (n - follows.short) (map outgoing_of step.sends.items)) (length-map step.sends.items outgoing_of)

    short-few : follows.short ≤ length (sent_by (setup_of old.site.catalog) old.site.me (course_site old.site) (stamped_of entry))
    short-few =
        subst (λ (n : ℕ). follows.short ≤ n)
        (sym (ap (λ (all : List Outgoing). length all) sent-is ∙ length-map step.sends.items outgoing_of)) follows.few

    enters : Enters M (kept_of old) (kept_of after) (intake_of taken)
    enters =
        let as_step = made-follows M old.site site (stamped_of entry) running step plain-made refl refl in
        record {
          entry = entry;
          answer = Ok step;
          history = follows.history;
          intake_is = refl;
          planned = planned;
          stamp = stamp_is;
          new_stamp = refl;
          made = subst (λ (r : Option Running). Steps M old.site site r (input_of (intake_of taken)) (Ok step)) (sym is) made;
          step = subst (λ (r : Option Running). IsStepAt (setup_of old.site.catalog) old.site.me old.site.records r (stamped_of entry)) (sym is) as_step.0;
          left = as_step.1 ∙ ap (λ (r : Option Running). left_at (setup_of old.site.catalog) old.site.me old.site.records r (stamped_of entry)) (sym is);
          short = short-few;
          begun = follows.begun ∙ ap (λ (a : Option Asker). begun_after_all a old.begun.items (map note_of step.notes.items)) asker_is;
          posts = subst (λ (me : ℕ). PostsAll me stamp 0 (kept_by (setup_of old.site.catalog) old.site.me (course_site old.site) (stamped_of entry)) old.ends.sites_out.items new.ends.sites_out.items)
              box.me
              (subst (λ (all : List Outgoing). PostsAll old.me.0 stamp 0 all old.ends.sites_out.items new.ends.sites_out.items) (sym kept-is) follows.posts);
          tells = subst (λ (me : ℕ). TellsAll (length new.history.items) (told_of_all me (asker_of (intake_of taken)) old.begun.items (map note_of step.notes.items))
              old.ends.clients_out.items new.ends.clients_out.items) box.me
              (subst (λ (a : Option Asker). TellsAll (length new.history.items) (told_of_all old.me.0 a old.begun.items (map note_of step.notes.items))
              old.ends.clients_out.items new.ends.clients_out.items) asker_is
              (subst (λ (n : ℕ). TellsAll n (told_of_all old.me.0 asker old.begun.items (map note_of step.notes.items))
              old.ends.clients_out.items new.ends.clients_out.items) (sym count-is) follows.tells));
        }

    kept-box : IsBox M after
    kept-box =
        let sites : old.site.catalog.sites ≡ site.catalog.sites = sym (ap (λ (s : SiteState W). s.catalog.sites) made.site) in
        let most : length old.history.items + 1 ≤ MAX_ENTRIES = omega arith in
        record {
          ready = ready;
          stands = subst (λ (n : ℕ). Stands n site) (sym count-is)
              (stands-made M (length old.history.items) old.site site box.stands step running (input_of (intake_of taken)) is made);
          me = box.me ∙ sym (ap (λ (s : SiteState W). s.me) made.site);
          down = box.down ∙ (ap (λ (r : Option Running). not (is_some r)) is ∙ sym (ap (λ (s : SiteState W). not (is_some s.running)) made.site));
          rings = (box.rings.0 ∙ sites, sym follows.posts.0 ∙ (box.rings.1 ∙ sites), box.rings.2 ∙ follows.tells.0, box.rings.3);
          entries = subst (λ (n : ℕ). n ≤ MAX_ENTRIES) (sym count-is) most;
          planned = all-planned entry refl follows.history (ap (λ (s : SiteState W). s.me) made.site) (ap (λ (s : SiteState W). s.catalog) made.site);
          again = λ arrival same. subst (λ (n : ℕ). IsFromSite n arrival) sites (box.again arrival same);
          idle = box.idle;
        }

    ended : Ends new Took
    ended =
        subst (λ (end : SiteBox W). Ends end Took) (sym follows.changed)
        (((refl, refl, refl, (refl, refl)), enters), kept-box)

  followed-by : (step : Step) (running : Option Running) → old.site.running ≡ running → Steps M old.site site running (input_of (intake_of taken)) (Ok step)
      → Follows mid new stamp taken asker step → Ends new Took
  followed-by step None is steps follows = absurd (subst NotDown steps.0 tt)
  followed-by step (Some running) is made follows = ended step running is made follows

  pub followed : (input : Input) → input ≡ input_of (intake_of taken) → (given : Taken) → given ≡ taken → (step : Step)
      → Steps M old.site site old.site.running input (Ok step) → Follows mid new stamp given asker step → (visit : Visit) → visit ≡ Took → Ends new visit
  followed input input_is given given_is step steps follows visit took =
      subst (λ (v : Visit). Ends new v) (sym took)
      (followed-by step old.site.running refl
      (subst (λ (i : Input). Steps M old.site site old.site.running i (Ok step)) input_is steps)
      (subst (λ (t : Taken). Follows mid new stamp t asker step) given_is follows))

  -- ## No step was made
  -- The entry of a fault, or of a site that was down.
  module _ (entry : Entry) (history : new.history.items ≡ old.history.items ++ entry ∷ []) where
    grown : length new.history.items ≤ MAX_ENTRIES
    grown = let most : length old.history.items + 1 ≤ MAX_ENTRIES = omega arith in subst (λ (n : ℕ). n ≤ MAX_ENTRIES) (sym (counted entry history)) most

  module _ (running : Running) (is : old.site.running ≡ Some running)
      (breaks : Breaks M old.site site (step_on (here_with old.site running) (input_of (intake_of taken)))) where
    plain-breaks : Breaks M old.site site (site_step (setup_of old.site.catalog) old.site.me old.site.records running (input_of (intake_of taken)))
    plain-breaks =
        subst (λ (surplus : ℕ). Breaks M old.site site (step_on (record (here_with old.site running) { surplus = surplus }) (input_of (intake_of taken)))) box.stands.surplus breaks

    abbrev fault_entry : Entry
    fault_entry = record { stamp = stamp; input = taken; sends = 0; short = 0; seen = seen.Fault }

    abbrev fault_after : SiteBox W
    fault_after = record mid { history = new.history; stamp = stamp; down = true }

    fault-enters : new.history.items ≡ old.history.items ++ fault_entry ∷ [] → Enters M (kept_of old) (kept_of fault_after) (intake_of taken)
    fault-enters history =
        let as_step = broken-follows M old.site site (stamped_of fault_entry) running plain-breaks refl refl in
        record {
          entry = fault_entry;
          answer = Err Fault;
          history = history;
          intake_is = refl;
          planned = planned;
          stamp = stamp_is;
          new_stamp = refl;
          made = subst (λ (r : Option Running). Steps M old.site site r (input_of (intake_of taken)) (Err Fault)) (sym is) breaks;
          step = subst (λ (r : Option Running). IsStepAt (setup_of old.site.catalog) old.site.me old.site.records r (stamped_of fault_entry)) (sym is) as_step.0;
          left = as_step.1 ∙ ap (λ (r : Option Running). left_at (setup_of old.site.catalog) old.site.me old.site.records r (stamped_of fault_entry)) (sym is);
          short = omega arith;
          begun = refl;
          posts = refl;
          tells = refl;
        }

    fault-box : new.history.items ≡ old.history.items ++ fault_entry ∷ [] → IsBox M fault_after
    fault-box history =
        let sites : old.site.catalog.sites ≡ site.catalog.sites = sym (ap (λ (s : SiteState W). s.catalog.sites) breaks.site) in
        record {
          ready = ready;
          stands = subst (λ (n : ℕ). Stands n site) (sym (counted fault_entry history)) (stands-broken M (length old.history.items) old.site site box.stands _ breaks);
          me = box.me ∙ sym (ap (λ (s : SiteState W). s.me) breaks.site);
          down = sym (ap (λ (s : SiteState W). not (is_some s.running)) breaks.site);
          rings = (box.rings.0 ∙ sites, box.rings.1 ∙ sites, box.rings.2, box.rings.3);
          entries = grown fault_entry history;
          planned = all-planned fault_entry refl history (ap (λ (s : SiteState W). s.me) breaks.site) (ap (λ (s : SiteState W). s.catalog) breaks.site);
          again = λ arrival same. subst (λ n. IsFromSite n arrival) sites (box.again arrival same);
          idle = box.idle;
        }

    faulted : FollowsNo mid new stamp taken asker Fault Took → Ends new Took
    faulted follows =
        subst (λ (end : SiteBox W). Ends end Took) (sym follows.0)
        (((refl, refl, refl, (refl, refl)), fault-enters follows.1), fault-box follows.1)

  module _ (none : old.site.running ≡ None) (same : site ≡ old.site) where
    abbrev down_entry : Entry
    down_entry = record { stamp = stamp; input = taken; sends = 0; short = 0; seen = seen.Down }

    abbrev down_after : SiteBox W
    down_after = record mid { ends = record old.ends { clients_out = new.ends.clients_out }; history = new.history; stamp = stamp }

    was-down : FollowsNo mid new stamp taken asker Down Took → Ends new Took
    was-down follows =
        let sites : old.site.catalog.sites ≡ site.catalog.sites = sym (ap (λ (s : SiteState W). s.catalog.sites) same) in
        let as_step = down-follows M old.site site (stamped_of down_entry) (ap (λ (s : SiteState W). s.records) same)
        (ap (λ (s : SiteState W). s.running) same ∙ none) refl refl in
        let count = counted down_entry follows.1 in
        subst (λ (end : SiteBox W). Ends end Took) (sym follows.0) (
          (
            (refl, refl, refl, (refl, refl)),
            record {
              entry = down_entry;
              answer = Err Down;
              history = follows.1;
              intake_is = refl;
              planned = planned;
              stamp = stamp_is;
              new_stamp = refl;
              made = subst (λ (r : Option Running). Steps M old.site site r (input_of (intake_of taken)) (Err Down)) (sym none) (refl, same);
              step = subst (λ (r : Option Running). IsStepAt (setup_of old.site.catalog) old.site.me old.site.records r (stamped_of down_entry)) (sym none) as_step.0;
              left = as_step.1 ∙ ap (λ (r : Option Running). left_at (setup_of old.site.catalog) old.site.me old.site.records r (stamped_of down_entry)) (sym none);
              short = omega arith;
              begun = refl;
              posts = refl;
              tells = subst (λ (me : ℕ). TellsDownTo me (length new.history.items) (asker_of (intake_of taken)) old.ends.clients_out.items new.ends.clients_out.items) box.me
                  (subst (λ (a : Option Asker). TellsDownTo old.me.0 (length new.history.items) a old.ends.clients_out.items new.ends.clients_out.items) asker_is
                  (subst (λ (n : ℕ). TellsDownTo old.me.0 n asker old.ends.clients_out.items new.ends.clients_out.items) (sym count) follows.2));
            },
          ),
          record {
            ready = ready;
            stands = subst (λ (n : ℕ). Stands n site) (sym count) (stands-same M (length old.history.items) old.site site box.stands same);
            me = box.me ∙ sym (ap (λ (s : SiteState W). s.me) same);
            down = box.down ∙ sym (ap (λ (s : SiteState W). not (is_some s.running)) same);
            rings = (box.rings.0 ∙ sites, box.rings.1 ∙ sites, box.rings.2 ∙ down-length _ _ asker _ _ follows.2, box.rings.3);
            entries = grown down_entry follows.1;
            planned = all-planned down_entry refl follows.1 (ap (λ (s : SiteState W). s.me) same) (ap (λ (s : SiteState W). s.catalog) same);
            again = λ arrival is. subst (λ n. IsFromSite n arrival) sites (box.again arrival is);
            idle = box.idle;
          },
        )

  -- Nothing came of it, for want of memory.
  module _ (stays : Stays M old.site site) where
    lost : FollowsNo mid new stamp taken asker NoMemory Lost → Ends new Lost
    lost follows =
        let sites : old.site.catalog.sites ≡ site.catalog.sites = sym (ap (λ (s : SiteState W). s.catalog.sites) stays.site) in
        subst (λ (end : SiteBox W). Ends end Lost) (sym follows.0) (
          (
            (refl, refl, refl, (refl, refl)),
            record {
              changed = refl;
              site = inr stays;
              tells = subst (λ (a : Option Asker). TellsLossTo (length old.history.items) a old.ends.clients_out.items new.ends.clients_out.items) asker_is follows.1;
            },
          ),
          record {
            ready = ready;
            stands = stands-still M (length old.history.items) old.site site box.stands stays;
            me = box.me ∙ sym (ap (λ (s : SiteState W). s.me) stays.site);
            down = box.down ∙ sym (ap (λ (s : SiteState W). not (is_some s.running)) stays.site);
            rings = (box.rings.0 ∙ sites, box.rings.1 ∙ sites, box.rings.2 ∙ loss-length _ asker _ _ follows.1, box.rings.3);
            entries = box.entries;
            planned = still-planned (ap (λ (s : SiteState W). s.me) stays.site) (ap (λ (s : SiteState W). s.catalog) stays.site);
            again = λ arrival is. subst (λ n. IsFromSite n arrival) sites (box.again arrival is);
            idle = box.idle;
          },
        )

  failed-by : (error : StepError) (visit : Visit) (running : Option Running) → old.site.running ≡ running
      → Steps M old.site site running (input_of (intake_of taken)) (Err error) → FollowsNo mid new stamp taken asker error visit → Ends new visit
  failed-by Fault Took None is steps follows = absurd (subst NotDown steps.0 tt)
  failed-by Fault Took (Some running) is breaks follows = faulted running is breaks follows
  failed-by Fault Idle running is steps follows = absurd follows
  failed-by Fault Worn running is steps follows = absurd follows
  failed-by Fault Lost running is steps follows = absurd follows
  failed-by Fault Stray running is steps follows = absurd follows
  failed-by Down Took None is steps follows = was-down is steps.1 follows
  failed-by Down Took (Some running) is steps follows = absurd steps
  failed-by Down Idle running is steps follows = absurd follows
  failed-by Down Worn running is steps follows = absurd follows
  failed-by Down Lost running is steps follows = absurd follows
  failed-by Down Stray running is steps follows = absurd follows
  failed-by NoMemory Lost None is steps follows = absurd (subst NotDown steps.0 tt)
  failed-by NoMemory Lost (Some running) is stays follows = lost stays follows
  failed-by NoMemory Took running is steps follows = absurd follows
  failed-by NoMemory Idle running is steps follows = absurd follows
  failed-by NoMemory Worn running is steps follows = absurd follows
  failed-by NoMemory Stray running is steps follows = absurd follows

  pub failed : (input : Input) → input ≡ input_of (intake_of taken) → (given : Taken) → given ≡ taken → (error : StepError)
      → Steps M old.site site old.site.running input (Err error) → (visit : Visit) → FollowsNo mid new stamp given asker error visit → Ends new visit
  failed input input_is given given_is error steps visit follows =
      failed-by error visit old.site.running refl
      (subst (λ (i : Input). Steps M old.site site old.site.running i (Err error)) input_is steps)
      (subst (λ (t : Taken). FollowsNo mid new stamp t asker error visit) given_is follows)

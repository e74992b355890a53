-- What is left when all rings were looked at and the clients are told.
use Rattle.std.proofs.Common.{◌≡◌, ℕ, ◌<◌, ◌≤◌, ◌⊎◌, List, [], ◌∷◌, ◌++◌, All, length, get_or, map, take, reverse, refl, sym, ap, ◌∙◌, subst, inl, inr, ⊎_elim, append-nil, arith, Vec, Global}
use Rattle.std.proofs.lemmas.List.{get_or-map, get_or_past, length-map}
use Rattle.std.proofs.lemmas.List.Elements.{All-map, All-weaker}
use Rattle.std.proofs.lemmas.Option.{slice_get_cases}
use mathlib.Core.List.{Sublist, eq-nil_of_sublist-nil, sublist-append_left}
use mathlib.Core.List.Sublist.{trans as sublist-trans}
use Rattle.pv_base.specs.Catalog.{Declared}
use Rattle.pv_cell.specs.Box.{IsBox, IsWorn}
use Rattle.pv_cell.specs.Course.{HasCourse, asked_again}
use Rattle.pv_cell.specs.Lending.{AreStill, with_ends}
use Rattle.pv_cell.specs.Together.{AreAllBoxes, histories_of}
use Rattle.pv_cell.specs.declared.site_box.SiteBox.{SiteBox}
use Rattle.pv_closing.specs.Boxes.{IsClosedBox, history_in}
use Rattle.pv_closing.specs.Clients.{AreServed, AreTold}
use Rattle.pv_closing.specs.Standing.{HasAsked, StandTogether}
use Rattle.pv_closing.specs.declared.ended.Ended.{Ended}
use Rattle.pv_crew.specs.Messages.{messages_of, once_each}
use Rattle.pv_disk_model.specs.LogModel.{LogModel}
use Rattle.pv_history.specs.Entries.{intake_of, stamped_of, stamps_of}
use Rattle.pv_history.specs.declared.entry.Entry.{Entry}
use Rattle.pv_history.specs.declared.entry.Taken.{Taken}
use Rattle.pv_history.specs.declared.entry.Taken.TheVariants as taken
use Rattle.pv_law_histories.specs.Fitting.{CanAllBeDone, CanBeDone, FitTogether}
use Rattle.pv_law_histories.specs.History.{Stamped}
use Rattle.pv_law_passing.specs.Asking.{asked_by}
use Rattle.pv_mail.specs.Given.{IsTakenFor}
use Rattle.pv_mail.specs.declared.ends.Ends.{Ends}
use Rattle.pv_model.specs.LiveScript as model
use Rattle.pv_opening.specs.Counts.{count_at}
use Rattle.pv_opening.specs.Opened.{FailsBy, plan_in}
use Rattle.pv_opening.specs.Opening.{IsRead}
use Rattle.pv_post.specs.Ends.{posted}
use Rattle.pv_post.specs.declared.inlet.In.{In}
use Rattle.pv_script.specs.LiveView.{request_of, requests_by}
use Rattle.pv_script.specs.declared.live.Client.{Client}
use Rattle.pv_script.specs.declared.live.LiveScript.{LiveScript}
use Rattle.pv_script.specs.declared.live.Request.{Request}
use Rattle.pv_site.specs.SiteState.{setup_of}
use Rattle.pv_told.specs.declared.line.ClientLine.{ClientLine}
use Rattle.pv_cluster.proofs.ListLemmas.{at-place}
use Rattle.pv_cluster.proofs.LookLemmas.{are-linked}
use Rattle.pv_cluster.proofs.NumberLemmas.{numbers-are}
use Rattle.pv_cluster.proofs.OnceLemmas.{requests_taken, serves}
use Rattle.pv_cluster.proofs.StillLemmas.{all-trans, is-brought}
use Rattle.pv_cluster.specs.Endings.{AllPassInOrder, AskedForAll, IsClosedRun, NobodyElseAsked, asked_along}
use Rattle.pv_cluster.specs.Looks.{AllStill, AreBroughtTo, AreClosed, IsStill, WasTaken}
use Rattle.pv_cluster.specs.declared.closed.Closed.{Closed}

-- What a site could take in can be done.
can-be-done : (me : ℕ) (catalog : Declared) (given : Taken) → IsTakenFor me catalog given → CanBeDone catalog (intake_of given)
can-be-done me catalog (taken.Request client asked) is = is.0
can-be-done me catalog (taken.Parcel from stamp place message) is = tt
can-be-done me catalog taken.Tick is = tt

-- Nobody asks a site at a place behind those of its clients.
nobody-there : {W : Type 0} (box : SiteBox W) (place : ℕ) → HasCourse box → length box.ends.clients_in.items ≤ place
    → asked_by place (history_in box) ≡ []
nobody-there box place course past =
    eq-nil_of_sublist-nil (sublist-trans (sublist-append_left (asked_by place (history_in box)) (asked_again place box.again))
    (subst (λ (all : List model.Request). Sublist (asked_by place (history_in box) ++ asked_again place box.again) all)
    (get_or_past (map requests_taken box.ends.clients_in.items) place []
    (subst (λ (n : ℕ). n ≤ place) (sym (length-map box.ends.clients_in.items requests_taken)) past)) (course.asked place)))

-- Messages that count once each.
messages-once : {M : Type 0} (all : List M) → messages_of (once_each all) ≡ all
messages-once [] = refl
messages-once {M} (one ∷ all) = ap (λ (l : List M). one ∷ l) (messages-once all)

-- A client that has nothing left has posted all that it was to ask for.
posted-all : (ended : Ended) → ended.left.items ≡ [] → posted ended.asks ≡ once_each ended.script.items
posted-all ended none =
    sym (append-nil (posted ended.asks)) ∙ ap (λ (left : List Request). posted ended.asks ++ once_each (reverse left)) (sym none) ∙ ended.in_order

-- A box whose rings were looked at is closed where it was.
pub closed-still : {W : Type 0} (M : LogModel W) (catalog : Declared) (n : ℕ) (old new : SiteBox W)
    → ((box : SiteBox W) (ends : Ends) → AreStill box.ends ends → IsBox M box → IsBox M (with_ends box ends)) → IsStill old new
    → IsClosedBox M catalog n old → IsClosedBox M catalog n new
closed-still {W} M catalog n old new law still was =
    subst (λ (box : SiteBox W). IsClosedBox M catalog n box) (sym still.0)
    (record { is_box = law old new.ends still.1 was.is_box; number = was.number; catalog_is = was.catalog_is; stands = was.stands })

-- By the laws of boxes that stand together later, and of scripts that were read.
module _ {W : Type 0} (M : LogModel W) (script : LiveScript) (read : IsRead script)
    (fits : (k : ℕ) (any : Client) → k < length script.clients.items → (get_or script.clients.items k any).site.0 < script.catalog.sites)
    (later : (boxes news : List (SiteBox W)) (clients : List Ended) → StandTogether M script boxes clients → AllStill boxes news → StandTogether M script news clients) where
  module _ (boxes : List (SiteBox W)) (clients : List Ended) (stand : StandTogether M script boxes clients) where
    all-boxes : AreBroughtTo (length boxes) boxes → AreAllBoxes script.catalog boxes
    all-boxes brought = record {
      count = stand.count;
      boxes_are = λ n any less. let is = stand.boxes_are n any less in
          record { number = is.number; catalog_is = is.catalog_is; rings = is.is_box.rings; course = is.course };
      brought = brought;
    }

    can-all-be-done : CanAllBeDone script.catalog (histories_of boxes)
    can-all-be-done n less =
        let show = λ (box : SiteBox W). stamps_of box.history.items in
        let within : n < length boxes = subst (λ (m : ℕ). n < m) (length-map boxes show) less in
        ⊎_elim (λ found.
        let any = found.0 in
        let is = stand.boxes_are n any within in
        let entries = (get_or boxes n any).history.items in
        subst (λ (history : List Stamped). All (λ entry. CanBeDone script.catalog entry.intake) history) (sym (get_or-map show boxes n any [] within))
        (All-map (λ (entry : Stamped). CanBeDone script.catalog entry.intake) stamped_of entries
        (All-weaker (λ (entry : Entry). IsTakenFor (get_or boxes n any).site.me (get_or boxes n any).site.catalog entry.input)
        (λ (entry : Entry). CanBeDone script.catalog (intake_of entry.input))
        (λ entry planned. subst (λ (c : Declared). CanBeDone c (intake_of entry.input)) is.catalog_is
        (can-be-done (get_or boxes n any).site.me (get_or boxes n any).site.catalog entry.input planned)) entries is.is_box.planned)))
        (λ out. let past = out.0 in absurd (omega (arith, past, within))) ((slice_get_cases boxes n).1)

  module _ (lent_box : (box : SiteBox W) (ends : Ends) → AreStill box.ends ends → IsBox M box → IsBox M (with_ends box ends))
      (fit : (catalog : Declared) (all : List (SiteBox W)) → AreAllBoxes catalog all → FitTogether (setup_of catalog) (histories_of all))
      (pass : (catalog : Declared) (all : List (SiteBox W)) → AreAllBoxes catalog all → AllPassInOrder catalog all)
      (mid last : List (SiteBox W)) (was : AreClosed M script mid) (second : AllStill mid last) (brought : AreBroughtTo (length mid) mid) where
    still : AllStill was.round last
    still = all-trans was.round mid last was.still second

    stands : StandTogether M script last was.asking
    stands = later was.round last was.asking was.standing still

    brought-last : AreBroughtTo (length last) last
    brought-last from to any one other =
        is-brought mid last second (are-linked M script mid was.asking (later was.round mid was.asking was.standing was.still)) from to any
        (subst (λ (n : ℕ). from < n) (sym second.0) one) (subst (λ (n : ℕ). to < n) (sym second.0) other)
        (brought from to any (subst (λ (n : ℕ). from < n) (sym second.0) one) (subst (λ (n : ℕ). to < n) (sym second.0) other))

    -- The last boxes are those of all sites.
    pub last-count : length last ≡ script.catalog.sites
    last-count = stands.count

    -- Each of them is closed where its history leaves it.
    pub closed-last : (n : ℕ) (any : SiteBox W) → n < length last → IsClosedBox M script.catalog n (get_or last n any)
    closed-last n any less =
        let there : n < length was.round = subst (λ (m : ℕ). n < m) (sym still.0) less in
        closed-still M script.catalog n (get_or was.round n any) (get_or last n any) lent_box (still.1 n any any there) (was.closed n any there)

    nobody-last : NobodyElseAsked script.clients.items last
    nobody-last n place any less past =
        nobody-there (get_or last n any) place (stands.boxes_are n any less).course (subst (λ (m : ℕ). m ≤ place) (sym (stands.places n any less)) past)

    client-asked : (k : ℕ) (client : Client) (ended : Ended) (any : SiteBox W) (inlet : In Request) → k < length script.clients.items
        → HasAsked was.round (get_or script.clients.items k client) (get_or was.asking k ended)
        → WasTaken (get_or was.round (get_or script.clients.items k client).site.0 any)
        (count_at (get_or script.clients.items k client).site.0 (take k script.clients.items)) (get_or was.asking k ended)
        → IsWorn (get_or last (get_or script.clients.items k client).site.0 any)
        ⊎ (asked_along (get_or last (get_or script.clients.items k client).site.0 any)
        (count_at (get_or script.clients.items k client).site.0 (take k script.clients.items)) inlet
        ≡ requests_by (get_or script.clients.items k client))
    client-asked k client ended any inlet less asked taken_all =
        let one = get_or script.clients.items k client in
        let asking = get_or was.asking k ended in
        let site = one.site.0 in
        let there : site < length was.round = subst (λ (n : ℕ). site < n) (sym was.standing.count) (fits k client less) in
        let looked = still.1 site any any there in
        let is = was.standing.clients_are.1 k client ended less in
        let place = count_at site (take k script.clients.items) in
        let worn_on : IsWorn (get_or was.round site any) → IsWorn (get_or last site any) = λ worn. subst (λ (b : SiteBox W). IsWorn b) (sym looked.0) worn in
        ⊎_elim (λ (none : asking.left.items ≡ []). ⊎_elim (λ (worn : IsWorn (get_or was.round site any)). inl (worn_on worn))
        (λ all. inr (ap (λ (given : List (Request × ℕ)). map request_of (messages_of given))
        ((looked.1.2.1 place inlet inlet (is.1 any).0).1 ∙ all inlet ∙ posted-all asking none)
        ∙ (ap (λ (requests : List Request). map request_of requests) (messages-once asking.script.items) ∙ is.0))) taken_all)
        (λ worn. inl (worn_on (worn any))) asked

    asked-last : AskedForAll script.clients.items last
    asked-last k client any inlet less =
        at-place was.asking k (subst (λ (n : ℕ). k < n) was.standing.clients_are.0 less)
        (λ ended. client-asked k client ended any inlet less (was.asked.1 k client ended less) (was.taken k client ended any less))

    served : (lines : List (Vec ClientLine Global)) → AreTold last script.clients.items lines → AreServed last script.clients.items lines
    served lines told = (
      told.0,
      λ k client heard less any.
          let one = get_or script.clients.items k client in
          let there : one.site.0 < length was.round =
          subst (λ (n : ℕ). one.site.0 < n) (sym was.standing.count) (fits k client less) in
          let same : (get_or last one.site.0 any).history ≡ (get_or was.round one.site.0 any).history =
          ap (λ (box : SiteBox W). box.history) (still.1 one.site.0 any any there).0 in
          let place = count_at one.site.0 (take k script.clients.items) in
          let stays : Sublist (asked_by place (stamps_of (get_or last one.site.0 any).history.items)) (requests_by one) =
          subst (λ (history : Vec Entry Global). Sublist (asked_by place (stamps_of history.items)) (requests_by one)) (sym same)
          (was.once k client less any) in
          let its = told.1 k client heard less any in
          serves (get_or last one.site.0 any) place one stays (λ n wish within. numbers-are script read k client less n wish within) (get_or lines k heard).items its.0 its.1,
    )

    pub ends : (lines : List (Vec ClientLine Global)) → AreTold last script.clients.items lines → (closed : Closed W) → closed.boxes.items ≡ last
        → closed.clients.items ≡ lines → IsClosedRun M script closed
    ends lines told closed is are =
        let all = all-boxes last was.asking stands brought-last in
        record {
          fit = subst (λ (all : List (SiteBox W)). FitTogether (setup_of script.catalog) (histories_of all)) (sym is) (fit script.catalog last all);
          done = subst (λ (all : List (SiteBox W)). CanAllBeDone script.catalog (histories_of all)) (sym is) (can-all-be-done last was.asking stands);
          passed = subst (λ (all : List (SiteBox W)). AllPassInOrder script.catalog all) (sym is) (pass script.catalog last all);
          plans = subst (λ (all : List (SiteBox W)). All (FailsBy (plan_in script)) all) (sym is) stands.plans;
          count = ap (λ (all : List (SiteBox W)). length all) is ∙ stands.count;
          boxes = subst (λ (all : List (SiteBox W)). (n : ℕ) (any : SiteBox W) → n < length all → IsClosedBox M script.catalog n (get_or all n any)) (sym is)
              closed-last;
          asked = subst (λ (all : List (SiteBox W)). AskedForAll script.clients.items all) (sym is) asked-last;
          nobody = subst (λ (all : List (SiteBox W)). NobodyElseAsked script.clients.items all) (sym is) nobody-last;
          clients = subst (λ (all : List (SiteBox W)). AreServed all script.clients.items closed.clients.items) (sym is)
              (subst (λ (all : List (Vec ClientLine Global)). AreServed last script.clients.items all) (sym are) (served lines told));
        }

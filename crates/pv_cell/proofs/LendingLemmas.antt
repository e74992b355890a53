-- A box with ends that were lent and came back still is the box that it was.
use Rattle.std.proofs.Common.{◌≡◌, ℕ, ◌<◌, ◌^◌, List, [], ◌∷◌, ◌++◌, length, get_or, map, refl, sym, ap, ◌∙◌, subst, append-nil, Vec, Global}
use Rattle.std.proofs.lemmas.List.{ext_get_or, get_or-map, length-map, nil_from_length}
use mathlib.Core.List.{Sublist}
use Rattle.pv_disk_model.specs.LogModel.{LogModel}
use Rattle.pv_history.specs.Entries.{stamps_of}
use Rattle.pv_law_passing.specs.Asking.{asked_by}
use Rattle.pv_law_passing.specs.Coming.{ComesInOrder}
use Rattle.pv_law_passing.specs.Traffic.{GoesByItsRings, Traffic, taken_at}
use Rattle.pv_mail.specs.declared.answer.Answer.{Answer}
use Rattle.pv_mail.specs.declared.ends.Ends.{Ends}
use Rattle.pv_mail.specs.declared.ends.Parcel.{Parcel}
use Rattle.pv_model.specs.LiveScript as model
use Rattle.pv_post.specs.Ends.{SameIn, SameOut}
use Rattle.pv_post.specs.declared.inlet.In.{In}
use Rattle.pv_post.specs.declared.outlet.Out.{Out}
use Rattle.pv_rings.proofs.EachLemmas.{each-weaker}
use Rattle.pv_rings.specs.Rings.{Each, Rests}
use Rattle.pv_script.specs.LiveView.{request_of}
use Rattle.pv_script.specs.declared.live.Request.{Request}
use Rattle.pv_site.specs.SiteState.{setup_of}
use Rattle.pv_cell.proofs.ComingLemmas.{still-plans}
use Rattle.pv_cell.proofs.SameLemmas.{outs-equal, same-counts}
use Rattle.pv_cell.specs.Box.{IsBox}
use Rattle.pv_cell.specs.Course.{AreSameEnds, Became, HasCourse, IsToCountAgain, asked_again, sealed_again}
use Rattle.pv_cell.specs.Lending.{AreStill, PostsNothing, with_ends}
use Rattle.pv_cell.specs.Told.{IsTold, TellsItsHistory}
use Rattle.pv_cell.specs.Traffic.{counted, requests_of, requests_taken, sealed_count, sealed_of, sealed_offered, sealed_posted, sealed_taken, traffic_of}
use Rattle.pv_cell.specs.declared.site_box.SiteBox.{SiteBox}

-- What shows the same of each shows the same of all.
all-show : {A X : Type 0} (R : ℕ → A → A → Type 0) (show : A → X) (old new : List A) → ((k : ℕ) (x y : A) → R k x y → show y ≡ show x) → Each R old new
    → map show new ≡ map show old
all-show R show [] new thus each = ap (map show) (nil_from_length new (sym each.0))
all-show {A} R show (first ∷ rest) new thus each =
    let old : List A = first ∷ rest in
    let short : (i : ℕ) → i < length (map show new) → i < length old = λ i less. subst (λ (n : ℕ). i < n) (length-map new show ∙ sym each.0) less in
    ext_get_or (show first) (map show new) (map show old) (length-map new show ∙ sym each.0 ∙ sym (length-map old show))
    (λ i less. get_or-map show new i first (show first) (subst (λ (n : ℕ). i < n) (length-map new show) less)
    ∙ thus i (get_or old i first) (get_or new i first) (each.1 i first first (short i less))
    ∙ sym (get_or-map show old i first (show first) (short i less)))

-- ## Ends
module _ (old new : Ends) (still : AreStill old new) where
  still-traffic : traffic_of new ≡ traffic_of old
  still-traffic =
      let offers = all-show (λ (k : ℕ) (one other : Out Parcel). PostsNothing one other) sealed_offered old.sites_out.items new.sites_out.items
      (λ k x y nothing. ap (map sealed_of) nothing.2) still.1 in
      let posts = all-show (λ (k : ℕ) (one other : Out Parcel). PostsNothing one other) sealed_posted old.sites_out.items new.sites_out.items
      (λ k x y nothing. ap (map sealed_count) nothing.1) still.1 in
      let takes = all-show (λ (k : ℕ) (one other : In Parcel). Rests one other) sealed_taken old.sites_in.items new.sites_in.items
      (λ k x y rests. ap (map sealed_count) rests.1) still.0 in
      λ i. record { offered = offers i; posted = posts i; taken = takes i }

  still-requests : requests_of new ≡ requests_of old
  still-requests = all-show (λ (k : ℕ) (one other : In Request). Rests one other) requests_taken old.clients_in.items new.clients_in.items
      (λ k x y rests. ap (λ (all : List (Request × ℕ)). map request_of (counted all)) rests.1) still.2

  still-clients : new.clients_out.items ≡ old.clients_out.items
  still-clients = ap (λ (all : Vec (Out Answer) Global). all.items) still.3

  still-ends : AreSameEnds old new
  still-ends = (
    each-weaker (λ (k : ℕ) (one other : In Parcel). Rests one other) (λ (k : ℕ) (one other : In Parcel). SameIn one other) old.sites_in.items new.sites_in.items
        (λ k x y less rests. rests.0) still.0,
    each-weaker (λ (k : ℕ) (one other : Out Parcel). PostsNothing one other) (λ (k : ℕ) (one other : Out Parcel). SameOut one other) old.sites_out.items new.sites_out.items
        (λ k x y less nothing. nothing.0) still.1,
    each-weaker (λ (k : ℕ) (one other : In Request). Rests one other) (λ (k : ℕ) (one other : In Request). SameIn one other) old.clients_in.items new.clients_in.items
        (λ k x y less rests. rests.0) still.2,
    outs-equal old.clients_out.items new.clients_out.items still-clients,
  )

-- ## Boxes
module _ {W : Type 0} (box : SiteBox W) (ends : Ends) (still : AreStill box.ends ends) where
  pub lent-box : (M : LogModel W) → IsBox M box → IsBox M (with_ends box ends)
  lent-box M is = record {
    ready = is.ready;
    stands = is.stands;
    me = is.me;
    down = is.down;
    rings = (
      sym still.0.0 ∙ is.rings.0,
      sym still.1.0 ∙ is.rings.1,
      sym still.2.0 ∙ is.rings.2 ∙ sym (ap (λ (all : List (Out Answer)). length all) (still-clients box.ends ends still)),
      subst (λ (n : ℕ). n < 2 ^ 32) still.2.0 is.rings.3,
    );
    entries = is.entries;
    planned = is.planned;
    again = is.again;
    idle = is.idle;
  }

  pub lent-course : HasCourse box → HasCourse (with_ends box ends)
  lent-course has =
      let same = still-traffic box.ends ends still in
      record {
        goes = subst (λ (t : Traffic). GoesByItsRings (setup_of box.site.catalog) box.site.me (stamps_of box.history.items) t) (sym same) has.goes;
        site = has.site;
        last = has.last;
        asked = λ client.
            subst (λ (all : List (List model.Request)). Sublist (asked_by client (stamps_of box.history.items) ++ asked_again client box.again) (get_or all client []))
            (sym (still-requests box.ends ends still)) (has.asked client);
        again = subst (λ (t : Traffic). IsToCountAgain box.site.catalog.sites t box.again) (sym same) has.again;
        came = λ from.
            subst (λ (t : Traffic). ComesInOrder from box.site.me (stamps_of box.history.items) (sealed_again from box.again) (taken_at t from)) (sym same) (has.came from);
        plans = still-plans box.ends.sites_out.items ends.sites_out.items still.1 has.plans;
      }

  pub lent-told : TellsItsHistory box → TellsItsHistory (with_ends box ends)
  lent-told tells =
      subst (λ (outs : List (Out Answer)). IsTold box.site.me (stamps_of box.history.items) box.begun.items outs) (sym (still-clients box.ends ends still)) tells

  pub lent-same : (M : LogModel W) → Became M box (with_ends box ends)
  lent-same M = record {
    site = (refl, refl);
    known = refl;
    faults = (same-counts M box.site box.site refl).0;
    down = (same-counts M box.site box.site refl).1;
    ends = still-ends box.ends ends still;
    history = ([], append-nil box.history.items);
  }

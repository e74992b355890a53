-- What is so of the moments of histories that fit together.
use Rattle.std.proofs.Common.{◌≡◌, ℕ, suc, ◌+◌, ◌*◌, ◌≤◌, Bool, true, false, ◌==◌, if◌then◌else◌, List, [], ◌∷◌, All, length, sym, refl, ap, subst, inl, inr, ⊎_elim, eqb-true, arith}
use Rattle.std.proofs.lemmas.List.{length-map}
use Rattle.std.proofs.lemmas.List.Elements.{All-map, All-weaker}
use Rattle.std.specs.Prelude.{Vec, get_or}
use Rattle.std.specs.declared.alloc.Global.{Global}
use Rattle.pv_history.specs.Entries.{stamped_of, stamps_of}
use Rattle.pv_history.specs.declared.entry.Entry.{Entry}
use Rattle.pv_law_histories.specs.Course.{left_by, Sent}
use Rattle.pv_law_histories.specs.Fitting.{FitTogether, WasSentBefore, history_of}
use Rattle.pv_law_histories.specs.History.{Intake, parcel, request, tick, Stamped}
use Rattle.pv_law_histories.specs.Merge.{Moment, IsMerge, entries_of, is_before, merge_from, with_history, with_moment}
use Rattle.pv_law_histories.proofs.WellFormedLemmas.{of-entries}
use Rattle.pv_protocol.specs.State.{Outgoing, Setup, Site}
use Rattle.pv_protocol.specs.World.{first_site}
use Rattle.pv_merge.specs.Moments.{HasMoment, IsSentAmong, histories_of}

-- ## How many there are
length-if : (test : Bool) (moment first : Moment) (rest with_it : List Moment) → length with_it ≡ suc (length rest)
    → length (if test then moment ∷ (first ∷ rest) else first ∷ with_it) ≡ suc (suc (length rest))
length-if true moment first rest with_it is = refl
length-if false moment first rest with_it is = ap suc is

length-with : (moment : Moment) (moments : List Moment) → length (with_moment moment moments) ≡ suc (length moments)
length-with moment [] = refl
length-with moment (first ∷ rest) = length-if (is_before moment first) moment first rest (with_moment moment rest) (length-with moment rest)

length-history : (n : ℕ) (entries : List Stamped) (moments : List Moment) → length (with_history n entries moments) ≡ length entries + length moments
length-history n [] moments = omega arith
length-history n (entry ∷ entries) moments =
    omega (arith, length-with record { site = n; entry = entry } (with_history n entries moments), length-history n entries moments)

-- No more than the greatest history has, for each site.
pub length-merge : (n : ℕ) (histories : List (List Stamped)) → All (λ history. length history ≤ 1048576) histories
    → length (merge_from n histories) ≤ 1048576 * length histories
length-merge n [] sizes = omega arith
length-merge n (history ∷ histories) sizes =
    let here : length history ≤ 1048576 = sizes 0 [] (omega arith) in
    let rest = length-merge (n + 1) histories (λ k d within. sizes (suc k) d (omega (arith, within))) in
    omega (arith, length-history n history (merge_from (n + 1) histories), here, rest)

-- There is a history for each list of entries.
pub length-histories : (histories : List (Vec Entry Global)) → length (histories_of histories) ≡ length histories
length-histories histories = length-map histories (λ (history : Vec Entry Global). stamps_of history.items)

-- The histories are no longer than the lists of their entries.
pub sizes-in : (histories : List (Vec Entry Global)) → All (λ history. length history.items ≤ 1048576) histories
    → All (λ history. length history ≤ 1048576) (histories_of histories)
sizes-in histories sizes =
    All-map (λ (history : List Stamped). length history ≤ 1048576) (λ (history : Vec Entry Global). stamps_of history.items) histories
    (λ k d within. omega (arith, sizes k d within, length-map (get_or histories k d).items stamped_of))

-- ## Where messages were sent
module _ (setup : Setup) (n stamp place : ℕ) (outgoing : Outgoing) where
  found-if : (moment : Moment) (moments : List Moment) (rest : List Stamped) (site : Site) (test : Bool) → (moment.site == n) ≡ test
      → Sent setup n site (if test then moment.entry ∷ rest else rest) stamp place outgoing
      → ((after : Site) → Sent setup n after rest stamp place outgoing → HasMoment n stamp moments) → HasMoment n stamp (moment ∷ moments)
  found-if moment moments rest site true is sent later =
      ⊎_elim (λ here. inl (eqb-true moment.site n is, here.0)) (λ behind. inr (later (left_by setup n site moment.entry) behind)) sent
  found-if moment moments rest site false is sent later = inr (later site sent)

  -- What was sent was sent at one of the moments.
  found : (moments : List Moment) (site : Site) → Sent setup n site (entries_of n moments) stamp place outgoing → HasMoment n stamp moments
  found [] site sent = sent
  found (moment ∷ moments) site sent =
      found-if moment moments (entries_of n moments) site (moment.site == n) refl sent (λ after behind. found moments after behind)

module _ (setup : Setup) (histories : List (List Stamped)) (moments : List Moment) (fit : FitTogether setup histories) (merge : IsMerge histories moments) where
  there : (n stamp : ℕ) (intake : Intake) → WasSentBefore setup histories n stamp intake → IsSentAmong moments intake
  there n stamp (request client asked) was = tt
  there n stamp (parcel from sent place message) was =
      let outgoing : Outgoing = record { to = n; message = message } in
      found setup from sent place outgoing moments first_site
      (subst (λ (entries : List Stamped). Sent setup from first_site entries sent place outgoing) (sym (merge.entries from was.0)) was.2)
  there n stamp tick was = tt

  -- All that was taken in was.
  pub sent-among : All (λ moment. IsSentAmong moments moment.entry.intake) moments
  sent-among = of-entries (λ (n : ℕ) (entry : Stamped). IsSentAmong moments entry.intake) (length histories) moments merge.sites
      (λ n within. subst (All (λ (entry : Stamped). IsSentAmong moments entry.intake)) (sym (merge.entries n within))
      (All-weaker (λ (entry : Stamped). WasSentBefore setup histories n entry.stamp entry.intake) (λ (entry : Stamped). IsSentAmong moments entry.intake)
      (λ entry was. there n entry.stamp entry.intake was) (history_of histories n) (fit.sent n within)))
